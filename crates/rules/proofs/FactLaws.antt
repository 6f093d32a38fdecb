-- Facts hold, plans meet them, and what a placing that meets a basis has of it.
use Prim.Native.Nat.{ℕ, ◌<◌}
use mathlib.Core.Bool.{Bool, true, false, ◌||◌, not, true≢false}
use mathlib.Core.Path.{◌≡◌, refl, sym, ap, subst, ◌∙◌}
use native.Mathlib.Omega.{arith}
use borrow.Author.Tests.{eq-eqb, ne_eqb, ltb-true}
use Rattle.theory.proofs.Open.{Ins, Fix, ins_of, fix_of}
use Rattle.year.specs.Year.{course_at, lists}
use Rattle.year.specs.Bound.{bound, opposite, beyond, Keeps}
use Rattle.year.specs.Plans.{Placing, put_in, Plan}
use Rattle.year.specs.declared.Quantity.{Quantity}
use Rattle.year.specs.declared.Quantity.TheVariants.{Credits, Counts}
use Rattle.year.specs.declared.Side.{Side}
use Rattle.year.specs.declared.Side.TheVariants.{Low, High}
use Rattle.year.specs.declared.Year.{Year}
use Rattle.rules.specs.Step.{Change, moves, crosses}
use Rattle.rules.specs.Facts.{Fact, inside, outside, keeps, Holds, Meets, Into, Basis, Rests, MeetsAll, Concludes, Suffice, own, besides, every, the_fixed, the_unlisted, the_bound, ◌with◌}
use Rattle.rules.specs.Reasons.{with_crossed}
use Rattle.rules.proofs.Reading.{lists_at, fixed_at, alone, fix}

-- ---- what a step rests on holds, and a plan of a year meets every fact that holds of it

pub held : (y : Year) (b : Basis) (f : Fact) → Rests y b f → Holds y f
held y b (inside i k) h = h.1
held y b (outside i k) h = h.1
held y b (keeps s q k n) h = h.1

pub plan_meets : (y : Year) (p : Placing) → Plan y p → (f : Fact) → Holds y f → Meets y p f
plan_meets y p h (inside i k) e = fix y p h k i e.0 e.2
plan_meets y p h (outside i k) e = λ r. true≢false (sym (h.listed i e.0) ∙ ap (λ (t : ℕ). lists (course_at y i) t) r ∙ e.2)
plan_meets y p h (keeps s q k n) e = subst (λ (m : ℕ). Keeps s m (put_in q y p k)) e.1 (h.bounds s q k e.0)

-- so a plan meets what follows from facts
pub plan_concludes : (y : Year) (b : Basis) (c : Change) → Suffice y b c → (p : Placing) → Plan y p → Concludes y p c
plan_concludes y b c h p plan = h p plan.within (λ f e. plan_meets y p plan f (held y b f e))

-- ---- a basis in two parts

or_left : (a b : Bool) → a ≡ true → a || b ≡ true
or_left true b e = refl
or_left false b e = absurd (true≢false (sym e))

or_right : (a b : Bool) → b ≡ true → a || b ≡ true
or_right true b e = refl
or_right false b e = e

module _ (y : Year) (p : Placing) (a b : Basis) (m : MeetsAll y p (a with b)) where
  pub met_left : MeetsAll y p a
  met_left (inside i k) h = m (inside i k) (or_left (a.fixed k) (b.fixed k) h.0, h.1)
  met_left (outside i k) h = m (outside i k) (or_left (a.unlisted k) (b.unlisted k) h.0, h.1)
  met_left (keeps s q k n) h = m (keeps s q k n) (or_left (a.bounds s q k) (b.bounds s q k) h.0, h.1)

  pub met_right : MeetsAll y p b
  met_right (inside i k) h = m (inside i k) (or_right (a.fixed k) (b.fixed k) h.0, h.1)
  met_right (outside i k) h = m (outside i k) (or_right (a.unlisted k) (b.unlisted k) h.0, h.1)
  met_right (keeps s q k n) h = m (keeps s q k n) (or_right (a.bounds s q k) (b.bounds s q k) h.0, h.1)

-- ---- a placing that meets a basis

pub own_is : (j : ℕ) → own j j ≡ true
own_is j = eq-eqb j j refl

pub besides_is : (j k : ℕ) → (k ≡ j → ⊥) → besides j k ≡ true
besides_is j k d = ap not (ne_eqb k j d)

module _ (y : Year) (p : Placing) (t : ℕ → Bool) (k : ℕ) (e : t k ≡ true) where
  -- what is fixed in k is there
  pub met_fixed : k < y.terms → MeetsAll y p (the_fixed t) → Fix y.courses (fixed_at y) p k
  met_fixed l m i h f = m (inside i k) (e, (h, l, f))

  -- what is in k lists it
  pub met_unlisted : Into y p → MeetsAll y p (the_unlisted t) → Ins y.courses (lists_at y) p k
  met_unlisted into m i h r = go (lists (course_at y i) k) refl
    where
      go : (b : Bool) → lists (course_at y i) k ≡ b → b ≡ true
      go true f = refl
      go false f = absurd (m (outside i k) (e, (h, omega (arith, into i h), f)) r)

  -- the bound is kept
  pub met_bound : (s : Side) (q : Quantity) → k < y.terms → MeetsAll y p (the_bound s q t) → Keeps s (bound s q y k) (put_in q y p k)
  met_bound Low Credits l m = m (keeps Low Credits k (bound Low Credits y k)) (e, (l, refl))
  met_bound Low Counts l m = m (keeps Low Counts k (bound Low Counts y k)) (e, (l, refl))
  met_bound High Credits l m = m (keeps High Credits k (bound High Credits y k)) (e, (l, refl))
  met_bound High Counts l m = m (keeps High Counts k (bound High Counts y k)) (e, (l, refl))

-- with every unlisted pair each course is in a term that it lists, and where it is fixed
module _ (y : Year) (p : Placing) (into : Into y p) (m : MeetsAll y p (the_unlisted every)) where
  listed : (i : ℕ) → i < y.courses → lists (course_at y i) (p i) ≡ true
  listed i h = met_unlisted y p every (p i) refl into m i h refl

  pub met_ins : (k : ℕ) → Ins y.courses (lists_at y) p k
  met_ins = ins_of y.courses (lists_at y) p listed

  pub met_fix : (k : ℕ) → Fix y.courses (fixed_at y) p k
  met_fix = fix_of y.courses (lists_at y) p listed (fixed_at y) (alone y)

-- ---- a crossing

-- nothing is at least a low bound and below it, or at most a high one and above it
refuted : (s : Side) (n m x : ℕ) → beyond s n m ≡ true → Keeps s n x → Keeps (opposite s) m x → ⊥
refuted Low n m x e h k = omega (arith, ltb-true m n e)
refuted High n m x e h k = omega (arith, ltb-true n m e)

-- a new value beyond the opposite bound, with that bound, is refuted
pub crossing_suffices : (y : Year) (b : Basis) (s : Side) (q : Quantity) (j n : ℕ) → j < y.terms → Suffice y b (moves s q j n)
    → beyond s n (bound (opposite s) q y j) ≡ true → Suffice y (with_crossed (crosses s q j) b) (crosses s q j)
crossing_suffices y b s q j n l h c p into m =
    let o : Basis = the_bound (opposite s) q (own j) in
    refuted s n (bound (opposite s) q y j) (put_in q y p j) c (h p into (met_left y p b o m)) (met_bound y p (own j) j (own_is j) (opposite s) q l (met_right y p b o m))
