-- What the two doors do to the plans of a year: narrowings and rules follow from these.
use Prim.Native.Nat.{ℕ, ◌-◌, ◌^◌, ◌≤◌, ◌<◌}
use mathlib.Core.Bool.{true, not, true≢false}
use mathlib.Core.Logic.{◌↔◌}
use mathlib.Core.Path.{◌≡◌, sym, ap, subst, ◌∙◌}
use native.Mathlib.Omega.{arith}
use native.Mathlib.Decide.{ℕ_discrete}
use lib.Dec.{eqb}
use borrow.Author.Tests.{eqb-true, eq-eqb, ne_eqb}
use Rattle.theory.proofs.TestLaws.{and_true, and_of}
use Rattle.theory.specs.Bits.{has}
use Rattle.theory.proofs.BitLaws.{has_power, has_struck}
use Rattle.year.specs.Year.{term_at, course_at, list, lists}
use Rattle.year.specs.Doors.{with_term, with_list, placed, struck}
use Rattle.year.specs.Bound.{bound_of, Keeps, tightened}
use Rattle.year.specs.Plans.{Placing, put_in, Plan}
use Rattle.year.specs.Sound.{Sound}
use Rattle.year.specs.declared.Quantity.{Quantity}
use Rattle.year.specs.declared.Quantity.TheVariants.{Credits, Counts}
use Rattle.year.specs.declared.Side.{Side}
use Rattle.year.specs.declared.Side.TheVariants.{Low, High}
use Rattle.year.specs.declared.Term.{Term}
use Rattle.year.specs.declared.Year.{Year}
use Rattle.year.proofs.DoorLaws.{term_same, term_other, list_same, list_other}

-- ---- the bounds of a term

-- the bounds of a term are kept by an amount of each quantity
abbrev pub KeepsAll : Term → (Quantity → ℕ) → Type 0
KeepsAll t x = (s : Side) (q : Quantity) → Keeps s (bound_of s q t) (x q)

-- the same by four facts, as arithmetic reads them
record Four (t : Term) (c n : ℕ) : Type 0 where
  credits_low : t.low.0 ≤ c
  credits_high : c ≤ t.high.0
  count_low : t.least.0 ≤ n
  count_high : n ≤ t.most.0

module _ (t : Term) (x : Quantity → ℕ) where
  four : KeepsAll t x → Four t (x Credits) (x Counts)
  four h = record { credits_low = h Low Credits; credits_high = h High Credits; count_low = h Low Counts; count_high = h High Counts }

  all_four : Four t (x Credits) (x Counts) → KeepsAll t x
  all_four f Low Credits = f.credits_low
  all_four f High Credits = f.credits_high
  all_four f Low Counts = f.count_low
  all_four f High Counts = f.count_high

-- one bound replaced by the inner of itself and n: kept exactly if all are kept and n is
module _ (t : Term) (n : ℕ) (x : Quantity → ℕ) where
  moved_to : (s : Side) (q : Quantity) → KeepsAll t x → Keeps s n (x q) → KeepsAll (tightened s q t n).term x
  unfolding tightened
  moved_to Low Credits h k = let f = four t x h in all_four _ x (omega arith)
  moved_to High Credits h k = let f = four t x h in all_four _ x (omega arith)
  moved_to Low Counts h k = let f = four t x h in all_four _ x (omega arith)
  moved_to High Counts h k = let f = four t x h in all_four _ x (omega arith)

  moved_from : (s : Side) (q : Quantity) → KeepsAll (tightened s q t n).term x → KeepsAll t x × Keeps s n (x q)
  unfolding tightened
  moved_from Low Credits h = let f = four _ x h in (all_four t x (omega arith), omega arith)
  moved_from High Credits h = let f = four _ x h in (all_four t x (omega arith), omega arith)
  moved_from Low Counts h = let f = four _ x h in (all_four t x (omega arith), omega arith)
  moved_from High Counts h = let f = four _ x h in (all_four t x (omega arith), omega arith)

-- what p puts into term k
abbrev loads : Year → Placing → ℕ → Quantity → ℕ
loads y p k q = put_in q y p k

pub plan_of : (y : Year) (p : Placing) → ((i : ℕ) → i < y.courses → p i < y.terms) → ((i : ℕ) → i < y.courses → lists (course_at y i) (p i) ≡ true)
    → ((k : ℕ) → k < y.terms → KeepsAll (term_at y k) (λ q. put_in q y p k)) → Plan y p
plan_of y p within listed kept = record { within = within; listed = listed; bounds = λ s q k l. kept k l s q }

module _ (y : Year) (j : ℕ) (t : Term) (p : Placing) (s : Sound y) (l : j < y.terms) where
  same : term_at (with_term y j t) j ≡ t
  same = term_same y j t (omega (arith, s))

  term_to : Plan y p → KeepsAll t (loads y p j) → Plan (with_term y j t) p
  term_to h new = plan_of (with_term y j t) p h.within h.listed (λ k m. go k m (ℕ_discrete k j))
    where
      go : (k : ℕ) → k < y.terms → Dec (k ≡ j) → KeepsAll (term_at (with_term y j t) k) (loads y p k)
      go k m (yes e) = rw (e, same) new
      go k m (no ne) = rw (term_other y j t k ne) (λ r q. h.bounds r q k m)

  term_at_lem : Plan (with_term y j t) p → KeepsAll t (loads y p j)
  term_at_lem h = subst (λ (u : Term). KeepsAll u (loads y p j)) same (λ r q. h.bounds r q j l)

  term_from : Plan (with_term y j t) p → KeepsAll (term_at y j) (loads y p j) → Plan y p
  term_from h old = plan_of y p h.within h.listed (λ k m. go k m (ℕ_discrete k j))
    where
      go : (k : ℕ) → k < y.terms → Dec (k ≡ j) → KeepsAll (term_at y k) (loads y p k)
      go k m (yes e) = rw e old
      go k m (no ne) = subst (λ (u : Term). KeepsAll u (loads y p k)) (term_other y j t k ne) (λ r q. h.bounds r q k m)

-- the plans of a year with one bound moved to n are the plans that keep n
pub moved_plans : (y : Year) (s : Side) (q : Quantity) (j n : ℕ) (p : Placing) → Sound y → j < y.terms
    → Plan (with_term y j (tightened s q (term_at y j) n).term) p ↔ (Plan y p × Keeps s n (put_in q y p j))
moved_plans y s q j n p sound l =
    let t : Term = (tightened s q (term_at y j) n).term in (
      λ h. let g = moved_from (term_at y j) n (loads y p j) s q (term_at_lem y j t p sound l h) in (term_from y j t p sound l h g.0, g.1),
      λ h. term_to y j t p sound l h.0 (moved_to (term_at y j) n (loads y p j) s q (λ r u. h.0.bounds r u j l) h.1),
    )

-- ---- the list of a course

module _ (y : Year) (i l : ℕ) (p : Placing) (s : Sound y) (m : i < y.courses) where
  same_course : lists (course_at (with_list y i l) i) (p i) ≡ has l (p i)
  same_course = ap (λ x. has x (p i)) (list_same y i l (omega (arith, s)))

  list_to : Plan y p → has l (p i) ≡ true → Plan (with_list y i l) p
  list_to h new = plan_of (with_list y i l) p h.within (λ a n. go a n (ℕ_discrete a i)) (λ k n r q. h.bounds r q k n)
    where
      go : (a : ℕ) → a < y.courses → Dec (a ≡ i) → lists (course_at (with_list y i l) a) (p a) ≡ true
      go a n (yes e) = rw e (same_course ∙ new)
      go a n (no ne) = rw (list_other y i l a ne) (h.listed a n)

  list_at : Plan (with_list y i l) p → has l (p i) ≡ true
  list_at h = sym same_course ∙ h.listed i m

  list_from : Plan (with_list y i l) p → lists (course_at y i) (p i) ≡ true → Plan y p
  list_from h old = plan_of y p h.within (λ a n. go a n (ℕ_discrete a i)) (λ k n r q. h.bounds r q k n)
    where
      go : (a : ℕ) → a < y.courses → Dec (a ≡ i) → lists (course_at y a) (p a) ≡ true
      go a n (yes e) = rw e old
      go a n (no ne) = rw (list_other y i l a ne) at (h.listed a n)

module _ (y : Year) (i j : ℕ) (p : Placing) (s : Sound y) (m : i < y.courses) (e : lists (course_at y i) j ≡ true) where
  -- the plans of a year with a course in one term of its list are those that put it there
  pub placed_plans : Plan (placed y i j) p ↔ (Plan y p × (p i ≡ j))
  placed_plans = (
    λ h.
        let q : p i ≡ j = eqb-true (p i) j (sym (has_power j (p i)) ∙ list_at y i (2 ^ j) p s m h) in
        (list_from y i (2 ^ j) p s m h (rw q e), q),
    λ h. list_to y i (2 ^ j) p s m h.0 (has_power j (p i) ∙ eq-eqb (p i) j h.1),
  )

  -- the plans of a year with a term struck from a list are those that put the course elsewhere
  pub struck_plans : Plan (struck y i j) p ↔ (Plan y p × (p i ≡ j → ⊥))
  struck_plans = (
    λ h.
        let q = and_true (has (list y i) (p i)) (not (eqb (p i) j)) (sym (has_struck (list y i) j (p i) e) ∙ list_at y i (list y i - 2 ^ j) p s m h) in
        (list_from y i (list y i - 2 ^ j) p s m h q.0, λ r. true≢false (sym q.1 ∙ ap not (eq-eqb (p i) j r))),
    λ h.
        list_to y i (list y i - 2 ^ j) p s m h.0
        (has_struck (list y i) j (p i) e ∙ and_of (has (list y i) (p i)) (not (eqb (p i) j)) (h.0.listed i m) (ap not (ne_eqb (p i) j h.1))),
  )
