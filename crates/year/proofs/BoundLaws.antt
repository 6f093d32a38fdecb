-- Laws of a move, once for the four bounds; and that two moves made at once, as the code makes them, are two moves.
use Prim.Native.Nat.{ℕ, ◌≤◌, ◌<◌, max, min}
use mathlib.Core.Bool.{Bool, true, false, ◌||◌}
use mathlib.Core.Path.{◌≡◌, refl, sym, ap, ◌∙◌}
use native.Mathlib.Omega.{arith}
use lib.Dec.{ltb}
use borrow.Author.Tests.{ltb-true, ltb-false, lt-ltb, le-ltb}
use Rattle.std.specs.Prelude.{Some, None, Ok, Err}
use Rattle.std.specs.Bool.{then_some}
use Rattle.theory.specs.Choice.{choose}
use Rattle.year.specs.Bound.{Tight, bound_of, with_bound, opposite, beyond, inner, tightened, moved_of}
use Rattle.year.specs.Within.{within}
use Rattle.year.specs.Sound.{TermSound}
use Rattle.year.specs.declared.Quantity.{Quantity}
use Rattle.year.specs.declared.Quantity.TheVariants.{Credits, Counts}
use Rattle.year.specs.declared.Side.{Side}
use Rattle.year.specs.declared.Side.TheVariants.{Low, High}
use Rattle.year.specs.declared.Term.{Term}

-- ---- a bound that is replaced

pub own_bound : (s : Side) (q : Quantity) (t : Term) (n : ℕ) → bound_of s q (with_bound s q t n) ≡ n
own_bound Low Credits t n = refl
own_bound Low Counts t n = refl
own_bound High Credits t n = refl
own_bound High Counts t n = refl

same_bound : (s : Side) (q : Quantity) (t : Term) → with_bound s q t (bound_of s q t) ≡ t
same_bound Low Credits t = refl
same_bound Low Counts t = refl
same_bound High Credits t = refl
same_bound High Counts t = refl

-- ---- one move

inner_new : (s : Side) (n x : ℕ) → beyond s n x ≡ true → inner s n x ≡ n
inner_new Low n x e = let l : x < n = ltb-true x n e in omega arith
inner_new High n x e = let l : n < x = ltb-true n x e in omega arith

inner_old : (s : Side) (n x : ℕ) → beyond s n x ≡ false → inner s n x ≡ x
inner_old Low n x e = let l : n ≤ x = ltb-false x n e in omega arith
inner_old High n x e = let l : x ≤ n = ltb-false n x e in omega arith

crossed_new : (s : Side) (n x z : ℕ) → beyond s x z ≡ false → beyond s (inner s n x) z ≡ true → beyond s n z ≡ true
crossed_new Low n x z o e = let l : z < max x n = ltb-true z (max x n) e in lt-ltb z n (omega (arith, ltb-false z x o))
crossed_new High n x z o e = let l : min x n < z = ltb-true (min x n) z e in lt-ltb n z (omega (arith, ltb-false x z o))

loose : (s : Side) (n x z : ℕ) → beyond s x z ≡ false → beyond s n x ≡ false → beyond s n z ≡ false
loose Low n x z o e = le-ltb z n (omega (arith, ltb-false z x o, ltb-false x n e))
loose High n x z o e = le-ltb n z (omega (arith, ltb-false x z o, ltb-false n x e))

-- a sound term's bounds are in order
ordered : (s : Side) (q : Quantity) (t : Term) → TermSound t → beyond s (bound_of s q t) (bound_of (opposite s) q t) ≡ false
ordered Low Credits t o = le-ltb _ _ o.credits_ordered
ordered High Credits t o = le-ltb _ _ o.credits_ordered
ordered Low Counts t o = le-ltb _ _ o.count_ordered
ordered High Counts t o = le-ltb _ _ o.count_ordered

module _ (s : Side) (q : Quantity) (t : Term) (n : ℕ) where
  -- where something is altered, the bound is n
  pub tight_new : (tightened s q t n).altered ≡ true → (tightened s q t n).term ≡ with_bound s q t n
  unfolding tightened
  tight_new e = ap (with_bound s q t) (inner_new s n (bound_of s q t) e)

  -- and n is beyond the old one, and not beyond the opposite one unless it has crossed
  pub tight_beyond : (tightened s q t n).altered ≡ true → (tightened s q t n).crossed ≡ false
      → (beyond s n (bound_of s q t) ≡ true) × (beyond s n (bound_of (opposite s) q t) ≡ false)
  unfolding tightened
  tight_beyond e c = (e, ap (λ m. beyond s m (bound_of (opposite s) q t)) (sym (inner_new s n (bound_of s q t) e)) ∙ c)

  -- bounds in order cross by n alone
  pub tight_crossed : TermSound t → (tightened s q t n).crossed ≡ true → beyond s n (bound_of (opposite s) q t) ≡ true
  unfolding tightened
  tight_crossed o c = crossed_new s n (bound_of s q t) (bound_of (opposite s) q t) (ordered s q t o) c

  -- a bound that is no tighter than one in order does not cross
  pub loose_within : TermSound t → (tightened s q t n).altered ≡ false → beyond s n (bound_of (opposite s) q t) ≡ false
  unfolding tightened
  loose_within o e = loose s n (bound_of s q t) (bound_of (opposite s) q t) (ordered s q t o) e

  -- where nothing is altered, the term is the same
  pub tight_same : (tightened s q t n).altered ≡ false → (tightened s q t n).term ≡ t
  unfolding tightened
  tight_same e = ap (with_bound s q t) (inner_old s n (bound_of s q t) e) ∙ same_bound s q t

-- ---- two moves at once

either_right : (a b : Bool) → (a ≡ true → b ≡ true) → a || b ≡ b
either_right true b h = sym (h refl)
either_right false b h = refl

-- a pair that has crossed by the first move has crossed by both
crossed_by_both : (low high a b : ℕ) → ltb high (max low a) || ltb (min high b) (max low a) ≡ ltb (min high b) (max low a)
crossed_by_both low high a b =
    either_right (ltb high (max low a)) (ltb (min high b) (max low a))
    (λ e. let l : high < max low a = ltb-true high (max low a) e in lt-ltb (min high b) (max low a) (omega arith))

or_none : (a : Bool) → a || false ≡ a
or_none true = refl
or_none false = refl

tight_as_lem : (t u : Term) (a b c d : Bool) → t ≡ u → a ≡ b → c ≡ d → ◌≡◌ {A = Tight} (record { term = t; altered = a; crossed = c }) (record { term = u; altered = b; crossed = d })
tight_as_lem t u a b c d e f g = λ i. record { term = e i; altered = f i; crossed = g i }

-- both new bounds, read before either is stored
abbrev pub at_once : Quantity → Term → ℕ → ℕ → Tight
at_once q t a b = record {
  term = with_bound High q (with_bound Low q t (max (bound_of Low q t) a)) (min (bound_of High q t) b);
  altered = ltb (bound_of Low q t) a || ltb b (bound_of High q t);
  crossed = ltb (min (bound_of High q t) b) (max (bound_of Low q t) a);
}

pub at_once_lem : (q : Quantity) (t : Term) (a b : ℕ) → at_once q t a b ≡ within q t a b
unfolding within tightened
at_once_lem Credits t a b = tight_as_lem _ _ _ _ _ _ refl refl (sym (crossed_by_both t.low.0 t.high.0 a b))
at_once_lem Counts t a b = tight_as_lem _ _ _ _ _ _ refl refl (sym (crossed_by_both t.least.0 t.most.0 a b))

-- what is told of a move, by its two marks
tell_crossed : (w : Tight) → w.crossed ≡ true → Err (record {}) ≡ moved_of w
tell_crossed w e = rw e refl

tell_moved : (w : Tight) → w.crossed ≡ false → Ok (then_some w.altered w.term) ≡ moved_of w
tell_moved w e = rw e (ap Ok (some_if w.altered))
  where
    some_if : (a : Bool) → then_some a w.term ≡ choose a (Some w.term) None
    some_if true = refl
    some_if false = refl

-- and of both at once, where the new bounds cross and where they do not
pub told_crossed : (q : Quantity) (t : Term) (a b : ℕ) → min (bound_of High q t) b < max (bound_of Low q t) a → Err (record {}) ≡ moved_of (within q t a b)
told_crossed q t a b l = tell_crossed (at_once q t a b) (lt-ltb _ _ l) ∙ ap moved_of (at_once_lem q t a b)

pub told_moved : (q : Quantity) (t : Term) (a b : ℕ) → max (bound_of Low q t) a ≤ min (bound_of High q t) b
    → Ok (then_some (at_once q t a b).altered (at_once q t a b).term) ≡ moved_of (within q t a b)
told_moved q t a b l = tell_moved (at_once q t a b) (le-ltb _ _ l) ∙ ap moved_of (at_once_lem q t a b)

module _ (low high n : ℕ) where
  least : max low low ≡ low
  least = omega arith

  most : min high high ≡ high
  most = omega arith

  raised : ltb low n || ltb high high ≡ ltb low n
  raised = ap (λ b. ltb low n || b) (le-ltb high high (omega arith)) ∙ or_none (ltb low n)

  lowered : ltb low low || ltb n high ≡ ltb n high
  lowered = ap (λ b. b || ltb n high) (le-ltb low low (omega arith))

-- a second move to the bound that is there is none
pub within_raise : (q : Quantity) (t : Term) (n : ℕ) → within q t n (bound_of High q t) ≡ tightened Low q t n
unfolding tightened
within_raise q t n = sym (at_once_lem q t n (bound_of High q t)) ∙ go q
  where
    go : (q : Quantity) → at_once q t n (bound_of High q t) ≡ tightened Low q t n
    go Credits = let l = t.low.0 in let h = t.high.0 in tight_as_lem _ _ _ _ _ _ (ap (with_bound High Credits (with_bound Low Credits t (max l n))) (most l h n)) (raised l h n) (ap (λ x. ltb x (max l n)) (most l h n))
    go Counts = let l = t.least.0 in let h = t.most.0 in tight_as_lem _ _ _ _ _ _ (ap (with_bound High Counts (with_bound Low Counts t (max l n))) (most l h n)) (raised l h n) (ap (λ x. ltb x (max l n)) (most l h n))

pub within_lower : (q : Quantity) (t : Term) (n : ℕ) → within q t (bound_of Low q t) n ≡ tightened High q t n
unfolding tightened
within_lower q t n = sym (at_once_lem q t (bound_of Low q t) n) ∙ go q
  where
    go : (q : Quantity) → at_once q t (bound_of Low q t) n ≡ tightened High q t n
    go Credits = let l = t.low.0 in let h = t.high.0 in tight_as_lem _ _ _ _ _ _ (ap (λ x. with_bound High Credits (with_bound Low Credits t x) (min h n)) (least l h n)) (lowered l h n) (ap (ltb (min h n)) (least l h n))
    go Counts = let l = t.least.0 in let h = t.most.0 in tight_as_lem _ _ _ _ _ _ (ap (λ x. with_bound High Counts (with_bound Low Counts t x) (min h n)) (least l h n)) (lowered l h n) (ap (ltb (min h n)) (least l h n))
