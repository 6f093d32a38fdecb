-- Facts that do not suffice: bases with a class of facts bent or left out, each with a year, a step and a placing that meets what is
-- left and not the conclusion. One for each edit of must-fail/ that bends what a rule rests on.
use Prim.Native.Nat.{ℕ, ◌<◌}
use mathlib.Core.Bool.{Bool, true, false, ◌&&◌, not, true≢false}
use mathlib.Core.List.{List, [], ◌∷◌}
use mathlib.Core.Path.{◌≡◌, refl, sym, ap, ◌∙◌}
use native.Mathlib.Omega.{arith}
use lib.Dec.{eqb, ltb}
use borrow.Author.Tests.{eqb-true, eqb-false, ltb-true}
use Rattle.theory.specs.Tests.{all}
use Rattle.theory.proofs.TestLaws.{all_at, and_true}
use Rattle.year.specs.Year.{term_of, course_of}
use Rattle.year.specs.Bound.{beyond}
use Rattle.year.specs.Plans.{Placing, put_in, placing_of}
use Rattle.year.specs.Examples.{year_e}
use Rattle.year.specs.declared.Quantity.{Quantity}
use Rattle.year.specs.declared.Quantity.TheVariants.{Credits, Counts}
use Rattle.year.specs.declared.Side.{Side}
use Rattle.year.specs.declared.Side.TheVariants.{Low, High}
use Rattle.year.specs.declared.Year.{Year}
use Rattle.rules.specs.Step.{Change, moves, strikes, fixes, crosses, fails}
use Rattle.rules.specs.Facts.{Fact, inside, outside, keeps, Meets, Basis, Rests, MeetsAll, Concludes, Suffice, own, besides, every, never, the_fixed, the_unlisted, the_bound, ◌with◌}
use Rattle.rules.specs.FactAt.{Found, nothing, just, pair_at, bound_at, found_at}
use Rattle.rules.specs.Examples.{seven, beside, fixed_and_open}
use Rattle.rules.specs.ReasonExamples.{slack, tight}
use Rattle.rules.specs.Computing.{computing}
use Rattle.rules.proofs.FactAtLaws.{not_true, all_found}
use Rattle.rules.proofs.Narrows.{not_beyond}

-- ---- whether a placing meets the facts of a basis, as a test

abbrev meets : Year → Placing → Fact → Bool
meets y p (inside i k) = eqb (p i) k
meets y p (outside i k) = not (eqb (p i) k)
meets y p (keeps s q k n) = not (beyond s n (put_in q y p k))

abbrev met_at : Year → Placing → Found → Bool
met_at y p nothing = true
met_at y p (just f) = meets y p f

-- the pairs of a course, the bounds of a term, and all of them
abbrev pairs_met : Year → Placing → Basis → ℕ → Bool
pairs_met y p b i = all y.terms (λ k. met_at y p (pair_at y b i k))

abbrev bound_met : Year → Placing → Basis → ℕ → Side → Quantity → Bool
bound_met y p b k s q = met_at y p (bound_at y b k s q)

abbrev bounds_met : Year → Placing → Basis → ℕ → Bool
bounds_met y p b k = bound_met y p b k Low Credits && bound_met y p b k High Credits && bound_met y p b k Low Counts && bound_met y p b k High Counts

abbrev meets_all : Year → Placing → Basis → Bool
meets_all y p b = all y.courses (pairs_met y p b) && all y.terms (bounds_met y p b)

meets_of : (y : Year) (p : Placing) (f : Fact) → meets y p f ≡ true → Meets y p f
meets_of y p (inside i k) e = eqb-true (p i) k e
meets_of y p (outside i k) e = λ r. eqb-false (p i) k (not_true (eqb (p i) k) e) r
meets_of y p (keeps s q k n) e = not_beyond s n (put_in q y p k) (not_true (beyond s n (put_in q y p k)) e)

-- what is found at the place of a fact is the fact
at_place : (y : Year) (p : Placing) (b : Basis) (f : Fact) → Rests y b f → met_at y p (found_at y b f) ≡ true → Meets y p f
at_place y p b f r e = meets_of y p f (ap (met_at y p) (sym (all_found y b f r)) ∙ e)

four : (a b c d : Bool) → a && b && c && d ≡ true → (a ≡ true) × (b ≡ true) × (c ≡ true) × (d ≡ true)
four true true true true e = (refl, refl, refl, refl)
four true true true false e = absurd (true≢false (sym e))
four true true false d e = absurd (true≢false (sym e))
four true false c d e = absurd (true≢false (sym e))
four false b c d e = absurd (true≢false (sym e))

module _ (y : Year) (p : Placing) (b : Basis) (h : meets_all y p b ≡ true) where
  halves : (all y.courses (pairs_met y p b) ≡ true) × (all y.terms (bounds_met y p b) ≡ true)
  halves = and_true (all y.courses (pairs_met y p b)) (all y.terms (bounds_met y p b)) h

  at_pair : (i k : ℕ) → i < y.courses → k < y.terms → met_at y p (pair_at y b i k) ≡ true
  at_pair i k m l = all_at y.terms (λ k. met_at y p (pair_at y b i k)) (all_at y.courses (pairs_met y p b) halves.0 i m) k l

  at_bound : (s : Side) (q : Quantity) (k : ℕ) → k < y.terms → bound_met y p b k s q ≡ true
  at_bound s q k l = go s q (four _ _ _ _ (all_at y.terms (bounds_met y p b) halves.1 k l))
    where
      go : (s : Side) (q : Quantity)
          → (bound_met y p b k Low Credits ≡ true) × (bound_met y p b k High Credits ≡ true) × (bound_met y p b k Low Counts ≡ true) × (bound_met y p b k High Counts ≡ true)
          → bound_met y p b k s q ≡ true
      go Low Credits f = f.0
      go High Credits f = f.1
      go Low Counts f = f.2
      go High Counts f = f.3

  meets_all_lem : MeetsAll y p b
  meets_all_lem (inside i k) r = at_place y p b (inside i k) r (at_pair i k r.1.0 r.1.1)
  meets_all_lem (outside i k) r = at_place y p b (outside i k) r (at_pair i k r.1.0 r.1.1)
  meets_all_lem (keeps s q k n) r = at_place y p b (keeps s q k n) r (at_bound s q k r.1.0)

-- ---- a placing that meets the facts and not the conclusion

abbrev Refuted : Year → Basis → Change → Type 0
Refuted y b c = Suffice y b c → ⊥

-- the terms of the courses, in order
refuted : (y : Year) (b : Basis) (c : Change) (row : List ℕ) → all y.courses (λ i. ltb (placing_of row i) y.terms) ≡ true → meets_all y (placing_of row) b ≡ true
    → (Concludes y (placing_of row) c → ⊥) → Refuted y b c
refuted y b c row into met wrong h =
    wrong (h (placing_of row) (λ i l. ltb-true (placing_of row i) y.terms (all_at y.courses (λ i. ltb (placing_of row i) y.terms) into i l)) (meets_all_lem y (placing_of row) b met))

-- both courses into term 1: its high count of 1 does not follow from who is fixed there
lowering_by_the_fixed : Refuted slack (the_fixed (own 1)) (moves High Counts 1 1)
unfolding computing
lowering_by_the_fixed = refuted slack (the_fixed (own 1)) (moves High Counts 1 1) (1 ∷ 1 ∷ []) refl refl (λ e. omega arith)

-- year E, all courses into term 1: that term 0 has 3 credits or more does not follow from its own high credits
by_the_own_term : Refuted year_e (the_bound High Credits (own 0)) (moves Low Credits 0 3)
unfolding computing
by_the_own_term = refuted year_e (the_bound High Credits (own 0)) (moves Low Credits 0 3) (1 ∷ 1 ∷ 1 ∷ []) refl refl (λ e. omega arith)

-- both courses into term 0
strike_by_the_low_bound : let y = beside (term_of 0 5 0 2) fixed_and_open in Refuted y (the_fixed (own 0) with the_bound Low Credits (own 0)) (strikes 1 0)
unfolding computing
strike_by_the_low_bound =
    refuted (beside (term_of 0 5 0 2) fixed_and_open) (the_fixed (own 0) with the_bound Low Credits (own 0)) (strikes 1 0) (0 ∷ 0 ∷ []) refl refl (λ e. e refl)

-- the course that does not list term 0 stands there in the place of course 0
fixing_by_the_fixed : let y = beside (term_of 4 9 0 3) (course_of 4 3 ∷ course_of 3 3 ∷ course_of 2 2 ∷ []) in
    Refuted y (the_fixed (own 0) with the_bound Low Credits (own 0)) (fixes 0 0)
unfolding computing
fixing_by_the_fixed =
    refuted (beside (term_of 4 9 0 3) (course_of 4 3 ∷ course_of 3 3 ∷ course_of 2 2 ∷ [])) (the_fixed (own 0) with the_bound Low Credits (own 0)) (fixes 0 0)
    (1 ∷ 0 ∷ 0 ∷ []) refl refl (λ e. omega arith)

-- row 7 of the table: two 3s into term 0, the third with a 1, which does not list it, into term 1
walk_by_its_own_pairs : Refuted seven (the_unlisted (own 0) with (the_bound Low Counts (besides 0) with the_bound Low Credits (own 0))) (moves Low Counts 0 3)
unfolding computing
walk_by_its_own_pairs =
    refuted seven (the_unlisted (own 0) with (the_bound Low Counts (besides 0) with the_bound Low Credits (own 0))) (moves Low Counts 0 3)
    (0 ∷ 0 ∷ 1 ∷ 1 ∷ 2 ∷ []) refl refl (λ e. omega arith)

-- and with one course alone in term 1, which asks for two
walk_by_no_low_count : Refuted seven (the_unlisted every with (the_bound Low Counts never with the_bound Low Credits (own 0))) (moves Low Counts 0 3)
unfolding computing
walk_by_no_low_count =
    refuted seven (the_unlisted every with (the_bound Low Counts never with the_bound Low Credits (own 0))) (moves Low Counts 0 3)
    (0 ∷ 0 ∷ 1 ∷ 2 ∷ 2 ∷ []) refl refl (λ e. omega arith)

-- the course of 4 that is fixed in a term of 3 credits, into the other
packing_by_no_fixed : Refuted tight (the_fixed never with the_bound High Credits every) fails
unfolding computing
packing_by_no_fixed = refuted tight (the_fixed never with the_bound High Credits every) fails (1 ∷ 1 ∷ []) refl refl (λ e. e)

-- 4 credits in a term of 0 or more
crossing_by_the_bound_that_moves : Refuted tight (the_fixed (own 0) with the_bound Low Credits (own 0)) (crosses Low Credits 0)
unfolding computing
crossing_by_the_bound_that_moves = refuted tight (the_fixed (own 0) with the_bound Low Credits (own 0)) (crosses Low Credits 0) (0 ∷ 1 ∷ []) refl refl (λ e. e)

-- the course of 2 that does not list a term of 2 credits stands there, and the open one of 3 in the other
neighbours_by_no_unlisted : let y = beside (term_of 2 2 0 2) (course_of 3 3 ∷ course_of 2 2 ∷ []) in
    Refuted y ((the_unlisted never with the_fixed (own 0)) with (the_bound Low Credits (own 0) with the_bound High Credits (own 0))) fails
unfolding computing
neighbours_by_no_unlisted =
    refuted (beside (term_of 2 2 0 2) (course_of 3 3 ∷ course_of 2 2 ∷ []))
    ((the_unlisted never with the_fixed (own 0)) with (the_bound Low Credits (own 0) with the_bound High Credits (own 0))) fails
    (1 ∷ 0 ∷ []) refl refl (λ e. e)
