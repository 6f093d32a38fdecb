-- A year in which every course has one term: its one placing, what that puts into each term, and how the sums show such a year.
use Prim.Native.Nat.{ℕ, ◌^◌, ◌<◌}
use mathlib.Core.Bool.{Bool, true, false, ◌&&◌, not}
use mathlib.Core.Path.{◌≡◌, refl, sym, ap, ap₂, ◌∙◌}
use native.Mathlib.Omega.{arith}
use native.Mathlib.Decide.{ℕ_discrete}
use lib.Dec.{eqb}
use borrow.Author.Tests.{eqb-true, eq-eqb, ne_eqb}
use Rattle.theory.specs.Bits.{has}
use Rattle.theory.specs.Sum.{pick, sum}
use Rattle.theory.proofs.BitLaws.{has_power, has_below, has_some, power_eqb}
use Rattle.theory.proofs.LoadLaws.{load, loads_total}
use Rattle.theory.proofs.SumLaws.{sum_cong, sum_zero, sum_single, pick_ne}
use Rattle.theory.proofs.TestLaws.{any_true, any_of, all_at, all_of, same_tests}
use Rattle.year.specs.Year.{course_at, weight, list, lists, is_fixed}
use Rattle.year.specs.Sums.{open_one, fixed_credits, fixed_count, open_count, all_credits, sums_in, is_placed, placed_at, all_placed}
use Rattle.year.specs.SumsOf.{none_open}
use Rattle.year.specs.Plans.{Placing, credits_in, count_in, Plan, PlacedBy, the_term, the_placing}
use Rattle.year.specs.Sound.{Sound}
use Rattle.year.specs.declared.Course.{Course}
use Rattle.year.specs.declared.Year.{Year}
use Rattle.year.proofs.SumLaws.{none_open_lem, free_read}

-- ---- the sums of such a year are what p puts into each term

eqb_sym : (a b : ℕ) → eqb a b ≡ eqb b a
eqb_sym a b = go (ℕ_discrete a b)
  where
    go : Dec (a ≡ b) → eqb a b ≡ eqb b a
    go (yes e) = eq-eqb a b e ∙ sym (eq-eqb b a (sym e))
    go (no d) = ne_eqb a b d ∙ sym (ne_eqb b a (λ e. d (sym e)))

module _ (y : Year) (p : Placing) (h : PlacedBy y p) (k : ℕ) where
  listed_there : (i : ℕ) → i < y.courses → lists (course_at y i) k ≡ eqb (p i) k
  listed_there i l = ap (λ x. has x k) (h i l) ∙ has_power (p i) k ∙ eqb_sym k (p i)

  fixed_there : (i : ℕ) → i < y.courses → is_fixed (course_at y i) k ≡ eqb (p i) k
  fixed_there i l = ap (λ x. eqb x (2 ^ k)) (h i l) ∙ power_eqb (p i) k

  module _ (w : ℕ → ℕ) where
    fixed_sum : sum y.courses (λ i. pick (is_fixed (course_at y i) k) (w i)) ≡ sum y.courses (λ i. pick (eqb (p i) k) (w i))
    fixed_sum =
        sum_cong y.courses (λ i. pick (is_fixed (course_at y i) k) (w i)) (λ i. pick (eqb (p i) k) (w i)) (λ i l. ap (λ b. pick b (w i)) (fixed_there i l))

    pub listed_sum : sum y.courses (λ i. pick (lists (course_at y i) k) (w i)) ≡ sum y.courses (λ i. pick (eqb (p i) k) (w i))
    listed_sum =
        sum_cong y.courses (λ i. pick (lists (course_at y i) k) (w i)) (λ i. pick (eqb (p i) k) (w i)) (λ i l. ap (λ b. pick b (w i)) (listed_there i l))

  pub credits_fixed : fixed_credits y k ≡ credits_in y p k
  unfolding fixed_credits
  credits_fixed = fixed_sum (weight y)

  pub count_fixed : fixed_count y k ≡ count_in y p k
  unfolding fixed_count
  count_fixed = fixed_sum (λ i. 1)

  count_open : open_count y k ≡ 0
  unfolding open_count
  count_open = sum_zero y.courses (open_one y.weight y.list k) (λ i l. ap (λ b. pick b 1) (ap₂ (λ a b. a && not b) (listed_there i l) (fixed_there i l) ∙ not_both (eqb (p i) k)))
    where
      not_both : (b : Bool) → b && not b ≡ false
      not_both true = refl
      not_both false = refl

-- ---- it stands within the terms and the lists, and no other plan does

module _ (y : Year) (p : Placing) (h : PlacedBy y p) where
  pub placed_listed : (i : ℕ) → i < y.courses → lists (course_at y i) (p i) ≡ true
  placed_listed i l = listed_there y p h (p i) i l ∙ eq-eqb (p i) (p i) refl

  pub placed_within : Sound y → (i : ℕ) → i < y.courses → p i < y.terms
  placed_within s i l = has_below y.terms (list y i) (p i) (s.course_sound i l).list_within (placed_listed i l)

  pub placed_only : (q : Placing) → Plan y q → (i : ℕ) → i < y.courses → q i ≡ p i
  placed_only q l i m = eqb-true (q i) (p i) (sym (has_power (p i) (q i)) ∙ ap (λ x. has x (q i)) (sym (h i m)) ∙ l.listed i m)

-- ---- where every course has one term, there is such a placing, and the other way round

the_term_lem : (c : Course) → is_placed c ≡ true → c.list ≡ 2 ^ the_term c
unfolding is_placed the_term
the_term_lem c e =
    let r = any_true 16 (is_fixed c) e in
    let j : ℕ = r.0 in
    let here : c.list ≡ 2 ^ j = eqb-true c.list (2 ^ j) r.2 in
    here
    ∙ ap (λ k. 2 ^ k) (sym (sum_single 16 j (λ k. pick (is_fixed c k) k) r.1 (λ k l d. alone j k here d) ∙ ap (λ b. pick b j) r.2))
  where
    alone : (j k : ℕ) → c.list ≡ 2 ^ j → (k ≡ j → ⊥) → pick (is_fixed c k) k ≡ 0
    alone j k e d = ap (λ b. pick b k) (ap (λ x. eqb x (2 ^ k)) e ∙ power_eqb j k) ∙ pick_ne j k k (λ q. d (sym q))

pub placed_by : (y : Year) → all_placed y ≡ true → PlacedBy y (the_placing y)
unfolding all_placed
placed_by y e i l = the_term_lem (course_at y i) (all_at y.courses (placed_at y) e i l)

pub all_placed_lem : (y : Year) (p : Placing) → Sound y → PlacedBy y p → all_placed y ≡ true
unfolding all_placed is_placed
all_placed_lem y p s h =
    all_of y.courses (placed_at y)
    (λ i l.
    let fixed : is_fixed (course_at y i) (p i) ≡ true = eq-eqb (list y i) (2 ^ p i) (h i l) in
    any_of 16 (is_fixed (course_at y i)) (p i) (omega (arith, s, placed_within y p h s i l)) fixed)

-- ---- every course has one term where the sums that the year carries say that none is open in any

module _ (y : Year) (s : Sound y) where
  -- a course is fixed in a term that it lists where it is not open there, and it lists one
  settled : ((k : ℕ) → k < y.terms → open_count y k ≡ 0) → all_placed y ≡ true
  unfolding all_placed is_placed open_count
  settled none =
      all_of y.courses (placed_at y)
      (λ i l.
      let c = s.course_sound i l in
      let r = has_some y.terms (list y i) c.list_some c.list_within in
      let k : ℕ = r.0 in
      any_of 16 (is_fixed (course_at y i)) k (omega (arith, s, r.1))
      (fixed_else (lists (course_at y i) k) (is_fixed (course_at y i) k) r.2 (none_open_lem y.weight y.list k y.courses (none k r.1) i l)))
    where
      fixed_else : (a b : Bool) → a ≡ true → a && not b ≡ false → b ≡ true
      fixed_else a true e d = refl
      fixed_else true false e d = sym d
      fixed_else false false e d = e

  pub none_open_is : none_open y.terms y.sums ≡ all_placed y
  none_open_is =
      same_tests (none_open y.terms y.sums) (all_placed y)
      (λ e. settled (λ k l. sym (read k l) ∙ eqb-true (sums_in y.sums k).free.0 0 (all_at y.terms none e k l)))
      (λ e. all_of y.terms none (λ k l. eq-eqb (sums_in y.sums k).free.0 0 (read k l ∙ count_open y (the_placing y) (placed_by y e) k)))
    where
      none : ℕ → Bool
      none k = eqb (sums_in y.sums k).free.0 0

      read : (k : ℕ) → k < y.terms → (sums_in y.sums k).free.0 ≡ open_count y k
      read k l = free_read y y.sums s.sums_kept k (omega (arith, s))

-- ---- the terms together have all credits

pub plan_total : (y : Year) (p : Placing) → Plan y p → sum y.terms (credits_in y p) ≡ all_credits y
unfolding all_credits load
plan_total y p q = loads_total y.courses y.terms (weight y) p q.within

pub placed_total : (y : Year) → Sound y → all_placed y ≡ true → sum y.terms (fixed_credits y) ≡ all_credits y
unfolding all_credits load
placed_total y s e =
    let h = placed_by y e in
    sum_cong y.terms (fixed_credits y) (credits_in y (the_placing y)) (λ k l. credits_fixed y (the_placing y) h k)
    ∙ loads_total y.courses y.terms (weight y) (the_placing y) (placed_within y (the_placing y) h s)
