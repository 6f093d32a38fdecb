-- The bounds of the sums of a term, and an array that holds them.
use Prim.Native.Nat.{ℕ, ◌+◌, ◌*◌, ◌^◌, ◌≤◌, ◌<◌}
use mathlib.Core.Bool.{Bool, true, false, ◌&&◌, not}
use mathlib.Core.Path.{◌≡◌, refl, sym, ap, ap₂, ◌∙◌}
use native.Mathlib.Omega.{arith}
use mathlib.Core.List.{List}
use lib.ListN.{length, take, get_or}
use Rattle.std.proofs.lemmas.List.{get_or-take, length-take-le}
use Rattle.theory.specs.Sum.{pick, sum}
use Rattle.theory.proofs.SumLaws.{sum_cong, sum_mono, sum_add, sum_le_mul, sum_term_le}
use Rattle.theory.specs.Tab.{tab}
use Rattle.theory.proofs.TabLaws.{length_tab, get_or_tab, tab_cong}
use Rattle.year.specs.Year.{course_of, course_in, is_fixed, is_open, lists}
use Rattle.year.specs.Sums.{fixed_weight, open_weight, fixed_one, open_one, fixed_credits, open_credits, fixed_count, open_count, all_credits, no_sums, sums_of, sums_at}
use Rattle.year.specs.SumsOf.{sums_to}
use Rattle.year.specs.Sound.{Sound}
use Rattle.year.specs.declared.Sums.{Sums}
use Rattle.year.specs.declared.Year.{Year}

-- ---- over the first n courses

-- a course is fixed in j or open there, not both
apart : (f l : Bool) (x : ℕ) → pick f x + pick (l && not f) x ≤ x
apart true true x = omega arith
apart true false x = omega arith
apart false true x = omega arith
apart false false x = omega arith

abbrev weight_in : List ℕ → ℕ → ℕ
weight_in w i = get_or w i 0

module _ (w l : List ℕ) where
  pub weights_to : (n : ℕ) → ((i : ℕ) → i < n → weight_in w i ≤ 1000) → sum n (weight_in w) ≤ 1000 * n
  weights_to n h = omega (arith, sum_le_mul n 1000 (weight_in w) h)

  pub possible_to : (j n : ℕ) → sum n (fixed_weight w l j) + sum n (open_weight w l j) ≤ sum n (weight_in w)
  possible_to j n =
      omega (
        arith,
        sum_add n (fixed_weight w l j) (open_weight w l j),
        sum_mono n (λ i. fixed_weight w l j i + open_weight w l j i) (weight_in w) (λ i h. apart (is_fixed (course_in w l i) j) (lists (course_in w l i) j) (weight_in w i)),
      )

  pub counts_to : (j n : ℕ) → sum n (fixed_one w l j) + sum n (open_one w l j) ≤ n
  counts_to j n =
      omega (
        arith,
        sum_add n (fixed_one w l j) (open_one w l j),
        sum_le_mul n 1 (λ i. fixed_one w l j i + open_one w l j i) (λ i h. apart (is_fixed (course_in w l i) j) (lists (course_in w l i) j) 1),
      )

  -- where none is open, no course is
  pub none_open_lem : (j n : ℕ) → sum n (open_one w l j) ≡ 0 → (i : ℕ) → i < n → is_open (course_in w l i) j ≡ false
  none_open_lem j n e i h = go (is_open (course_in w l i) j) refl (sum_term_le n i (open_one w l j) h)
    where
      go : (b : Bool) → is_open (course_in w l i) j ≡ b → pick b 1 ≤ sum n (open_one w l j) → is_open (course_in w l i) j ≡ false
      go true p q = absurd (omega arith)
      go false p q = p

-- columns cut to their first n courses have the sums that these have
module _ (w l : List ℕ) (n : ℕ) (p : n ≤ length w) (q : n ≤ length l) where
  sum_cut : (f : ℕ → ℕ → ℕ) → sum n (λ i. f (get_or (take n w) i 0) (get_or (take n l) i 0)) ≡ sum n (λ i. f (get_or w i 0) (get_or l i 0))
  sum_cut f =
      sum_cong n (λ i. f (get_or (take n w) i 0) (get_or (take n l) i 0)) (λ i. f (get_or w i 0) (get_or l i 0))
      (λ i h. ap₂ f (get_or-take n w i 0 h) (get_or-take n l i 0 h))

  pub sums_cut : tab 16 (sums_to (take n w) (take n l) (length (take n w))) ≡ tab 16 (sums_to w l n)
  sums_cut = rw (length-take-le n w p) (tab_cong 16 (sums_to (take n w) (take n l) n) (sums_to w l n) each)
    where
      each : (j : ℕ) → j < 16 → sums_to (take n w) (take n l) n j ≡ sums_to w l n j
      each j h =
          let a = sum_cut (λ x y. pick (is_fixed (course_of x y) j) x) in
          let b = sum_cut (λ x y. pick (is_open (course_of x y) j) x) in
          let c = sum_cut (λ x y. pick (is_fixed (course_of x y) j) 1) in
          let d = sum_cut (λ x y. pick (is_open (course_of x y) j) 1) in
          λ t. sums_of (a t) (a t + b t) (c t) (d t)

  pub cut_alike : length (take n l) ≡ length (take n w)
  cut_alike = length-take-le n l q ∙ sym (length-take-le n w p)

  -- each of these courses is of the size that its entries have
  pub cut_sized : (m : ℕ) → ((i : ℕ) → i < n → (get_or w i 0 ≤ 1000) × (get_or l i 0 < 2 ^ m))
      → (i : ℕ) → i < length (take n w) → (get_or (take n w) i 0 ≤ 1000) × (get_or (take n l) i 0 < 2 ^ m)
  cut_sized m h i k =
      let u : i < n = omega (arith, length-take-le n w p) in
      (omega (arith, (h i u).0, get_or-take n w i 0 u), omega (arith, (h i u).1, get_or-take n l i 0 u))

-- ---- over the year

pub all_credits_le : (y : Year) → Sound y → all_credits y ≤ 1000 * y.courses
unfolding all_credits
all_credits_le y s = weights_to y.weight y.list y.courses (λ i h. (s.course_sound i h).weight_most)

pub possible_le : (y : Year) (j : ℕ) → fixed_credits y j + open_credits y j ≤ all_credits y
unfolding fixed_credits open_credits all_credits
possible_le y j = possible_to y.weight y.list j y.courses

pub counts_le : (y : Year) (j : ℕ) → fixed_count y j + open_count y j ≤ y.courses
unfolding fixed_count open_count
counts_le y j = counts_to y.weight y.list j y.courses

-- ---- an array that holds the sums of each term

module _ (y : Year) (s : List Sums) (e : s ≡ tab 16 (sums_at y)) (k : ℕ) (h : k < 16) where
  pub sums_read : get_or s k no_sums ≡ sums_at y k
  sums_read = rw e (get_or_tab 16 (sums_at y) no_sums k h)

  pub fixed_read : (get_or s k no_sums).fixed.0 ≡ fixed_credits y k
  unfolding sums_at
  fixed_read = ap (λ (z : Sums). z.fixed.0) sums_read

  pub placed_read : (get_or s k no_sums).placed.0 ≡ fixed_count y k
  unfolding sums_at
  placed_read = ap (λ (z : Sums). z.placed.0) sums_read

  pub free_read : (get_or s k no_sums).free.0 ≡ open_count y k
  unfolding sums_at
  free_read = ap (λ (z : Sums). z.free.0) sums_read

pub sums_long : (y : Year) → Sound y → length y.sums ≡ 16
sums_long y s = ap length s.sums_kept ∙ length_tab 16 (sums_at y)

-- ---- sums that are 0

pub all_zero : (s : Sums) → (s.fixed.0 ≡ 0) × ((s.possible.0 ≡ 0) × ((s.placed.0 ≡ 0) × (s.free.0 ≡ 0))) → s ≡ no_sums
all_zero s z =
    λ i. record { fixed = record { 0 = z.0 i }; possible = record { 0 = z.1.0 i }; placed = record { 0 = z.1.1.0 i }; free = record { 0 = z.1.1.1 i } }
