-- The sum of squares, the square of the sum and the squared differences of all pairs of some numbers: one law, and what follows.
use Prim.Native.Nat.{ℕ, zero, suc, ◌+◌, ◌-◌, ◌*◌, ◌≤◌, ◌<◌}
use mathlib.Core.Logic.{◌↔◌}
use mathlib.Core.Path.{◌≡◌, refl, sym, ap}
use native.Mathlib.Decide.{dec_lt}
use native.Mathlib.Nat.{mul-le-mul}
use native.Mathlib.Omega.{arith}
use Rattle.theory.specs.Sum.{sum}
use Rattle.theory.specs.Pairs.{square, distance, over_pairs}
use Rattle.theory.proofs.SumLaws.{sum_zero, sum_term_le}

-- ---- two numbers

apart_by : (a d : ℕ) → square (distance a (a + d)) + 2 * (a * (a + d)) ≡ square a + square (a + d)
apart_by a d = let e : distance a (a + d) ≡ d = omega arith in rw e (omega arith)

apart_square : (a b : ℕ) → square (distance a b) + 2 * (a * b) ≡ square a + square b
apart_square a b = go (dec_lt a b)
  where
    go : Dec (a < b) → square (distance a b) + 2 * (a * b) ≡ square a + square b
    go (yes h) = let e : b ≡ a + (b - a) = omega arith in rw e (apart_by a (b - a))
    go (no h) = let e : a ≡ b + (a - b) = omega arith in rw e (omega (arith, apart_by b (a - b)))

-- a squared distance is 0 exactly of equal numbers
square_zero : (x : ℕ) → square x ≡ 0 → x ≡ 0
square_zero zero e = refl
square_zero (suc x) e = absurd (omega arith)

same_of : (a b : ℕ) → square (distance a b) ≡ 0 → a ≡ b
same_of a b e = omega (arith, square_zero (distance a b) e)

zero_of : (a b : ℕ) → a ≡ b → square (distance a b) ≡ 0
zero_of a b e = let d : distance a b ≡ 0 = omega arith in ap square d

-- ---- sums over pairs

pairs_zero : (n : ℕ) (g : ℕ → ℕ → ℕ) → ((j k : ℕ) → j < k → k < n → g j k ≡ 0) → over_pairs n g ≡ 0
unfolding over_pairs
pairs_zero n g h = sum_zero n (λ k. sum k (λ j. g j k)) (λ k l. sum_zero k (λ j. g j k) (λ j q. h j k q l))

pair_le : (n : ℕ) (g : ℕ → ℕ → ℕ) (j k : ℕ) → j < k → k < n → g j k ≤ over_pairs n g
unfolding over_pairs
pair_le n g j k q l = omega (arith, sum_term_le k j (λ i. g i k) q, sum_term_le n k (λ i. sum i (λ m. g m i)) l)

-- ---- the squares of many numbers

-- each of the first n against x
against : (n : ℕ) (f : ℕ → ℕ) (x : ℕ) → sum n (λ j. square (distance (f j) x)) + 2 * (sum n f * x) ≡ sum n (λ j. square (f j)) + n * square x
unfolding sum
against zero f x = omega arith
against (suc n) f x = omega (arith, against n f x, apart_square (f n) x)

pub squares_most : (n : ℕ) (f : ℕ → ℕ) → sum n (λ j. square (f j)) ≤ square (sum n f)
unfolding sum
squares_most zero f = omega arith
squares_most (suc n) f = omega (arith, squares_most n f)

module _ (n : ℕ) (f : ℕ → ℕ) where
  abbrev squares : ℕ
  squares = sum n (λ j. square (f j))

  abbrev gap : ℕ → ℕ → ℕ
  gap j k = square (distance (f j) (f k))

  -- the law: n times the sum of squares is the square of the sum, and the squared differences of all pairs
  pub by_pairs : n * squares ≡ square (sum n f) + over_pairs n gap
  unfolding sum over_pairs
  by_pairs = go n
    where
      go : (n : ℕ) → n * sum n (λ j. square (f j)) ≡ square (sum n f) + over_pairs n gap
      go zero = omega arith
      go (suc n) = omega (arith, go n, against n f (f n))

  -- so nothing is cut off where one is taken from the other, and what is left is the sum over the pairs
  pub square_least : square (sum n f) ≤ n * squares
  square_least = omega (arith, by_pairs)

  pub left_over : n * squares - square (sum n f) ≡ over_pairs n gap
  left_over = omega (arith, by_pairs)

  -- the pairs add nothing exactly if all numbers are equal
  equal_of : over_pairs n gap ≡ 0 → (j k : ℕ) → j < k → k < n → f j ≡ f k
  equal_of e j k q l = same_of (f j) (f k) (omega (arith, pair_le n gap j k q l))

  pub all_equal : (over_pairs n gap ≡ 0) ↔ ((j k : ℕ) → j < n → k < n → f j ≡ f k)
  all_equal = (λ e j k l m. either e j k l m (dec_lt j k) (dec_lt k j), λ h. pairs_zero n gap (λ j k q l. zero_of (f j) (f k) (h j k (omega arith) l)))
    where
      either : over_pairs n gap ≡ 0 → (j k : ℕ) → j < n → k < n → Dec (j < k) → Dec (k < j) → f j ≡ f k
      either e j k l m (yes q) d = equal_of e j k q m
      either e j k l m (no q) (yes r) = sym (equal_of e k j r l)
      either e j k l m (no q) (no r) = let is : j ≡ k = omega arith in ap f is

  -- at most m + 1 numbers whose sum is at most c: most is left where one of them has it all
  pub left_most : (m c : ℕ) → n ≤ suc m → sum n f ≤ c → n * squares - square (sum n f) ≤ m * square c
  left_most m c few small =
      let a : n * squares ≤ suc m * square (sum n f) = mul-le-mul few (squares_most n f) in
      let b : m * square (sum n f) ≤ m * square c = mul-le-mul {n₁ = m} {n₂ = m} (omega arith) (mul-le-mul small small) in
      omega arith
