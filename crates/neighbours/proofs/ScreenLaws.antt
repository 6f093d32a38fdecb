-- What the screen of rule 12 goes by: the k heaviest weigh the more the larger k is, and the lightest the more there are of them.
use Prim.Native.Nat.{ℕ, ◌+◌, ◌-◌, ◌≤◌, ◌<◌}
use mathlib.Core.Logic.{◌⊎◌, inl, inr}
use mathlib.Core.Path.{◌≡◌}
use native.Mathlib.Decide.{dec_lt, ℕ_discrete}
use native.Mathlib.Omega.{arith}
use Rattle.neighbours.specs.Lightest.{Rising, NoneReach, QuietAt}
use Rattle.neighbours.proofs.FiresLaws.{rises}

-- ---- one place s

-- none of the k below some number
abbrev pub Below : (ℕ → ℕ) → ℕ → ℕ → ℕ → ℕ → ℕ → ℕ → ℕ → ℕ → Type 0
Below q n m s l e a b j = (k : ℕ) → k < j → k + s < n → q m - q (m - k) + l < a → b < q (s + (k + 1)) - q s + e → ⊥

module _ (q : ℕ → ℕ) (n m s l e a b : ℕ) where
  pub one_more : (j : ℕ) → Below q n m s l e a b j → q (s + (j + 1)) - q s + e ≤ b → Below q n m s l e a b (j + 1)
  one_more j none this k h i lo hi = go (ℕ_discrete k j)
    where
      go : Dec (k ≡ j) → ⊥
      go (yes d) = reach k d hi
        where
          reach : (k : ℕ) → k ≡ j → b < q (s + (k + 1)) - q s + e → ⊥
          reach k d hi = omega (arith, rw d at hi)
      go (no d) = none k (omega (arith, d)) i lo hi

  -- from a k on at which the heaviest reach the range
  pub none_on : Rising n q → m ≤ n → n ≤ m + s + 1 → (j : ℕ) → Below q n m s l e a b j → a ≤ q m - q (m - j) + l → NoneReach q n m s l e a b
  none_on r few fits j none high k i lo hi = go (dec_lt k j)
    where
      go : Dec (k < j) → ⊥
      go (yes d) = none k d i lo hi
      go (no d) = omega (arith, rises r (m - k) (m - j) (omega (arith, d)) (omega arith))

  -- where there are no more
  pub none_left : (j : ℕ) → Below q n m s l e a b j → n ≤ j + s → NoneReach q n m s l e a b
  none_left j none last k i lo hi = none k (omega arith) i lo hi

-- ---- all k'

-- none of the k' below some number
abbrev pub QuietBelow : (ℕ → ℕ) → ℕ → ℕ → ℕ → ℕ → Type 0
QuietBelow q n a b j = (k' : ℕ) → k' < j → QuietAt q n a b k'

module _ (q : ℕ → ℕ) (n a b : ℕ) where
  pub quiet_more : (j : ℕ) → QuietBelow q n a b j → QuietAt q n a b j → QuietBelow q n a b (j + 1)
  quiet_more j quiet this k h = go (ℕ_discrete k j)
    where
      go : Dec (k ≡ j) → QuietAt q n a b k
      go (yes d) = rw d this
      go (no d) = quiet k (omega (arith, d))

  -- from a k' on whose lightest reach the range, or come near to the heaviest
  pub quiet_on : Rising n q → (j : ℕ) → QuietBelow q n a b j → (a ≤ q j) ⊎ (q n - q (n - 1) ≤ q j + (b - a + 1))
      → (k' : ℕ) → k' + 1 < n → q k' < a → q k' + (b - a + 1) < q n - q (n - 1) → QuietAt q n a b k'
  quiet_on r j quiet ends k h light wide = go (dec_lt k j) ends
    where
      go : Dec (k < j) → (a ≤ q j) ⊎ (q n - q (n - 1) ≤ q j + (b - a + 1)) → QuietAt q n a b k
      go (yes d) x = quiet k d
      go (no d) (inl x) = absurd (omega (arith, rises r j k (omega (arith, d)) (omega arith)))
      go (no d) (inr x) = absurd (omega (arith, rises r j k (omega (arith, d)) (omega arith)))
