-- The imbalance: given exactly where every course has one term and that placing is a plan; what it is, and what it means.
use Rattle.std.specs.Prelude.{ℕ, ◌*◌, ◌^◌, ◌≤◌, ◌<◌, true, false, ◌↔◌, ◌⊎◌, ◌≡◌}
use Rattle.theory.specs.Sum.{sum}
use Rattle.theory.specs.Pairs.{square, distance, over_pairs}
use Rattle.year.specs.Sums.{all_credits, all_placed}
use Rattle.year.specs.Imbalance.{imbalance_by, imbalance_of}
use Rattle.year.specs.Numbers.{imbalance_number, imbalance_value}
use Rattle.year.specs.Plans.{Placing, credits_in, Plan, the_placing}
use Rattle.year.specs.Sound.{Sound}
use Rattle.year.specs.Examples.{Imbalances}
use Rattle.year.specs.declared.Year.{Year}

-- the imbalance of a plan: the number of terms times the sum of squared term credits, less the square of all credits
abbrev pub imbalance_in : Year → Placing → ℕ
imbalance_in y p = imbalance_by y (credits_in y p)

-- when it is given, and which number
pub record ImbalanceDue : Type 0 where
  -- 8: the year is not sound
  pub unsound : (y : Year) → (imbalance_number (imbalance_of y) ≡ 8) ↔ (Sound y → ⊥)
  -- 14: a course has several terms, or the one placing is no plan
  pub unsettled : (y : Year) → (imbalance_number (imbalance_of y) ≡ 14) ↔ (Sound y
      × ((all_placed y ≡ false) ⊎ (Plan y (the_placing y) → ⊥)))
  -- 0: every course has one term, and that placing is a plan, the only one; then the value is its imbalance
  pub given : (y : Year) → (imbalance_number (imbalance_of y) ≡ 0) ↔ (Sound y × (all_placed y ≡ true) × Plan y (the_placing y))
  pub only : (y : Year) → imbalance_number (imbalance_of y) ≡ 0 → (p : Placing) → Plan y p → (i : ℕ) → i < y.courses → p i ≡ the_placing y i
  pub value : (y : Year) → imbalance_number (imbalance_of y) ≡ 0 → (p : Placing) → Plan y p
      → imbalance_value (imbalance_of y) ≡ imbalance_in y p
  pub no_value : (y : Year) → (imbalance_number (imbalance_of y) ≡ 0 → ⊥) → imbalance_value (imbalance_of y) ≡ 0

-- what the number means, of every plan of every year
pub record ImbalanceMeans : Type 0 where
  -- nothing is cut off: the difference is the true one
  pub whole : (y : Year) (p : Placing) → Plan y p → square (all_credits y) ≤ y.terms * sum y.terms (λ k. square (credits_in y p k))
  -- it is the sum, over all pairs of terms, each pair once, of the squared difference of their credits
  pub pair_by_pair : (y : Year) (p : Placing) → Plan y p
      → imbalance_in y p ≡ over_pairs y.terms (λ j k. square (distance (credits_in y p j) (credits_in y p k)))
  -- it is 0 exactly when all terms have equal credits
  pub zero_when_equal : (y : Year) (p : Placing) → Plan y p
      → (imbalance_in y p ≡ 0) ↔ ((j k : ℕ) → j < y.terms → k < y.terms → credits_in y p j ≡ credits_in y p k)
  -- the largest within the sizes, which a year has (all_in_one, below); it fits the number that carries it, and the boundary's value
  pub most : (y : Year) → imbalance_value (imbalance_of y) ≤ 15 * square 64000
  pub fits : (y : Year) → (imbalance_value (imbalance_of y) < 2 ^ 64) × (imbalance_value (imbalance_of y) < 2 ^ 48)
  pub by_computation : Imbalances
