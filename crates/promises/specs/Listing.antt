-- The listing: the text that a program prints for a byte string, in a buffer that it lends; and year E, whole.
use Rattle.std.specs.Prelude.{ℕ, ◌+◌, ◌-◌, ◌*◌, ◌^◌, ◌≤◌, ◌<◌, List, [], ◌∷◌, ◌++◌, ◌↔◌, ◌≡◌, length, take, drop, get_or}
use Rattle.year.specs.Examples.{year_e}
use Rattle.year.specs.Plans.{plans_of, count_of_plans, EachPlanOnce}
use Rattle.year.specs.declared.Year.{Year}
use Rattle.records.specs.Examples.{bytes_e}
use Rattle.records.specs.Reading.{read_list, done}
use Rattle.text.specs.Text.{decimal_of}
use Rattle.display.specs.Listing.{listing_of, listed_of, listed_in}
use Rattle.display.specs.Numbers.{listed_number, listed_length}
use Rattle.display.specs.Examples.{lines_e}

-- what digits stand for, v being what those before them stand for
abbrev pub value_from : ℕ → List ℕ → ℕ
value_from v [] = v
value_from v (d ∷ ds) = value_from (v * 10 + (d - 48)) ds

-- a number of 32 bits is printed as digits that stand for it, with no 0 in front
pub record NumbersRead : Type 0 where
  pub value : (n : ℕ) → n < 2 ^ 32 → value_from 0 (decimal_of n) ≡ n
  pub no_zero_in_front : (n : ℕ) → 1 ≤ n → n < 2 ^ 32 → get_or (decimal_of n) 0 48 ≡ 48 → ⊥

-- done, or 9 exactly for a buffer of fewer bytes than the text has; no text has more than the programs lend
pub record ListingDue : Type 0 where
  pub longest : (list : List ℕ) → length (listing_of list) ≤ 3436
  pub short : (list : List ℕ) (room : ℕ) → (listed_number (listed_of list room) ≡ 9) ↔ (room < length (listing_of list))
  pub fits : (list : List ℕ) (room : ℕ) → (listed_number (listed_of list room) ≡ 0) ↔ (length (listing_of list) ≤ room)
  pub told_length : (list : List ℕ) (room : ℕ) → listed_number (listed_of list room) ≡ 0
      → listed_length (listed_of list room) ≡ length (listing_of list)
  pub in_front : (list out : List ℕ) → listed_number (listed_of list (length out)) ≡ 0
      → listed_in list out ≡ listing_of list ++ drop (length (listing_of list)) out
  pub untouched : (list out : List ℕ) → listed_number (listed_of list (length out)) ≡ 9 → listed_in list out ≡ out
  -- the front part that a program writes, of the buffer that it lends
  pub printed : (list out : List ℕ) → length out ≡ 3436
      → take (listed_length (listed_of list (length out))) (listed_in list out) ≡ listing_of list

-- trying all placings gives exactly the plans of a year, each once
abbrev pub PlansCounted : Type 0
PlansCounted = (y : Year) → EachPlanOnce y (plans_of y)

-- the bytes of its five records read to year E, its listing is the paper's six lines, the last as request A5 has it, and it has
-- exactly two plans: course 0 or course 1 in term 0, and the others in term 1
pub record YearE : Type 0 where
  pub reads : read_list bytes_e ≡ done year_e
  pub lists : listing_of bytes_e ≡ lines_e
  pub plans : plans_of year_e ≡ (0 ∷ 1 ∷ 1 ∷ []) ∷ (1 ∷ 0 ∷ 1 ∷ []) ∷ []
  pub two_plans : count_of_plans year_e ≡ 2
  pub each_once : EachPlanOnce year_e (plans_of year_e)
