-- The sums of a term, which a year carries for each of its terms: p, P, the number fixed, the number open; and the sums of the year:
-- S and n.
use Rattle.std.specs.Prelude.{ℕ, ◌+◌, Bool, List, get_or}
use Rattle.theory.specs.Sum.{pick, sum}
use Rattle.theory.specs.Tests.{any, all}
use Rattle.year.specs.Year.{course_in, course_at, weight, is_fixed, is_open}
use Rattle.year.specs.declared.Course.{Course}
use Rattle.year.specs.declared.Quantity.{Quantity}
use Rattle.year.specs.declared.Quantity.TheVariants.{Credits, Counts}
use Rattle.year.specs.declared.Sums.{Sums}
use Rattle.year.specs.declared.Year.{Year}

-- ---- what course i of two columns, the weights w and the lists l, adds to term j

abbrev pub fixed_weight : List ℕ → List ℕ → ℕ → ℕ → ℕ
fixed_weight w l j i = pick (is_fixed (course_in w l i) j) (get_or w i 0)

abbrev pub open_weight : List ℕ → List ℕ → ℕ → ℕ → ℕ
open_weight w l j i = pick (is_open (course_in w l i) j) (get_or w i 0)

abbrev pub fixed_one : List ℕ → List ℕ → ℕ → ℕ → ℕ
fixed_one w l j i = pick (is_fixed (course_in w l i) j) 1

abbrev pub open_one : List ℕ → List ℕ → ℕ → ℕ → ℕ
open_one w l j i = pick (is_open (course_in w l i) j) 1

-- ---- the sums of term j

-- p: the credits of the courses fixed in j
unfoldable pub fixed_credits : Year → ℕ → ℕ
fixed_credits y j = sum y.courses (fixed_weight y.weight y.list j)

unfoldable pub open_credits : Year → ℕ → ℕ
open_credits y j = sum y.courses (open_weight y.weight y.list j)

-- P: p plus the credits of the courses open in j
abbrev pub possible_credits : Year → ℕ → ℕ
possible_credits y j = fixed_credits y j + open_credits y j

-- the number fixed and the number open
unfoldable pub fixed_count : Year → ℕ → ℕ
fixed_count y j = sum y.courses (fixed_one y.weight y.list j)

unfoldable pub open_count : Year → ℕ → ℕ
open_count y j = sum y.courses (open_one y.weight y.list j)

-- ---- the four of them in one value

abbrev pub sums_of : ℕ → ℕ → ℕ → ℕ → Sums
sums_of p P m n = record { fixed = record { 0 = p }; possible = record { 0 = P }; placed = record { 0 = m }; free = record { 0 = n } }

abbrev pub no_sums : Sums
no_sums = sums_of 0 0 0 0

-- as they are over the lists
unfoldable pub sums_at : Year → ℕ → Sums
sums_at y j = sums_of (fixed_credits y j) (possible_credits y j) (fixed_count y j) (open_count y j)

-- and as an array of sums has them
abbrev pub sums_in : List Sums → ℕ → Sums
sums_in s j = get_or s j no_sums

-- ---- the year

-- S: all credits
unfoldable pub all_credits : Year → ℕ
all_credits y = sum y.courses (weight y)

-- n: all courses
abbrev pub all_courses : Year → ℕ
all_courses y = y.courses

-- ---- by quantity

abbrev pub fixed_of : Quantity → Year → ℕ → ℕ
fixed_of Credits y j = fixed_credits y j
fixed_of Counts y j = fixed_count y j

abbrev pub open_of : Quantity → Year → ℕ → ℕ
open_of Credits y j = open_credits y j
open_of Counts y j = open_count y j

abbrev pub all_of : Quantity → Year → ℕ
all_of Credits y = all_credits y
all_of Counts y = all_courses y

-- ---- courses that are placed

-- the course has one term
unfoldable pub is_placed : Course → Bool
is_placed c = any 16 (is_fixed c)

abbrev pub placed_at : Year → ℕ → Bool
placed_at y i = is_placed (course_at y i)

-- every course has one term
unfoldable pub all_placed : Year → Bool
all_placed y = all y.courses (placed_at y)
