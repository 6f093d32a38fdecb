-- Closed examples, by computation: year E of the paper and its plans, and each answer of the narrowings and of the imbalance.
use Rattle.std.specs.Prelude.{ℕ, suc, ◌*◌, ◌^◌, Bool, true, false, List, [], ◌∷◌, ◌++◌, ◌≡◌, refl, length, replicate, take, set, Ok, Err}
use Rattle.theory.specs.Sum.{sum}
use Rattle.theory.specs.Pairs.{square}
use Rattle.theory.specs.Tests.{all, any}
use Rattle.theory.specs.Order.{keep}
use Rattle.year.specs.Year.{term_of, course_of, zero_term, zero_course, course_at}
use Rattle.year.specs.Bound.{Tight, tightened}
use Rattle.year.specs.Doors.{empty_year, with_sums, placed, struck, with_list, with_term}
use Rattle.year.specs.ByHand.{summed_of, unsummed, by_hand}
use Rattle.year.specs.Computing.{computing}
use Rattle.year.specs.Sound.{is_sound}
use Rattle.year.specs.Sums.{sums_of, no_sums, sums_in, all_credits, is_placed, all_placed}
use Rattle.year.specs.Narrow.{answered, place_of, bar_of, raise_low_credits_of, lower_high_credits_of, raise_low_count_of, lower_high_count_of}
use Rattle.year.specs.Imbalance.{one_plan, imbalance_of}
use Rattle.year.specs.Plans.{is_plan, behind, rows, plans_of, count_of_plans}
use Rattle.year.specs.declared.Term.{Term}
use Rattle.year.specs.declared.Course.{Course}
use Rattle.year.specs.declared.Quantity.TheVariants.{Credits, Counts}
use Rattle.year.specs.declared.Side.TheVariants.{Low, High}
use Rattle.year.specs.declared.Sums.{Sums}
use Rattle.year.specs.declared.Year.{Year}
use Rattle.year.specs.declared.NarrowingRefusal.TheVariants.{Unsound, Missing, Outside, Crossing}
use Rattle.year.specs.declared.ImbalanceRefusal.TheVariants as imbalance

-- ---- years by their terms and courses

abbrev padded : {A : Type 0} → ℕ → A → List A → List A
padded n a l = take n (l ++ replicate n a)

abbrev pub year_of : List Term → List Course → Year
year_of ts cs = with_sums (unsummed (length ts) (length cs) (padded 16 zero_term ts) (padded 64 zero_course cs))

-- a term with the widest bounds but for its low credits and its low count
abbrev pub at_least : ℕ → ℕ → Term
at_least credits count = term_of credits 64000 count 64

-- year E: credits 0-4 and 0-6, counts 0-3 each; courses of 4, 3 and 2 credits, each listing both terms
abbrev pub year_e : Year
year_e = year_of (term_of 0 4 0 3 ∷ term_of 0 6 0 3 ∷ []) (course_of 4 3 ∷ course_of 3 3 ∷ course_of 2 3 ∷ [])

-- its course 0 in term 0 alone, and then all three placed: credits 4 and 5
abbrev pub first_placed : Year
first_placed = placed year_e 0 0

abbrev pub settled_e : Year
settled_e = placed (placed first_placed 1 1) 2 1

-- all in term 0: 9 credits where 4 are allowed
abbrev pub crowded_e : Year
crowded_e = placed (placed first_placed 1 0) 2 0

-- a course that lists a term which the year lacks
abbrev pub foreign_e : Year
foreign_e = with_list year_e 2 7

-- a year of n terms and m courses with every entry filled: each course of weight w lists all sixteen terms,
-- each term has the bounds 0-v and 0-k
abbrev pub full_year : ℕ → ℕ → ℕ → ℕ → ℕ → Year
full_year n m w v k = with_sums (unsummed n m (replicate 16 (term_of 0 v 0 k)) (replicate 64 (course_of w 65535)))

-- ---- years by hand, and their courses

-- the weights in one column, the lists in the other, and each course as it was given; zeros past the last, and past both columns
pub columns_of_e : (year_e.weight ≡ padded 64 0 (4 ∷ 3 ∷ 2 ∷ [])) × (year_e.list ≡ padded 64 0 (3 ∷ 3 ∷ 3 ∷ []))
columns_of_e = (refl, refl)

pub courses_of_e : (course_at year_e 0 ≡ course_of 4 3) × (course_at first_placed 0 ≡ course_of 4 1) × (course_at year_e 2 ≡ course_of 2 3)
    × (course_at year_e 3 ≡ zero_course) × (course_at (full_year 16 64 1000 64000 64) 63 ≡ course_of 1000 65535)
    × (course_at (full_year 16 64 1000 64000 64) 64 ≡ zero_course)
courses_of_e = (refl, refl, refl, refl, refl, refl)

-- ---- soundness

pub year_e_sound : is_sound year_e ≡ true
unfolding computing
year_e_sound = refl

pub empty_sound : is_sound empty_year ≡ true
unfolding computing
empty_sound = refl

-- the largest year is sound, and one more of anything is not
pub largest_sound : is_sound (full_year 16 64 1000 64000 64) ≡ true
unfolding computing
largest_sound = refl

pub terms_past : is_sound (full_year 17 64 1000 64000 64) ≡ false
unfolding computing
terms_past = refl

pub courses_past : is_sound (full_year 16 65 1000 64000 64) ≡ false
unfolding computing
courses_past = refl

pub weight_past : is_sound (full_year 16 64 1001 64000 64) ≡ false
unfolding computing
weight_past = refl

pub credits_past : is_sound (full_year 16 64 1000 64001 64) ≡ false
unfolding computing
credits_past = refl

pub count_past : is_sound (full_year 16 64 1000 64000 65) ≡ false
unfolding computing
count_past = refl

-- no term, and a course of no weight
pub no_term : is_sound (by_hand 0 0 (replicate 16 zero_term) (replicate 64 zero_course)) ≡ false
unfolding computing
no_term = refl

pub no_weight : is_sound (full_year 16 64 0 64000 64) ≡ false
unfolding computing
no_weight = refl

-- an entry past the last that is not zero, of a term and of a course
pub past_the_last : (is_sound (with_term year_e 2 (term_of 0 1 0 0)) ≡ false) × (is_sound (with_list year_e 3 1) ≡ false)
unfolding computing
past_the_last = (refl, refl)

-- a weight that has no list, past the last course and of a course
pub weight_alone : (is_sound (by_hand 2 2 year_e.term (padded 64 zero_course (course_of 4 3 ∷ course_of 3 3 ∷ course_of 2 0 ∷ []))) ≡ false)
    × (is_sound (by_hand 2 3 year_e.term (padded 64 zero_course (course_of 4 3 ∷ course_of 3 3 ∷ course_of 2 0 ∷ []))) ≡ false)
unfolding computing
weight_alone = (refl, refl)

-- a low bound up to its high bound, and past it
pub bounds_ordered : (is_sound (with_term year_e 0 (term_of 4 4 3 3)) ≡ true)
    × (is_sound (with_term year_e 0 (term_of 5 4 3 3)) ≡ false)
    × (is_sound (with_term year_e 0 (term_of 4 4 4 3)) ≡ false)
unfolding computing
bounds_ordered = (refl, refl, refl)

-- ---- the sums that a year carries

-- the same year with other sums of entry j
abbrev pub with_other : Year → ℕ → Sums → Year
with_other y j s = record {
  terms = y.terms;
  courses = y.courses;
  term = y.term;
  weight = y.weight;
  list = y.list;
  sums = set y.sums j s;
}

-- those of two terms and of the entry behind them
abbrev sums_of_three : Year → Sums × (Sums × Sums)
sums_of_three y = (sums_in y.sums 0, (sums_in y.sums 1, sums_in y.sums 2))

-- year E as it is, with course 0 in term 0 alone, and with course 0 struck from term 0, which leaves term 1 alone
pub sums_of_e : (sums_of_three year_e ≡ (sums_of 0 9 0 3, (sums_of 0 9 0 3, no_sums)))
    × (sums_of_three (placed year_e 0 0) ≡ (sums_of 4 9 1 2, (sums_of 0 5 0 2, no_sums)))
    × (sums_of_three (struck year_e 0 0) ≡ (sums_of 0 5 0 2, (sums_of 4 9 1 2, no_sums)))
unfolding computing
sums_of_e = (refl, refl, refl)

-- one course of 5 that lists three terms: struck from one of them it is open in the other two as before; placed in one it is gone from both
abbrev in_three : Year
in_three = year_of (at_least 0 0 ∷ at_least 0 0 ∷ at_least 0 0 ∷ at_least 0 0 ∷ []) (course_of 5 7 ∷ [])

pub sums_of_three_lem : (sums_of_three in_three ≡ (sums_of 0 5 0 1, (sums_of 0 5 0 1, sums_of 0 5 0 1)))
    × (sums_of_three (struck in_three 0 1) ≡ (sums_of 0 5 0 1, (no_sums, sums_of 0 5 0 1)))
    × (sums_of_three (placed in_three 0 1) ≡ (no_sums, (sums_of 5 5 1 0, no_sums)))
    × (sums_in (struck in_three 0 1).sums 3 ≡ no_sums)
unfolding computing
sums_of_three_lem = (refl, refl, refl, refl)

-- each of the four sums one too high, and each that can be one too low, in a term; two that together are right
pub sums_disagree : (is_sound (with_other year_e 1 (sums_of 0 9 0 3)) ≡ true)
    × (is_sound (with_other year_e 1 (sums_of 1 9 0 3)) ≡ false)
    × (is_sound (with_other year_e 1 (sums_of 0 10 0 3)) ≡ false)
    × (is_sound (with_other year_e 1 (sums_of 0 8 0 3)) ≡ false)
    × (is_sound (with_other year_e 1 (sums_of 0 9 1 3)) ≡ false)
    × (is_sound (with_other year_e 1 (sums_of 0 9 0 4)) ≡ false)
    × (is_sound (with_other year_e 1 (sums_of 0 9 0 2)) ≡ false)
    × (is_sound (with_other year_e 1 (sums_of 0 9 1 2)) ≡ false)
unfolding computing
sums_disagree = (refl, refl, refl, refl, refl, refl, refl, refl)

-- and past the last term, next to it and in the last entry
pub sums_past : (is_sound (with_other year_e 2 (sums_of 1 0 0 0)) ≡ false)
    × (is_sound (with_other year_e 2 (sums_of 0 1 0 0)) ≡ false)
    × (is_sound (with_other year_e 15 (sums_of 0 0 1 0)) ≡ false)
    × (is_sound (with_other year_e 15 (sums_of 0 0 0 1)) ≡ false)
    × (is_sound (with_other year_e 15 no_sums) ≡ true)
unfolding computing
sums_past = (refl, refl, refl, refl, refl)

-- a year whose sums were left 0 is not sound; filled in they are as above. Other sums than these are mended, and what is unsound in
-- another way comes back as it was given
pub sums_filled_in : (is_sound (unsummed 2 3 year_e.term (padded 64 zero_course (course_of 4 3 ∷ course_of 3 3 ∷ course_of 2 3
    ∷ []))) ≡ false)
    × (by_hand 2 3 year_e.term (padded 64 zero_course (course_of 4 3 ∷ course_of 3 3 ∷ course_of 2 3 ∷ [])) ≡ year_e)
    × (summed_of (with_other year_e 1 (sums_of 9 9 9 9)) ≡ year_e)
    × (summed_of year_e ≡ year_e)
    × (summed_of foreign_e ≡ foreign_e)
    × (summed_of (with_other foreign_e 15 (sums_of 0 0 0 1)) ≡ with_other foreign_e 15 (sums_of 0 0 0 1))
unfolding computing
sums_filled_in = (refl, refl, refl, refl, refl, refl)

-- ---- placing and barring

pub places : place_of year_e 0 0 ≡ answered (Ok tt) first_placed
unfolding place_of computing
places = refl

pub bars : bar_of year_e 0 0 ≡ answered (Ok tt) (with_list year_e 0 2)
unfolding bar_of computing
bars = refl

-- a last term is not barred; a term that is not listed is, and the year is as it was
pub bars_no_last : bar_of first_placed 0 0 ≡ answered (Err Crossing) first_placed
unfolding bar_of computing
bars_no_last = refl

pub bars_unlisted : bar_of first_placed 0 1 ≡ answered (Ok tt) first_placed
unfolding bar_of computing
bars_unlisted = refl

pub places_no_unlisted : place_of first_placed 0 1 ≡ answered (Err Crossing) first_placed
unfolding place_of computing
places_no_unlisted = refl

pub no_such_course : place_of year_e 3 0 ≡ answered (Err Missing) year_e
unfolding place_of computing
no_such_course = refl

pub no_such_term : bar_of year_e 0 2 ≡ answered (Err Missing) year_e
unfolding bar_of computing
no_such_term = refl

-- a year with a sum that disagrees is refused by every narrowing
abbrev pub off_e : Year
off_e = with_other year_e 1 (sums_of 0 9 0 2)

pub sums_refused : (place_of off_e 0 0 ≡ answered (Err Unsound) off_e)
    × (bar_of off_e 0 0 ≡ answered (Err Unsound) off_e)
    × (raise_low_credits_of off_e 0 1 ≡ answered (Err Unsound) off_e)
    × (lower_high_credits_of off_e 0 1 ≡ answered (Err Unsound) off_e)
    × (raise_low_count_of off_e 0 1 ≡ answered (Err Unsound) off_e)
    × (lower_high_count_of off_e 0 1 ≡ answered (Err Unsound) off_e)
unfolding place_of bar_of computing
sums_refused = (refl, refl, refl, refl, refl, refl)

-- an unsound year is refused first
pub unsound_first : place_of foreign_e 3 0 ≡ answered (Err Unsound) foreign_e
unfolding place_of computing
unsound_first = refl

-- ---- a move of one bound

abbrev pub tight_as : Term → Bool → Bool → Tight
tight_as t a c = record { term = t; altered = a; crossed = c }

-- credits of 2 to 5, a count of 1 to 3
abbrev pub within25 : Term
within25 = term_of 2 5 1 3

pub moves_each : (tightened Low Credits within25 3 ≡ tight_as (term_of 3 5 1 3) true false)
    × (tightened High Credits within25 4 ≡ tight_as (term_of 2 4 1 3) true false)
    × (tightened Low Counts within25 2 ≡ tight_as (term_of 2 5 2 3) true false)
    × (tightened High Counts within25 2 ≡ tight_as (term_of 2 5 1 2) true false)
unfolding computing
moves_each = (refl, refl, refl, refl)

pub never_loosens : (tightened Low Credits within25 1 ≡ tight_as within25 false false)
    × (tightened High Credits within25 6 ≡ tight_as within25 false false)
    × (tightened Low Counts within25 1 ≡ tight_as within25 false false)
    × (tightened High Counts within25 4 ≡ tight_as within25 false false)
unfolding computing
never_loosens = (refl, refl, refl, refl)

-- up to its opposite, and past it
pub crosses_past : (tightened Low Credits within25 5 ≡ tight_as (term_of 5 5 1 3) true false)
    × (tightened Low Credits within25 6 ≡ tight_as (term_of 6 5 1 3) true true)
    × (tightened High Counts within25 1 ≡ tight_as (term_of 2 5 1 1) true false)
    × (tightened High Counts within25 0 ≡ tight_as (term_of 2 5 1 0) true true)
unfolding computing
crosses_past = (refl, refl, refl, refl)

-- ---- bounds

pub raises : raise_low_credits_of year_e 0 4 ≡ answered (Ok tt) (with_term year_e 0 (term_of 4 4 0 3))
unfolding computing
raises = refl

pub lowers : lower_high_count_of year_e 1 0 ≡ answered (Ok tt) (with_term year_e 1 (term_of 0 6 0 0))
unfolding computing
lowers = refl

-- no tighter: done, and nothing altered
pub raises_nothing : raise_low_count_of year_e 0 0 ≡ answered (Ok tt) year_e
unfolding computing
raises_nothing = refl

pub lowers_nothing : lower_high_credits_of year_e 0 4 ≡ answered (Ok tt) year_e
unfolding computing
lowers_nothing = refl

-- a low bound above its high bound
pub crosses : raise_low_credits_of year_e 0 5 ≡ answered (Err Crossing) year_e
unfolding computing
crosses = refl

-- the largest bound of the sizes, which crosses or is no tighter here, and one past it
pub largest_credits : (raise_low_credits_of year_e 0 64000 ≡ answered (Err Crossing) year_e)
    × (lower_high_credits_of year_e 0 64000 ≡ answered (Ok tt) year_e)
unfolding computing
largest_credits = (refl, refl)

pub outside_credits : (raise_low_credits_of year_e 0 64001 ≡ answered (Err Outside) year_e)
    × (lower_high_credits_of year_e 0 64001 ≡ answered (Err Outside) year_e)
unfolding computing
outside_credits = (refl, refl)

pub largest_count : (raise_low_count_of year_e 0 64 ≡ answered (Err Crossing) year_e)
    × (lower_high_count_of year_e 0 64 ≡ answered (Ok tt) year_e)
unfolding computing
largest_count = (refl, refl)

pub outside_count : (raise_low_count_of year_e 0 65 ≡ answered (Err Outside) year_e)
    × (lower_high_count_of year_e 0 65 ≡ answered (Err Outside) year_e)
unfolding computing
outside_count = (refl, refl)

-- of a term that the year lacks, the term is refused first
pub missing_first : raise_low_count_of year_e 2 65 ≡ answered (Err Missing) year_e
unfolding computing
missing_first = refl

-- ---- imbalance

-- a year of terms with the widest bounds; term k has the k-th of some weights, as one course
abbrev in_terms : ℕ → List ℕ → List Course
in_terms k [] = []
in_terms k (w ∷ ws) = course_of w (2 ^ k) ∷ in_terms (suc k) ws

abbrev pub loaded : List ℕ → Year
loaded ws = year_of (replicate (length ws) (at_least 0 0)) (in_terms 0 ws)

-- 64 courses of 1,000 credits in the last of 16 terms
abbrev pub heaped : Year
heaped = year_of (replicate 16 (at_least 0 0)) (replicate 64 (course_of 1000 (2 ^ 15)))

pub record Imbalances : Type 0 where
  pub four_and_five_lem : imbalance_of (loaded (4 ∷ 5 ∷ [])) ≡ Ok 1
  pub three_and_six : imbalance_of (loaded (3 ∷ 6 ∷ [])) ≡ Ok 9
  -- the same heaviest and lightest term, and the same credits in all; the second is ragged between
  pub even_between : imbalance_of (loaded (1 ∷ 5 ∷ 5 ∷ 9 ∷ [])) ≡ Ok 128
  pub ragged_between : imbalance_of (loaded (1 ∷ 9 ∷ 1 ∷ 9 ∷ [])) ≡ Ok 256
  pub equal_loads : imbalance_of (loaded (7 ∷ 7 ∷ 7 ∷ [])) ≡ Ok 0
  pub one_term_lem : imbalance_of (loaded (9 ∷ [])) ≡ Ok 0
  pub no_course : imbalance_of (year_of (at_least 0 0 ∷ at_least 0 0 ∷ []) []) ≡ Ok 0
  pub all_in_one : imbalance_of heaped ≡ Ok (15 * square 64000)

pub imbalances : Imbalances
unfolding imbalance_of one_plan all_placed is_placed all_credits any computing
imbalances = record {
  four_and_five_lem = refl;
  three_and_six = refl;
  even_between = refl;
  ragged_between = refl;
  equal_loads = refl;
  one_term_lem = refl;
  no_course = refl;
  all_in_one = refl;
}

-- courses with several terms, and one placing that is no plan, of courses and of none
pub unsettled : imbalance_of year_e ≡ Err imbalance.Unsettled
unfolding imbalance_of one_plan all_placed is_placed any computing
unsettled = refl

pub no_plan : (imbalance_of crowded_e ≡ Err imbalance.Unsettled) × (imbalance_of (year_of (at_least 1 0 ∷ []) []) ≡ Err imbalance.Unsettled)
unfolding imbalance_of one_plan all_placed is_placed any computing
no_plan = (refl, refl)

pub imbalance_unsound : (imbalance_of foreign_e ≡ Err imbalance.Unsound) × (imbalance_of off_e ≡ Err imbalance.Unsound)
unfolding imbalance_of computing
imbalance_unsound = (refl, refl)

-- ---- plans

-- year E has two: course 0 or course 1 in term 0, and the others in term 1
pub two_plans : (plans_of year_e ≡ (0 ∷ 1 ∷ 1 ∷ []) ∷ (1 ∷ 0 ∷ 1 ∷ []) ∷ []) × (count_of_plans year_e ≡ 2)
unfolding plans_of keep rows behind is_plan sum all
two_plans = (refl, refl)

-- a year with none, and one with no course: its one plan places nothing
pub no_and_one : (count_of_plans crowded_e ≡ 0) × (plans_of empty_year ≡ [] ∷ []) × (count_of_plans empty_year ≡ 1)
unfolding plans_of keep rows behind is_plan sum all
no_and_one = (refl, refl, refl)
