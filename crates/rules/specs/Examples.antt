-- Rules by themselves, by computation: rows 6 to 9 of the paper's table, each rule at a small term, and the paper's traps at the
-- rule they are about.
use Rattle.std.specs.Prelude.{ℕ, ◌+◌, ◌/◌, Bool, true, false, List, [], ◌∷◌, ◌≡◌, refl}
use Rattle.year.specs.Year.{term_of, course_of, term_at, list}
use Rattle.theory.specs.Largest.{largest}
use Rattle.theory.specs.Tests.{any}
use Rattle.year.specs.Examples.{year_of, at_least}
use Rattle.year.specs.declared.Term.{Term}
use Rattle.year.specs.declared.Course.{Course}
use Rattle.year.specs.declared.Year.{Year}
use Rattle.rules.specs.Step.{Step}
use Rattle.rules.specs.Bounds.{rule1, rule2, rule4, rule5}
use Rattle.rules.specs.Lists.{rule3, rule10}
use Rattle.rules.specs.Spares.{rule6, rule7, rule8, rule9}
use Rattle.rules.specs.Packing.{room, shares, rounded_up, bursts}
use Rattle.rules.specs.Thresholds.{course_tried, term_tried, rule11_at_sizes}
use Rattle.rules.specs.Round.{round}
use Rattle.rules.specs.Computing.{computing}

-- ---- rows 6 and 7: least counts

-- fixed 3 and 7, open 3, 3, 4, 5, 7, low credits 20, nothing blocked
abbrev pub six : Year
six =
    year_of (at_least 20 0 ∷ at_least 0 0 ∷ [])
    (course_of 3 1 ∷ course_of 7 1 ∷ course_of 3 3 ∷ course_of 3 3 ∷ course_of 4 3 ∷ course_of 5 3 ∷ course_of 7 3 ∷ [])

-- low credits 5, open 3, 3, 3, 1, 1; another term lists the three 3s, low count 2; a third lists the two 1s
abbrev pub seven : Year
seven =
    year_of (at_least 5 0 ∷ at_least 0 2 ∷ at_least 0 0 ∷ [])
    (course_of 3 3 ∷ course_of 3 3 ∷ course_of 3 3 ∷ course_of 1 5 ∷ course_of 1 5 ∷ [])

-- term 0 after a rule, and the least count that rule 6 gives it
abbrev pub first_after : (Year → ℕ → Step) → Year → Term
first_after rule y = term_at (rule y 0).year 0

abbrev pub count_by6 : Year → ℕ
count_by6 y = (first_after rule6 y).least.0

row6 : count_by6 six ≡ 4
unfolding computing
row6 = refl

row7 : count_by6 seven ≡ 3
unfolding computing
row7 = refl

-- ---- rows 8 and 9: the largest rounded quotient

-- three courses of a weight, in two empty terms of 0 to 10 credits
abbrev pub three : ℕ → Year
three w = year_of (term_of 0 10 0 64 ∷ term_of 0 10 0 64 ∷ []) (course_of w 3 ∷ course_of w 3 ∷ course_of w 3 ∷ [])

abbrev pub largest_quotient : Year → ℕ
largest_quotient y = largest (room y / 2 + 1) (λ t. rounded_up (shares y (room y) t) (room y))

row8 : largest_quotient (three 6) ≡ 3
unfolding computing
row8 = refl

row9 : largest_quotient (three 5) ≡ 2
unfolding computing
row9 = refl

-- ---- rule 11 at the sizes that occur (request A2). Which of them exceed: a course's, a term's, c/2. The first three years are
-- those of docs/RULES.md

abbrev pub exceeding : Year → List Bool
exceeding y = any y.courses (course_tried y (room y)) ∷ any y.terms (term_tried y (room y)) ∷ bursts y (room y) (room y / 2) ∷ []

-- sizes 5, 3, 2, 2 and 0, 0, c = 6: at 2 they count for 13, and terms times c are 12
abbrev pub at_a_size : Year
at_a_size = year_of (term_of 6 6 2 2 ∷ term_of 6 6 2 2 ∷ []) (course_of 5 3 ∷ course_of 3 3 ∷ course_of 2 3 ∷ course_of 2 3 ∷ [])

at_a_size_lem : exceeding at_a_size ≡ true ∷ false ∷ false ∷ []
unfolding computing
at_a_size_lem = refl

-- sizes 6, 5, 5, 1 and 1, 0, c = 9: at 0 and 1 they count for 18, which is terms times c; at 4, which is no size, for 19
abbrev pub at_half : Year
at_half = year_of (term_of 8 8 2 2 ∷ term_of 9 9 2 2 ∷ []) (course_of 6 3 ∷ course_of 5 3 ∷ course_of 5 3 ∷ course_of 1 3 ∷ [])

at_half_lem : exceeding at_half ≡ false ∷ false ∷ true ∷ []
unfolding computing
at_half_lem = refl

-- sizes 8, 8, 4, 4, 1 and 3, 0, 0, c = 10: at 3, a term's size, they count for 31, and terms times c are 30
abbrev pub at_a_terms_size : Year
at_a_terms_size =
    year_of (term_of 8 10 3 3 ∷ term_of 8 10 1 2 ∷ term_of 8 10 1 2 ∷ [])
    (course_of 3 1 ∷ course_of 8 6 ∷ course_of 8 6 ∷ course_of 4 7 ∷ course_of 4 7 ∷ course_of 1 7 ∷ [])

at_a_terms_size_lem : exceeding at_a_terms_size ≡ false ∷ true ∷ false ∷ []
unfolding computing
at_a_terms_size_lem = refl

-- sizes 2, 2, 2, 4 and 0, 0, c = 5: at 2 they count for 11 and terms times c are 10; were a size at t to count 0, for 5
abbrev pub at_its_own_size : Year
at_its_own_size = year_of (term_of 0 5 0 2 ∷ term_of 0 5 0 2 ∷ []) (course_of 2 3 ∷ course_of 2 3 ∷ course_of 2 3 ∷ course_of 4 3 ∷ [])

at_its_own_size_lem : exceeding at_its_own_size ≡ true ∷ false ∷ true ∷ []
unfolding computing
at_its_own_size_lem = refl

-- sizes 1 and 2, 1, 1, c = 2: a size above c/2 is not tried; at 2 they would count for 8, and terms times c are 6
abbrev pub above_half : Year
above_half = year_of (term_of 0 0 0 0 ∷ term_of 0 1 0 1 ∷ term_of 0 2 0 2 ∷ []) (course_of 1 4 ∷ course_of 1 6 ∷ [])

above_half_lem : exceeding above_half ≡ false ∷ false ∷ false ∷ []
unfolding computing
above_half_lem = refl

-- what the rule answers by them
at_sizes : (rule11_at_sizes at_half).rule ∷ (rule11_at_sizes at_a_terms_size).rule ∷ (rule11_at_sizes above_half).rule ∷ [] ≡ 11
    ∷ 11 ∷ 0 ∷ []
unfolding computing
at_sizes = refl

-- ---- each rule at term 0 of a small year: what a version that is off by a little would not give

-- two terms of 0 to 9 credits, the first with other bounds, and the courses of the year
abbrev pub beside : Term → List Course → Year
beside t cs = year_of (t ∷ term_of 0 9 0 2 ∷ []) cs

-- a course of 4 credits that is fixed in term 0 and one of 3 that is open; and both open
abbrev pub fixed_and_open : List Course
fixed_and_open = course_of 4 1 ∷ course_of 3 3 ∷ []

abbrev pub both_open : List Course
both_open = course_of 4 3 ∷ course_of 3 3 ∷ []

-- low credits are raised to what is fixed, not to what is possible; and so the low count
own_1 : (first_after rule1 (beside (term_of 0 9 0 2) fixed_and_open)).low.0 ≡ 4
unfolding computing
own_1 = refl

own_4 : (first_after rule4 (beside (term_of 0 9 0 2) fixed_and_open)).least.0 ≡ 1
unfolding computing
own_4 = refl

-- low credits by the others' high credits, the high count by the others' low count
others_2 : (first_after rule2 (year_of (term_of 0 9 0 2 ∷ term_of 0 5 0 2 ∷ []) both_open)).low.0 ≡ 2
unfolding computing
others_2 = refl

others_5 : (first_after rule5 (year_of (term_of 0 9 0 2 ∷ term_of 0 9 1 2 ∷ []) both_open)).most.0 ≡ 1
unfolding computing
others_5 = refl

-- a course that just fits stays on the list, and is counted
fits_3 : list (rule3 (beside (term_of 0 4 0 2) (course_of 4 3 ∷ [])) 0).year 0 ≡ 3
unfolding computing
fits_3 = refl

fits_7 : (first_after rule7 (beside (term_of 0 4 0 2) (course_of 4 3 ∷ []))).most.0 ≡ 1
unfolding computing
fits_7 = refl

-- the least load has the lightest course; the most load as many as the high count lets in
load_8 : (first_after rule8 (beside (term_of 0 9 1 2) both_open)).low.0 ≡ 3
unfolding computing
load_8 = refl

load_9 : (first_after rule9 (beside (term_of 0 9 0 1) both_open)).high.0 ≡ 4
unfolding computing
load_9 = refl

-- a term needs all that list it, the fixed ones counted
needs_10 : list (rule10 (beside (term_of 0 9 2 2) fixed_and_open) 0).year 1 ≡ 1
unfolding computing
needs_10 = refl

-- what is fixed in another term is not taken from what it can spare
spares_6 : count_by6 (year_of (at_least 3 0 ∷ at_least 0 1 ∷ []) (course_of 3 3 ∷ course_of 2 2 ∷ [])) ≡ 1
unfolding computing
spares_6 = refl

-- ---- traps; that a course charges every other term that lists it is row 7

-- rule 4 comes before the walks: with rule 6 in its place this year would be refused under rule 6
in_order_lem : (round (year_of (term_of 0 1 0 0 ∷ []) (course_of 1 1 ∷ []))).rule ≡ 4
unfolding computing
in_order_lem = refl

-- rule 3 on courses of 4 and 3, credits 4 to 5: the first is fixed, and with the p that follows the second is struck
early : list (rule3 (year_of (term_of 4 5 0 2 ∷ term_of 0 9 0 2 ∷ []) (course_of 4 3 ∷ course_of 3 3 ∷ [])) 0).year 1 ≡ 2
unfolding computing
early = refl

-- rule 7 passes a course that term 1 cannot spare and counts the one behind it
skips : (first_after rule7 (year_of (term_of 0 4 0 3 ∷ term_of 0 9 1 3 ∷ term_of 0 9 0 3 ∷ []) (course_of 1 3 ∷ course_of 2 5
    ∷ []))).most.0 ≡ 1
unfolding computing
skips = refl
