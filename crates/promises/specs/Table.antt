-- The paper's proved table: twelve rows, one statement. Rows 6 to 9 are at the rule's own function.
use Rattle.std.specs.Prelude.{ℕ, zero, suc, List, [], ◌∷◌, ◌++◌, ◌≡◌, replicate}
use Rattle.theory.specs.Choice.{choose}
use Rattle.year.specs.Year.{term_of, course_of, low_credits, high_credits, low_count, high_count, weight, list}
use Rattle.year.specs.Narrow.{bar_of}
use Rattle.year.specs.Imbalance.{imbalance_of}
use Rattle.year.specs.Numbers.{narrowing_number, imbalance_number, imbalance_value}
use Rattle.year.specs.Examples.{year_of, year_e}
use Rattle.year.specs.declared.Year.{Year}
use Rattle.records.specs.Numbers.{reading_number}
use Rattle.records.specs.Reading.{read_list}
use Rattle.rules.specs.Examples.{six, seven, three, count_by6, largest_quotient}
use Rattle.filter.specs.Filter.{filter_of}
use Rattle.filter.specs.Numbers.{filter_number, filter_rule, filter_rounds, is_settled}
use Rattle.filter.specs.declared.Filtered.{Filtered}

-- ---- a filtering's answer and year as a row of numbers

-- the bounds of the terms below k, and the weight and list of the courses below i
abbrev pub terms_to : Year → ℕ → List ℕ
terms_to y zero = []
terms_to y (suc k) = terms_to y k ++ low_credits y k ∷ high_credits y k ∷ low_count y k ∷ high_count y k ∷ []

abbrev pub courses_to : Year → ℕ → List ℕ
courses_to y zero = []
courses_to y (suc i) = courses_to y i ++ weight y i ∷ list y i ∷ []

-- the paper's number, 1 for settled, the rule, the rounds; then all terms; then all courses
abbrev pub numbers_of : Filtered → List ℕ
numbers_of r =
    filter_number r.answer ∷ choose (is_settled r.answer) 1 0 ∷ filter_rule r.answer ∷ filter_rounds r.answer ∷ []
    ++ terms_to r.year r.year.terms
    ++ courses_to r.year r.year.courses

-- ---- row 10: a weight that is read or refused

-- a term record of credits 0 to 1,000 and count 0 to 1, and a course of weight 256 * a + b in it
abbrev pub list_of_weight : ℕ → ℕ → List ℕ
list_of_weight a b =
    84 ∷ 0 ∷ 0 ∷ 0 ∷ 3 ∷ 232 ∷ 0 ∷ 0 ∷ 0 ∷ 1 ∷ replicate 6 0
    ++ 67 ∷ 0 ∷ a ∷ b ∷ 0 ∷ 1 ∷ replicate 10 0

abbrev pub number_of_weight : ℕ → ℕ → ℕ
number_of_weight a b = reading_number (read_list (list_of_weight a b))

-- ---- the years of rows 11 and 12

-- course 0 lists term 0 alone, of two terms
abbrev pub one_term_listed : Year
one_term_listed = year_of (term_of 0 10 0 5 ∷ term_of 0 10 0 5 ∷ []) (course_of 5 1 ∷ [])

-- 4 credits in term 0, 5 in term 1
abbrev pub four_and_five : Year
four_and_five = year_of (term_of 0 10 0 5 ∷ term_of 0 10 0 5 ∷ []) (course_of 4 1 ∷ course_of 5 2 ∷ [])

-- ---- the table

-- what the definitions give, and what the paper's row says
pub record Row : Type 0 where
  pub computed : List ℕ
  pub paper : List ℕ

abbrev pub row : List ℕ → List ℕ → Row
row c p = record { computed = c; paper = p }

abbrev pub table : List Row
table =
    -- 1. year E: open, 2 rounds
    row (numbers_of (filter_of year_e)) (0 ∷ 0 ∷ 0 ∷ 2 ∷ 3 ∷ 4 ∷ 1 ∷ 1 ∷ 5 ∷ 6 ∷ 2 ∷ 2 ∷ 4 ∷ 3 ∷ 3 ∷ 3 ∷ 2 ∷ 2 ∷ [])
    -- 2. one term 0-10, count 0-5, no course: settled, 2 rounds
    ∷ row (numbers_of (filter_of (year_of (term_of 0 10 0 5 ∷ []) []))) (0 ∷ 1 ∷ 0 ∷ 2 ∷ 0 ∷ 0 ∷ 0 ∷ 0 ∷ [])
    -- 3. one term 0-0, count 0-0, no course: settled, 1 round
    ∷ row (numbers_of (filter_of (year_of (term_of 0 0 0 0 ∷ []) []))) (0 ∷ 1 ∷ 0 ∷ 1 ∷ 0 ∷ 0 ∷ 0 ∷ 0 ∷ [])
    -- 4. one course of 5, one term 0-4, count 0-1: no plan, rule 1, round 1
    ∷ row (numbers_of (filter_of (year_of (term_of 0 4 0 1 ∷ []) (course_of 5 1 ∷ [])))) (13 ∷ 0 ∷ 1 ∷ 1 ∷ 0 ∷ 4 ∷ 0 ∷ 1 ∷ 5 ∷ 1 ∷ [])
    -- 5. the same with 0-5: settled, 2 rounds
    ∷ row (numbers_of (filter_of (year_of (term_of 0 5 0 1 ∷ []) (course_of 5 1 ∷ [])))) (0 ∷ 1 ∷ 0 ∷ 2 ∷ 5 ∷ 5 ∷ 1 ∷ 1 ∷ 5 ∷ 1 ∷ [])
    -- 6 and 7. least counts
    ∷ row (count_by6 six ∷ []) (4 ∷ [])
    ∷ row (count_by6 seven ∷ []) (3 ∷ [])
    -- 8 and 9. largest rounded quotients
    ∷ row (largest_quotient (three 6) ∷ []) (3 ∷ [])
    ∷ row (largest_quotient (three 5) ∷ []) (2 ∷ [])
    -- 10. weight 0 and 1,001 refused by 4; 1 and 1,000 read
    ∷ row (number_of_weight 0 0 ∷ number_of_weight 3 233 ∷ number_of_weight 0 1 ∷ number_of_weight 3 232 ∷ []) (4 ∷ 4 ∷ 0 ∷ 0 ∷ [])
    -- 11. barring a last term: 12; barring an unlisted term: done
    ∷ row (narrowing_number (bar_of one_term_listed 0 0).answer ∷ narrowing_number (bar_of one_term_listed 0 1).answer ∷ []) (12 ∷ 0 ∷ [])
    -- 12. settled credits 4 and 5: imbalance 1
    ∷ row (imbalance_number (imbalance_of four_and_five) ∷ imbalance_value (imbalance_of four_and_five) ∷ []) (0 ∷ 1 ∷ [])
    ∷ []

abbrev pub AllHold : List Row → Type 0
AllHold [] = Unit {0}
AllHold (r ∷ rs) = (r.computed ≡ r.paper) × AllHold rs

abbrev pub TableHolds : Type 0
TableHolds = AllHold table
