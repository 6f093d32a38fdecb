-- A year's parts by the paper's names. A course is an entry of each of two columns, of weights and of lists.
use Rattle.std.specs.Prelude.{ℕ, ◌^◌, Bool, ◌&&◌, not, List, eqb, get_or}
use Rattle.theory.specs.Bits.{has}
use Rattle.year.specs.declared.Term.{Term}
use Rattle.year.specs.declared.Course.{Course}
use Rattle.year.specs.declared.Year.{Year}

-- ---- terms and courses

abbrev pub term_of : ℕ → ℕ → ℕ → ℕ → Term
term_of a b c d = record { low = record { 0 = a }; high = record { 0 = b }; least = record { 0 = c }; most = record { 0 = d } }

abbrev pub course_of : ℕ → ℕ → Course
course_of w l = record { weight = record { 0 = w }; list = l }

abbrev pub zero_term : Term
zero_term = term_of 0 0 0 0

abbrev pub zero_course : Course
zero_course = course_of 0 0

-- ---- a year's entries

abbrev pub term_at : Year → ℕ → Term
term_at y j = get_or y.term j zero_term

-- course i of a column of weights and one of lists, and of a year
abbrev pub course_in : List ℕ → List ℕ → ℕ → Course
course_in w l i = course_of (get_or w i 0) (get_or l i 0)

abbrev pub course_at : Year → ℕ → Course
course_at y i = course_in y.weight y.list i

abbrev pub low_credits : Year → ℕ → ℕ
low_credits y j = (term_at y j).low.0

abbrev pub high_credits : Year → ℕ → ℕ
high_credits y j = (term_at y j).high.0

abbrev pub low_count : Year → ℕ → ℕ
low_count y j = (term_at y j).least.0

abbrev pub high_count : Year → ℕ → ℕ
high_count y j = (term_at y j).most.0

abbrev pub weight : Year → ℕ → ℕ
weight y i = get_or y.weight i 0

abbrev pub list : Year → ℕ → ℕ
list y i = get_or y.list i 0

-- ---- a course and a term

-- the course's list names term j
abbrev pub lists : Course → ℕ → Bool
lists c j = has c.list j

-- its list is j alone
abbrev pub is_fixed : Course → ℕ → Bool
is_fixed c j = eqb c.list (2 ^ j)

-- it lists j and some other term
abbrev pub is_open : Course → ℕ → Bool
is_open c j = lists c j && not (is_fixed c j)
