-- When a year value is sound, as the paper's 'Sizes' ends it: a test clause by clause, and the same as a record of named facts.
use Rattle.std.specs.Prelude.{ℕ, ◌/◌, ◌^◌, ◌≤◌, ◌<◌, Bool, ◌&&◌, ◌≡◌, length, eqb, leb, ltb}
use Rattle.theory.specs.Choice.{choose}
use Rattle.theory.specs.Tab.{tab}
use Rattle.theory.specs.Tests.{all}
use Rattle.year.specs.Year.{term_at, course_at, zero_term, zero_course}
use Rattle.year.specs.Sums.{sums_at, sums_in}
use Rattle.year.specs.declared.Term.{Term}
use Rattle.year.specs.declared.Course.{Course}
use Rattle.year.specs.declared.Sums.{Sums}
use Rattle.year.specs.declared.Year.{Year}

-- ---- the test

-- bounds within the sizes, each low bound at most its high bound
abbrev pub term_sound : Term → Bool
term_sound t =
    leb t.low.0 t.high.0 && leb t.high.0 64000 && leb t.least.0 t.most.0 && leb t.most.0 64

-- a weight within the sizes; at least one term listed, and only terms that the year has
abbrev pub course_sound : Course → ℕ → Bool
course_sound c terms = leb 1 c.weight.0 && leb c.weight.0 1000 && leb 1 c.list && eqb (c.list / 2 ^ terms) 0

abbrev pub term_blank : Term → Bool
term_blank t = eqb t.low.0 0 && eqb t.high.0 0 && eqb t.least.0 0 && eqb t.most.0 0

abbrev pub course_blank : Course → Bool
course_blank c = eqb c.weight.0 0 && eqb c.list 0

-- an entry of the year is within the sizes; one past the last is zero
abbrev pub term_good : Year → ℕ → Bool
term_good y j = choose (ltb j y.terms) (term_sound (term_at y j)) (term_blank (term_at y j))

abbrev pub course_good : Year → ℕ → Bool
course_good y i = choose (ltb i y.courses) (course_sound (course_at y i) y.terms) (course_blank (course_at y i))

-- the arrays of terms, weights and lists have their lengths, as each array of the program has
abbrev pub shaped : Year → Bool
shaped y = eqb (length y.term) 16 && eqb (length y.weight) 64 && eqb (length y.list) 64

-- all but the sums
unfoldable pub sound_but_sums : Year → Bool
sound_but_sums y =
    leb 1 y.terms && leb y.terms 16 && leb y.courses 64 && shaped y && all 16 (term_good y) && all 64 (course_good y)

abbrev pub sums_same : Sums → Sums → Bool
sums_same a b =
    eqb a.fixed.0 b.fixed.0
    && eqb a.possible.0 b.possible.0
    && eqb a.placed.0 b.placed.0
    && eqb a.free.0 b.free.0

-- the four sums that the year carries for entry j are those over its lists; past the last term these are 0
abbrev pub sums_good : Year → ℕ → Bool
sums_good y j = sums_same (sums_in y.sums j) (sums_at y j)

unfoldable pub is_sound : Year → Bool
is_sound y = sound_but_sums y && eqb (length y.sums) 16 && all 16 (sums_good y)

-- ---- the facts

pub record TermSound (t : Term) : Type 0 where
  pub credits_ordered : t.low.0 ≤ t.high.0
  pub credits_most : t.high.0 ≤ 64000
  pub count_ordered : t.least.0 ≤ t.most.0
  pub count_most : t.most.0 ≤ 64

pub record CourseSound (c : Course) (terms : ℕ) : Type 0 where
  pub weight_least : 1 ≤ c.weight.0
  pub weight_most : c.weight.0 ≤ 1000
  pub list_some : 1 ≤ c.list
  pub list_within : c.list < 2 ^ terms

pub record Sound (y : Year) : Type 0 where
  pub terms_least : 1 ≤ y.terms
  pub terms_most : y.terms ≤ 16
  pub courses_most : y.courses ≤ 64
  pub term_length : length y.term ≡ 16
  pub weight_length : length y.weight ≡ 64
  pub list_length : length y.list ≡ 64
  pub term_sound : (j : ℕ) → j < y.terms → TermSound (term_at y j)
  pub course_sound : (i : ℕ) → i < y.courses → CourseSound (course_at y i) y.terms
  pub term_blank : (j : ℕ) → y.terms ≤ j → j < 16 → term_at y j ≡ zero_term
  pub course_blank : (i : ℕ) → y.courses ≤ i → i < 64 → course_at y i ≡ zero_course
  pub sums_kept : y.sums ≡ tab 16 (sums_at y)
