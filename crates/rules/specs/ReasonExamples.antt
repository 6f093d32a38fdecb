-- Reasons by themselves, by computation: what each rule does at a place of a small year, and the stretch of facts it rests on.
use Rattle.std.specs.Prelude.{ℕ, List, [], ◌∷◌, ◌≡◌, refl}
use Rattle.year.specs.Year.{term_of, course_of}
use Rattle.year.specs.Examples.{year_of, year_e}
use Rattle.year.specs.declared.Quantity.TheVariants.{Credits, Counts}
use Rattle.year.specs.declared.Side.TheVariants.{Low, High}
use Rattle.year.specs.declared.Year.{Year}
use Rattle.rules.specs.Step.{Change, rests, moves, strikes, fixes, crosses, fails}
use Rattle.rules.specs.Facts.{Fact, inside, outside, keeps}
use Rattle.rules.specs.FactAt.{stretch_of}
use Rattle.rules.specs.Reasons.{Reason, reason14, reason25, reason3, reason10, reason10_course, reason6, reason7, reason8, reason9, reason11, reason12, reason12_course}
use Rattle.rules.specs.Examples.{seven, three, at_a_terms_size, beside, fixed_and_open, both_open}
use Rattle.rules.specs.Computing.{computing}

-- a reason told: its change, and its facts in order
pub record Told : Type 0 where
  pub change : Change
  pub facts : List Fact

abbrev pub told : Year → Reason → Told
told y r = record { change = r.change; facts = stretch_of y r.basis }

infixr 5 ◌by◌
abbrev pub ◌by◌ : Change → List Fact → Told
c by f = record { change = c; facts = f }

-- ---- rules 1 and 4: a course of 4 that is fixed in term 0, one of 3 that is open; two terms of 0 to 9 credits

abbrev pub slack : Year
slack = beside (term_of 0 9 0 2) fixed_and_open

raise_1 : told slack (reason14 Credits Low slack 0) ≡ moves Low Credits 0 4 by inside 0 0 ∷ []
unfolding computing
raise_1 = refl

lower_4 : told slack (reason14 Counts High slack 1) ≡ moves High Counts 1 1 by outside 0 1 ∷ []
unfolding computing
lower_4 = refl

-- no tighter bound is no step
rest_1 : (reason14 Counts High slack 0).change ≡ rests
unfolding computing
rest_1 = refl

-- a term of 0 to 3 credits: what is fixed there crosses its high credits, which are a fact more
abbrev pub tight : Year
tight = beside (term_of 0 3 0 2) fixed_and_open

cross_1 : told tight (reason14 Credits Low tight 0) ≡ crosses Low Credits 0 by inside 0 0 ∷ keeps High Credits 0 3 ∷ []
unfolding computing
cross_1 = refl

-- ---- rules 2 and 5

-- year E: low credits of term 0 are raised to 9 less 6
raise_2 : told year_e (reason25 Credits Low year_e 0) ≡ moves Low Credits 0 3 by keeps High Credits 1 6 ∷ []
unfolding computing
raise_2 = refl

-- of 7 credits term 0 takes 7 less 5 at most; and 7 less 8 is negative, which adds no bound of its own
lower_2 : let y = beside (term_of 5 9 0 2) both_open in
    told y (reason25 Credits High y 1) ≡ moves High Credits 1 2 by keeps Low Credits 0 5 ∷ []
unfolding computing
lower_2 = refl

negative_2 : let y = beside (term_of 8 9 0 2) both_open in told y (reason25 Credits High y 1) ≡ fails by keeps Low Credits 0 8 ∷ []
unfolding computing
negative_2 = refl

-- two courses, and term 1 has room for none: term 0 needs both, and takes one
cross_5 : let y = year_of (term_of 0 9 0 1 ∷ term_of 0 9 0 0 ∷ []) both_open in
    told y (reason25 Counts Low y 0) ≡ crosses Low Counts 0 by keeps High Counts 0 1 ∷ keeps High Counts 1 0 ∷ []
unfolding computing
cross_5 = refl

-- with one term there is no other: the stretch is empty
alone_2 : let y = year_of (term_of 0 9 0 2 ∷ []) (course_of 4 1 ∷ []) in told y (reason25 Credits Low y 0) ≡ moves Low Credits 0 4 by []
unfolding computing
alone_2 = refl

-- ---- rules 3 and 10

strike_3 : let y = beside (term_of 0 5 0 2) fixed_and_open in told y (reason3 y 0 1) ≡ strikes 1 0 by inside 0 0
    ∷ keeps High Credits 0 5 ∷ []
unfolding computing
strike_3 = refl

fix_3 : let y = beside (term_of 4 9 0 3) (course_of 4 3 ∷ course_of 3 3 ∷ course_of 2 2 ∷ []) in
    told y (reason3 y 0 0) ≡ fixes 0 0 by outside 2 0 ∷ keeps Low Credits 0 4 ∷ []
unfolding computing
fix_3 = refl

strike_10 : let y = beside (term_of 0 9 0 1) fixed_and_open in
    told y (reason10_course y 0 1) ≡ strikes 1 0 by inside 0 0 ∷ keeps High Counts 0 1 ∷ []
unfolding computing
strike_10 = refl

fix_10 : let y = beside (term_of 0 9 2 3) (course_of 4 3 ∷ course_of 3 3 ∷ course_of 2 2 ∷ []) in
    told y (reason10_course y 0 1) ≡ fixes 1 0 by outside 2 0 ∷ keeps Low Counts 0 2 ∷ []
unfolding computing
fix_10 = refl

overfull_10 : let y = beside (term_of 0 9 0 0) fixed_and_open in told y (reason10 y 0) ≡ fails by inside 0 0 ∷ keeps High Counts 0 0 ∷ []
unfolding computing
overfull_10 = refl

short_10 : let y = beside (term_of 0 9 2 2) (course_of 4 3 ∷ course_of 3 2 ∷ []) in
    told y (reason10 y 0) ≡ fails by outside 1 0 ∷ keeps Low Counts 0 2 ∷ []
unfolding computing
short_10 = refl

-- ---- rules 6 to 9

-- row 7 of the paper's table: every unlisted pair, the low counts of terms 1 and 2, and low credits of term 0, which the walk is to reach
least_6 : told seven (reason6 seven 0)
    ≡ moves Low Counts 0 3
    by outside 0 2
    ∷ outside 1 2
    ∷ outside 2 2
    ∷ outside 3 1
    ∷ outside 4 1
    ∷ keeps Low Credits 0 5
    ∷ keeps Low Counts 1 2
    ∷ keeps Low Counts 2 0
    ∷ []
unfolding computing
least_6 = refl

most_7 : let y = beside (term_of 0 6 0 2) both_open in
    told y (reason7 y 0) ≡ moves High Counts 0 1 by keeps High Credits 0 6 ∷ keeps Low Counts 1 0 ∷ []
unfolding computing
most_7 = refl

-- the own low count is the bound used, beside the other terms'
least_8 : let y = beside (term_of 0 9 1 2) both_open in
    told y (reason8 y 0) ≡ moves Low Credits 0 3 by keeps Low Counts 0 1 ∷ keeps Low Counts 1 0 ∷ []
unfolding computing
least_8 = refl

most_9 : let y = beside (term_of 0 9 0 1) both_open in
    told y (reason9 y 0) ≡ moves High Credits 0 4 by keeps High Counts 0 1 ∷ keeps Low Counts 1 0 ∷ []
unfolding computing
most_9 = refl

-- the heaviest of the two, 4, does not make 8 credits, and both make 7
short_6 : let y = beside (term_of 8 9 0 2) both_open in told y (reason6 y 0) ≡ fails by keeps Low Credits 0 8 ∷ keeps Low Counts 1 0 ∷ []
unfolding computing
short_6 = refl

-- 7 credits take two courses, and one is the most: the high count is a fact more
cross_6 : let y = beside (term_of 7 9 0 1) both_open in
    told y (reason6 y 0) ≡ crosses Low Counts 0 by keeps Low Credits 0 7 ∷ keeps High Counts 0 1 ∷ keeps Low Counts 1 0 ∷ []
unfolding computing
cross_6 = refl

-- ---- rule 11

packs_11 : told (three 6) (reason11 (three 6)) ≡ fails by keeps High Credits 0 10 ∷ keeps High Credits 1 10 ∷ []
unfolding computing
packs_11 = refl

fixed_11 : told at_a_terms_size (reason11 at_a_terms_size)
    ≡ fails by inside 0 0 ∷ keeps High Credits 0 10 ∷ keeps High Credits 1 10 ∷ keeps High Credits 2 10 ∷ []
unfolding computing
fixed_11 = refl

-- ---- rule 12: term 0 has a course of 3 fixed, one of 4 does not list it, and of a 1 and a 2 that do one is needed, or the other

abbrev pub between : ℕ → Year
between n = year_of (term_of n n 0 9 ∷ term_of 0 9 0 9 ∷ []) (course_of 3 1 ∷ course_of 4 2 ∷ course_of 1 3 ∷ course_of 2 3 ∷ [])

strike_12 :
    told (between 5) (reason12_course (between 5) 0 2)
    ≡ strikes 2 0 by inside 0 0 ∷ outside 1 0 ∷ keeps Low Credits 0 5 ∷ keeps High Credits 0 5 ∷ []
unfolding computing
strike_12 = refl

fix_12 :
    told (between 4) (reason12_course (between 4) 0 2)
    ≡ fixes 2 0 by inside 0 0 ∷ outside 1 0 ∷ keeps Low Credits 0 4 ∷ keeps High Credits 0 4 ∷ []
unfolding computing
fix_12 = refl

-- with a 2 alone there is no 4
none_12 : let y = year_of (term_of 4 4 0 9 ∷ term_of 0 9 0 9 ∷ []) (course_of 3 1 ∷ course_of 4 2 ∷ course_of 2 3 ∷ []) in
    told y (reason12 y 0) ≡ fails by inside 0 0 ∷ outside 1 0 ∷ keeps Low Credits 0 4 ∷ keeps High Credits 0 4 ∷ []
unfolding computing
none_12 = refl
