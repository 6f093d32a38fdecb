-- A larger filtering by computation: six terms and eighteen courses around a hidden plan with little slack.
use Rattle.std.specs.Prelude.{List, [], ◌∷◌, ◌≡◌, refl}
use Rattle.year.specs.Year.{term_of, course_of}
use Rattle.year.specs.declared.Course.{Course}
use Rattle.year.specs.declared.Year.{Year}
use Rattle.year.specs.Examples.{year_of}
use Rattle.filter.specs.Filter.{filtered, filter_of}
use Rattle.filter.specs.declared.Answer.TheVariants.{Open}
use Rattle.filter.specs.Computing.{computing}

-- the courses, of which it alters none
abbrev courses : List Course
courses =
    course_of 8 50 ∷ course_of 8 26 ∷ course_of 7 21 ∷ course_of 3 3 ∷ course_of 4 14 ∷ course_of 3 52
    ∷ course_of 7 40 ∷ course_of 1 44 ∷ course_of 2 24 ∷ course_of 3 21 ∷ course_of 1 16 ∷ course_of 5 25
    ∷ course_of 1 14 ∷ course_of 5 37 ∷ course_of 8 20 ∷ course_of 7 34 ∷ course_of 7 34 ∷ course_of 7 52 ∷ []

-- the year, and what filtering makes of it: the counts of terms 0 and 1 are tighter
abbrev given : Year
given = year_of (term_of 7 9 1 3 ∷ term_of 24 26 3 5 ∷ term_of 8 10 1 3 ∷ term_of 7 9 1 3 ∷ term_of 28 30 5 7 ∷ term_of 7 9 1 3
    ∷ []) courses

abbrev gives : Year
gives = year_of (term_of 7 9 1 2 ∷ term_of 24 26 4 5 ∷ term_of 8 10 1 3 ∷ term_of 7 9 1 3 ∷ term_of 28 30 5 7 ∷ term_of 7 9 1 3
    ∷ []) courses

larger : filter_of given ≡ filtered (Open 2) gives
unfolding computing
larger = refl
