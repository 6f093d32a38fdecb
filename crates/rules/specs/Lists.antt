-- Rules 3 and 10: the courses of a term, in rising number.
use Rattle.std.specs.Prelude.{ℕ, ◌+◌, ◌-◌, Bool, ◌||◌, eqb, ltb}
use Rattle.theory.specs.Choice.{choose}
use Rattle.year.specs.Year.{term_at, course_at, is_open, low_count, high_count}
use Rattle.year.specs.Sums.{fixed_credits, possible_credits, fixed_count, open_count}
use Rattle.year.specs.declared.Term.{Term}
use Rattle.year.specs.declared.Course.{Course}
use Rattle.year.specs.declared.Year.{Year}
use Rattle.rules.specs.Step.{live, dead, judged, over_courses, Step}
use Rattle.rules.specs.declared.Verdict.{Verdict}
use Rattle.rules.specs.declared.Verdict.TheVariants.{Stays, Struck, Fixed}

-- ---- rule 3

-- an open course of weight w: if p + w exceeds high credits, strike j from its list;
-- otherwise, if P - w is below low credits, its list becomes j alone
unfoldable pub verdict3 : Course → Term → ℕ → ℕ → ℕ → Verdict
verdict3 c t p P j =
    choose (is_open c j)
    (choose (ltb t.high.0 (p + c.weight.0)) Struck
    (choose (ltb (P - c.weight.0) t.low.0) Fixed
    Stays))
    Stays

-- p and P are read anew for each course
abbrev pub verdict_at3 : Year → ℕ → ℕ → Verdict
verdict_at3 y j i = verdict3 (course_at y i) (term_at y j) (fixed_credits y j) (possible_credits y j) j

unfoldable pub rule3_course : ℕ → Year → ℕ → Step
rule3_course j y i = judged y i j (verdict_at3 y j i)

unfoldable pub rule3 : Year → ℕ → Step
rule3 y j = over_courses (rule3_course j) (live y)

-- ---- rule 10

-- fixed exceeds high count; fixed plus open is below low count
abbrev pub overfull : Year → ℕ → Bool
overfull y j = ltb (high_count y j) (fixed_count y j)

abbrev pub short : Year → ℕ → Bool
short y j = ltb (fixed_count y j + open_count y j) (low_count y j)

-- the term is full: fixed equals high count. It needs all: fixed plus open equals low count
abbrev pub full : Year → ℕ → Bool
full y j = eqb (fixed_count y j) (high_count y j)

abbrev pub needed : Year → ℕ → Bool
needed y j = eqb (fixed_count y j + open_count y j) (low_count y j)

-- strike j from an open course of a full term; otherwise it gets j alone where the term needs all
unfoldable pub verdict10 : Bool → Bool → Course → ℕ → Verdict
verdict10 isFull isNeeded c j = choose (is_open c j) (choose isFull Struck (choose isNeeded Fixed Stays)) Stays

unfoldable pub rule10_course : Bool → Bool → ℕ → Year → ℕ → Step
rule10_course isFull isNeeded j y i = judged y i j (verdict10 isFull isNeeded (course_at y i) j)

-- overfull or short is no plan.
-- What the term is, is read once, before its courses are altered
unfoldable pub rule10 : Year → ℕ → Step
rule10 y j =
    choose (overfull y j || short y j) (dead 10 y)
    (over_courses (rule10_course (full y j) (needed y j) j) (live y))
