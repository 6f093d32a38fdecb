-- What rules 3 and 10 say of a whole term, and what that makes of its courses.
use Rattle.std.specs.Prelude.{ℕ, ◌+◌, true, false, ◌&&◌, ◌||◌, eqb, leb, ltb, Option, Some, None, Result, Ok, Err}
use Rattle.theory.specs.Choice.{choose}
use Rattle.year.specs.Year.{term_at, course_at}
use Rattle.year.specs.Sums.{fixed_credits, possible_credits}
use Rattle.year.specs.declared.Course.{Course}
use Rattle.year.specs.declared.Sums.{Sums}
use Rattle.year.specs.declared.Term.{Term}
use Rattle.year.specs.declared.Year.{Year}
use Rattle.rules.specs.Step.{live, dead, judged, over_courses, Step}
use Rattle.rules.specs.Lists.{verdict3, verdict10}
use Rattle.rules.specs.RuleNumbers.{rule_number}
use Rattle.rules.specs.declared.Rule.{Rule}
use Rattle.rules.specs.declared.Rule.TheVariants.{CourseCounts}
use Rattle.rules.specs.declared.Verdict.{Verdict}
use Rattle.lists.specs.declared.TermVerdict.{TermVerdict}
use Rattle.lists.specs.declared.TermVerdict.TheVariants.{ByCredits, Full, NeedsAll}

-- ---- what a rule says of a term, from its bounds and its sums; nothing, as no course has a verdict, is None

-- rule 3: no open course weighs more than heaviest. With room for that, and enough without it, none has a verdict
abbrev pub term_verdict3 : Term → Sums → ℕ → Option TermVerdict
term_verdict3 t u heaviest =
    choose (leb (u.fixed.0 + heaviest) t.high.0 && leb (t.low.0 + heaviest) u.possible.0) None (Some ByCredits)

-- rule 10: where no course is open none has a verdict
abbrev pub term_verdict10 : Term → Sums → Result (Option TermVerdict) Rule
term_verdict10 t u =
    choose (ltb t.most.0 u.placed.0 || ltb (u.placed.0 + u.free.0) t.least.0) (Err CourseCounts)
    (choose (eqb u.free.0 0) (Ok None)
    (choose (eqb u.placed.0 t.most.0) (Ok (Some Full))
    (Ok (choose (eqb (u.placed.0 + u.free.0) t.least.0) (Some NeedsAll) None))))

-- ---- what that makes of its courses

-- the verdict on a course of term j, with p and P as they are when it is come to
abbrev pub course_verdict : TermVerdict → Course → Term → ℕ → ℕ → ℕ → Verdict
course_verdict ByCredits c t p P j = verdict3 c t p P j
course_verdict Full c t p P j = verdict10 true false c j
course_verdict NeedsAll c t p P j = verdict10 false true c j

-- a course of term j under it, with p and P read anew
unfoldable pub course_judged : TermVerdict → ℕ → Year → ℕ → Step
course_judged w j y i = judged y i j (course_verdict w (course_at y i) (term_at y j) (fixed_credits y j) (possible_credits y j) j)

-- the whole term under it
abbrev pub term_judged : Result (Option TermVerdict) Rule → Year → ℕ → Step
term_judged (Err r) y j = dead (rule_number r) y
term_judged (Ok None) y j = live y
term_judged (Ok (Some w)) y j = over_courses (course_judged w j) (live y)
