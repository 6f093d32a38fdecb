-- The loop's invariant: the first i courses have had their verdicts, and the bounds are those at the start.
use mathlib.Core.Path.{◌≡◌}
use Rattle.rules.specs.Step.{over_to}
use Rattle.frame.specs.State.{step_in}
use Rattle.lists.specs.TermVerdict.{course_judged}
use Rattle.lists.proofs.courses.each_course.Given as goal

abbrev pub invariant-loop-i : goal.invariant-loop-i
invariant-loop-i l = record {
  step : step_in l.s ≡ over_to (course_judged l.whole l.j) (step_in l.fn.s) l.i;
  term : l.s.term ≡ l.fn.s.term;
}
