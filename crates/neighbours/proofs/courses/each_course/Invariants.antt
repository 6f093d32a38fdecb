-- The loop's invariant: the step in hand after the first `start` courses.
use Prim.Native.Nat.{◌-◌, ◌≤◌}
use mathlib.Core.Path.{◌≡◌}
use Rattle.rules.specs.Step.{live, joined, over_to}
use Rattle.rules.specs.Neighbours.{rule12_course}
use Rattle.frame.specs.State.{year_in, step_in}
use Rattle.neighbours.proofs.courses.each_course.Given as goal

abbrev pub invariant-loop-start : goal.invariant-loop-start
invariant-loop-start l = (l.start ≤ l.fn.s.courses) × (step_in l.s ≡ joined (step_in l.fn.s) (over_to (rule12_course l.j) (live (year_in l.fn.s)) l.start))

abbrev pub decreases-loop-start : goal.decreases-loop-start
decreases-loop-start l = l.fn.s.courses - l.start
