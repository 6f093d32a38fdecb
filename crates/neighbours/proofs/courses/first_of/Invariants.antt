-- The loop's invariant: no course from `start` on and before this one has a verdict.
use Rattle.frame.specs.State.{year_in}
use Rattle.neighbours.specs.Verdicts.{NoneFrom}
use Rattle.neighbours.proofs.courses.first_of.Given as goal

abbrev pub invariant-loop-course : goal.invariant-loop-course
invariant-loop-course l = NoneFrom (year_in l.s) l.j l.range.least.0 l.range.most.0 l.start l.course
