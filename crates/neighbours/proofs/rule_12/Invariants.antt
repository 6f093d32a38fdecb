-- The loop's invariant: the step in hand after the first j terms.
use mathlib.Core.Path.{◌≡◌}
use Rattle.rules.specs.Step.{over_to}
use Rattle.rules.specs.Neighbours.{rule12}
use Rattle.frame.specs.State.{step_in}
use Rattle.neighbours.proofs.rule_12.Given as goal

abbrev pub invariant-loop-j : goal.invariant-loop-j
invariant-loop-j l = step_in l.s ≡ over_to rule12 (step_in l.fn.s) l.j
