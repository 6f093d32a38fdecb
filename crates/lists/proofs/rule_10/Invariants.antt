-- The loop's invariant: the step after the first j terms.
use mathlib.Core.Path.{◌≡◌}
use Rattle.rules.specs.Step.{over_to}
use Rattle.frame.specs.State.{step_in}
use Rattle.rules.specs.Lists.{rule10}
use Rattle.lists.proofs.rule_10.Given as goal

abbrev pub invariant-loop-j : goal.invariant-loop-j
invariant-loop-j l = step_in l.s ≡ over_to rule10 (step_in l.fn.s) l.j
