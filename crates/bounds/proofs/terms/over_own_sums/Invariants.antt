-- The loop's invariant: the step in hand is what the first j terms leave.
use mathlib.Core.Path.{◌≡◌}
use Rattle.rules.specs.Step.{over_to}
use Rattle.frame.specs.State.{step_in}
use Rattle.bounds.specs.AtTerm.{own_rule}
use Rattle.bounds.proofs.terms.over_own_sums.Given as goal

abbrev pub invariant-loop-j : goal.invariant-loop-j
invariant-loop-j g l = step_in l.s ≡ over_to (own_rule g.A.Amount.quantity) (step_in l.fn.s) l.j
