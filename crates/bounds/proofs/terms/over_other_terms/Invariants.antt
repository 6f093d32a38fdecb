-- The loop's invariant: the step in hand is what the first j terms leave, and the totals are those of its bounds.
use mathlib.Core.Path.{◌≡◌}
use Rattle.rules.specs.Step.{over_to}
use Rattle.frame.specs.State.{step_in}
use Rattle.bounds.specs.AtTerm.{other_rule, totals_to}
use Rattle.bounds.proofs.terms.over_other_terms.Given as goal

abbrev pub invariant-loop-j : goal.invariant-loop-j
invariant-loop-j g l = record {
  holds : step_in l.s ≡ over_to (other_rule g.A.Amount.quantity) (step_in l.fn.s) l.j;
  totals_are : l.x ≡ totals_to l.s.term l.fn.s.terms;
}
