-- The loop's invariant: the step in hand is what the first j terms leave, the low counts are those of its bounds, and the tallies those
-- of its sums.
use mathlib.Core.Path.{◌≡◌}
use Rattle.theory.specs.Tab.{tab}
use Rattle.rules.specs.Step.{over_to}
use Rattle.frame.specs.Bounds.{least_in}
use Rattle.frame.specs.State.{step_in}
use Rattle.walks.specs.Sparing.{tallies_of}
use Rattle.walks.specs.Walking.{rule_of}
use Rattle.walks.proofs.walking.walk_rule.Given as goal

abbrev pub invariant-loop-j : goal.invariant-loop-j
invariant-loop-j l = record {
  holds : step_in l.s ≡ over_to (rule_of l.fn.rule) (step_in l.fn.s) l.j;
  low_counts_are : l.least ≡ tab 16 (least_in l.s.term);
  tallied : l.tallies ≡ tallies_of l.s.sums;
}
