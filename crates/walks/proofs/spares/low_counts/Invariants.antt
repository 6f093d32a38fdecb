-- The loop's invariant: the array is filled with the low counts of the first k terms.
use mathlib.Core.Path.{◌≡◌}
use Rattle.theory.proofs.TabLaws.{fill}
use Rattle.frame.specs.Bounds.{least_in}
use Rattle.walks.proofs.spares.low_counts.Given as goal

abbrev pub invariant-loop-k : goal.invariant-loop-k
invariant-loop-k l = l.s ≡ fill (least_in l.term) l.initial.s l.k
