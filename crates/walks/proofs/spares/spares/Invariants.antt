-- The loop's invariant: the array is filled with the spares of the first k terms.
use mathlib.Core.Path.{◌≡◌}
use Rattle.theory.proofs.TabLaws.{fill}
use Rattle.walks.specs.Sparing.{spare_from}
use Rattle.walks.proofs.spares.spares.Given as goal

abbrev pub invariant-loop-k : goal.invariant-loop-k
invariant-loop-k l = l.s ≡ fill (spare_from l.tallies l.least) l.initial.s l.k
