-- The loop's invariant: both arrays are filled with the tallies of the first k terms.
use mathlib.Core.Path.{◌≡◌}
use Rattle.theory.proofs.TabLaws.{fill}
use Rattle.walks.specs.Sparing.{free_in, placed_in}
use Rattle.walks.proofs.spares.tallies_of.Given as goal

abbrev pub invariant-loop-k : goal.invariant-loop-k
invariant-loop-k l = (l.free ≡ fill (free_in l.sums) l.initial.free l.k) × (l.placed ≡ fill (placed_in l.sums) l.initial.placed l.k)
