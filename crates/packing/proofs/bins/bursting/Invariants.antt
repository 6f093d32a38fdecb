-- The loop's invariant: the flag says whether one of the first k terms is over its high credits.
use mathlib.Core.Path.{◌≡◌}
use Rattle.theory.specs.Tests.{any}
use Rattle.packing.specs.Bins.{burst_in}
use Rattle.packing.proofs.bins.bursting.Given as goal

abbrev pub invariant-loop-k : goal.invariant-loop-k
invariant-loop-k l = l.found ≡ any l.k (burst_in l.s.term l.s.sums)
