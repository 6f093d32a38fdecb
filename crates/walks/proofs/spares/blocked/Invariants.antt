-- The loop's invariant: the flag says whether one of the first k terms is listed with spare 0.
use mathlib.Core.Path.{◌≡◌}
use Rattle.theory.specs.Tests.{any}
use Rattle.walks.specs.Sparing.{stuck}
use Rattle.walks.proofs.spares.blocked.Given as goal

abbrev pub invariant-loop-k : goal.invariant-loop-k
invariant-loop-k l = l.found ≡ any l.k (stuck l.spare l.list)
