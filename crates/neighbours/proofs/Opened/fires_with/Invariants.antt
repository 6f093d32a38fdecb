-- The loop's invariant: with none of the first k does it fire.
use mathlib.Core.Bool.{false}
use mathlib.Core.Path.{◌≡◌}
use Rattle.theory.specs.Tests.{any}
use Rattle.neighbours.specs.Lightest.{left_out, neighbours_by}
use Rattle.neighbours.proofs.Opened.fires_with.Given as goal

abbrev pub invariant-loop-k : goal.invariant-loop-k
invariant-loop-k l = any l.k (neighbours_by (left_out l.self.upto l.out l.w.0) l.n l.range.least.0 l.range.most.0 l.k2) ≡ false
