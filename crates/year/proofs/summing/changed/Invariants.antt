-- The loop's invariant: the array that was given, filled with the changed sums of the first k terms.
use Prim.Native.Nat.{◌-◌, ◌≤◌}
use mathlib.Core.Path.{◌≡◌}
use Rattle.theory.proofs.TabLaws.{fill}
use Rattle.year.specs.SumsOf.{changed_at}
use Rattle.year.proofs.summing.changed.Given as goal

abbrev pub invariant-loop-k : goal.invariant-loop-k
invariant-loop-k l = (l.k ≤ 16) × (l.r ≡ fill (changed_at l.s l.c l.list) l.s l.k)

abbrev pub decreases-loop-k : goal.decreases-loop-k
decreases-loop-k l = 16 - l.k
