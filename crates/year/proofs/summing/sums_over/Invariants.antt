-- The loop's invariant: the array at the start, filled with the sums of the first j terms. What the others hold, nothing, is right already.
use Prim.Native.Nat.{◌≤◌, ◌-◌}
use mathlib.Core.Path.{◌≡◌}
use lib.ListN.{length}
use Rattle.theory.proofs.TabLaws.{fill}
use Rattle.year.specs.SumsOf.{sums_to}
use Rattle.year.proofs.summing.sums_over.Given as goal

abbrev pub invariant-loop-j : goal.invariant-loop-j
invariant-loop-j l = (l.j ≤ l.m) × (l.s ≡ fill (sums_to l.weight l.list (length l.weight)) l.initial.s l.j)

abbrev pub decreases-loop-j : goal.decreases-loop-j
decreases-loop-j l = l.m - l.j
