-- The loop's invariant: the sum of the credits that are fixed in the first k terms, as the year carries them, and the sum of their squares.
use Prim.Native.Nat.{◌≤◌, ◌-◌}
use mathlib.Core.Path.{◌≡◌}
use Rattle.theory.specs.Sum.{sum}
use Rattle.theory.specs.Pairs.{square}
use Rattle.year.specs.Sums.{fixed_credits}
use Rattle.totals.proofs.measure.loads_of.Given as goal

-- ---- the loop
abbrev pub invariant-loop-k : goal.invariant-loop-k
invariant-loop-k l = (l.k ≤ l.k-end) × (l.all.0 ≡ sum l.k (fixed_credits l.y.year)) × (l.squares ≡ sum l.k (λ j. square (fixed_credits l.y.year j)))

abbrev pub decreases-loop-k : goal.decreases-loop-k
decreases-loop-k l = l.k-end - l.k
