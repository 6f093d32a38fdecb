-- The loop's invariant: the flag says whether the first k terms are within their bounds. What the year carries is what is fixed in it.
use Prim.Native.Nat.{◌≤◌, ◌-◌}
use mathlib.Core.Path.{◌≡◌}
use Rattle.theory.specs.Tests.{all}
use Rattle.year.specs.Imbalance.{fits_at}
use Rattle.totals.proofs.measure.all_fit.Given as goal

abbrev pub invariant-loop-k : goal.invariant-loop-k
invariant-loop-k l = (l.k ≤ l.y.year.terms) × (l.good ≡ all l.k (fits_at l.y.year))

abbrev pub decreases-loop-k : goal.decreases-loop-k
decreases-loop-k l = l.y.year.terms - l.k
