-- The loop's invariant: the total is the weight of the first courses, at most 1,000 each.
use mathlib.Core.Path.{◌≡◌}
use Rattle.theory.specs.Sum.{sum}
use Rattle.year.specs.Year.{weight}
use Rattle.totals.proofs.all_credits.Given as goal

abbrev pub invariant-loop-weight : goal.invariant-loop-weight
invariant-loop-weight l = l.total.0 ≡ sum l.weight-index (weight l.fn.y.year)
