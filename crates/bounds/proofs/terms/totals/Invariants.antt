-- The loop's invariant: the totals so far are those of the first entries.
use mathlib.Core.Path.{◌≡◌}
use Rattle.bounds.specs.AtTerm.{totals_to}
use Rattle.bounds.proofs.terms.totals.Given as goal

abbrev pub invariant-loop-t : goal.invariant-loop-t
invariant-loop-t l = l.x ≡ totals_to l.term l.t-index
