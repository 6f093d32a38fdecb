-- The loop's invariant: the array is filled with what is left in the first k entries.
use mathlib.Core.Path.{◌≡◌}
use Rattle.theory.proofs.TabLaws.{fill}
use Rattle.walks.specs.Sparing.{charged_at}
use Rattle.walks.proofs.spares.charged.Given as goal

abbrev pub invariant-loop-k : goal.invariant-loop-k
invariant-loop-k l = l.s ≡ fill (charged_at l.spare l.list) l.initial.s l.k
