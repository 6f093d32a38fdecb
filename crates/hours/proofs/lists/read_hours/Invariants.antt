-- `read_hours`: the year held is what the definition has after the same records; a refusal stays to the end of the list.
use mathlib.Core.Path.{◌≡◌}
use Rattle.records.specs.Reading.{done, gathered}
use Rattle.hours.specs.Joining.{hours_entry}
use Rattle.hours.proofs.lists.read_hours.Given as goal

abbrev pub invariant-loop-k : goal.invariant-loop-k
invariant-loop-k l = gathered (hours_entry l.s) l.initial.z l.k-counter ≡ done l.z
