-- `read_sound`: the year held is what the definition has after the same records; a refusal stays to the end of the list.
use mathlib.Core.Path.{◌≡◌}
use Rattle.records.specs.Reading.{done, read_to}
use Rattle.records.proofs.read_sound.Given as goal

abbrev pub invariant-loop-k : goal.invariant-loop-k
invariant-loop-k l = read_to l.list l.k-counter ≡ done l.y
