-- `read_terms`: the year held is what the definition has after the same records; a refusal stays to the end of the list.
use mathlib.Core.Path.{◌≡◌}
use Rattle.records.specs.Reading.{blank_year, done, gathered}
use Rattle.hours.specs.Joining.{term_entry}
use Rattle.hours.proofs.lists.read_terms.Given as goal

abbrev pub invariant-loop-k : goal.invariant-loop-k
invariant-loop-k l = gathered (term_entry l.s) blank_year l.k-counter ≡ done l.y
