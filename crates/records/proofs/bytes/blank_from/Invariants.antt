-- `blank_from`: the bytes passed so far are zero.
use mathlib.Core.Path.{◌≡◌}
use lib.Dec.{eqb}
use lib.ListN.{take}
use Rattle.std.specs.List.{list_all}
use Rattle.records.proofs.bytes.blank_from.Given as goal

abbrev pub invariant-loop-b : goal.invariant-loop-b
invariant-loop-b l = l.blank ≡ list_all (λ b. eqb b 0) (take l.b-index l.b-items)
