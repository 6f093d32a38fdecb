-- The loop's invariant: the heaviest open courses among the first i.
use mathlib.Core.Path.{◌≡◌}
use Rattle.theory.specs.Tab.{tab}
use Rattle.lists.specs.Heaviest.{heaviest_in}
use Rattle.lists.proofs.heaviest.heaviest.Given as goal

abbrev pub invariant-loop-i : goal.invariant-loop-i
invariant-loop-i l = l.heaviest ≡ tab 16 (heaviest_in l.s.weight.now l.s.list l.i)
