-- The loop's invariant: zeros, with the sizes of the first i courses stored.
use mathlib.Core.Path.{◌≡◌}
use Rattle.theory.proofs.TabLaws.{fill}
use Rattle.packing.specs.Sizes.{size_in, first_of}
use Rattle.packing.proofs.sizes.course_sizes.Given as goal

abbrev pub invariant-loop-i : goal.invariant-loop-i
invariant-loop-i l = l.r ≡ fill (first_of l.s.courses (size_in l.s.weight.now l.s.list)) l.initial.r l.i
