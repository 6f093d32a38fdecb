-- The loop's invariant: zeros, with the sizes of the first k terms stored.
use mathlib.Core.Path.{◌≡◌}
use Rattle.theory.proofs.TabLaws.{fill}
use Rattle.packing.specs.Sizes.{used_in, first_of}
use Rattle.packing.proofs.sizes.term_sizes.Given as goal

abbrev pub invariant-loop-k : goal.invariant-loop-k
invariant-loop-k l = l.r ≡ fill (first_of l.s.terms (used_in l.s.term l.s.sums l.c.0)) l.initial.r l.k
