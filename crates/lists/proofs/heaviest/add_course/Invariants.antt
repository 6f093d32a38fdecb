-- The loop's invariant: the weights at the start, with the course among the first k.
use mathlib.Core.Path.{◌≡◌}
use Rattle.theory.proofs.TabLaws.{fill}
use Rattle.lists.specs.Heaviest.{heaviest_with}
use Rattle.lists.proofs.heaviest.add_course.Given as goal

abbrev pub invariant-loop-k : goal.invariant-loop-k
invariant-loop-k l = l.heaviest ≡ fill (heaviest_with l.initial.heaviest l.c) l.initial.heaviest l.k
