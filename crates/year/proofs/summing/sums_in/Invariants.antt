-- The loop's invariant: the sums over the first i courses, of those fixed in the term and of those that list it.
use Rattle.year.proofs.ListedLaws.{SoFar}
use Rattle.year.proofs.summing.sums_in.Given as goal

abbrev pub invariant-loop-i : goal.invariant-loop-i
invariant-loop-i l = SoFar l.weight l.list l.j l.i l.fixed.0 l.possible.0 l.placed.0 l.listed.0
