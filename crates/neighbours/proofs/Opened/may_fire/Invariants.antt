-- The loop's invariant: none of the k' so far shows anything.
use Rattle.neighbours.specs.Opened.{at}
use Rattle.neighbours.proofs.ScreenLaws.{QuietBelow}
use Rattle.neighbours.proofs.Opened.may_fire.Given as goal

abbrev pub invariant-loop-k2 : goal.invariant-loop-k2
invariant-loop-k2 l = QuietBelow (at l.self.upto) l.self.count l.range.least.0 l.range.most.0 l.k2
