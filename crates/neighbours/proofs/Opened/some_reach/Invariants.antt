-- The loop's invariant: no k so far reaches.
use Rattle.neighbours.specs.Opened.{at}
use Rattle.neighbours.proofs.ScreenLaws.{Below}
use Rattle.neighbours.proofs.Opened.some_reach.Given as goal

abbrev pub invariant-loop-k : goal.invariant-loop-k
invariant-loop-k l = Below (at l.self.upto) l.self.count l.m l.s l.lighter.0 l.heavier.0 l.range.least.0 l.range.most.0 l.k
