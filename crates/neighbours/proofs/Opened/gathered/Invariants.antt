-- The loop's invariant: what is kept gathers the open courses of the first k places.
use Rattle.neighbours.specs.Opened.{at, opened, Gathers}
use Rattle.neighbours.proofs.Opened.gathered.Given as goal

abbrev pub invariant-loop-course : goal.invariant-loop-course
invariant-loop-course l = Gathers (at l.s.weight.now) (opened l.s.weight.now l.s.list l.rising l.course-index l.j) l.r.0 l.r.1.0 l.r.1.1.0
