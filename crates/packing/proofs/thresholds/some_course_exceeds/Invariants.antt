-- The loop's invariant: the first courses of the order have gone by, and none of their sizes was too much.
use Prim.Native.Nat.{◌≤◌}
use Rattle.packing.proofs.ThresholdLaws.{Passed}
use Rattle.packing.proofs.thresholds.some_course_exceeds.Given as goal

abbrev pub invariant-loop-i : goal.invariant-loop-i
invariant-loop-i l = record {
  passed : Passed l.load.course.now l.load.own.now l.load.rising.now l.load.c.0 l.load.limit.0 l.i-index l.last.0 l.rest.0;
  small : l.rest.0 ≤ 64000;
}
