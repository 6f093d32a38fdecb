-- The loop's invariant: none of the terms' sizes gone by, taken as threshold, was too much.
use mathlib.Core.Bool.{false}
use mathlib.Core.Path.{◌≡◌}
use Rattle.theory.specs.Tests.{any}
use Rattle.packing.specs.Thresholds.{term_exceeds}
use Rattle.packing.proofs.thresholds.some_term_exceeds.Given as goal

abbrev pub invariant-loop-size : goal.invariant-loop-size
invariant-loop-size l = any l.size-index (term_exceeds l.load.course.now l.load.own.now l.load.c.0 l.load.limit.0) ≡ false
