-- The loop's invariant: none of the terms' sizes gone by, taken as threshold, was too much.
use mathlib.Core.Path.{sym, ◌∙◌}
use lib.ListN.{length}
use borrow.Author.Rules.{rules}
use Rattle.theory.specs.Tests.{any}
use Rattle.theory.proofs.TestLaws.{any_of}
use Rattle.packing.specs.Thresholds.{term_exceeds}
use Rattle.packing.proofs.SizeLaws.{none_more}
use Rattle.packing.proofs.thresholds.some_term_exceeds.Goals as goal

pub loop-size-init : goal.loop-size-init
unfolding any
loop-size-init c = search rules

pub returns-then-size_exceeds : goal.returns-then-size_exceeds
returns-then-size_exceeds c =
    let l = c.args.load in
    sym
    (any_of (length l.own.now) (term_exceeds l.course.now l.own.now l.c.0 l.limit.0) c.loop-size.size-index c.loop-size-test.true
    (sym c.size_exceeds.ensures ∙ c.if-size_exceeds.true))

pub loop-size-preserved : goal.loop-size-preserved
loop-size-preserved c =
    let l = c.args.load in
    none_more c.loop-size.size-index (term_exceeds l.course.now l.own.now l.c.0 l.limit.0) c.loop-size.invariant
    (sym c.size_exceeds.ensures ∙ c.if-size_exceeds.false)
