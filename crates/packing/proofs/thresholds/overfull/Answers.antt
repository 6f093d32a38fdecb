-- Under the bound no t is too much; above it, the thresholds answer.
use mathlib.Core.Path.{sym, ◌∙◌}
use native.Mathlib.Omega.{arith}
use borrow.Author.Tests.{le-ltb}
use Rattle.packing.proofs.SizeLaws.{none_over}
use Rattle.packing.proofs.thresholds.overfull.Goals as goal

pub returns-else-load-most : goal.returns-else-load-most
returns-else-load-most c =
    let l = c.args.load in
    le-ltb _ _ c.if-load-most.false
    ∙ sym (none_over l.course.now l.own.now l.c.0 l.limit.0 (omega (arith, c.if-load-most.false, c.cap_sum.ensures.0, c.cap_sum-2.ensures.0)))
