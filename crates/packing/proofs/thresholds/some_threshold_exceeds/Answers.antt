-- Half of c, the terms' sizes and the courses': all thresholds that occur.
use Prim.Native.Nat.{◌/◌}
use mathlib.Core.Bool.{Bool, true, false}
use mathlib.Core.Path.{◌≡◌, sym, ◌∙◌}
use Rattle.packing.specs.Sizes.{over}
use Rattle.packing.proofs.ThresholdLaws.{over_is, half_exceeds, terms_exceed, courses_decide}
use Rattle.packing.proofs.thresholds.some_threshold_exceeds.Goals as goal
use Rattle.packing.proofs.thresholds.some_threshold_exceeds.Goals.{After-exceeds}

half_is : (c : After-exceeds) (v : Bool) → c.exceeds.result ≡ v → let l = c.args.load in over l.course.now l.own.now l.c.0 l.limit.0 (l.c.0 / 2) ≡ v
half_is c v e =
    let l = c.args.load in
    over_is l.course.now l.own.now l.c.0 l.limit.0 (l.c.0 / 2) _ _ v c.share_sum.ensures.0 c.exceeds.ensures e

pub returns-then-exceeds : goal.returns-then-exceeds
returns-then-exceeds c =
    let l = c.args.load in
    sym (half_exceeds l.course.now l.own.now l.c.0 l.limit.0 (half_is (goal.at.returns-then-exceeds c).After-exceeds true c.if-exceeds.true))

pub returns-then-some_term_exceeds : goal.returns-then-some_term_exceeds
returns-then-some_term_exceeds c =
    let l = c.args.load in
    let t = c.if-some_term_exceeds.true in
    t ∙ sym (terms_exceed l.course.now l.own.now l.c.0 l.limit.0 (sym c.some_term_exceeds.ensures ∙ t))

pub returns-else-some_term_exceeds : goal.returns-else-some_term_exceeds
returns-else-some_term_exceeds c =
    let l = c.args.load in
    let h = half_is (goal.at.returns-else-some_term_exceeds c).After-exceeds false c.if-exceeds.false in
    c.some_course_exceeds.ensures
    ∙ sym (courses_decide l.course.now l.own.now l.c.0 l.limit.0 h (sym c.some_term_exceeds.ensures ∙ c.if-some_term_exceeds.false))
