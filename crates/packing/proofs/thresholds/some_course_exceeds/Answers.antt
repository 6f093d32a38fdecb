-- The loop's invariant: the first courses of the order have gone by, and none of their sizes was too much.
use Prim.Native.Nat.{◌+◌, ◌-◌, ◌/◌, ◌≤◌, ◌<◌}
use mathlib.Core.Bool.{true, false}
use mathlib.Core.Path.{◌≡◌, sym, subst, ◌∙◌}
use native.Mathlib.Omega.{arith}
use lib.ListN.{length, get_or}
use Rattle.std.proofs.lemmas.List.{length-take-le, get_or-take}
use Rattle.packing.specs.Thresholds.{from_sum}
use Rattle.packing.proofs.ThresholdLaws.{over_is, Passed, none_passed, all_passed, one_exceeds, enough, rest_from, one_tried, one_passed}
use Rattle.packing.proofs.thresholds.some_course_exceeds.Goals as goal
use Rattle.packing.proofs.thresholds.some_course_exceeds.Goals.{then-last-t+then-t-load+else-exceeds, else-last-t, else-last-t-via-then-last-t+else-t-load, else-last-t-via-else-last-t, After-from}

pub loop-i-init : goal.loop-i-init
loop-i-init c =
    let l = c.args.load in
    record {
      passed = none_passed l.course.now l.own.now l.rising.now l.c.0 l.limit.0 c.args.load.fits.rising c.total-rest.result.0 c.total-rest.ensures.0;
      small = c.total-rest.ensures.1;
    }

-- a turn is at a course of the year, the one that stands at that place of the order
within : (c : After-from) → c.loop-i.i-index < length c.args.load.course.now
within c = let l = c.args.load in omega (arith, c.loop-i-test.true, length-take-le (length l.course.now) l.rising.now c.args.load.fits.rising.long)

place : (c : After-from) → c.from.result ≡ get_or c.args.load.rising.now c.loop-i.i-index 0
place c = let l = c.args.load in c.from.ensures ∙ get_or-take (length l.course.now) l.rising.now c.loop-i.i-index 0 (within c)

pub counted-requires-clause-rest_is : goal.counted-requires-clause-rest_is
counted-requires-clause-rest_is c =
    let f = (goal.at.counted-requires-clause-rest_is c).After-from in
    let l = c.args.load in
    let k = c.loop-i in
    let p = place f in
    let a = l.course.now in
    let is : k.rest.0 ≡ from_sum a (get_or a c.from.result 0) = rw p (rest_from a l.own.now l.rising.now l.c.0 l.limit.0 c.args.load.fits.rising k.i-index k.last.0 k.rest.0 k.invariant.passed (within f) (rw p at c.if-last-t.true) (rw p at c.if-t-load.true)) in
    (is, k.invariant.small)

pub returns-then-exceeds : goal.returns-then-exceeds
returns-then-exceeds c =
    let f = (goal.at.returns-then-exceeds c).After-from in
    let l = c.args.load in
    let k = c.loop-i in
    let p = place f in
    let new : 0 < get_or l.course.now c.from.result 0 = omega arith in
    let over = over_is l.course.now l.own.now l.c.0 l.limit.0 _ _ _ true c.counted.ensures.0 c.exceeds.ensures c.if-exceeds.true in
    sym (one_exceeds l.course.now l.own.now l.rising.now l.c.0 l.limit.0 c.args.load.fits.rising k.i-index (within f) (rw p at new) (rw p at c.if-t-load.true) (rw p at over))

-- what is left to come is no less than the size at hand
left : (c : After-from) → get_or c.args.load.course.now c.from.result 0 ≤ c.loop-i.rest.0
left c =
    let l = c.args.load in
    let k = c.loop-i in
    rw (place c) (enough l.course.now l.own.now l.rising.now l.c.0 l.limit.0 c.args.load.fits.rising k.i-index k.last.0 k.rest.0 k.invariant.passed (within c))

pub overflow_sub-rest : goal.overflow_sub-rest
overflow_sub-rest c = left (goal.at.overflow_sub-rest c).After-from

pub loop-i-preserved : goal.loop-i-preserved
loop-i-preserved c =
    let f = (goal.at.loop-i-preserved c).After-from in
    let l = c.args.load in
    let k = c.loop-i in
    let p = place f in
    let t = get_or l.course.now c.from.result 0 in
    let rest = k.rest.0 - t in
    let passed = Passed l.course.now l.own.now l.rising.now l.c.0 l.limit.0 (k.i-index + 1) in
    let is : rest + t ≡ k.rest.0 = omega (arith, left f) in
    let next : passed c.if-last-t.last.0 rest =
    elim c.if-last-t.branch [
      | then-last-t+then-t-load+else-exceeds w ↦
          let over = over_is l.course.now l.own.now l.c.0 l.limit.0 _ _ _ false w.counted.ensures.0 w.exceeds.ensures w.if-exceeds.false in
          rw (w.last-is, p)
          (one_tried l.course.now l.own.now l.rising.now l.c.0 l.limit.0 c.args.load.fits.rising k.i-index k.last.0 k.rest.0 k.invariant.passed (within f) (rw p at w.if-last-t.true) (rw p at over) _ (rw p at is))
      | else-last-t w ↦
          let old : k.last.0 < t → t ≤ l.c.0 / 2 → ⊥ =
          elim w.else-last-t.branch [
            | else-last-t-via-then-last-t+else-t-load v ↦ λ m h. omega (arith, v.if-t-load.false)
            | else-last-t-via-else-last-t v ↦ λ m h. omega (arith, v.if-last-t.false)
          ] in
          rw (w.last-is, p)
          (one_passed l.course.now l.own.now l.rising.now l.c.0 l.limit.0 c.args.load.fits.rising k.i-index k.last.0 k.rest.0 k.invariant.passed (within f) (rw p at old) _ (rw p at is))
    ] in
    record { passed = next; small = omega (arith, k.invariant.small) }

pub returns : goal.returns
returns c =
    let l = c.args.load in
    let k = c.loop-i in
    let is : k.i-index ≡ length l.course.now =
    omega (arith, c.loop-i-test.false, k.invariant.passed.few, length-take-le (length l.course.now) l.rising.now c.args.load.fits.rising.long) in
    sym (all_passed l.course.now l.own.now l.rising.now l.c.0 l.limit.0 c.args.load.fits.rising k.last.0 k.rest.0
    (subst (λ r. Passed l.course.now l.own.now l.rising.now l.c.0 l.limit.0 r k.last.0 k.rest.0) is k.invariant.passed))
