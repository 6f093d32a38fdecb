-- What the lightest weigh, within all of them; where the loop ends, nothing shows.
use Prim.Native.Nat.{◌+◌, ◌-◌, ◌≤◌}
use mathlib.Core.Logic.{◌⊎◌, inl, inr}
use native.Mathlib.Omega.{arith}
use Rattle.neighbours.specs.Opened.{at}
use Rattle.neighbours.proofs.FiresLaws.{rises}
use Rattle.neighbours.proofs.ScreenLaws.{quiet_more, quiet_on}
use Rattle.neighbours.proofs.Opened.may_fire.Goals as goal
use Rattle.neighbours.proofs.Opened.may_fire.Goals.{then-range-before-via-then-range-before, then-range-before-via-else-range-before+then-heaviest-before}

pub returns-then-range-before : goal.returns-then-range-before
returns-then-range-before c =
    λ e.
    let a = c.args in
    let n = a.self.now.count in
    let q = at a.self.now.upto in
    let ends : (a.range.least.0 ≤ q c.loop-k2.k2) ⊎ (q n - q (n - 1) ≤ q c.loop-k2.k2 + (a.range.most.0 - a.range.least.0 + 1)) =
    elim c.then-range-before.branch [
      | then-range-before-via-then-range-before w ↦ inl w.if-range-before.true
      | then-range-before-via-else-range-before+then-heaviest-before w ↦ inr (omega (arith, c.width-width.ensures, w.if-heaviest-before.true))
    ] in
    record { light = omega (arith, c.if-range-heaviest.false); each = quiet_on q n a.range.least.0 a.range.most.0 c.args.self.now.summed.rising c.loop-k2.k2 c.loop-k2.invariant ends }

pub some_reach-requires-clause-light : goal.some_reach-requires-clause-light
some_reach-requires-clause-light c =
    let next = rises c.args.self.now.summed.rising (c.loop-k2.k2 + 1) c.args.self.now.count (omega (arith, c.loop-k2-test.true)) (omega arith) in
    (omega arith, omega arith)

pub loop-k2-preserved : goal.loop-k2-preserved
loop-k2-preserved c =
    let a = c.args in
    quiet_more (at a.self.now.upto) a.self.now.count a.range.least.0 a.range.most.0 c.loop-k2.k2 c.loop-k2.invariant (c.some_reach.ensures c.if-some_reach.false, c.some_reach-in-loop-k2.ensures c.if-some_reach-2.false)

pub returns : goal.returns
returns c =
    λ e.
    record { light = omega (arith, c.if-range-heaviest.false); each = λ k h lo wide. c.loop-k2.invariant k (omega arith) }
