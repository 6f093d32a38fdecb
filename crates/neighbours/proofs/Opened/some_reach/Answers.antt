-- What the lightest weigh, within all of them; the loop ends at the first k at which the heaviest reach the range.
use Prim.Native.Nat.{◌+◌, ◌-◌, ◌≤◌}
use native.Mathlib.Omega.{arith}
use Rattle.neighbours.specs.Opened.{at}
use Rattle.neighbours.proofs.FiresLaws.{rises}
use Rattle.neighbours.proofs.ScreenLaws.{none_on}
use Rattle.neighbours.proofs.Opened.some_reach.Goals as goal
use Rattle.neighbours.proofs.Opened.some_reach.Goals.{In-loop-k}

weighs : (c : In-loop-k) → let a = c.args in
    let q = at a.self.now.upto in
    (q a.m ≤ 64000) × (q (a.m - c.loop-k.k) ≤ q a.m) × (q (a.s + (c.loop-k.k + 1)) ≤ 64000) × (q a.s ≤ q (a.s + (c.loop-k.k + 1)))
weighs c =
    let a = c.args in
    let n = a.self.now.count in
    let taken = c.loop-k-test.true in (
      omega (arith, rises c.args.self.now.summed.rising a.m n (omega arith) (omega arith)),
      rises c.args.self.now.summed.rising (a.m - c.loop-k.k) a.m (omega arith) (omega arith),
      omega (arith, rises c.args.self.now.summed.rising (a.s + (c.loop-k.k + 1)) n (omega arith) (omega arith)),
      rises c.args.self.now.summed.rising a.s (a.s + (c.loop-k.k + 1)) (omega arith) (omega arith),
    )

pub overflow_sub-heaviest-in-loop-k : goal.overflow_sub-heaviest-in-loop-k
overflow_sub-heaviest-in-loop-k c = omega (arith, weighs (goal.at.overflow_sub-heaviest-in-loop-k c).In-loop-k)

pub overflow_add-heaviest : goal.overflow_add-heaviest
overflow_add-heaviest c = omega (arith, weighs (goal.at.overflow_add-heaviest c).In-loop-k)

pub returns-then-range-heaviest : goal.returns-then-range-heaviest
returns-then-range-heaviest c =
    λ e.
    let a = c.args in
    none_on (at a.self.now.upto) a.self.now.count a.m a.s a.lighter.0 a.heavier.0 a.range.least.0 a.range.most.0 c.args.self.now.summed.rising (omega arith) (omega arith) c.loop-k.k c.loop-k.invariant c.if-range-heaviest.true

pub overflow_sub-self : goal.overflow_sub-self
overflow_sub-self c = omega (arith, weighs (goal.at.overflow_sub-self c).In-loop-k)

pub overflow_add-self : goal.overflow_add-self
overflow_add-self c = omega (arith, weighs (goal.at.overflow_add-self c).In-loop-k)
