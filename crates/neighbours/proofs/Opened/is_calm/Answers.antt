-- No sum is more than that of all; and what the tests say of the heaviest.
use Prim.Native.Nat.{◌-◌}
use mathlib.Core.Path.{subst}
use native.Mathlib.Omega.{arith}
use Rattle.neighbours.specs.Lightest.{Calm}
use Rattle.neighbours.specs.Opened.{at}
use Rattle.neighbours.proofs.FiresLaws.{rises}
use Rattle.neighbours.proofs.GatheringLaws.{calm_of, calm_from}
use Rattle.neighbours.proofs.Opened.is_calm.Goals as goal

pub overflow_add-bar : goal.overflow_add-bar
overflow_add-bar c =
    omega (arith, rises c.args.self.now.summed.rising (c.loop-t.t - 1) c.args.self.now.count (omega arith) (omega arith))

pub returns-then-heaviest-bar : goal.returns-then-heaviest-bar
returns-then-heaviest-bar c =
    let n = c.args.self.now.count in
    let q = at c.args.self.now.upto in
    let most = c.args.range.most.0 in
    let width = c.width-width.result.0 in
    let rising = c.args.self.now.summed.rising in
    λ e. subst (λ s. Calm q n s most) c.width-width.ensures
    (calm_of n q rising width most (omega arith) (omega (arith, c.if-range-heaviest.false))
    (calm_from n q rising width most c.loop-t.t (omega arith) (omega arith) (omega (arith, c.if-heaviest-bar.true)) c.loop-t.invariant))

pub returns : goal.returns
returns c =
    let n = c.args.self.now.count in
    let q = at c.args.self.now.upto in
    let most = c.args.range.most.0 in
    λ e. subst (λ s. Calm q n s most) c.width-width.ensures
    (calm_of n q c.args.self.now.summed.rising c.width-width.result.0 most (omega arith) (omega (arith, c.if-range-heaviest.false))
    (λ k h. c.loop-t.invariant k (omega arith)))
