-- What the heaviest and the lightest weigh; the loop ends at the first k at which the heaviest reach the range.
use Prim.Native.Nat.{ℕ, ◌+◌, ◌-◌, ◌≤◌}
use mathlib.Core.Bool.{Bool}
use mathlib.Core.Path.{◌≡◌, refl, sym}
use native.Mathlib.Omega.{arith}
use Rattle.theory.specs.Tests.{any}
use Rattle.theory.proofs.TestLaws.{any_of}
use Rattle.neighbours.specs.Lightest.{left_out, neighbours_by}
use Rattle.neighbours.proofs.FiresLaws.{within, with_parts, too_light, heaviest_reach, too_many, none_from, none_more}
use Rattle.neighbours.proofs.Opened.fires_with.Goals as goal
use Rattle.neighbours.proofs.Opened.fires_with.Goals.{After-lightest, After-lightest-in-loop-k, Start}

abbrev q : Start → ℕ → ℕ
q b t = left_out b.args.self.now.upto b.args.out b.args.w.0 t

abbrev test : Start → ℕ → Bool
test b k = neighbours_by (q b) b.args.n b.args.range.least.0 b.args.range.most.0 b.args.k2 k

-- the k heaviest plus the k' lightest
low : (c : After-lightest) → let b = (goal.at.After-lightest c).Start in let n = b.args.n in
    let x = c.lightest.result.0 in let all = c.lightest-all.result.0 in let before = c.lightest-before.result.0 in
    (x ≤ all) × (all ≤ 64000) × (before ≤ 64000) × (all - x + before ≡ q b n - q b (n - c.loop-k.k) + q b b.args.k2)
low c =
    let n = c.args.n in
    let rest = within c.requires.lent (n - c.loop-k.k) n (omega arith) (omega arith) in
    let few = within c.requires.lent c.args.k2 n (omega arith) (omega arith) in
    let e = c.lightest.ensures in
    let f = c.lightest-all.ensures in
    let g = c.lightest-before.ensures in
    (omega arith, omega arith, omega arith, omega arith)

-- the k + 1 lightest behind the k' lightest
high : (c : After-lightest-in-loop-k) → let b = (goal.at.After-lightest-in-loop-k c).Start in
    let x = c.lightest-in-loop-k.result.0 in let before = c.lightest-before.result.0 in
    (before ≤ x) × (x - before ≡ q b (b.args.k2 + (c.loop-k.k + 1)) - q b b.args.k2)
high c =
    let more = within c.requires.lent c.args.k2 (c.args.k2 + (c.loop-k.k + 1)) (omega arith) (omega (arith, c.loop-k-test.true)) in
    let e = c.lightest-in-loop-k.ensures in
    let g = c.lightest-before.ensures in
    (omega arith, omega arith)

pub loop-k-init : goal.loop-k-init
unfolding any
loop-k-init c = refl

pub overflow_sub-heaviest : goal.overflow_sub-heaviest
overflow_sub-heaviest c = (low (goal.at.overflow_sub-heaviest c).After-lightest).0

pub overflow_add-heaviest : goal.overflow_add-heaviest
overflow_add-heaviest c = omega (arith, low (goal.at.overflow_add-heaviest c).After-lightest)

pub returns-then-range-heaviest : goal.returns-then-range-heaviest
returns-then-range-heaviest c =
    let t = (goal.at.returns-then-range-heaviest c).After-lightest in
    let b = (goal.at.returns-then-range-heaviest c).Start in
    let r = b.args.range in
    sym (none_from b.args.n c.loop-k.k (test b) c.loop-k.invariant
    (λ i h m. heaviest_reach b.requires.lent.rising r.least.0 r.most.0 b.args.k2 c.loop-k.k (omega (arith, c.if-range-heaviest.true, low t)) i h))

pub overflow_sub-lightest : goal.overflow_sub-lightest
overflow_sub-lightest c = (high (goal.at.overflow_sub-lightest c).After-lightest-in-loop-k).0

pub returns-then-range-lightest : goal.returns-then-range-lightest
returns-then-range-lightest c =
    let f = (goal.at.returns-then-range-lightest c).After-lightest-in-loop-k in
    let t = (goal.at.returns-then-range-lightest c).After-lightest in
    let b = (goal.at.returns-then-range-lightest c).Start in
    let r = b.args.range in
    sym (any_of b.args.n (test b) c.loop-k.k (omega (arith, c.loop-k-test.true))
    (with_parts b.args.n (q b) r.least.0 r.most.0 b.args.k2 c.loop-k.k (omega (arith, c.loop-k-test.true))
    (omega (arith, c.if-range-heaviest.false, low t)) (omega (arith, c.if-range-lightest.true, (high f).1))))

pub loop-k-preserved : goal.loop-k-preserved
loop-k-preserved c =
    let f = (goal.at.loop-k-preserved c).After-lightest-in-loop-k in
    let b = (goal.at.loop-k-preserved c).Start in
    let r = b.args.range in
    none_more c.loop-k.k (test b) c.loop-k.invariant
    (too_light b.args.n (q b) r.least.0 r.most.0 b.args.k2 c.loop-k.k (omega (arith, c.if-range-lightest.false, (high f).1)))

pub returns : goal.returns
returns c =
    let b = (goal.at.returns c).Start in
    let r = b.args.range in
    sym (none_from b.args.n c.loop-k.k (test b) c.loop-k.invariant
    (λ i h m. too_many b.args.n (q b) r.least.0 r.most.0 b.args.k2 c.loop-k.k (omega arith) i h))
