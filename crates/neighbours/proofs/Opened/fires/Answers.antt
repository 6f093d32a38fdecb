-- What the heaviest weighs, the k' lightest, and the one behind them.
use Prim.Native.Nat.{ℕ, ◌+◌, ◌-◌, ◌≤◌}
use mathlib.Core.Bool.{Bool, false}
use mathlib.Core.Logic.{◌⊎◌, inl, inr}
use mathlib.Core.Path.{◌≡◌, refl, sym, ◌∙◌}
use native.Mathlib.Omega.{arith}
use Rattle.theory.specs.Tests.{any}
use Rattle.theory.proofs.TestLaws.{any_of}
use Rattle.neighbours.specs.Lightest.{left_out, neighbours_by, fires_by}
use Rattle.neighbours.proofs.FiresLaws.{none_below_0, none_behind, no_gap, none_from, none_more}
use Rattle.neighbours.proofs.Opened.fires.Goals as goal
use Rattle.neighbours.proofs.Opened.fires.Goals.{then-n-eq0-via-then-n-eq0, then-n-eq0-via-else-n-eq0+then-range-eq0, then-range-before-via-then-range-before, then-range-before-via-else-range-before+then-heaviest-before, else-before-width-via-then-before-width+else-fires_with, else-before-width-via-else-before-width, After-lightest-2, After-lightest-before, After-lightest-in-loop-k2, Start}

abbrev q : Start → ℕ → ℕ
q b t = left_out b.args.self.now.upto b.args.out b.args.w.0 t

abbrev test : Start → ℕ → Bool
test b k' = any b.args.n (neighbours_by (q b) b.args.n b.args.range.least.0 b.args.range.most.0 k')

-- what the heaviest weighs
top : (c : After-lightest-2) → let b = (goal.at.After-lightest-2 c).Start in
    let all = c.lightest.result.0 in let x = c.lightest-2.result.0 in
    all - x ≡ q b b.args.n - q b (b.args.n - 1)
top c =
    let e = c.lightest-2.ensures in
    let f = c.lightest.ensures in
    omega arith

-- what the one behind them weighs
next : (c : After-lightest-in-loop-k2) → let b = (goal.at.After-lightest-in-loop-k2 c).Start in
    let before = c.lightest-before.result.0 in let x = c.lightest-in-loop-k2.result.0 in
    x - before ≡ q b (c.loop-k2.k2 + 1) - q b c.loop-k2.k2
next c =
    let e = c.lightest-in-loop-k2.ensures in
    let f = c.lightest-before.ensures in
    omega arith

pub returns-then-n-eq0 : goal.returns-then-n-eq0
returns-then-n-eq0 c =
    let b = (goal.at.returns-then-n-eq0 c).Start in let a = b.args in
    let none : (a.n ≡ 0) ⊎ (a.range.least.0 ≡ 0) = elim c.then-n-eq0.branch [
      | then-n-eq0-via-then-n-eq0 w ↦ inl w.if-n-eq0.true
      | then-n-eq0-via-else-n-eq0+then-range-eq0 w ↦ inr w.if-range-eq0.true
    ] in
    sym (none_below_0 a.n (q b) a.range.least.0 a.range.most.0 none)

pub loop-k2-init : goal.loop-k2-init
unfolding any
loop-k2-init c = refl

pub returns-then-range-before : goal.returns-then-range-before
unfolding fires_by
returns-then-range-before c =
    let t = (goal.at.returns-then-range-before c).After-lightest-before in
    let b = (goal.at.returns-then-range-before c).Start in
    let a = b.args in
    let ends : (a.range.least.0 ≤ q b c.loop-k2.k2) ⊎ (q b a.n - q b (a.n - 1) ≤ q b c.loop-k2.k2 + (a.range.most.0 - a.range.least.0 + 1)) =
    elim c.then-range-before.branch [
      | then-range-before-via-then-range-before w ↦ inl (omega (arith, t.lightest-before.ensures, w.if-range-before.true))
      | then-range-before-via-else-range-before+then-heaviest-before w ↦ inr (omega (arith, t.lightest-before.ensures, top (goal.at.returns-then-range-before c).After-lightest-2, c.width-width.ensures, w.if-heaviest-before.true))
    ] in
    sym (none_from a.n c.loop-k2.k2 (test b) c.loop-k2.invariant (none_behind b.requires.lent.rising a.range.least.0 a.range.most.0 c.loop-k2.k2 (omega arith) ends))

pub returns-then-fires_with : goal.returns-then-fires_with
unfolding fires_by
returns-then-fires_with c =
    let b = (goal.at.returns-then-fires_with c).Start in
    sym (any_of b.args.n (test b) c.loop-k2.k2 c.loop-k2-test.true (sym c.fires_with.ensures ∙ c.if-fires_with.true))

pub loop-k2-preserved : goal.loop-k2-preserved
loop-k2-preserved c =
    let f = (goal.at.loop-k2-preserved c).After-lightest-in-loop-k2 in
    let t = (goal.at.loop-k2-preserved c).After-lightest-before in
    let b = (goal.at.loop-k2-preserved c).Start in
    let a = b.args in
    let fails : test b c.loop-k2.k2 ≡ false =
    elim c.else-before-width.branch [
      | else-before-width-via-then-before-width+else-fires_with w ↦ sym w.fires_with.ensures ∙ w.if-fires_with.false
      | else-before-width-via-else-before-width w ↦ no_gap b.requires.lent.rising a.range.least.0 a.range.most.0 c.loop-k2.k2 (omega arith) (omega (arith, c.width-width.ensures, w.if-before-width.false, t.lightest-before.ensures, next f))
    ] in
    none_more c.loop-k2.k2 (test b) c.loop-k2.invariant fails

pub returns : goal.returns
unfolding fires_by
returns c =
    let b = (goal.at.returns c).Start in
    sym (none_from b.args.n c.loop-k2.k2 (test b) c.loop-k2.invariant (λ i h m. absurd (omega arith)))
