-- The total is the weight of the first courses, at most 1,000 each.
use Prim.Native.Nat.{◌+◌, ◌<◌}
use mathlib.Core.Path.{◌≡◌, refl, sym, ap, ap₂, ◌∙◌}
use native.Mathlib.Omega.{arith}
use lib.ListN.{get_or, take}
use Rattle.std.proofs.lemmas.List.{get_or-take, length-take}
use Rattle.theory.specs.Sum.{sum}
use Rattle.theory.proofs.SumLaws.{sum_more}
use Rattle.year.specs.Year.{weight}
use Rattle.year.specs.Sums.{all_credits}
use Rattle.year.proofs.SumLaws.{weights_to}
use Rattle.totals.proofs.all_credits.Goals as goal
use Rattle.totals.proofs.all_credits.Goals.{In-loop-weight}

pub loop-weight-init : goal.loop-weight-init
unfolding sum
loop-weight-init c = refl

-- what is added is the weight of one of the year's courses
there : (c : In-loop-weight) → c.loop-weight.weight-index < c.args.y.now.year.courses
there c = omega (arith, c.loop-weight-test.true, length-take c.args.y.now.year.courses c.args.y.now.year.weight)

entry : (c : In-loop-weight) → get_or (take c.args.y.now.year.courses c.args.y.now.year.weight) c.loop-weight.weight-index 0 ≡ weight c.args.y.now.year c.loop-weight.weight-index
entry c = get_or-take c.args.y.now.year.courses c.args.y.now.year.weight c.loop-weight.weight-index 0 (there c)

pub overflow_add-total : goal.overflow_add-total
overflow_add-total c =
    let t = (goal.at.overflow_add-total c).In-loop-weight in
    let y = c.args.y.now.year in
    let i = c.loop-weight.weight-index in
    omega (
      arith,
      entry t,
      there t,
      c.args.y.now.sound.courses_most,
      c.loop-weight.invariant,
      (c.args.y.now.sound.course_sound i (there t)).weight_most,
      weights_to y.weight y.list i (λ k h. (c.args.y.now.sound.course_sound k (omega (arith, there t))).weight_most),
    )

pub loop-weight-preserved : goal.loop-weight-preserved
loop-weight-preserved c =
    let t = (goal.at.loop-weight-preserved c).In-loop-weight in
    ap₂ ◌+◌ c.loop-weight.invariant (entry t) ∙ sym (sum_more c.loop-weight.weight-index (weight c.args.y.now.year))

pub returns : goal.returns
unfolding all_credits
returns c =
    let y = c.args.y.now.year in
    let is : c.loop-weight.weight-index ≡ y.courses = omega (arith, c.loop-weight-test.false, c.loop-weight.auto, length-take y.courses y.weight, c.args.y.now.sound) in
    c.loop-weight.invariant ∙ ap (λ n. sum n (weight y)) is
