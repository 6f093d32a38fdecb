-- The loop's invariant: the sum over the sizes gone by.
use mathlib.Core.Path.{◌≡◌, refl, ap, ◌∙◌}
use native.Mathlib.Omega.{arith}
use lib.ListN.{length}
use borrow.Author.Rules.{rules}
use Rattle.theory.specs.Sum.{sum as total}
use Rattle.theory.proofs.SumLaws.{sum_more}
use Rattle.packing.proofs.sizes.sum_by.Goals as goal

pub loop-size-init : goal.loop-size-init
unfolding total
loop-size-init g c = search rules

pub loop-size-preserved : goal.loop-size-preserved
loop-size-preserved g c =
    let k = c.loop-size.size-index in
    record {
      is = λ f h. omega (arith, sum_more k f, h k _ _ c.loop-size-test.true refl c.count.ensures, c.loop-size.invariant.is f h);
      small = omega (arith, c.requires.light k _ _ c.loop-size-test.true refl c.count.ensures, c.loop-size.invariant.small);
    }

pub returns : goal.returns
returns g c =
    let is : c.loop-size.size-index ≡ length c.args.sizes.now = omega arith in
    record { small = omega (arith, c.loop-size.invariant.small); is = λ f h. c.loop-size.invariant.is f h ∙ ap (λ n. total n f) is }
