-- The loop's invariant: the flag says whether the first k terms are within their bounds. What the year carries is what is fixed in it.
use Prim.Native.Nat.{◌<◌}
use mathlib.Core.Path.{◌≡◌, sym, ap, ap₂, ◌∙◌}
use mathlib.Core.Bool.{◌&&◌}
use native.Mathlib.Omega.{arith}
use borrow.Author.Rules.{rules}
use Rattle.theory.specs.Tests.{all}
use Rattle.theory.proofs.TestLaws.{all_more}
use Rattle.year.specs.Year.{term_at}
use Rattle.year.specs.Imbalance.{fits, fits_at}
use Rattle.year.proofs.SumLaws.{fixed_read, placed_read, sums_long}
use Rattle.totals.proofs.measure.all_fit.Goals as goal

pub loop-k-init : goal.loop-k-init
unfolding all
loop-k-init c = search rules

pub bounds-y-k-in-loop-k : goal.bounds-y-k-in-loop-k
bounds-y-k-in-loop-k c =
    omega (arith, c.args.y.now.sound, sums_long c.args.y.now.year c.args.y.now.sound)

pub loop-k-preserved : goal.loop-k-preserved
loop-k-preserved c =
    let y = c.args.y.now.year in
    let k = c.loop-k.k in
    let small : k < 16 = omega (arith, c.args.y.now.sound) in
    let is : c.fits-good.result ≡ fits_at y k = c.fits-good.ensures ∙ ap₂ (fits (term_at y k)) (fixed_read y y.sums c.args.y.now.sound.sums_kept k small) (placed_read y y.sums c.args.y.now.sound.sums_kept k small) in
    (search rules, ap₂ ◌&&◌ c.loop-k.invariant.1 is ∙ sym (all_more k (fits_at y)))

pub returns : goal.returns
returns c =
    let is : c.loop-k.k ≡ c.args.y.now.year.terms = omega arith in
    c.loop-k.invariant.1 ∙ ap (λ n. all n (fits_at c.args.y.now.year)) is
