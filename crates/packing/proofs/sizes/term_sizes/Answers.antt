-- The loop's invariant: zeros, with the sizes of the first k terms stored.
use mathlib.Core.Path.{◌≡◌, ap, ◌∙◌}
use native.Mathlib.Omega.{arith}
use lib.ListN.{replicate}
use borrow.Author.Rules.{rules}
use Rattle.theory.proofs.TabLaws.{fill, filling_more}
use Rattle.packing.specs.Sizes.{used_in, first_of}
use Rattle.packing.proofs.ArrayLaws.{first_is, fill_first}
use Rattle.packing.proofs.sizes.term_sizes.Goals as goal

pub loop-k-init : goal.loop-k-init
unfolding fill
loop-k-init c = search rules

pub loop-k-preserved : goal.loop-k-preserved
loop-k-preserved c =
    let s = c.args.s.now in
    let k = c.loop-k.k in
    let f = used_in s.term s.sums c.args.c.0 in
    filling_more 0 16 (first_of s.terms f) c.loop-k.r k c.loop-k.invariant _ ((cc) ∙ first_is s.terms k f c.loop-k-test.true)

pub returns : goal.returns
returns c =
    let s = c.args.s.now in
    let is : c.loop-k.k ≡ s.terms = omega arith in
    let f = used_in s.term s.sums c.args.c.0 in
    c.loop-k.invariant ∙ ap (fill (first_of s.terms f) (replicate 16 0)) is ∙ fill_first 16 s.terms f s.sound.terms_most
