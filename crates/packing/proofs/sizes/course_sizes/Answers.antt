-- The loop's invariant: zeros, with the sizes of the first i courses stored.
use mathlib.Core.Path.{◌≡◌, ap, ◌∙◌}
use native.Mathlib.Omega.{arith}
use lib.ListN.{replicate}
use borrow.Author.Rules.{rules}
use Rattle.theory.proofs.TabLaws.{fill, filling_more}
use Rattle.packing.specs.Sizes.{size_of, size_in, first_of}
use Rattle.packing.proofs.ArrayLaws.{first_is, fill_first}
use Rattle.packing.proofs.sizes.course_sizes.Goals as goal

pub loop-i-init : goal.loop-i-init
unfolding fill
loop-i-init c = search rules

pub loop-i-preserved : goal.loop-i-preserved
loop-i-preserved c =
    let s = c.args.s.now in
    let i = c.loop-i.i in
    let f = size_in s.weight.now s.list in
    let size = c.course_size.ensures ∙ ap size_of c.course_in.ensures ∙ first_is s.courses i f c.loop-i-test.true in
    filling_more 0 64 (first_of s.courses f) c.loop-i.r i c.loop-i.invariant _ size

pub returns : goal.returns
returns c =
    let s = c.args.s.now in
    let is : c.loop-i.i ≡ s.courses = omega arith in
    let f = size_in s.weight.now s.list in
    c.loop-i.invariant ∙ ap (fill (first_of s.courses f) (replicate 64 0)) is ∙ fill_first 64 s.courses f s.sound.courses_most
