-- The loop's invariant: the array at the start, filled with the sums of the first j terms. What the others hold, nothing, is right already.
use mathlib.Core.Path.{◌≡◌, sym, ap, ◌∙◌}
use native.Mathlib.Omega.{arith}
use lib.ListN.{length, replicate, length-replicate, get_or-replicate}
use borrow.Author.Rules.{rules}
use Rattle.theory.proofs.TabLaws.{fill, fill_front, filling_long, filling_more}
use Rattle.year.specs.Sums.{no_sums}
use Rattle.year.specs.SumsOf.{sums_to}
use Rattle.year.proofs.ListedLaws.{sums_past}
use Rattle.year.proofs.SumLaws.{all_zero}
use Rattle.year.proofs.summing.sums_over.Goals as goal

pub loop-j-init : goal.loop-j-init
unfolding fill
loop-j-init c = search rules

pub sums_in-requires : goal.sums_in-requires
sums_in-requires c = record { few = c.requires.few; lists_there = c.requires.lists_there; term_there = omega arith; light = λ i h. (c.requires.courses_sized i h).0 }

pub bounds-s-j : goal.bounds-s-j
bounds-s-j c =
    let a = c.args in
    omega (arith, filling_long c.default-s.result 16 (sums_to a.weight.now a.list.now (length a.weight.now)) c.loop-j.s c.loop-j.j c.loop-j.invariant.1)

pub loop-j-preserved : goal.loop-j-preserved
loop-j-preserved c =
    let a = c.args in
    (search rules, filling_more c.default-s.result 16 (sums_to a.weight.now a.list.now (length a.weight.now)) c.loop-j.s c.loop-j.j c.loop-j.invariant.1 _ c.sums_in.ensures)

pub returns : goal.returns
returns c =
    let a = c.args in
    let f = sums_to a.weight.now a.list.now (length a.weight.now) in
    let z = c.default-s.result in
    let is : c.loop-j.j ≡ a.m = omega arith in
    c.loop-j.invariant.1
    ∙ ap (fill f (replicate 16 z)) is
    ∙ fill_front f (replicate 16 z) no_sums 16 a.m (length-replicate 16 z) (omega arith)
    (λ k p q. get_or-replicate 16 k z no_sums q ∙ all_zero z c.default-s.ensures ∙ sym (sums_past a.weight.now a.list.now a.m (length a.weight.now) k p (λ i h. (c.requires.courses_sized i h).1)))
