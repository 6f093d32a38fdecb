-- The sums over the two columns are the year's.
use Prim.Native.Nat.{◌≤◌}
use mathlib.Core.Path.{◌∙◌}
use native.Mathlib.Omega.{arith}
use lib.ListN.{length}
use borrow.Author.Rules.{rules}
use Rattle.std.proofs.lemmas.List.{length-take-le}
use Rattle.year.proofs.SumLaws.{sums_cut, cut_alike, cut_sized}
use Rattle.year.specs.Sums.{fixed_credits, open_credits, fixed_count, open_count, sums_at}
use Rattle.year.proofs.by_hand.with_sums.Goals as goal

pub sums_over-sums-requires : goal.sums_over-sums-requires
sums_over-sums-requires c =
    let y = c.args.y in
    let p : y.courses ≤ length y.weight = search rules in
    let q : y.courses ≤ length y.list = search rules in
    record {
      few = omega (arith, length-take-le y.courses y.weight p, c.requires.sizes.1);
      lists_there = omega (arith, cut_alike y.weight y.list y.courses p q);
      terms_there = c.requires.sizes.0;
      courses_sized = cut_sized y.weight y.list y.courses p q y.terms c.requires.each_course;
    }

pub returns : goal.returns
unfolding sums_at fixed_credits open_credits fixed_count open_count
returns c =
    let y = c.args.y in
    let p : y.courses ≤ length y.weight = search rules in
    let q : y.courses ≤ length y.list = search rules in
    let e = c.sums_over-sums.ensures ∙ sums_cut y.weight y.list y.courses p q in
    λ i. record { terms = y.terms; courses = y.courses; term = y.term; weight = y.weight; list = y.list; sums = e i }
