-- Each size counts for itself.
use native.Mathlib.Omega.{arith}
use lib.ListN.{length}
use borrow.Author.Rules.{rules}
use Rattle.theory.proofs.SumLaws.{sum_le_mul}
use Rattle.packing.specs.Sizes.{size_at}
use Rattle.packing.proofs.sizes.total.Goals as goal

pub returns : goal.returns
returns c =
    let x = c.args.x.now in
    let is = c.sum_by.ensures.is (size_at x) (λ i x r l q e. (search rules)) in
    (is, omega (arith, is, sum_le_mul (length x) 1000 (size_at x) c.requires.light, c.requires.few))
