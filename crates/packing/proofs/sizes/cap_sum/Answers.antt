-- Each size counts for what the definition says.
use borrow.Author.Rules.{rules}
use Rattle.packing.specs.Sizes.{capped_at, cap_sum}
use Rattle.packing.proofs.sizes.cap_sum.Goals as goal

pub returns : goal.returns
unfolding cap_sum
returns c =
    let a = c.args in
    (c.sum_by.ensures.is (capped_at a.x.now a.c.0) (λ i x r l q e. search rules), c.sum_by.ensures.small)
