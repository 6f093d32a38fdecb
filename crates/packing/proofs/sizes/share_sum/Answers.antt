-- Each size counts for what the definition says.
use borrow.Author.Rules.{rules}
use Rattle.packing.specs.Sizes.{share_at, share_sum}
use Rattle.packing.proofs.sizes.share_sum.Goals as goal

pub returns : goal.returns
unfolding share_sum
returns c =
    let a = c.args in
    (c.sum_by.ensures.is (share_at a.x.now a.c.0 a.t.0) (λ i x r l q e. search rules), c.sum_by.ensures.small)
