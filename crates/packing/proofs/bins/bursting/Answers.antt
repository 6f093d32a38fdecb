-- The loop's invariant: the flag says whether one of the first k terms is over its high credits.
use mathlib.Core.Bool.{◌||◌}
use mathlib.Core.Path.{sym, ap, ◌∙◌}
use borrow.Author.Rules.{rules}
use Rattle.theory.specs.Tests.{any}
use Rattle.theory.proofs.TestLaws.{any_more}
use Rattle.packing.specs.Bins.{burst_in}
use Rattle.packing.proofs.bins.bursting.Goals as goal

pub loop-k-init : goal.loop-k-init
unfolding any
loop-k-init c = search rules

pub loop-k-preserved : goal.loop-k-preserved
loop-k-preserved c =
    let s = c.args.s.now in
    let k = c.loop-k.k in
    ap (λ f. f || burst_in s.term s.sums k) c.loop-k.invariant ∙ sym (any_more k (burst_in s.term s.sums))
