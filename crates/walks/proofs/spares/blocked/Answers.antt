-- The loop's invariant: the flag says whether one of the first k terms is listed with spare 0.
use mathlib.Core.Bool.{Bool, ◌||◌}
use mathlib.Core.Path.{sym, ap, ◌∙◌}
use borrow.Author.Rules.{rules}
use Rattle.theory.specs.Tests.{any}
use Rattle.theory.proofs.TestLaws.{any_more}
use Rattle.walks.specs.Sparing.{stuck}
use Rattle.walks.proofs.spares.blocked.Goals as goal

pub loop-k-init : goal.loop-k-init
unfolding any
loop-k-init c = search rules

pub loop-k-preserved : goal.loop-k-preserved
loop-k-preserved c =
    let f = stuck c.args.spare c.args.list in
    ap (λ (t : Bool). t || f c.loop-k.k) c.loop-k.invariant ∙ sym (any_more c.loop-k.k f)
