-- The loop's invariant: the array is filled with what is left in the first k entries.
use mathlib.Core.Path.{◌∙◌}
use native.Mathlib.Omega.{arith}
use borrow.Author.Rules.{rules}
use Rattle.theory.proofs.TabLaws.{fill, filling_more, filling_ends}
use Rattle.walks.specs.Sparing.{charged_at}
use Rattle.walks.proofs.SparingLaws.{charged_entry}
use Rattle.walks.proofs.spares.charged.Goals as goal

pub loop-k-init : goal.loop-k-init
unfolding fill
loop-k-init c = search rules

pub loop-k-preserved : goal.loop-k-preserved
loop-k-preserved c =
    let a = c.args in
    let is = c.saturating_sub.ensures ∙ charged_entry a.spare a.list c.loop-k.k in
    filling_more 0 16 (charged_at a.spare a.list) c.loop-k.s c.loop-k.k c.loop-k.invariant _ is

pub returns : goal.returns
returns c =
    filling_ends 0 16 (charged_at c.args.spare c.args.list) c.loop-k.s c.loop-k.k c.loop-k.invariant (omega arith)
