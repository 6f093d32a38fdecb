-- The loop's invariant: the array is filled with the spares of the first k terms.
use Prim.Native.Nat.{◌-◌}
use mathlib.Core.Path.{ap, ◌∙◌}
use native.Mathlib.Omega.{arith}
use lib.ListN.{get_or}
use borrow.Author.Rules.{rules}
use Rattle.theory.proofs.TabLaws.{fill, filling_more, filling_ends}
use Rattle.walks.specs.Sparing.{spare_from}
use Rattle.walks.proofs.spares.spares.Goals as goal

pub loop-k-init : goal.loop-k-init
unfolding fill
loop-k-init c = search rules

pub loop-k-preserved : goal.loop-k-preserved
loop-k-preserved c =
    let a = c.args in
    let is = c.saturating_sub-in-loop-k.ensures ∙ ap (λ x. get_or a.tallies.free c.loop-k.k 0 - x) c.saturating_sub.ensures in
    filling_more 0 16 (spare_from a.tallies a.least) c.loop-k.s c.loop-k.k c.loop-k.invariant _ is

pub returns : goal.returns
returns c =
    filling_ends 0 16 (spare_from c.args.tallies c.args.least) c.loop-k.s c.loop-k.k c.loop-k.invariant (omega arith)
