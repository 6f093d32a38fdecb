-- The loop's invariant: the array is filled with the low counts of the first k terms.
use mathlib.Core.Path.{refl}
use native.Mathlib.Omega.{arith}
use borrow.Author.Rules.{rules}
use Rattle.theory.proofs.TabLaws.{fill, filling_more, filling_ends}
use Rattle.frame.specs.Bounds.{least_in}
use Rattle.walks.proofs.spares.low_counts.Goals as goal

pub loop-k-init : goal.loop-k-init
unfolding fill
loop-k-init c = search rules

pub loop-k-preserved : goal.loop-k-preserved
loop-k-preserved c = filling_more 0 16 (least_in c.args.term.now) c.loop-k.s c.loop-k.k c.loop-k.invariant _ refl

pub returns : goal.returns
returns c = filling_ends 0 16 (least_in c.args.term.now) c.loop-k.s c.loop-k.k c.loop-k.invariant (omega arith)
