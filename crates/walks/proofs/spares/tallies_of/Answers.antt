-- The loop's invariant: both arrays are filled with the tallies of the first k terms.
use mathlib.Core.Path.{◌≡◌, refl}
use native.Mathlib.Omega.{arith}
use borrow.Author.Rules.{rules}
use Rattle.theory.proofs.TabLaws.{fill, filling_more, filling_ends}
use Rattle.walks.specs.Sparing.{free_in, placed_in}
use Rattle.walks.proofs.spares.tallies_of.Goals as goal

pub loop-k-init : goal.loop-k-init
unfolding fill
loop-k-init c = search rules

pub loop-k-preserved : goal.loop-k-preserved
loop-k-preserved c =
    let u = c.args.sums.now in
    let k = c.loop-k.k in
    (filling_more 0 16 (free_in u) c.loop-k.free k c.loop-k.invariant.0 _ refl, filling_more 0 16 (placed_in u) c.loop-k.placed k c.loop-k.invariant.1 _ refl)

pub returns : goal.returns
returns c =
    let u = c.args.sums.now in
    let is : c.loop-k.k ≡ 16 = omega arith in
    let f = filling_ends 0 16 (free_in u) c.loop-k.free c.loop-k.k c.loop-k.invariant.0 is in
    let p = filling_ends 0 16 (placed_in u) c.loop-k.placed c.loop-k.k c.loop-k.invariant.1 is in
    λ i. record { free = f i; placed = p i }
