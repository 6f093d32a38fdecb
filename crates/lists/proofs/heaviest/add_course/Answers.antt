-- The loop's invariant: the weights at the start, with the course among the first k. Weight k is read before it is stored.
use Prim.Native.Nat.{max}
use mathlib.Core.Path.{◌≡◌, refl, sym, ap, ap₂, ◌∙◌}
use native.Mathlib.Omega.{arith}
use lib.ListN.{get_or, set}
use Rattle.theory.specs.Sum.{pick}
use Rattle.theory.proofs.TabLaws.{fill, fill_more, fill_all, get_or_fill_past}
use Rattle.year.specs.Year.{is_open}
use Rattle.year.specs.declared.Credits.{Credits}
use Rattle.lists.specs.Heaviest.{heaviest_with}
use Rattle.lists.proofs.heaviest.add_course.Goals as goal

pub loop-k-init : goal.loop-k-init
unfolding fill
loop-k-init c = refl

pub loop-k-preserved : goal.loop-k-preserved
loop-k-preserved c =
    let h = c.args.heaviest.now in
    let f = heaviest_with h c.args.c in
    let k = c.loop-k.k in
    let read = ap (λ l. get_or l k (record { 0 = 0 })) c.loop-k.invariant ∙ get_or_fill_past f h (record { 0 = 0 }) k k (omega arith) in
    let e = c.heavier.ensures ∙ ap (λ (x : Credits). max x.0 (pick (is_open c.args.c k) c.args.c.weight.0)) read in
    ap₂ (λ l x. set l k x) c.loop-k.invariant (λ i. record { 0 = e i }) ∙ sym (fill_more f h k)

pub returns : goal.returns
returns c =
    let h = c.args.heaviest.now in
    let f = heaviest_with h c.args.c in
    let is : c.loop-k.k ≡ 16 = omega arith in
    c.loop-k.invariant ∙ ap (fill f h) is ∙ fill_all f h (record { 0 = 0 }) 16 c.told-heaviest
