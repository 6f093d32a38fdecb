-- The loop's invariant: the array that was given, filled with the changed sums of the first k terms.
use Prim.Native.Nat.{◌≤◌, ◌<◌}
use mathlib.Core.Path.{◌≡◌, sym, ap, ap₂, subst, ◌∙◌}
use native.Mathlib.Omega.{arith}
use lib.ListN.{length, set}
use borrow.Author.Rules.{rules}
use Rattle.theory.proofs.TabLaws.{fill, fill_more, fill_all, length_fill}
use Rattle.year.specs.Sums.{no_sums, sums_in}
use Rattle.year.specs.SumsOf.{part_of, Within, sums_moved, changed_at}
use Rattle.year.specs.declared.Course.{Course}
use Rattle.year.specs.declared.Sums.{Sums}
use Rattle.year.proofs.ChangeLaws.{part_small}
use Rattle.year.proofs.summing.changed.Goals as goal
use Rattle.year.proofs.summing.changed.Goals.{Start}

-- the array has sixteen entries
long : (b : Start) → length b.args.s ≡ 16
long b = search rules

pub loop-k-init : goal.loop-k-init
unfolding fill
loop-k-init c = search rules

pub moved-requires : goal.moved-requires
moved-requires c =
    let p = c.before in
    let l = p.before.before.before in
    let o = l.before in
    let b = o.before in
    let a = b.args in
    let k = l.loop-k.k in
    let m : k < 16 = omega arith in record {
      goes_within = subst (Within (sums_in a.s k)) (sym p.part_of.ensures) (b.requires.counted k m);
      comes_small = subst (λ (u : Sums). (u.fixed.0 ≤ 1000) × (u.possible.0 ≤ 1000) × (u.placed.0 ≤ 1) × (u.free.0 ≤ 1)) (sym c.part_of-in-loop-k.ensures)
          (part_small o.course_of-d.result k (rw o.course_of-d.ensures b.requires.light));
    }

pub bounds-r-k : goal.bounds-r-k
bounds-r-k c =
    let l = c.before.before.before.before.before in
    let a = l.args in
    omega (arith, ap length l.loop-k.invariant.1, length_fill (changed_at a.s a.c a.list) a.s l.loop-k.k, long l.before.before)

pub loop-k-preserved : goal.loop-k-preserved
loop-k-preserved c =
    let q = c.before in
    let p = q.before in
    let l = p.before.before.before in
    let o = l.before in
    let a = o.args in
    let k = l.loop-k.k in
    let now : c.moved.result ≡ changed_at a.s a.c a.list k =
    c.moved.ensures ∙ ap₂ (sums_moved (sums_in a.s k)) p.part_of.ensures (q.part_of-in-loop-k.ensures ∙ ap (λ (d : Course). part_of d k) o.course_of-d.ensures) in
    (search rules, ap₂ (λ z x. set z k x) l.loop-k.invariant.1 now ∙ sym (fill_more (changed_at a.s a.c a.list) a.s k))

pub returns : goal.returns
returns c =
    let l = c.before in
    let b = l.before.before in
    let a = b.args in
    let is : l.loop-k.k ≡ 16 = omega arith in
    l.loop-k.invariant.1 ∙ ap (fill (changed_at a.s a.c a.list) a.s) is ∙ fill_all (changed_at a.s a.c a.list) a.s no_sums 16 (long b)
