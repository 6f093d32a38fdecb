-- The loop's invariant: both columns are filled with the first i entries. Filled whole, they are those of all courses.
use Prim.Native.Nat.{ℕ}
use mathlib.Core.List.{List, map}
use mathlib.Core.Path.{◌≡◌, refl, sym, ap, ◌∙◌}
use native.Mathlib.Omega.{arith}
use lib.ListN.{length, get_or, replicate}
use borrow.Author.Rules.{rules}
use Rattle.theory.proofs.TabLaws.{fill, filling_long, filling_more, filling_ends, tab_get_or, map_tab}
use Rattle.year.specs.Year.{zero_course}
use Rattle.year.specs.declared.Course.{Course}
use Rattle.year.proofs.SumLaws.{all_zero}
use Rattle.year.proofs.by_hand.unsummed.Invariants.{weight_of, list_of, columnAt}
use Rattle.year.proofs.by_hand.unsummed.Goals as goal

filled : (f : Course → ℕ) (cs : List Course) (r : List ℕ) (i : ℕ) → i ≡ 64 → length cs ≡ 64 → r ≡ fill (columnAt f cs) (replicate 64 0) i → r ≡ map f cs
filled f cs r i is long e =
    filling_ends 0 64 (columnAt f cs) r i e is ∙ sym (map_tab 64 f (λ k. get_or cs k zero_course)) ∙ ap (map f) (tab_get_or cs zero_course 64 long)

-- ---- the needs
pub loop-i-init : goal.loop-i-init
unfolding fill
loop-i-init c = search rules

pub bounds-weight-i : goal.bounds-weight-i
bounds-weight-i c = let l = c.before in omega (arith, filling_long 0 64 (columnAt weight_of l.args.course) l.loop-i.weight l.loop-i.i l.loop-i.invariant.1)

pub bounds-list-i : goal.bounds-list-i
bounds-list-i c = let l = c.before in omega (arith, filling_long 0 64 (columnAt list_of l.args.course) l.loop-i.list l.loop-i.i l.loop-i.invariant.2)

pub loop-i-preserved : goal.loop-i-preserved
loop-i-preserved c =
    let l = c.before in
    let cs = l.args.course in
    (search rules, filling_more 0 64 (columnAt weight_of cs) l.loop-i.weight l.loop-i.i l.loop-i.invariant.1 _ refl, filling_more 0 64 (columnAt list_of cs) l.loop-i.list l.loop-i.i l.loop-i.invariant.2 _ refl)

pub returns : goal.returns
returns c =
    let l = c.before.before in
    let a = l.args in
    let is : l.loop-i.i ≡ 64 = omega arith in
    let long : length a.course ≡ 64 = l.well_formed.1.1.1.0.1.0.1 in
    let w = filled weight_of a.course l.loop-i.weight l.loop-i.i is long l.loop-i.invariant.1 in
    let v = filled list_of a.course l.loop-i.list l.loop-i.i is long l.loop-i.invariant.2 in
    let z = all_zero c.default.result c.default.ensures in
    λ i. record { terms = a.terms; courses = a.courses; term = a.term; weight = w i; list = v i; sums = replicate 16 (z i) }
