-- The loop's invariant: the sums over the first i courses, of those fixed in the term and of those that list it.
use Prim.Native.Nat.{ℕ, ◌*◌, ◌^◌, ◌≤◌, ◌<◌}
use mathlib.Core.Bool.{Bool}
use mathlib.Core.Path.{◌≡◌, refl, ap, ◌∙◌}
use native.Mathlib.Omega.{arith}
use lib.Dec.{eqb}
use lib.ListN.{length, get_or}
use Rattle.theory.specs.Sum.{pick, sum}
use Rattle.year.specs.SumsOf.{sums_to}
use Rattle.year.proofs.ListedLaws.{chosen, counted, so_far_small, so_far_sums, so_far_more}
use Rattle.year.proofs.summing.sums_in.Goals as goal
use Rattle.year.proofs.summing.sums_in.Goals.{At-loop-i, In-loop-i}

-- no sum is past its size
small : (l : At-loop-i) → (l.loop-i.fixed.0 ≤ l.loop-i.possible.0) × (l.loop-i.possible.0 ≤ 1000 * l.loop-i.i) × (l.loop-i.placed.0 ≤ l.loop-i.listed.0) × (l.loop-i.listed.0 ≤ l.loop-i.i)
small l =
    let a = l.args in
    so_far_small a.weight.now a.list.now a.j l.loop-i.i l.loop-i.fixed.0 l.loop-i.possible.0 l.loop-i.placed.0 l.loop-i.listed.0 l.loop-i.invariant (λ k h. l.requires.light k (omega (arith, l.loop-i.auto.i-end)))

-- course i is one of at most 64, of at most 1,000 credits
light : (t : In-loop-i) → (t.loop-i.i < 64) × (get_or t.args.weight.now t.loop-i.i 0 ≤ 1000)
light t = (omega (arith, t.requires.few, t.loop-i-test.true), t.requires.light t.loop-i.i t.loop-i-test.true)

pub loop-i-init : goal.loop-i-init
unfolding sum
loop-i-init c = record { fixed_is = refl; possible_is = refl; placed_is = refl; listed_is = refl }

pub overflow_cast-w : goal.overflow_cast-w
overflow_cast-w c = omega (arith, light (goal.at.overflow_cast-w c).In-loop-i)

-- it is fixed in the term by the code's test, and listed
abbrev test : In-loop-i → Bool
test t = eqb (get_or t.args.list.now t.loop-i.i 0) t.power-alone.result

abbrev weight : In-loop-i → ℕ
weight t = get_or t.args.weight.now t.loop-i.i 0

pub overflow_add-fixed : goal.overflow_add-fixed
overflow_add-fixed c =
    let t = (goal.at.overflow_add-fixed c).In-loop-i in
    omega (arith, small (goal.at.overflow_add-fixed c).At-loop-i, light t, chosen (test t) (weight t) _ c.choose.ensures)

pub overflow_add-possible : goal.overflow_add-possible
overflow_add-possible c =
    let t = (goal.at.overflow_add-possible c).In-loop-i in
    omega (arith, small (goal.at.overflow_add-possible c).At-loop-i, light t, chosen c.lists-lists.result (weight t) _ c.choose-in-loop-i.ensures)

pub overflow_add-placed : goal.overflow_add-placed
overflow_add-placed c =
    let t = (goal.at.overflow_add-placed c).In-loop-i in
    omega (arith, small (goal.at.overflow_add-placed c).At-loop-i, light t, counted (test t) _ c.from.ensures)

pub overflow_add-listed : goal.overflow_add-listed
overflow_add-listed c =
    let t = (goal.at.overflow_add-listed c).In-loop-i in
    omega (arith, small (goal.at.overflow_add-listed c).At-loop-i, light t, counted c.lists-lists.result _ c.from-in-loop-i.ensures)

pub loop-i-preserved : goal.loop-i-preserved
loop-i-preserved c =
    let t = (goal.at.loop-i-preserved c).In-loop-i in
    let a = c.args in
    let fixed : (x : ℕ) → pick (test t) x ≡ pick (eqb (get_or a.list.now c.loop-i.i 0) (2 ^ a.j)) x = λ x. ap (λ z. pick (eqb (get_or a.list.now c.loop-i.i 0) z) x) c.power-alone.ensures in
    so_far_more a.weight.now a.list.now a.j c.loop-i.i c.loop-i.fixed.0 c.loop-i.possible.0 c.loop-i.placed.0 c.loop-i.listed.0 c.loop-i.invariant _ _ _ _
    ((chosen (test t) (weight t) _ c.choose.ensures).0 ∙ fixed (weight t))
    ((chosen c.lists-lists.result (weight t) _ c.choose-in-loop-i.ensures).0 ∙ ap (λ b. pick b (weight t)) c.lists-lists.ensures)
    ((counted (test t) _ c.from.ensures).0 ∙ fixed 1)
    ((counted c.lists-lists.result _ c.from-in-loop-i.ensures).0 ∙ ap (λ b. pick b 1) c.lists-lists.ensures)

pub overflow_sub-listed : goal.overflow_sub-listed
overflow_sub-listed c = omega (arith, small (goal.at.overflow_sub-listed c).At-loop-i)

pub returns : goal.returns
returns c =
    let a = c.args in
    let is : c.loop-i.i ≡ length a.weight.now = omega arith in
    rw (c.from-2.ensures, c.from-3.ensures, c.from-4.ensures, c.from-5.ensures)
    (so_far_sums a.weight.now a.list.now a.j c.loop-i.i c.loop-i.fixed.0 c.loop-i.possible.0 c.loop-i.placed.0 c.loop-i.listed.0 c.loop-i.invariant
    ∙ ap (λ n. sums_to a.weight.now a.list.now n a.j) is)
