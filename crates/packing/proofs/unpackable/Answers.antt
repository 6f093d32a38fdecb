-- The definition's three tests, the last over the arrays and without the division.
use Prim.Native.Nat.{◌+◌, ◌*◌, ◌/◌, ◌≤◌}
use mathlib.Core.Path.{◌≡◌, sym, ap, ap₂, ◌∙◌, subst}
use native.Mathlib.Nat.{mul-le-mul_right}
use native.Mathlib.Omega.{arith}
use lib.ListN.{take, length}
use Rattle.std.proofs.lemmas.List.{length-take-le}
use Rattle.theory.specs.Tab.{tab}
use Rattle.theory.specs.Tests.{any}
use Rattle.frame.specs.State.{year_in}
use Rattle.orders.proofs.OrderLaws.{OrderFits, up_fits, cut_weighed, last_cut}
use Rattle.packing.specs.Sizes.{size_in, used_in, over}
use Rattle.orders.specs.Orders.{last_weight}
use Rattle.packing.proofs.ArrayLaws.{take_first}
use Rattle.packing.proofs.RisingLaws.{sizes, fitting}
use Rattle.packing.proofs.StateLaws.{room_most, bursting_is, settled_is, empty_is, over_is}
use Rattle.packing.proofs.unpackable.Goals as goal
use Rattle.packing.proofs.unpackable.Goals.{After-course_sizes-course, After-heaviest, After-room-c, After-term_sizes-own, Start}

-- the room is a bound of the year
small : (c : After-room-c) → c.room-c.result.0 ≤ 64000
small c = rw c.room-c.ensures (room_most c.args.s.now)

-- what is lent of the sizes: those of the courses, and those of the terms
courses_are : (c : After-course_sizes-course) → let s = c.args.s.now in take s.courses c.course_sizes-course.result ≡ sizes s
courses_are c =
    let s = c.args.s.now in
    ap (take s.courses) c.course_sizes-course.ensures ∙ take_first 64 s.courses (size_in s.weight.now s.list) s.sound.courses_most

terms_are : (c : After-term_sizes-own) → let s = c.args.s.now in take s.terms c.term_sizes-own.result ≡ tab s.terms (used_in s.term s.sums c.room-c.result.0)
terms_are c =
    let s = c.args.s.now in
    ap (take s.terms) c.term_sizes-own.ensures ∙ take_first 16 s.terms (used_in s.term s.sums c.room-c.result.0) s.sound.terms_most

pub returns-then-bursting : goal.returns-then-bursting
returns-then-bursting c =
    bursting_is c.args.s.now (sym c.bursting.ensures ∙ c.if-bursting.true)

pub returns-then-none_open : goal.returns-then-none_open
returns-then-none_open c =
    settled_is c.args.s.now (sym c.bursting.ensures ∙ c.if-bursting.false) (sym c.none_open.ensures ∙ c.if-none_open.true)

pub returns-then-c-eq0 : goal.returns-then-c-eq0
returns-then-c-eq0 c =
    empty_is c.args.s.now (sym c.bursting.ensures ∙ c.if-bursting.false) (sym c.room-c.ensures ∙ c.if-c-eq0.true)

pub overflow_mul-s : goal.overflow_mul-s
overflow_mul-s c =
    let r = (goal.at.overflow_mul-s c).After-room-c in
    omega (arith, small r, mul-le-mul_right r.room-c.result.0 c.args.s.now.sound.terms_most)

-- the order that is lent holds each course of the year
order_fits : (b : Start) → let s = b.args.s.now in OrderFits b.args.rising.now s.courses
order_fits b =
    let s = b.args.s.now in
    subst (λ o. OrderFits o s.courses) (sym b.requires.from_lightest) (up_fits (year_in s) s.sound)

order_long : (b : Start) → b.args.s.now.courses ≤ length b.args.rising.now
order_long b = omega (arith, (order_fits b).long, b.args.s.now.sound.courses_most)

pub slice_bounds-heaviest-end : goal.slice_bounds-heaviest-end
slice_bounds-heaviest-end c = sym (length-take-le c.args.s.now.courses c.args.rising.now (order_long (goal.at.slice_bounds-heaviest-end c).Start))

pub heaviest-requires : goal.heaviest-requires
heaviest-requires c =
    let b = (goal.at.heaviest-requires c).Start in
    let s = c.args.s.now in
    record {
      each_weighed = cut_weighed s.weight.now c.args.rising.now s.courses (order_long b) (λ r l. omega (arith, s.sound, (order_fits b).small r l));
    }

pub invariant_of-overfull : goal.invariant_of-overfull
invariant_of-overfull c =
    let p = (goal.at.invariant_of-overfull c).After-course_sizes-course in
    let q = (goal.at.invariant_of-overfull c).After-term_sizes-own in
    let s = c.args.s.now in
    record {
      fits =
          fitting s _ (courses_are p) c.args.rising.now c.requires.from_lightest _ (used_in s.term s.sums c.room-c.result.0) (terms_are q) c.room-c.result.0
          (small (goal.at.invariant_of-overfull c).After-room-c) _ (c.heaviest.ensures ∙ last_cut s.weight.now c.args.rising.now s.courses (order_long (goal.at.invariant_of-overfull c).Start) ∙ ap (λ o. last_weight s.weight.now o s.courses) c.requires.from_lightest);
    }

pub returns : goal.returns
returns c =
    let q = (goal.at.returns c).After-term_sizes-own in
    let p = (goal.at.returns c).After-course_sizes-course in
    let s = c.args.s.now in
    c.overfull.ensures
    ∙ ap₂ (λ x y. any (c.room-c.result.0 / 2 + 1) (over x y c.room-c.result.0 (s.terms * c.room-c.result.0))) (courses_are p) (terms_are q)
    ∙ over_is s (sym c.bursting.ensures ∙ c.if-bursting.false) c.room-c.result.0 c.room-c.ensures c.if-c-eq0.false
