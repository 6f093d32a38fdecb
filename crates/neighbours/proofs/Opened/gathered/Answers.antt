-- Fewer than the places are gathered, and their sum is light; one place more.
use Prim.Native.Nat.{◌+◌, ◌*◌, ◌≤◌, ◌<◌}
use mathlib.Core.Bool.{Bool, true, false}
use mathlib.Core.Path.{◌≡◌, refl, sym, ap, subst, ◌∙◌}
use native.Mathlib.Omega.{arith}
use lib.ListN.{length, replicate, set, take}
use lib.Seq.{get_or-take, length-take-le}
use Rattle.std.specs.Int.{from_bool}
use Rattle.theory.specs.Order.{keep}
use Rattle.year.specs.Year.{is_open}
use Rattle.frame.specs.State.{year_in}
use Rattle.neighbours.specs.Opened.{at, open_in, opened, Ordered, Gathers}
use Rattle.neighbours.specs.Verdicts.{set_in}
use Rattle.neighbours.proofs.ColumnLaws.{gathers_by, summed}
use Rattle.neighbours.proofs.GatheringLaws.{gathers_none, count_few, sum_light, gathers_more}
use Rattle.neighbours.proofs.YearLaws.{columns_of, in_order, rising_is}
use Rattle.neighbours.proofs.Opened.gathered.Goals as goal
use Rattle.neighbours.proofs.Opened.gathered.Goals.{Start, In-loop-course, After-loop-course}

one_at_most : (b : Bool) → from_bool b ≤ 1
one_at_most true = omega arith
one_at_most false = omega arith

ordered : (b : Start) → let s = b.args.s.now in Ordered s.weight.now s.list b.args.rising.now s.courses
ordered b = in_order (year_in b.args.s.now) b.args.s.now.sound b.args.rising.now b.requires.from_lightest

-- the place is one of the order, and holds what the order holds there
within : (c : In-loop-course) → c.loop-course.course-index < c.args.s.now.courses
within c = omega (arith, length-take-le c.args.s.now.courses c.args.rising.now (ordered (goal.at.In-loop-course c).Start).long, c.loop-course-test.true)

held : (c : In-loop-course) → at (take c.args.s.now.courses c.args.rising.now) c.loop-course.course-index ≡ at c.args.rising.now c.loop-course.course-index
held c = get_or-take c.args.s.now.courses c.args.rising.now c.loop-course.course-index 0 (within c)

counted : (c : In-loop-course) → c.loop-course.r.0 < 64
counted c =
    let a = c.args in
    omega (arith, count_few a.s.now.weight.now a.s.now.list a.rising.now a.s.now.courses a.j c.loop-course.course-index (ordered (goal.at.In-loop-course c).Start) (within c) c.loop-course.invariant, (ordered (goal.at.In-loop-course c).Start).few, within c)

light : (c : In-loop-course) → at c.loop-course.r.1.0 c.loop-course.r.0 ≤ 1000 * c.loop-course.course-index
light c =
    let a = c.args in
    sum_light a.s.now.weight.now a.s.now.list a.rising.now a.s.now.courses a.j c.loop-course.course-index (ordered (goal.at.In-loop-course c).Start) (within c) c.loop-course.invariant

pub slice_bounds-course-items-end : goal.slice_bounds-course-items-end
slice_bounds-course-items-end c =
    let o = ordered (goal.at.slice_bounds-course-items-end c).Start in
    sym (length-take-le c.args.s.now.courses c.args.rising.now o.long)

pub loop-course-init : goal.loop-course-init
unfolding keep
loop-course-init c = gathers_none (at c.args.s.now.weight.now) (replicate 65 0) (replicate 64 0) refl refl refl

pub offset_bounds-r-c : goal.offset_bounds-r-c
offset_bounds-r-c c = omega (arith, counted (goal.at.offset_bounds-r-c c).In-loop-course)

pub bounds-r-c : goal.bounds-r-c
bounds-r-c c = omega (arith, counted (goal.at.bounds-r-c c).In-loop-course)

-- the course that stands there
stands : (c : In-loop-course) → let s = c.args.s.now in let i = at (take s.courses c.args.rising.now) c.loop-course.course-index in
    (i < length s.weight.now) × (i < length s.list) × (i < 64)
stands c =
    let o = ordered (goal.at.In-loop-course c).Start in
    let k = c.loop-course.course-index in
    rw (held c) (o.weighed k (within c), o.listed k (within c), o.numbered k (within c))

pub bounds-s-i : goal.bounds-s-i
bounds-s-i c = (stands (goal.at.bounds-s-i c).In-loop-course).0

pub bounds-r-i : goal.bounds-r-i
bounds-r-i c = omega (arith, c.loop-course.invariant, stands (goal.at.bounds-r-i c).In-loop-course)

pub course_in-requires : goal.course_in-requires
course_in-requires c = let t = stands (goal.at.course_in-requires c).In-loop-course in (t.0, t.1)

pub overflow_add-r : goal.overflow_add-r
overflow_add-r c =
    let t = (goal.at.overflow_add-r c).In-loop-course in
    let o = ordered (goal.at.In-loop-course t).Start in
    omega (arith, light t, ap (at c.args.s.now.weight.now) (held t), o.light c.loop-course.course-index (within t), o.few, within t)

pub overflow_add-r-in-loop-course : goal.overflow_add-r-in-loop-course
overflow_add-r-in-loop-course c = omega (arith, counted (goal.at.overflow_add-r-in-loop-course c).In-loop-course)

pub offset_bounds-r-c-in-loop-course : goal.offset_bounds-r-c-in-loop-course
offset_bounds-r-c-in-loop-course c = omega (arith, counted (goal.at.offset_bounds-r-c-in-loop-course c).In-loop-course)

pub bounds-r-c-in-loop-course : goal.bounds-r-c-in-loop-course
bounds-r-c-in-loop-course c = omega (arith, counted (goal.at.bounds-r-c-in-loop-course c).In-loop-course)

pub overflow_cast-r : goal.overflow_cast-r
overflow_cast-r c = omega (arith, counted (goal.at.overflow_cast-r c).In-loop-course)

pub overflow_add-r-in-loop-course-2 : goal.overflow_add-r-in-loop-course-2
overflow_add-r-in-loop-course-2 c = omega (arith, counted (goal.at.overflow_add-r-in-loop-course-2 c).In-loop-course, c.from.ensures, one_at_most c.is_open.result)

pub loop-course-preserved : goal.loop-course-preserved
loop-course-preserved c =
    let t = (goal.at.loop-course-preserved c).In-loop-course in
    let a = c.args in
    let k = c.loop-course.course-index in
    let r = c.loop-course.r in
    let is : c.is_open.result ≡ open_in a.s.now.weight.now a.s.now.list a.j (at a.rising.now k) =
    c.is_open.ensures ∙ ap (λ x. is_open x a.j) c.course_in.ensures ∙ ap (open_in a.s.now.weight.now a.s.now.list a.j) (held t) in
    subst
    (λ i. Gathers (at a.s.now.weight.now) (opened a.s.now.weight.now a.s.now.list a.rising.now (k + 1) a.j)
    (r.0 + c.from.result) (set r.1.0 (r.0 + 1) (at r.1.0 r.0 + at a.s.now.weight.now i)) (set r.1.1.0 i r.0))
    (sym (held t))
    (gathers_more a.s.now.weight.now a.s.now.list a.rising.now a.s.now.courses a.j k (ordered (goal.at.In-loop-course t).Start) (within t) c.loop-course.invariant c.is_open.result is c.from.result c.from.ensures)

-- ---- behind the loop

gathers : (c : After-loop-course) → let s = c.args.s.now in
    Gathers (at s.weight.now) (set_in s.weight.now s.list s.courses c.args.j) c.loop-course.r.0 c.loop-course.r.1.0 c.loop-course.r.1.1.0
gathers c =
    let s = c.args.s.now in
    let w = s.weight.now in
    let j = c.args.j in
    let l = columns_of (year_in s) s.sound in
    let o = in_order (year_in s) s.sound c.args.rising.now c.requires.from_lightest in
    let all : c.loop-course.course-index ≡ s.courses = omega (arith, length-take-le s.courses c.args.rising.now o.long, c.loop-course-test.false) in
    gathers_by w s.list s.courses l j c.args.rising.now (c.requires.from_lightest ∙ rising_is (year_in s))
    (subst (λ k. Gathers (at w) (opened w s.list c.args.rising.now k j) c.loop-course.r.0 c.loop-course.r.1.0 c.loop-course.r.1.1.0) all c.loop-course.invariant)

pub invariant_of-r : goal.invariant_of-r
invariant_of-r c =
    let s = c.args.s.now in
    record { summed = summed s.weight.now s.list s.courses (columns_of (year_in s) s.sound) c.args.j (gathers (goal.at.invariant_of-r c).After-loop-course) }

pub returns : goal.returns
returns c = gathers (goal.at.returns c).After-loop-course
