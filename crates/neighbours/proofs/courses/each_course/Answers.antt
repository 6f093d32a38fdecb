-- The next course that has a verdict is given it, and where there is none the rest are passed.
use Prim.Native.Nat.{◌≤◌, ◌<◌}
use mathlib.Core.Bool.{or-false}
use mathlib.Core.Path.{◌≡◌, sym, ap, ◌∙◌}
use native.Mathlib.Omega.{arith}
use Rattle.theory.specs.Fold.{fold}
use Rattle.rules.specs.Step.{step, live, joined, over_to}
use Rattle.rules.specs.Neighbours.{rule12_course}
use Rattle.frame.specs.State.{year_in, step_in}
use Rattle.neighbours.proofs.CourseLaws.{sizes_are, order_is, all_there, given}
use Rattle.neighbours.proofs.courses.each_course.Goals as goal
use Rattle.neighbours.proofs.courses.each_course.Goals.{At-loop-start, In-Some}

-- the state at the turn has the same sizes
sizes : (c : At-loop-start) → let s = c.args.s.now in (c.loop-start.s.courses ≡ s.courses) × (c.loop-start.s.terms ≡ s.terms)
sizes c =
    let a = c.args in
    sizes_are a.s.now a.j c.requires.is_term c.loop-start.start c.loop-start.invariant.0 c.loop-start.s c.loop-start.invariant.1

-- where the next course with a verdict stands
found : (c : In-Some) → (c.loop-start.start ≤ c.in-Some.f.course) × (c.in-Some.f.course < c.args.s.now.courses)
found c =
    let n = sizes (goal.at.In-Some c).At-loop-start in
    let e = c.in-Some.ensures in
    (e.from, omega (arith, e.within, n))

pub loop-start-init : goal.loop-start-init
unfolding fold
loop-start-init c =
    let s = c.args.s.now in
    (omega arith, λ n. step (year_in s) (sym (or-false s.altered) n) 0)

pub next_verdict-requires-clause-from_lightest : goal.next_verdict-requires-clause-from_lightest
next_verdict-requires-clause-from_lightest c =
    let a = c.args in
    c.requires.from_lightest ∙ sym (order_is a.s.now a.j c.requires.is_term c.loop-start.start c.loop-start.invariant.0 c.loop-start.s c.loop-start.invariant.1)

pub next_verdict-requires-clause-is_term : goal.next_verdict-requires-clause-is_term
next_verdict-requires-clause-is_term c =
    let n = sizes (goal.at.next_verdict-requires-clause-is_term c).At-loop-start in
    omega arith

pub returns-in_default : goal.returns-in_default
returns-in_default c =
    let a = c.args in
    all_there a.s.now a.j c.requires.is_term c.loop-start.start c.loop-start.invariant.0 c.loop-start.s c.loop-start.invariant.1 c.in_default.ensures

pub judge-requires-clause-in_range : goal.judge-requires-clause-in_range
judge-requires-clause-in_range c =
    let n = sizes (goal.at.judge-requires-clause-in_range c).At-loop-start in
    (c.in-Some.ensures.within, omega arith)

pub loop-start-smaller : goal.loop-start-smaller
loop-start-smaller c =
    let f = found (goal.at.loop-start-smaller c).In-Some in
    omega arith

pub loop-start-preserved : goal.loop-start-preserved
loop-start-preserved c =
    let f = found (goal.at.loop-start-preserved c).In-Some in
    let a = c.args in
    (omega arith, given a.s.now a.j c.requires.is_term c.loop-start.start c.loop-start.invariant.0 c.loop-start.s c.loop-start.invariant.1 c.in-Some.f c.in-Some.ensures c.judge.new.self c.judge.ensures)

pub returns : goal.returns
returns c =
    let n = sizes (goal.at.returns c).At-loop-start in
    let a = c.args in
    let is : c.loop-start.start ≡ a.s.now.courses = omega arith in
    c.loop-start.invariant.1 ∙ ap (λ k. joined (step_in a.s.now) (over_to (rule12_course a.j) (live (year_in a.s.now)) k)) is
