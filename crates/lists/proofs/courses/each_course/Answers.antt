-- The loop's invariant: the first i courses have had their verdicts, and the bounds are those at the start.
use mathlib.Core.Path.{refl}
use native.Mathlib.Omega.{arith}
use Rattle.theory.specs.Fold.{fold}
use Rattle.lists.proofs.CourseLaws.{inside, p_small, only_open, course_turn, course_term}
use Rattle.lists.proofs.courses.each_course.Goals as goal

pub loop-i-init : goal.loop-i-init
unfolding fold
loop-i-init c = record { step = refl; term = refl }

pub course_verdict-v-requires-clause-small : goal.course_verdict-v-requires-clause-small
course_verdict-v-requires-clause-small c =
    let a = c.args in
    let l = c.loop-i in
    omega (arith, p_small a.whole a.s.now a.j l.i c.requires.in_range c.loop-i-test.true l.s l.invariant.step c.course_in-c.result c.course_in-c.ensures)

pub judge-requires-clause-in_range : goal.judge-requires-clause-in_range
judge-requires-clause-in_range c =
    let a = c.args in
    let l = c.loop-i in
    inside a.whole a.s.now a.j l.i c.requires.in_range c.loop-i-test.true l.s l.invariant.step

pub judge-requires-clause-only_open : goal.judge-requires-clause-only_open
judge-requires-clause-only_open c =
    let a = c.args in
    let l = c.loop-i in
    only_open a.whole a.s.now a.j l.i c.requires.in_range c.loop-i-test.true l.s l.invariant.step l.invariant.term _ c.course_in-c.ensures _ c.course_verdict-v.ensures

pub loop-i-preserved : goal.loop-i-preserved
loop-i-preserved c =
    let a = c.args in
    let l = c.loop-i in
    record {
      step = course_turn a.whole a.s.now a.j l.i c.requires.in_range c.loop-i-test.true l.s l.invariant.step l.invariant.term _ c.course_in-c.ensures _ c.course_verdict-v.ensures c.judge.new.self c.judge.ensures;
      term = course_term a.whole a.s.now a.j l.i c.requires.in_range c.loop-i-test.true l.s l.invariant.step l.invariant.term _ c.course_in-c.ensures _ c.course_verdict-v.ensures c.judge.new.self c.judge.ensures;
    }
