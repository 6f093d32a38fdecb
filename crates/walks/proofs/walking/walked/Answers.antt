-- The loop's invariant: what is left to walk gives what the whole walk gives. Each course adds at most 1,000 credits.
use Prim.Native.Nat.{ℕ, ◌+◌, ◌≤◌, ◌<◌}
use mathlib.Core.Path.{◌≡◌, sym, ap, ◌∙◌}
use native.Mathlib.Omega.{arith}
use lib.ListN.{get_or, take, drop, length}
use Rattle.std.proofs.lemmas.List.{get_or-take, length-take}
use Rattle.year.specs.Year.{course_in}
use Rattle.walks.specs.Walking.{walk_over}
use Rattle.walks.specs.declared.Walk.{Walk}
use Rattle.walks.proofs.WalkLaws.{pass_at, stop_at, turn_at, rise_at, none_left}
use Rattle.walks.proofs.walking.walked.Goals as goal
use Rattle.walks.proofs.walking.walked.Goals.{After-course_in-c, then-is_open+in-Continue, else-is_open}

-- the course at hand
abbrev number : After-course_in-c → ℕ
number c = get_or (take c.args.s.now.courses c.args.way.order.now) c.loop-i.i-index 0

course : (c : After-course_in-c) → c.course_in-c.result ≡ course_in c.args.s.now.weight.now c.args.s.now.list (number c)
course c =
    c.course_in-c.ensures
    ∙ ap (course_in c.args.way.weight.now c.args.s.now.list) c.from.ensures
    ∙ ap (λ w. course_in w c.args.s.now.list (number c)) c.requires.weights

few : (c : After-course_in-c) → c.loop-i.i-index < c.args.s.now.courses
few c = omega (arith, length-take c.args.s.now.courses c.args.way.order.now)

light : (c : After-course_in-c) → c.course_in-c.result.weight.0 ≤ 1000
light c =
    let s = c.args.s.now in
    let small : number c < s.courses = rw (get_or-take s.courses c.args.way.order.now c.loop-i.i-index 0 (few c)) (c.requires.fits.1 c.loop-i.i-index (few c)) in
    rw (course c) (s.sound.course_sound (number c) small).weight_most

pub walk_step-requires-clause-room : goal.walk_step-requires-clause-room
walk_step-requires-clause-room c =
    let d = (goal.at.walk_step-requires-clause-room c).After-course_in-c in
    let m = c.args.s.now.sound.courses_most in
    (c.requires.is_term, omega (arith, few d, m, c.loop-i.invariant.room), omega (arith, few d, m, c.loop-i.invariant.room), light d)

pub returns-in-Break : goal.returns-in-Break
returns-in-Break c =
    let a = c.args in
    let s = a.s.now in
    let d = (goal.at.returns-in-Break c).After-course_in-c in
    stop_at s.weight.now s.list a.j a.until (take s.courses a.way.order.now) c.loop-i.i-index c.loop-i-test.true c.loop-i.w c.course_in-c.result (course d)
    (sym c.if-is_open.ensures) c.in-Break.last c.in-Break.ensures
    ∙ c.loop-i.invariant.rest

pub loop-i-preserved : goal.loop-i-preserved
loop-i-preserved c =
    let a = c.args in
    let s = a.s.now in
    let d = (goal.at.loop-i-preserved c).After-course_in-c in
    let all = take s.courses a.way.order.now in
    let k = c.loop-i.i-index in
    let is : c.course_in-c.result ≡ course_in s.weight.now s.list (number d) = course d in
    elim c.if-is_open.branch [
      | then-is_open+in-Continue w ↦ record {
        rest =
            ap (walk_over s.weight.now s.list a.j a.until (drop (k + 1) all)) w.w-is
            ∙ turn_at s.weight.now s.list a.j a.until all k c.loop-i-test.true c.loop-i.w c.course_in-c.result is (sym w.if-is_open.ensures) w.in-Continue.next
            w.in-Continue.ensures
            ∙ c.loop-i.invariant.rest;
        room =
            let rise =
            rise_at s.weight.now s.list a.j a.until all k c.loop-i-test.true c.loop-i.w c.course_in-c.result is (sym w.if-is_open.ensures) w.in-Continue.next
            w.in-Continue.ensures in
            (omega (arith, ap (λ (z : Walk). z.credits.0) w.w-is, rise, light d), omega (arith, ap (λ (z : Walk). z.count.0) w.w-is, rise));
      }
      | else-is_open w ↦ record {
        rest =
            ap (walk_over s.weight.now s.list a.j a.until (drop (k + 1) all)) w.w-is
            ∙ pass_at s.weight.now s.list a.j a.until all k c.loop-i-test.true c.loop-i.w c.course_in-c.result is (sym w.if-is_open.ensures)
            ∙ c.loop-i.invariant.rest;
        room = (omega (arith, ap (λ (z : Walk). z.credits.0) w.w-is), omega (arith, ap (λ (z : Walk). z.count.0) w.w-is));
      }
    ]

pub returns : goal.returns
returns c =
    let a = c.args in
    let s = a.s.now in
    let all = take s.courses a.way.order.now in
    let end : c.loop-i.i-index ≡ length all = omega arith in
    sym (none_left s.weight.now s.list a.j a.until all c.loop-i.w)
    ∙ ap (λ k. walk_over s.weight.now s.list a.j a.until (drop k all) c.loop-i.w) (sym end)
    ∙ c.loop-i.invariant.rest
