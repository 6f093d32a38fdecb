-- The walk ends where the rule says, and the rule makes its outcome of it. Over no open course it ends as it began.
use mathlib.Core.Path.{ap, ◌∙◌}
use native.Mathlib.Omega.{arith}
use Rattle.frame.specs.State.{year_in}
use Rattle.frame.specs.Bounds.{told}
use Rattle.walks.proofs.WalkLaws.{sums_small}
use Rattle.walks.proofs.WalkRows.{walk_none, walk_order, sums_over}
use Rattle.walks.proofs.walking.by_walk.Goals as goal

pub returns-then-u-eq0 : goal.returns-then-u-eq0
returns-then-u-eq0 c =
    let a = c.args in
    c.ended.ensures ∙ ap told (walk_none a.way.rule a.s.now a.j c.requires.in_range a.spare c.requires.set_up c.begun-w.result c.begun-w.ensures (omega (arith, c.if-u-eq0.true)))

pub walked-requires-clause-begins : goal.walked-requires-clause-begins
walked-requires-clause-begins c =
    let s = c.args.s.now in
    rw c.begun-w.ensures
    (sums_small s.weight.now s.list c.args.j s.courses _ (sums_over (year_in s) s.sound c.args.j (omega (arith, s.sound))) s.sound.courses_most (λ i h. (s.sound.course_sound i h).weight_most))

pub walked-requires-clause-fits : goal.walked-requires-clause-fits
walked-requires-clause-fits c = walk_order c.args.way.rule c.args.s.now c.args.way.order.now c.requires.in_order
