-- Only an open course has a verdict, and then the one that the rule has for the term.
use mathlib.Core.Path.{sym, ◌∙◌}
use Rattle.rules.specs.Lists.{verdict10}
use Rattle.lists.proofs.CourseLaws.{verdict_stays}
use Rattle.lists.proofs.verdicts.course_verdict.Goals as goal

pub returns-then-not-is_open : goal.returns-then-not-is_open
returns-then-not-is_open c =
    let a = c.args in
    sym (verdict_stays a.whole a.c a.t a.u.fixed.0 a.u.possible.0 a.j (sym c.is_open.ensures ∙ c.if-not-is_open.true))

pub returns-in-Full : goal.returns-in-Full
unfolding verdict10
returns-in-Full c = rw c.in-Full.is (simp (sym c.is_open.ensures ∙ c.if-not-is_open.false))

pub returns-in-NeedsAll : goal.returns-in-NeedsAll
unfolding verdict10
returns-in-NeedsAll c = rw c.in-NeedsAll.is (simp (sym c.is_open.ensures ∙ c.if-not-is_open.false))
