-- The tests are the definition's, in its order, of an open course.
use mathlib.Core.Path.{sym}
use borrow.Author.Tests.{lt-ltb, le-ltb}
use Rattle.rules.specs.Lists.{verdict3}
use Rattle.lists.proofs.verdicts.verdict_3.Goals as goal

pub returns-then-t-u : goal.returns-then-t-u
unfolding verdict3
returns-then-t-u c = λ j e. simp (e, lt-ltb _ _ c.if-t-u.true)

pub returns-then-saturating_sub-t : goal.returns-then-saturating_sub-t
unfolding verdict3
returns-then-saturating_sub-t c = λ j e. simp (e, le-ltb _ _ c.if-t-u.false, sym c.saturating_sub.ensures, lt-ltb _ _ c.if-saturating_sub-t.true)

pub returns : goal.returns
unfolding verdict3
returns c = λ j e. simp (e, le-ltb _ _ c.if-t-u.false, sym c.saturating_sub.ensures, le-ltb _ _ c.if-saturating_sub-t.false)
