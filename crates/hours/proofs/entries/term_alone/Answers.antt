-- `term_alone`: the letter, then the term as in reading.
use mathlib.Core.Path.{◌∙◌}
use borrow.Author.Tests.{eq-eqb, ne_eqb}
use Rattle.hours.specs.Entries.{term_alone}
use Rattle.hours.proofs.entries.term_alone.Goals as goal

pub returns-then-s-at-ne-TERM_LETTER : goal.returns-then-s-at-ne-TERM_LETTER
unfolding term_alone
returns-then-s-at-ne-TERM_LETTER c = simp (ne_eqb _ _ c.if-s-at-ne-TERM_LETTER.true)

pub returns : goal.returns
unfolding term_alone
returns c = c.read_term.ensures ∙ simp (eq-eqb _ _ c.if-s-at-ne-TERM_LETTER.false)
