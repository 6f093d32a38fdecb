-- `hours_record`: the letter, the number, then the record by itself.
use mathlib.Core.Path.{◌∙◌, sym}
use borrow.Author.Tests.{eq-eqb, ne_eqb}
use Rattle.hours.specs.Entries.{hours_record}
use Rattle.hours.proofs.entries.hours_record.Goals as goal

pub returns-then-s-at-ne-LETTER : goal.returns-then-s-at-ne-LETTER
unfolding hours_record
returns-then-s-at-ne-LETTER c = simp (ne_eqb _ _ c.if-s-at-ne-LETTER.true)

pub returns-then-not-bears_next : goal.returns-then-not-bears_next
unfolding hours_record
returns-then-not-bears_next c = simp (eq-eqb _ _ c.if-s-at-ne-LETTER.false, sym c.bears_next.ensures ∙ c.if-not-bears_next.true)

pub returns : goal.returns
unfolding hours_record
returns c = c.hours_by_itself.ensures ∙ simp (eq-eqb _ _ c.if-s-at-ne-LETTER.false, sym c.bears_next.ensures ∙ c.if-not-bears_next.false)
