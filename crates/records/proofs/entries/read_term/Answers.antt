-- `read_term`: the number, then the term by itself.
use mathlib.Core.Path.{◌∙◌, sym}
use Rattle.records.specs.Reading.{term_record}
use Rattle.records.proofs.entries.read_term.Goals as goal

pub returns-then-not-bears_next : goal.returns-then-not-bears_next
unfolding term_record
returns-then-not-bears_next c = simp (sym c.bears_next.ensures ∙ c.if-not-bears_next.true)

pub returns : goal.returns
unfolding term_record
returns c = c.term_by_itself.ensures ∙ simp (sym c.bears_next.ensures ∙ c.if-not-bears_next.false)
