-- `read_course`: the number, then the course by itself.
use mathlib.Core.Path.{◌∙◌, sym}
use Rattle.records.specs.Reading.{course_record}
use Rattle.records.proofs.entries.read_course.Goals as goal

pub returns-then-not-bears_next : goal.returns-then-not-bears_next
unfolding course_record
returns-then-not-bears_next c = simp (sym c.bears_next.ensures ∙ c.if-not-bears_next.true)

pub returns : goal.returns
unfolding course_record
returns c = c.course_by_itself.ensures ∙ simp (sym c.bears_next.ensures ∙ c.if-not-bears_next.false)
