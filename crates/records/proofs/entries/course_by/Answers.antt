-- `course_by`: one test for a good course, then the definition's faults in their order.
use Rattle.records.specs.Reading.{bad_weight, bad_list, course_by}
use Rattle.records.proofs.EntryLaws.{one_test, left_zeros}
use Rattle.records.proofs.entries.course_by.Goals as goal

pub returns-then-zeros-outside : goal.returns-then-zeros-outside
unfolding course_by
returns-then-zeros-outside c =
    let a = c.args in
    let q = one_test a.zeros (bad_weight a.weight.0) (bad_list a.list a.terms) c.if-zeros-outside.true in
    simp (q.0, q.1, q.2)

pub returns-then-outside : goal.returns-then-outside
unfolding course_by
returns-then-outside c = simp c.if-outside.true

pub returns-then-unlisted : goal.returns-then-unlisted
unfolding course_by
returns-then-unlisted c = simp (c.if-outside.false, c.if-unlisted.true)

pub returns : goal.returns
unfolding course_by
returns c = simp (c.if-outside.false, c.if-unlisted.false, left_zeros c.args.zeros _ _ c.if-zeros-outside.false c.if-outside.false c.if-unlisted.false)
