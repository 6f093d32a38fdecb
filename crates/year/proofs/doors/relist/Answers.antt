-- The sums were those over the lists, so after the change they are those over the new lists.
use mathlib.Core.Path.{◌∙◌}
use lib.ListN.{set}
use Rattle.year.proofs.ChangeLaws.{change_asks, change_gives}
use Rattle.year.proofs.doors.relist.Goals as goal

pub changed-y-requires-clause-counted : goal.changed-y-requires-clause-counted
changed-y-requires-clause-counted c = (change_asks c.args.y.now c.requires.sound c.args.i c.requires.course_there c.course_of-c.result c.course_of-c.ensures).1

pub returns : goal.returns
returns c =
    let y = c.args.y.now in
    let e = c.changed-y.ensures ∙ change_gives y c.requires.sound c.args.i c.requires.course_there c.course_of-c.result c.course_of-c.ensures c.args.list in
    λ i. record { terms = y.terms; courses = y.courses; term = y.term; weight = y.weight; list = set y.list c.args.i c.args.list; sums = e i }
