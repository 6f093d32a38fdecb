-- `course_lines`: the lines of the courses passed so far stand on the page.
use Rattle.std.proofs.Common.{sym, append-nil}
use Rattle.records.specs.Writing.{joined}
use Rattle.display.specs.Listing.{course_line_at}
use Rattle.display.proofs.ListingLaws as law
use Rattle.display.proofs.course_lines.Goals as goal

pub loop-i-init : goal.loop-i-init
unfolding joined
loop-i-init c = sym (append-nil c.args.page.now)

pub course_line-requires-clause-room : goal.course_line-requires-clause-room
course_line-requires-clause-room c =
    let y = c.args.y.now.year in
    rw c.course_of.ensures (law.line_room (course_line_at y) y.courses _ c.loop-i.i c.loop-i-test.true c.loop-i.invariant c.requires.room)

pub loop-i-preserved : goal.loop-i-preserved
loop-i-preserved c =
    let y = c.args.y.now.year in
    law.line_turn (course_line_at y) y.courses _ c.loop-i.i c.loop-i-test.true c.loop-i.invariant (rw c.course_of.ensures at c.course_line.ensures)
