-- `course_lines`: the lines of the courses passed so far stand on the page.
use Rattle.std.proofs.Common.{◌++◌, ◌≡◌}
use Rattle.records.specs.Writing.{joined}
use Rattle.display.specs.Listing.{course_line_at}
use Rattle.display.proofs.course_lines.Given as goal

abbrev pub invariant-loop-i : goal.invariant-loop-i
invariant-loop-i l = l.page ≡ l.initial.page ++ joined (course_line_at l.y) l.i
