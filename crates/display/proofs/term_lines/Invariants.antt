-- `term_lines`: the lines of the terms passed so far stand on the page.
use Rattle.std.proofs.Common.{◌++◌, ◌≡◌}
use Rattle.records.specs.Writing.{joined}
use Rattle.display.specs.Listing.{term_line_at}
use Rattle.display.proofs.term_lines.Given as goal

abbrev pub invariant-loop-j : goal.invariant-loop-j
invariant-loop-j l = l.page ≡ l.initial.page ++ joined (term_line_at l.y) l.j
