-- `with_year`: the answer, the terms and the courses.
use Rattle.std.proofs.Common.{◌∷◌, [], ◌++◌}
use Rattle.text.specs.Text.{line_of}
use Rattle.text.specs.Page.{Room}
use Rattle.text.proofs.TextLaws as text
use Rattle.records.specs.Writing.{joined}
use Rattle.display.specs.Listing.{year_text, term_line_at, course_line_at}
use Rattle.display.proofs.ListingLaws.{rooms}
use Rattle.display.proofs.with_year.Goals as goal
use Rattle.display.proofs.with_year.Goals.{Start}

-- room for the answer, and with the terms
fits : (c : Start) → let p = line_of c.args.word.now (c.args.rounds ∷ []) in Room c.args.page.now p × Room c.args.page.now (p ++ joined (term_line_at c.args.y.now.year) c.args.y.now.year.terms)
unfolding year_text
fits c = rooms _ _ _ (joined (course_line_at c.args.y.now.year) c.args.y.now.year.courses) c.requires.room

pub line-requires : goal.line-requires
line-requires c = (fits (goal.at.line-requires c).Start).0

pub term_lines-requires : goal.term_lines-requires
term_lines-requires c = record { room = text.room _ _ _ c.line.ensures (fits (goal.at.term_lines-requires c).Start).1 }

pub course_lines-requires : goal.course_lines-requires
unfolding year_text
course_lines-requires c = record { room = text.room _ _ _ (text.puts _ _ _ c.line.ensures c.term_lines.ensures) c.requires.room }

pub returns : goal.returns
unfolding year_text
returns c = text.puts _ _ _ (text.puts _ _ _ c.line.ensures c.term_lines.ensures) c.course_lines.ensures
