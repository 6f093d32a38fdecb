-- `course_line`: number and weight, a blank, the terms, and the end.
use Rattle.std.proofs.Common.{◌∷◌, [], ◌++◌}
use Rattle.text.specs.Text.{newline, blank, row_of, terms_of}
use Rattle.text.specs.Page.{Room}
use Rattle.text.proofs.TextLaws as text
use Rattle.display.specs.Listing.{course_word, course_line}
use Rattle.display.proofs.ListingLaws.{rooms}
use Rattle.display.proofs.course_line.Goals as goal
use Rattle.display.proofs.course_line.Goals.{Start}

-- room for all but the end, and for the parts before
three : (c : Start) → let p = row_of course_word (c.args.i ∷ c.args.c.weight.0 ∷ []) in Room c.args.page.now (p ++ blank ++ terms_of c.args.c.list)
unfolding course_line
three c = text.room_first _ _ newline c.requires.room

pub row-requires : goal.row-requires
row-requires c = (rooms _ _ blank (terms_of c.args.c.list) (three (goal.at.row-requires c).Start)).0

pub put-requires : goal.put-requires
put-requires c = text.room _ _ _ c.row.ensures (rooms _ _ blank (terms_of c.args.c.list) (three (goal.at.put-requires c).Start)).1

pub terms-requires : goal.terms-requires
terms-requires c = text.room _ _ _ (text.puts _ _ _ c.row.ensures c.put.ensures) (three (goal.at.terms-requires c).Start)

pub put-requires-2 : goal.put-requires-2
unfolding course_line
put-requires-2 c =
    let row = row_of course_word (c.args.i ∷ c.args.c.weight.0 ∷ []) in
    let some = text.puts _ row blank c.row.ensures c.put.ensures in
    text.room _ _ newline (text.puts _ (row ++ blank) _ some c.terms.ensures) c.requires.room

pub returns : goal.returns
unfolding course_line
returns c =
    let some = text.puts _ _ _ c.row.ensures c.put.ensures in
    text.puts _ _ _ (text.puts _ _ _ some c.terms.ensures) c.put-2.ensures
