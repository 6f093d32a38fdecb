-- `term_lines`: the lines of the terms passed so far stand on the page.
use Rattle.std.proofs.Common.{sym, append-nil}
use Rattle.records.specs.Writing.{joined}
use Rattle.display.specs.Listing.{term_line_at}
use Rattle.display.proofs.ListingLaws as law
use Rattle.display.proofs.term_lines.Goals as goal

pub loop-j-init : goal.loop-j-init
unfolding joined
loop-j-init c = sym (append-nil c.args.page.now)

pub term_line-requires-clause-room : goal.term_line-requires-clause-room
term_line-requires-clause-room c =
    let y = c.args.y.now.year in
    law.line_room (term_line_at y) y.terms _ c.loop-j.j c.loop-j-test.true c.loop-j.invariant c.requires.room

pub loop-j-preserved : goal.loop-j-preserved
loop-j-preserved c =
    let y = c.args.y.now.year in
    law.line_turn (term_line_at y) y.terms _ c.loop-j.j c.loop-j-test.true c.loop-j.invariant c.term_line.ensures
