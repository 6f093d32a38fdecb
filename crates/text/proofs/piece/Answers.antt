-- `piece`: where the list does not name the term, nothing is written.
use Rattle.std.proofs.Common.{◌+◌, ◌≤◌, ◌++◌, ◌≡◌, length, sym, subst}
use borrow.Author.Tests.{eq-eqb, ne_eqb}
use Rattle.text.specs.Text.{decimal_of}
use Rattle.text.specs.Put.{Put, comma_of, piece_of}
use Rattle.text.proofs.TextLaws.{piece_named, piece_none}
use Rattle.text.proofs.PutLaws as law
use Rattle.text.proofs.piece.Goals as goal
use Rattle.text.proofs.piece.Goals.{Then-list-j-eq1}

-- the list names the term, and so there is room for both parts
named : (c : Then-list-j-eq1) → piece_of c.args.some c.args.list c.args.j ≡ comma_of c.args.some ++ decimal_of c.args.j
named c = piece_named c.args.some c.args.list c.args.j (eq-eqb _ _ c.if-list-j-eq1.true)

fits : (c : Then-list-j-eq1) → c.args.at + length (comma_of c.args.some ++ decimal_of c.args.j) ≤ length c.args.buf.now
fits c = subst (λ t. c.args.at + length t ≤ length c.args.buf.now) (named c) c.requires.room

pub comma-end-requires : goal.comma-end-requires
comma-end-requires c = law.room_first _ c.args.at _ (decimal_of c.args.j) (fits (goal.at.comma-end-requires c).Then-list-j-eq1)

pub number-requires : goal.number-requires
number-requires c = law.room _ c.comma-end.ensures (fits (goal.at.number-requires c).Then-list-j-eq1)

pub returns-then-list-j-eq1 : goal.returns-then-list-j-eq1
returns-then-list-j-eq1 c =
    let a = c.args in
    let b = (goal.at.returns-then-list-j-eq1 c).Then-list-j-eq1 in
    subst (λ t. Put a.buf.now a.at t c.number.new.buf c.number.result) (sym (named b)) (law.puts c.comma-end.ensures c.number.ensures (fits b))

pub returns-else-list-j-eq1 : goal.returns-else-list-j-eq1
returns-else-list-j-eq1 c =
    let a = c.args in
    rw (piece_none a.some a.list a.j (ne_eqb _ _ c.if-list-j-eq1.false)) (law.put_nothing a.buf.now a.at)
