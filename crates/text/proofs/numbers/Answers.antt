-- `numbers`: the numbers passed so far stand in the buffer.
use Rattle.std.proofs.Common.{◌+◌, ◌≤◌, length, sym, subst}
use Rattle.text.specs.Text.{numbers_of}
use Rattle.text.proofs.TextLaws.{first_numbers, next_number, numbers_more, numbers_all}
use Rattle.text.proofs.PutLaws as law
use Rattle.text.proofs.numbers.Goals as goal
use Rattle.text.proofs.numbers.Goals.{Start}

-- the room that is required
fits : (c : Start) → c.args.at + length (first_numbers c.args.ns.now (length c.args.ns.now)) ≤ length c.args.buf.now
fits c = subst (λ t. c.args.at + length t ≤ length c.args.buf.now) (sym (numbers_all c.args.ns.now)) c.requires

pub loop-n-init : goal.loop-n-init
unfolding numbers_of
loop-n-init c = law.put_nothing c.args.buf.now c.args.at

pub numbered-end-requires : goal.numbered-end-requires
numbered-end-requires c =
    let ns = c.args.ns.now in
    let l = c.loop-n in
    law.turn_room (first_numbers ns) (next_number ns) (length ns) (numbers_more ns) l.n-index c.loop-n-test.true (fits (goal.at.numbered-end-requires c).Start) l.invariant

pub loop-n-preserved : goal.loop-n-preserved
loop-n-preserved c =
    let ns = c.args.ns.now in
    let l = c.loop-n in
    law.turn (first_numbers ns) (next_number ns) (length ns) (numbers_more ns) l.n-index c.loop-n-test.true (fits (goal.at.loop-n-preserved c).Start) l.invariant c.numbered-end.ensures
