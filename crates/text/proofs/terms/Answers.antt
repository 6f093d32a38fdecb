-- `terms`: the terms passed so far stand in the buffer, and whether there are any is known.
use Rattle.std.proofs.Common.{◌+◌, ◌≤◌, ◌≡◌, ◌||◌, length, ap, sym, subst, ◌∙◌, refl, arith}
use Rattle.theory.specs.Bits.{has}
use Rattle.text.specs.Text.{terms_to, commas_of, terms_of}
use Rattle.text.specs.Put.{Put, piece_of}
use Rattle.text.proofs.TextLaws.{text_to, next_term, terms_more, some_more}
use Rattle.text.proofs.PutLaws as law
use Rattle.text.proofs.terms.Goals as goal

pub loop-j-init : goal.loop-j-init
unfolding terms_to commas_of
loop-j-init c = (law.put_nothing c.args.buf.now c.args.at, refl)

pub piece-end-requires-clause-room : goal.piece-end-requires-clause-room
unfolding terms_of
piece-end-requires-clause-room c =
    let t = c.args.list in
    let l = c.loop-j in
    subst (λ x. l.end + length (piece_of x t l.j) ≤ length l.buf) (sym l.invariant.1)
    (law.turn_room (text_to t) (next_term t) 16 (terms_more t) l.j c.loop-j-test.true c.requires l.invariant.0)

pub loop-j-preserved : goal.loop-j-preserved
unfolding terms_of
loop-j-preserved c =
    let t = c.args.list in
    let l = c.loop-j in
    let p = c.piece-end in
    let put = subst (λ x. Put l.buf l.end (piece_of x t l.j) p.new.buf p.result) l.invariant.1 p.ensures in (
      law.turn (text_to t) (next_term t) 16 (terms_more t) l.j c.loop-j-test.true c.requires l.invariant.0 put,
      ap (λ x. x || has t l.j) l.invariant.1 ∙ sym (some_more t l.j),
    )

pub returns : goal.returns
unfolding terms_of
returns c =
    let is : c.loop-j.j ≡ 16 = omega arith in
    subst (λ k. Put c.args.buf.now c.args.at (text_to c.args.list k) c.loop-j.buf c.loop-j.end) is c.loop-j.invariant.0
