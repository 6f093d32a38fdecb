-- `digits`: the digits before the last, and the last.
use Rattle.std.proofs.Common.{rules, ℕ, ◌+◌, ◌≤◌, ◌++◌, ◌∷◌, [], length, sym, subst}
use Rattle.text.specs.Text.{digit_of}
use Rattle.text.specs.Put.{Put}
use Rattle.text.proofs.PutLaws as law
use Rattle.text.proofs.DigitLaws.{front_of, no_front, some_front, last_digit}
use Rattle.text.proofs.+digits.Goals as goal
use Rattle.text.proofs.+digits.Goals.{Start, Joined-n-ge10, then-n-ge10, else-n-ge10}

-- room for the digits before the last, and for the last
fits : (t : ℕ) (c : Start t) → c.args.at + length (front_of c.args.n ++ digit_of c.args.n ∷ []) ≤ length c.args.buf.now
fits t c = subst (λ l. c.args.at + length l ≤ length c.args.buf.now) (last_digit c.args.n c.ranges.n.fits) c.requires

-- the digits before the last stand in the buffer
before : (t : ℕ) (c : Joined-n-ge10 t) → Put c.args.buf.now c.args.at (front_of c.args.n) c.if-n-ge10.buf c.if-n-ge10.last
before t c =
    elim c.if-n-ge10.branch [
      | then-n-ge10 w ↦ rw (w.buf-is, w.last-is, some_front c.args.n w.if-n-ge10.true) w.digits-last.ensures
      | else-n-ge10 w ↦ rw (w.buf-is, w.last-is, no_front c.args.n w.if-n-ge10.false) (law.put_nothing c.args.buf.now c.args.at)
    ]

pub digits-last-requires : goal.digits-last-requires
digits-last-requires t c = (
  search rules,
  subst (λ l. c.args.at + length l ≤ length c.args.buf.now) (some_front c.args.n c.if-n-ge10.true)
      (law.room_first _ c.args.at _ (digit_of c.args.n ∷ []) (fits t (goal.at.digits-last-requires t c).Start)),
)

pub put-requires : goal.put-requires
put-requires t c = law.room _ (before t (goal.at.put-requires t c).Joined-n-ge10) (fits t (goal.at.put-requires t c).Start)

pub returns : goal.returns
returns t c =
    subst (λ l. Put c.args.buf.now c.args.at l c.put.new.buf c.put.result) (sym (last_digit c.args.n c.ranges.n.fits))
    (law.puts (before t (goal.at.returns t c).Joined-n-ge10) c.put.ensures (fits t (goal.at.returns t c).Start))
