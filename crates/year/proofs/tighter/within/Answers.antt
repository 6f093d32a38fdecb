-- The two bounds are the larger and the smaller of the definition; made at once, they are its two moves.
use native.Mathlib.Omega.{arith}
use Rattle.year.proofs.BoundLaws.{told_crossed, told_moved}
use Rattle.year.proofs.tighter.within.Goals as goal

pub returns-then-lowered-raised : goal.returns-then-lowered-raised
returns-then-lowered-raised g c =
    told_crossed g.A.Amount.quantity c.args.t (g.A.Amount.number c.args.a) (g.A.Amount.number c.args.b)
    (omega (arith, c.if-lowered-raised.true, c.min-lowered.ensures, c.max-raised.ensures, c.number-low.ensures, c.number-high.ensures, c.number-a.ensures, c.number-b.ensures, c.low.ensures, c.high.ensures))

pub returns : goal.returns
returns g c =
    rw (c.then_some.ensures, c.bounded.ensures, c.min-lowered.ensures, c.max-raised.ensures, c.number-low.ensures, c.number-high.ensures, c.number-a.ensures, c.number-b.ensures, c.low.ensures, c.high.ensures)
    (told_moved g.A.Amount.quantity c.args.t (g.A.Amount.number c.args.a) (g.A.Amount.number c.args.b)
    (omega (arith, c.if-lowered-raised.false, c.min-lowered.ensures, c.max-raised.ensures, c.number-low.ensures, c.number-high.ensures, c.number-a.ensures, c.number-b.ensures, c.low.ensures, c.high.ensures)))
