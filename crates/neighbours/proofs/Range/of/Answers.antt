-- What is fixed in the term is what its sums say.
use native.Mathlib.Omega.{arith}
use Rattle.frame.specs.State.{year_in}
use Rattle.neighbours.proofs.YearLaws.{fixed_of}
use Rattle.neighbours.proofs.Range.of.Goals as goal

pub returns : goal.returns
returns c =
    let s = c.args.s.now in
    let p = fixed_of (year_in s) s.sound c.args.j c.requires.is_term in
    (omega (arith, p), omega (arith, p))
