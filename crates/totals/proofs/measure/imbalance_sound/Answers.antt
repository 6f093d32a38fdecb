-- Past both refusals the terms have all credits. The refusals themselves are found by the laws that the function names.
use mathlib.Core.Path.{◌≡◌, sym, ap, ◌∙◌}
use native.Mathlib.Omega.{arith}
use Rattle.std.specs.Prelude.{Ok}
use Rattle.theory.specs.Sum.{sum}
use Rattle.theory.proofs.PairLaws.{squares_most, square_least}
use Rattle.year.specs.Sums.{fixed_credits, all_credits}
use Rattle.year.proofs.SumLaws.{all_credits_le}
use Rattle.year.proofs.OnePlacing.{placed_total}
use Rattle.year.proofs.ImbalanceLaws.{imbalance_given}
use Rattle.totals.proofs.measure.imbalance_sound.Goals as goal

pub difference-requires : goal.difference-requires
difference-requires c =
    let y = c.args.y.now.year in
    let s = c.args.y.now.sound in
    let l = c.loads_of.ensures in
    let total : sum y.terms (fixed_credits y) ≡ all_credits y = placed_total y s (sym c.all_placed.ensures ∙ c.if-not-all_placed.false) in (
      s.terms_most,
      omega (arith, l.all, total, all_credits_le y s, s.courses_most),
      rw (l.all, l.squares) (squares_most y.terms (fixed_credits y)),
      rw (l.all, l.squares) (square_least y.terms (fixed_credits y)),
    )

pub returns : goal.returns
returns c =
    let y = c.args.y.now.year in
    let s = c.args.y.now.sound in
    let l = c.loads_of.ensures in
    let placed = sym c.all_placed.ensures ∙ c.if-not-all_placed.false in
    ap Ok (rw (l.all, l.squares, placed_total y s placed) at c.difference.ensures)
    ∙ sym (imbalance_given y s placed (sym c.all_fit.ensures ∙ c.if-not-all_fit.false))
