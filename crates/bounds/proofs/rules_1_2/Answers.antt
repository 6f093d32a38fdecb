-- Rule 2 goes on where rule 1 left off, if that found a plan; if it did not, the row is over.
use mathlib.Core.Path.{sym, ap, ◌∙◌}
use Rattle.std.specs.Prelude.{Err}
use Rattle.std.proofs.lemmas.Result.{err_from_is_err_and}
use Rattle.year.specs.declared.Quantity.TheVariants.{Credits}
use Rattle.frame.specs.State.{step_of}
use Rattle.frame.proofs.StateLaws.{row_stop}
use Rattle.bounds.proofs.TurnLaws.{all_kept}
use Rattle.bounds.proofs.rules_1_2.Goals as goal

pub over_other_terms-requires : goal.over_other_terms-requires
over_other_terms-requires c = record { all_value = c.requires.all_value ∙ sym (all_kept Credits c.args.s.now c.over_own_sums.new.s c.in_ok-over_own_sums.ensures) }

pub returns-in_err-over_own_sums : goal.returns-in_err-over_own_sums
returns-in_err-over_own_sums c =
    let p = err_from_is_err_and c.from_residual.result c.from_residual.ensures.1 in
    let r = c.over_own_sums.new.s in
    ap (step_of r) (p.1 ∙ ap Err p.2) ∙ row_stop 2 2 r _ _ c.in_err-over_own_sums.ensures
