-- Each call goes on from the step that the one before left; where rule 1 or 2 finds no plan, the others do nothing.
use mathlib.Core.Path.{ap, ◌∙◌}
use Rattle.std.specs.Prelude.{Err}
use Rattle.std.proofs.lemmas.Result.{err_from_is_err_and}
use Rattle.rules.specs.Lists.{rule3}
use Rattle.rules.specs.Step.{over_terms}
use Rattle.rules.specs.Round.{in_row, passes_of}
use Rattle.frame.specs.State.{step_of}
use Rattle.frame.proofs.StateLaws.{row_stop}
use Rattle.filter.specs.Halves.{first_half}
use Rattle.filter.proofs.rounds.first_half.Goals as goal

pub returns-in_err-rules_1_2 : goal.returns-in_err-rules_1_2
unfolding first_half
returns-in_err-rules_1_2 c =
    let p = err_from_is_err_and c.from_residual.result c.from_residual.ensures.1 in
    ap (step_of c.rules_1_2.new.s) (p.1 ∙ ap Err p.2)
    ∙ row_stop 3 5 c.rules_1_2.new.s _ _ c.in_err-rules_1_2.ensures
    ∙ ap (λ s. in_row (passes_of 3 5) (in_row (passes_of 1 2) s)) c.requires.unaltered

pub returns : goal.returns
unfolding first_half
returns c =
    let behind-2 = c.in_ok-rules_1_2.ensures ∙ ap (in_row (passes_of 1 2)) c.requires.unaltered in
    c.rules_4_5.ensures ∙ ap (in_row (passes_of 4 5)) (c.rule_3.ensures ∙ ap (over_terms rule3) behind-2)
