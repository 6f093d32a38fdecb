-- A turn of the loop is a term more, and a term that has no plan ends it.
use mathlib.Core.Path.{refl, ap, ◌∙◌}
use Rattle.std.specs.Prelude.{Ok, Err}
use Rattle.std.proofs.lemmas.Result.{err_from_is_err_and}
use Rattle.theory.specs.Fold.{fold}
use Rattle.rules.specs.Neighbours.{rule12}
use Rattle.frame.specs.State.{step_of}
use Rattle.frame.proofs.TermsAt.{terms_at, turn, stop}
use Rattle.neighbours.proofs.RuleLaws.{narrows, order_still}
use Rattle.neighbours.proofs.rule_12.Goals as goal

pub loop-j-init : goal.loop-j-init
unfolding fold
loop-j-init c = refl

pub term_judged-requires-clause-from_lightest : goal.term_judged-requires-clause-from_lightest
term_judged-requires-clause-from_lightest c =
    c.requires.from_lightest ∙ order_still c.args.s.now c.loop-j.j c.loop-j-test.true c.loop-j.s c.loop-j.invariant

pub term_judged-requires-clause-is_term : goal.term_judged-requires-clause-is_term
term_judged-requires-clause-is_term c = terms_at rule12 c.args.s.now c.loop-j.j c.loop-j-test.true c.loop-j.s c.loop-j.invariant narrows

pub returns-in_err-term_judged : goal.returns-in_err-term_judged
returns-in_err-term_judged c =
    let p = err_from_is_err_and c.from_residual.result c.from_residual.ensures.1 in
    let r = c.term_judged.new.s in
    ap (step_of r) (p.1 ∙ ap Err p.2)
    ∙ stop rule12 c.args.s.now c.loop-j.j c.loop-j-test.true c.loop-j.s c.loop-j.invariant r _ c.in_err-term_judged.ensures

pub loop-j-preserved : goal.loop-j-preserved
loop-j-preserved c =
    turn rule12 c.args.s.now c.loop-j.j c.loop-j-test.true c.loop-j.s c.loop-j.invariant c.term_judged.new.s (Ok tt) c.in_ok-term_judged.ensures
