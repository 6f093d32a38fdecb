-- A turn is one of the rule.
use mathlib.Core.Path.{refl, ap, ◌∙◌}
use Rattle.std.specs.Prelude.{Err}
use Rattle.std.proofs.lemmas.Result.{err_from_is_err_and}
use Rattle.theory.specs.Fold.{fold}
use Rattle.frame.specs.State.{step_of}
use Rattle.bounds.proofs.TurnLaws.{own_here, own_few, own_fits, own_turn, own_stop}
use Rattle.bounds.proofs.terms.over_own_sums.Goals as goal

pub loop-j-init : goal.loop-j-init
unfolding fold
loop-j-init g c = refl

pub own_sums-outcome-requires : goal.own_sums-outcome-requires
own_sums-outcome-requires g c = record { few = own_few g.A.Amount.quantity c.args.s.now c.loop-j.j c.loop-j-test.true c.loop-j.s c.loop-j.invariant }

pub tighten-requires-clause-in_range : goal.tighten-requires-clause-in_range
tighten-requires-clause-in_range g c = own_here g.A.Amount.quantity c.args.s.now c.loop-j.j c.loop-j-test.true c.loop-j.s c.loop-j.invariant

pub tighten-requires-clause-fits : goal.tighten-requires-clause-fits
tighten-requires-clause-fits g c =
    own_fits g.A.Amount.quantity c.args.s.now c.loop-j.j c.loop-j-test.true c.loop-j.s c.loop-j.invariant _ c.own_sums-outcome.ensures c.loop-j.s

pub returns-in_err-tighten : goal.returns-in_err-tighten
returns-in_err-tighten g c =
    let p = err_from_is_err_and c.from_residual.result c.from_residual.ensures.1 in
    let r = c.tighten.new.self in
    ap (step_of r) (p.1 ∙ ap Err p.2)
    ∙ own_stop g.A.Amount.quantity c.args.s.now c.loop-j.j c.loop-j-test.true c.loop-j.s c.loop-j.invariant _ c.own_sums-outcome.ensures r _ c.in_err-tighten.ensures

pub loop-j-preserved : goal.loop-j-preserved
loop-j-preserved g c =
    own_turn g.A.Amount.quantity c.args.s.now c.loop-j.j c.loop-j-test.true c.loop-j.s c.loop-j.invariant _ c.own_sums-outcome.ensures c.tighten.new.self c.in_ok-tighten.ensures
