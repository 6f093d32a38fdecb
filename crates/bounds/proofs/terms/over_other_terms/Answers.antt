-- A turn is one of the rule; the term that it leaves is among the totals.
use mathlib.Core.Path.{refl, ap, ◌∙◌}
use native.Mathlib.Omega.{arith}
use Rattle.std.specs.Prelude.{Err}
use Rattle.std.proofs.lemmas.Result.{err_from_is_err_and}
use Rattle.theory.specs.Fold.{fold}
use Rattle.frame.specs.State.{step_of}
use Rattle.bounds.proofs.AtTermLaws.{totals_front, entry_le}
use Rattle.bounds.proofs.TurnLaws.{other_here, other_fits, other_turn, other_stop, room, totals_left}
use Rattle.bounds.proofs.terms.over_other_terms.Goals as goal

pub loop-j-init : goal.loop-j-init
unfolding fold
loop-j-init g c = record { holds = refl; totals_are = c.totals-x.ensures ∙ totals_front c.args.s.now.term c.args.s.now.terms (omega (arith, c.args.s.now.sound)) }

pub tighten-requires-clause-in_range : goal.tighten-requires-clause-in_range
tighten-requires-clause-in_range g c =
    let i = c.loop-j.invariant in
    other_here g.A.Amount.quantity c.args.s.now c.loop-j.j c.loop-j-test.true c.loop-j.s i.holds _ c.requires.all_value c.loop-j.x i.totals_are

pub tighten-requires-clause-fits : goal.tighten-requires-clause-fits
tighten-requires-clause-fits g c =
    let i = c.loop-j.invariant in
    other_fits g.A.Amount.quantity c.args.s.now c.loop-j.j c.loop-j-test.true c.loop-j.s i.holds _ c.requires.all_value c.loop-j.x i.totals_are
    _ c.other_terms-outcome.ensures c.loop-j.s

pub returns-in_err-tighten : goal.returns-in_err-tighten
returns-in_err-tighten g c =
    let i = c.loop-j.invariant in
    let p = err_from_is_err_and c.from_residual.result c.from_residual.ensures.1 in
    let r = c.tighten.new.self in
    ap (step_of r) (p.1 ∙ ap Err p.2)
    ∙ other_stop g.A.Amount.quantity c.args.s.now c.loop-j.j c.loop-j-test.true c.loop-j.s i.holds _ c.requires.all_value c.loop-j.x i.totals_are
    _ c.other_terms-outcome.ensures r _ c.in_err-tighten.ensures

pub changed-x-requires-clause-among : goal.changed-x-requires-clause-among
changed-x-requires-clause-among g c = entry_le c.loop-j.s.term c.args.s.now.terms c.loop-j.j c.loop-j-test.true c.loop-j.x c.loop-j.invariant.totals_are

pub changed-x-requires-clause-room : goal.changed-x-requires-clause-room
changed-x-requires-clause-room g c =
    let i = c.loop-j.invariant in
    room g.A.Amount.quantity c.args.s.now c.loop-j.j c.loop-j-test.true c.loop-j.s i.holds _ c.requires.all_value c.loop-j.x i.totals_are

pub loop-j-preserved : goal.loop-j-preserved
loop-j-preserved g c =
    let q = g.A.Amount.quantity in
    let i = c.loop-j.invariant in
    let s = c.args.s.now in
    record {
      holds =
          other_turn q s c.loop-j.j c.loop-j-test.true c.loop-j.s i.holds _ c.requires.all_value c.loop-j.x i.totals_are
          _ c.other_terms-outcome.ensures c.tighten.new.self c.in_ok-tighten.ensures;
      totals_are =
          totals_left q s c.loop-j.j c.loop-j-test.true c.loop-j.s i.holds _ c.requires.all_value c.loop-j.x i.totals_are
          _ c.other_terms-outcome.ensures c.tighten.new.self c.in_ok-tighten.ensures c.changed-x.result c.changed-x.ensures;
    }
