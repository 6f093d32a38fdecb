-- A turn is one of the rule, with spares set up from the bounds at hand.
use Prim.Native.Nat.{◌<◌}
use mathlib.Core.Path.{refl, sym, ap, ◌∙◌}
use Rattle.std.specs.Prelude.{Err}
use Rattle.std.proofs.lemmas.Result.{err_from_is_err_and}
use Rattle.theory.specs.Fold.{fold}
use Rattle.frame.specs.State.{step_of}
use Rattle.walks.specs.Sparing.{tallies_of}
use Rattle.walks.proofs.WalkRows.{walk_here, weight_at, order_at, set_up, walk_fits, walk_turn, walk_stop, least_left, sums_left}
use Rattle.walks.proofs.walking.walk_rule.Goals as goal
use Rattle.walks.proofs.walking.walk_rule.Goals.{After-spares-spare}

pub loop-j-init : goal.loop-j-init
unfolding fold
loop-j-init c = record { holds = refl; low_counts_are = c.low_counts-least.ensures; tallied = c.requires.tallied }

within : (c : After-spares-spare) → c.loop-j.j < c.loop-j.s.terms
within c = walk_here c.args.rule c.args.s.now c.loop-j.j c.loop-j-test.true c.loop-j.s c.loop-j.invariant.holds

pub by_walk-outcome-requires-clause-in_range : goal.by_walk-outcome-requires-clause-in_range
by_walk-outcome-requires-clause-in_range c = within (goal.at.by_walk-outcome-requires-clause-in_range c).After-spares-spare

pub by_walk-outcome-requires-clause-weights : goal.by_walk-outcome-requires-clause-weights
by_walk-outcome-requires-clause-weights c = weight_at c.args.rule c.args.s.now c.loop-j.j c.loop-j-test.true c.loop-j.s c.loop-j.invariant.holds

pub by_walk-outcome-requires-clause-in_order : goal.by_walk-outcome-requires-clause-in_order
by_walk-outcome-requires-clause-in_order c =
    order_at c.args.rule c.args.s.now c.loop-j.j c.loop-j-test.true c.loop-j.s c.loop-j.invariant.holds c.args.order.now c.requires.in_order

pub by_walk-outcome-requires-clause-set_up : goal.by_walk-outcome-requires-clause-set_up
by_walk-outcome-requires-clause-set_up c =
    c.spares-spare.ensures ∙ set_up c.loop-j.s c.args.tallies c.loop-j.invariant.tallied c.loop-j.least c.loop-j.invariant.low_counts_are

pub tighten-requires-clause-in_range : goal.tighten-requires-clause-in_range
tighten-requires-clause-in_range c = within (goal.at.tighten-requires-clause-in_range c).After-spares-spare

pub tighten-requires-clause-fits : goal.tighten-requires-clause-fits
tighten-requires-clause-fits c =
    walk_fits c.args.rule c.args.s.now c.loop-j.j c.loop-j-test.true c.loop-j.s c.loop-j.invariant.holds _ c.by_walk-outcome.ensures

pub returns-in_err-tighten : goal.returns-in_err-tighten
returns-in_err-tighten c =
    let p = err_from_is_err_and c.from_residual.result c.from_residual.ensures.1 in
    let t = c.tighten.new.self in
    ap (step_of t) (p.1 ∙ ap Err p.2)
    ∙ walk_stop c.args.rule c.args.s.now c.loop-j.j c.loop-j-test.true c.loop-j.s c.loop-j.invariant.holds _ c.by_walk-outcome.ensures t _ c.in_err-tighten.ensures

pub loop-j-preserved : goal.loop-j-preserved
loop-j-preserved c =
    let a = c.args in
    let i = c.loop-j.invariant in
    let z = c.loop-j.s in
    let t = c.tighten.new.self in
    let e = c.in_ok-tighten.ensures in
    record {
      holds = walk_turn a.rule a.s.now c.loop-j.j c.loop-j-test.true z i.holds _ c.by_walk-outcome.ensures t e;
      low_counts_are = least_left a.rule a.s.now c.loop-j.j c.loop-j-test.true z i.holds _ c.by_walk-outcome.ensures t e c.loop-j.least i.low_counts_are;
      tallied = i.tallied ∙ ap tallies_of (sym (sums_left a.rule a.s.now c.loop-j.j c.loop-j-test.true z i.holds _ c.by_walk-outcome.ensures t e));
    }
