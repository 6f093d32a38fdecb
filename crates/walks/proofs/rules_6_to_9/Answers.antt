-- Each rule goes on where the rule before it left off, and the courses stay; one that finds no plan ends the row.
use mathlib.Core.Path.{ap, ◌∙◌}
use Rattle.std.specs.Prelude.{Err}
use Rattle.std.proofs.lemmas.Result.{err_from_is_err_and}
use Rattle.rules.specs.Step.{over_terms}
use Rattle.rules.specs.Spares.{rule7, rule8}
use Rattle.frame.specs.State.{year_in, step_of}
use Rattle.frame.proofs.BoundsOnly.{BoundsOnly, only_then}
use Rattle.frame.proofs.StateLaws.{row_stop, sums_fit}
use Rattle.walks.specs.declared.WalkRule.TheVariants.{LeastCount, MostCount, LeastLoad, MostLoad}
use Rattle.walks.proofs.WalkRows.{after, asked}
use Rattle.walks.proofs.rules_6_to_9.Goals as goal
use Rattle.walks.proofs.rules_6_to_9.Goals.{In_ok-walk_rule, In_ok-walk_rule-2, In_ok-walk_rule-3}

-- ---- behind rules 6 to k

after-6 : (c : In_ok-walk_rule) → BoundsOnly (year_in c.args.s.now) (year_in c.walk_rule.new.s)
after-6 c = after LeastCount c.args.s.now c.walk_rule.new.s c.in_ok-walk_rule.ensures

after-7 : (c : In_ok-walk_rule-2) → BoundsOnly (year_in c.args.s.now) (year_in c.walk_rule-2.new.s)
after-7 c = only_then _ _ _ (after-6 (goal.at.In_ok-walk_rule-2 c).In_ok-walk_rule) (after MostCount c.walk_rule.new.s c.walk_rule-2.new.s c.in_ok-walk_rule-2.ensures)

after-8 : (c : In_ok-walk_rule-3) → BoundsOnly (year_in c.args.s.now) (year_in c.walk_rule-3.new.s)
after-8 c = only_then _ _ _ (after-7 (goal.at.In_ok-walk_rule-3 c).In_ok-walk_rule-2) (after LeastLoad c.walk_rule-2.new.s c.walk_rule-3.new.s c.in_ok-walk_rule-3.ensures)

pub tallies_of-tallies-requires : goal.tallies_of-tallies-requires
tallies_of-tallies-requires c = sums_fit (year_in c.args.s.now) c.args.s.now.sound

pub walk_rule-requires-2 : goal.walk_rule-requires-2
walk_rule-requires-2 c =
    let s = c.args.s.now in
    let k = asked MostCount s c.walk_rule.new.s (after-6 (goal.at.walk_rule-requires-2 c).In_ok-walk_rule) c.args.rising.now c.requires.in_order.1 _ c.tallies_of-tallies.ensures in
    record { in_order = k.0; tallied = k.1 }

pub walk_rule-requires-3 : goal.walk_rule-requires-3
walk_rule-requires-3 c =
    let s = c.args.s.now in
    let k = asked LeastLoad s c.walk_rule-2.new.s (after-7 (goal.at.walk_rule-requires-3 c).In_ok-walk_rule-2) c.args.rising.now c.requires.in_order.1 _ c.tallies_of-tallies.ensures in
    record { in_order = k.0; tallied = k.1 }

pub walk_rule-requires-4 : goal.walk_rule-requires-4
walk_rule-requires-4 c =
    let s = c.args.s.now in
    let k = asked MostLoad s c.walk_rule-3.new.s (after-8 (goal.at.walk_rule-requires-4 c).In_ok-walk_rule-3) c.args.falling.now c.requires.in_order.0 _ c.tallies_of-tallies.ensures in
    record { in_order = k.0; tallied = k.1 }

-- ---- where a rule found no plan

pub returns-in_err-walk_rule : goal.returns-in_err-walk_rule
returns-in_err-walk_rule c =
    let p = err_from_is_err_and c.from_residual.result c.from_residual.ensures.1 in
    let t = c.walk_rule.new.s in
    ap (step_of t) (p.1 ∙ ap Err p.2) ∙ row_stop 7 9 t _ _ c.in_err-walk_rule.ensures

pub returns-in_err-walk_rule-2 : goal.returns-in_err-walk_rule-2
returns-in_err-walk_rule-2 c =
    let p = err_from_is_err_and c.from_residual-in_err-walk_rule-2.result c.from_residual-in_err-walk_rule-2.ensures.1 in
    let t = c.walk_rule-2.new.s in
    ap (step_of t) (p.1 ∙ ap Err p.2)
    ∙ row_stop 8 9 t _ _ (c.in_err-walk_rule-2.ensures ∙ ap (over_terms rule7) c.in_ok-walk_rule.ensures)

pub returns-in_err-walk_rule-3 : goal.returns-in_err-walk_rule-3
returns-in_err-walk_rule-3 c =
    let p = err_from_is_err_and c.from_residual-in_err-walk_rule-3.result c.from_residual-in_err-walk_rule-3.ensures.1 in
    let t = c.walk_rule-3.new.s in
    ap (step_of t) (p.1 ∙ ap Err p.2)
    ∙ row_stop 9 9 t _ _ (c.in_err-walk_rule-3.ensures ∙ ap (over_terms rule8) (c.in_ok-walk_rule-2.ensures ∙ ap (over_terms rule7) c.in_ok-walk_rule.ensures))
