-- Each call goes on from the step that the one before left; a rule that finds no plan is the last. No rule alters a weight, so the
-- courses stand in the order that they stood in.
use Prim.Native.Nat.{ℕ}
use mathlib.Core.Path.{◌≡◌, sym, ap, ◌∙◌}
use Rattle.std.specs.Prelude.{Err}
use Rattle.std.proofs.lemmas.Result.{err_from_is_err_and}
use Rattle.rules.specs.Lists.{rule10}
use Rattle.rules.specs.Neighbours.{rule12}
use Rattle.rules.specs.Packing.{rule11}
use Rattle.rules.specs.Spares.{up}
use Rattle.rules.specs.Step.{over_terms}
use Rattle.rules.specs.Round.{in_row, passes_of, once}
use Rattle.frame.specs.State.{year_in, step_in, step_of}
use Rattle.frame.specs.declared.State.{State}
use Rattle.frame.proofs.StateLaws.{row_stop, behind}
use Rattle.orders.specs.declared.Orders.{Orders}
use Rattle.orders.proofs.OrderLaws.{orders_weights}
use Rattle.filter.specs.Halves.{second_half}
use Rattle.filter.proofs.rounds.second_half.Goals as goal
use Rattle.filter.proofs.rounds.second_half.Goals.{Start, In_ok-rules_6_to_9, In_ok-rule_10, In_ok-rule_12}

-- ---- z is the state that rules 6 to the one at place a leave
abbrev After : ℕ → Start → State → Type 0
After a b z = step_in z ≡ in_row (passes_of 6 a) (step_in b.args.s.now)

after-9 : (c : In_ok-rules_6_to_9) → After 9 (goal.at.In_ok-rules_6_to_9 c).Start c.rules_6_to_9.new.s
after-9 c = c.in_ok-rules_6_to_9.ensures

after-10 : (c : In_ok-rule_10) → After 10 (goal.at.In_ok-rule_10 c).Start c.rule_10.new.s
after-10 c = c.in_ok-rule_10.ensures ∙ ap (over_terms rule10) (after-9 (goal.at.In_ok-rule_10 c).In_ok-rules_6_to_9)

after-12 : (c : In_ok-rule_12) → After 11 (goal.at.In_ok-rule_12 c).Start c.rule_12.new.s
after-12 c = c.in_ok-rule_12.ensures ∙ ap (over_terms rule12) (after-10 (goal.at.In_ok-rule_12 c).In_ok-rule_10)

still-rising : (b : Start) (a : ℕ) (z : State) → After a b z → b.args.o.now.up ≡ up (year_in z)
still-rising b a z e =
    let n = behind 6 a b.args.s.now z e in
    ap (λ (o : Orders). o.up) (b.requires.in_order ∙ sym (orders_weights (year_in b.args.s.now) (year_in z) n.courses_same n.weight_same))

-- ---- the needs
pub rules_6_to_9-requires : goal.rules_6_to_9-requires
rules_6_to_9-requires c = record { in_order = (ap (λ (o : Orders). o.down) c.requires.in_order, ap (λ (o : Orders). o.up) c.requires.in_order) }

pub returns-in_err-rules_6_to_9 : goal.returns-in_err-rules_6_to_9
unfolding second_half
returns-in_err-rules_6_to_9 c =
    let p = err_from_is_err_and c.from_residual.result c.from_residual.ensures.1 in
    ap (step_of c.rules_6_to_9.new.s) (p.1 ∙ ap Err p.2) ∙ row_stop 10 12 c.rules_6_to_9.new.s _ _ c.in_err-rules_6_to_9.ensures

pub returns-in_err-rule_10 : goal.returns-in_err-rule_10
unfolding second_half
returns-in_err-rule_10 c =
    let p = err_from_is_err_and c.from_residual-in_err-rule_10.result c.from_residual-in_err-rule_10.ensures.1 in
    let e = c.in_err-rule_10.ensures ∙ ap (over_terms rule10) (after-9 (goal.at.returns-in_err-rule_10 c).In_ok-rules_6_to_9) in
    ap (step_of c.rule_10.new.s) (p.1 ∙ ap Err p.2) ∙ row_stop 11 12 c.rule_10.new.s _ _ e

pub rule_12-requires : goal.rule_12-requires
rule_12-requires c =
    let a = (goal.at.rule_12-requires c).In_ok-rule_10 in
    record { from_lightest = still-rising (goal.at.rule_12-requires c).Start 10 a.rule_10.new.s (after-10 a) }

pub returns-in_err-rule_12 : goal.returns-in_err-rule_12
unfolding second_half
returns-in_err-rule_12 c =
    let p = err_from_is_err_and c.from_residual-in_err-rule_12.result c.from_residual-in_err-rule_12.ensures.1 in
    let e = c.in_err-rule_12.ensures ∙ ap (over_terms rule12) (after-10 (goal.at.returns-in_err-rule_12 c).In_ok-rule_10) in
    ap (step_of c.rule_12.new.s) (p.1 ∙ ap Err p.2) ∙ row_stop 12 12 c.rule_12.new.s _ _ e

pub rule_11-requires : goal.rule_11-requires
rule_11-requires c =
    let a = (goal.at.rule_11-requires c).In_ok-rule_12 in
    record { from_lightest = still-rising (goal.at.rule_11-requires c).Start 11 a.rule_12.new.s (after-12 a) }

pub returns : goal.returns
unfolding second_half
returns c = c.rule_11.ensures ∙ ap (once rule11) (after-12 (goal.at.returns c).In_ok-rule_12)
