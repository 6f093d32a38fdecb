-- The halves are a split of the round; a first half that finds no plan is the round. No rule alters a weight, so the orders stay.
use mathlib.Core.Path.{sym, ap, subst, ◌∙◌}
use Rattle.std.specs.Prelude.{Err}
use Rattle.std.proofs.lemmas.Result.{err_from_is_err_and}
use Rattle.year.specs.Sound.{Sound}
use Rattle.year.specs.declared.Year.{Year}
use Rattle.frame.specs.State.{year_in, step_of}
use Rattle.frame.proofs.StateLaws.{row_stop}
use Rattle.rules.specs.Step.{live, Step}
use Rattle.rules.specs.Round.{passes_of}
use Rattle.rules.specs.Narrower.{Narrower}
use Rattle.rules.proofs.Narrows.{narrower_self}
use Rattle.rules.proofs.Passes.{row_narrower, lawful_part}
use Rattle.orders.proofs.OrderLaws.{cut_orders_are, orders_weights, cut_weights_fit}
use Rattle.filter.specs.Halves.{first_half, second_half}
use Rattle.filter.proofs.RoundLaws.{halves}
use Rattle.filter.proofs.BeforeRound.{in_order_still, in_order_at}
use Rattle.filter.proofs.rounds.round.Goals as goal
use Rattle.filter.proofs.rounds.round.Goals.{Start, In_ok-first_half}

first_narrower : (z : Year) → Sound z → Narrower z (first_half z).year
unfolding first_half
first_narrower z s = row_narrower (passes_of 1 5) (lawful_part 1 5) z (live z) (narrower_self z s)

-- what the first half leaves, where it goes on
between : (c : In_ok-first_half) → let b = (goal.at.In_ok-first_half c).Start in Narrower (year_in b.args.s.now) (year_in c.first_half.new.s)
between c =
    let b = (goal.at.In_ok-first_half c).Start in
    let z = year_in b.args.s.now in
    subst (Narrower z) (sym (ap (λ (p : Step). p.year) c.in_ok-first_half.ensures)) (first_narrower z b.args.s.now.sound)

pub returns-in_err-first_half-clause-step : goal.returns-in_err-first_half-clause-step
unfolding second_half
returns-in_err-first_half-clause-step c =
    let p = err_from_is_err_and c.from_residual.result c.from_residual.ensures.1 in
    ap (step_of c.first_half.new.s) (p.1 ∙ ap Err p.2)
    ∙ row_stop 6 12 c.first_half.new.s _ _ c.in_err-first_half.ensures
    ∙ sym (halves (year_in c.args.s.now))

pub orders_kept-o-requires : goal.orders_kept-o-requires
orders_kept-o-requires c =
    let a = (goal.at.orders_kept-o-requires c).In_ok-first_half in
    let b = (goal.at.orders_kept-o-requires c).Start in
    let n = between a in
    let z = year_in a.first_half.new.s in
    let sound = a.first_half.new.s.sound in
    let f = cut_weights_fit z sound in
    let i = in_order_still (year_in b.args.s.now) z b.args.kept.now n.courses_same n.weight_same b.requires.in_order in
    record { few = f.few; light = f.light; in_order = in_order_at z sound b.args.kept.now i }

pub second_half-requires : goal.second_half-requires
second_half-requires c =
    let a = (goal.at.second_half-requires c).In_ok-first_half in
    record { in_order = c.orders_kept-o.ensures.value ∙ cut_orders_are (year_in a.first_half.new.s) a.first_half.new.s.sound }

pub returns-clause-step : goal.returns-clause-step
returns-clause-step c =
    let a = (goal.at.returns-clause-step c).In_ok-first_half in
    c.second_half.ensures ∙ ap second_half a.in_ok-first_half.ensures ∙ sym (halves (year_in (goal.at.returns-clause-step c).Start.args.s.now))

pub returns-clause-in_order : goal.returns-clause-in_order
returns-clause-in_order c =
    let a = (goal.at.returns-clause-in_order c).In_ok-first_half in
    let b = (goal.at.returns-clause-in_order c).Start in
    let n = between a in
    rw c.orders_kept-o.ensures.in_order (cut_orders_are (year_in a.first_half.new.s) a.first_half.new.s.sound ∙ orders_weights (year_in b.args.s.now) (year_in a.first_half.new.s) n.courses_same n.weight_same)
