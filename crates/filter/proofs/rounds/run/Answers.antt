-- Each need of the loop is one of the laws of `BeforeRound` at the values of the code.
use Prim.Native.Nat.{◌+◌}
use mathlib.Core.Path.{ap, ◌∙◌}
use Rattle.year.specs.declared.Year.{Year}
use Rattle.filter.specs.Filter.{filtered, at_rest}
use Rattle.filter.specs.declared.Answer.{Answer}
use Rattle.filter.proofs.BeforeRound as laws
use Rattle.filter.proofs.rounds.run.Goals as goal
use Rattle.filter.proofs.rounds.run.Goals.{In_default}

pub loop-rule-init : goal.loop-rule-init
loop-rule-init c = laws.before_first c.args.y.year c.args.y.sound c.new-s.result c.new-s.ensures

pub round-requires-clause-all_of_them : goal.round-requires-clause-all_of_them
round-requires-clause-all_of_them c =
    laws.credits c.args.y.year c.args.y.sound c.loop-rule.kept c.loop-rule.s c.loop-rule.n c.loop-rule.invariant _ c.all_credits-all.ensures

pub returns-in-Err : goal.returns-in-Err
returns-in-Err c =
    laws.round_ended c.args.y.year c.args.y.sound c.loop-rule.kept c.loop-rule.s c.loop-rule.n c.loop-rule.invariant c.round.new.s c.in-Err.rule c.in-Err.ensures.step

pub year_in-z-requires : goal.year_in-z-requires
year_in-z-requires c =
    let d = (goal.at.year_in-z-requires c).In_default in
    (laws.still_narrower c.args.y.year c.args.y.sound c.loop-rule.kept c.loop-rule.s c.loop-rule.n c.loop-rule.invariant c.round.new.s d.in_default.ensures.step).weight_same

pub returns-then-not-s : goal.returns-then-not-s
returns-then-not-s c =
    let n = c.loop-rule.n + 1 in
    let d = (goal.at.returns-then-not-s c).In_default in
    ap (λ (x : Answer). filtered x c.year_in-z.result.year) c.at_rest-answer.ensures
    ∙ ap (λ (x : Year). filtered (at_rest x n) x) c.year_in-z.ensures
    ∙ laws.round_rests c.args.y.year c.args.y.sound c.loop-rule.kept c.loop-rule.s c.loop-rule.n c.loop-rule.invariant c.round.new.s d.in_default.ensures.step c.if-not-s.true

pub loop-rule-smaller : goal.loop-rule-smaller
loop-rule-smaller c =
    let d = (goal.at.loop-rule-smaller c).In_default in
    laws.less_next c.args.y.year c.args.y.sound c.loop-rule.kept c.loop-rule.s c.loop-rule.n c.loop-rule.invariant c.round.new.s d.in_default.ensures.step
    c.if-not-s.false c.begin_round.new.self c.begin_round.ensures

pub loop-rule-preserved : goal.loop-rule-preserved
loop-rule-preserved c =
    let d = (goal.at.loop-rule-preserved c).In_default in
    laws.before_next c.args.y.year c.args.y.sound c.loop-rule.kept c.loop-rule.s c.loop-rule.n c.loop-rule.invariant c.round.new.s d.in_default.ensures.step
    c.if-not-s.false c.begin_round.new.self c.begin_round.ensures c.round.new.kept c.round.ensures.in_order
