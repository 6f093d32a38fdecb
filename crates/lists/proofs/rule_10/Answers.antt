-- The loop's invariant: the step after the first j terms.
use mathlib.Core.Path.{◌≡◌, refl, ap, ◌∙◌}
use Rattle.std.specs.Prelude.{Ok, Err}
use Rattle.theory.specs.Fold.{fold}
use Rattle.std.proofs.lemmas.Result.{err_from_is_err_and}
use Rattle.rules.specs.Lists.{rule10}
use Rattle.frame.specs.State.{year_in, step_in, step_of}
use Rattle.frame.proofs.TermsAt.{terms_at, turn, stop}
use Rattle.lists.specs.TermVerdict.{term_judged}
use Rattle.lists.proofs.OverLaws.{lists_10, fits_10, says_10, says_nothing, says_courses, says_dead}
use Rattle.lists.proofs.rule_10.Goals as goal
use Rattle.lists.proofs.rule_10.Goals.{in-Some, in_default, After-term_verdict_10}

pub loop-j-init : goal.loop-j-init
unfolding fold
loop-j-init c = refl

pub term_verdict_10-requires : goal.term_verdict_10-requires
term_verdict_10-requires c =
    let l = c.loop-j in
    fits_10 c.args.s.now l.j c.loop-j-test.true l.s l.invariant

pub each_course-requires : goal.each_course-requires
each_course-requires c =
    let l = c.loop-j in
    record { in_range = terms_at rule10 c.args.s.now l.j c.loop-j-test.true l.s l.invariant lists_10 }

-- what the rule does at the term
is : (c : After-term_verdict_10) → let y = year_in c.loop-j.s in rule10 y c.loop-j.j ≡ term_judged c.term_verdict_10.result y c.loop-j.j
is c =
    let l = c.loop-j in
    says_10 c.args.s.now l.j c.loop-j-test.true l.s l.invariant c.term_verdict_10.result c.term_verdict_10.ensures

pub returns-in_err-whole : goal.returns-in_err-whole
returns-in_err-whole c =
    let l = c.loop-j in
    let e = is (goal.at.returns-in_err-whole c).After-term_verdict_10 in
    let p = err_from_is_err_and c.from_residual.result c.from_residual.ensures.1 in
    ap (step_of l.s) (p.1 ∙ ap Err p.2) ∙ stop rule10 c.args.s.now l.j c.loop-j-test.true l.s l.invariant l.s _ (says_dead rule10 l.s l.j _ e _ c.in_err-whole.was)

pub loop-j-preserved : goal.loop-j-preserved
loop-j-preserved c =
    let l = c.loop-j in
    let e = is (goal.at.loop-j-preserved c).After-term_verdict_10 in
    elim c.match-branch-2.branch [
      | in-Some w ↦ ap step_in w.s-is ∙ turn rule10 c.args.s.now l.j c.loop-j-test.true l.s l.invariant w.each_course.new.s (Ok tt) (w.each_course.ensures ∙ says_courses rule10 l.s l.j _ e w.in-Some.whole (c.in_ok-whole.was ∙ ap Ok w.in-Some.is))
      | in_default w ↦ ap step_in w.s-is ∙ turn rule10 c.args.s.now l.j c.loop-j-test.true l.s l.invariant l.s (Ok tt) (says_nothing rule10 l.s l.j _ e (c.in_ok-whole.was ∙ ap Ok w.in_default.is))
    ]
