-- The loop's invariant: the step after the first j terms.
use mathlib.Core.Path.{◌≡◌, refl, ap, ◌∙◌}
use Rattle.std.specs.Prelude.{Ok}
use Rattle.theory.specs.Fold.{fold}
use Rattle.rules.specs.Lists.{rule3}
use Rattle.frame.specs.State.{year_in, step_in}
use Rattle.frame.proofs.TermsAt.{terms_at, turn}
use Rattle.lists.specs.TermVerdict.{term_judged}
use Rattle.lists.proofs.OverLaws.{lists_3, fits_3, says_3, says_nothing, says_courses}
use Rattle.lists.proofs.rule_3.Goals as goal
use Rattle.lists.proofs.rule_3.Goals.{in-Some, in_default, After-term_verdict_3}

pub loop-j-init : goal.loop-j-init
unfolding fold
loop-j-init c = refl

pub term_verdict_3-requires : goal.term_verdict_3-requires
term_verdict_3-requires c =
    let l = c.loop-j in
    fits_3 c.args.s.now l.j c.loop-j-test.true l.s l.invariant c.heaviest-heaviest.result c.heaviest-heaviest.ensures

pub each_course-requires : goal.each_course-requires
each_course-requires c =
    let l = c.loop-j in
    record { in_range = terms_at rule3 c.args.s.now l.j c.loop-j-test.true l.s l.invariant lists_3 }

-- what the rule does at the term
is : (c : After-term_verdict_3) → let y = year_in c.loop-j.s in rule3 y c.loop-j.j ≡ term_judged (Ok c.term_verdict_3.result) y c.loop-j.j
is c =
    let l = c.loop-j in
    says_3 c.args.s.now l.j c.loop-j-test.true l.s l.invariant c.heaviest-heaviest.result c.heaviest-heaviest.ensures c.term_verdict_3.result c.term_verdict_3.ensures

pub loop-j-preserved : goal.loop-j-preserved
loop-j-preserved c =
    let l = c.loop-j in
    let e = is (goal.at.loop-j-preserved c).After-term_verdict_3 in
    elim c.match-term_verdict_3.branch [
      | in-Some w ↦ ap step_in w.s-is ∙ turn rule3 c.args.s.now l.j c.loop-j-test.true l.s l.invariant w.each_course.new.s (Ok tt) (w.each_course.ensures ∙ says_courses rule3 l.s l.j _ e w.in-Some.whole (ap Ok w.in-Some.is))
      | in_default w ↦ ap step_in w.s-is ∙ turn rule3 c.args.s.now l.j c.loop-j-test.true l.s l.invariant l.s (Ok tt) (says_nothing rule3 l.s l.j _ e (ap Ok w.in_default.is))
    ]
