-- What is said of the term is what the rule does there.
use mathlib.Core.Path.{◌≡◌, ap, subst, ◌∙◌}
use borrow.Author.Rules.{rules}
use Rattle.std.specs.Prelude.{Ok, Err}
use Rattle.std.proofs.lemmas.Result.{err_from_is_err_and}
use Rattle.frame.specs.State.{year_in, step_of}
use Rattle.neighbours.specs.Verdicts.{SaysOf}
use Rattle.neighbours.specs.declared.Says.TheVariants.{Nothing, Courses}
use Rattle.neighbours.proofs.RuleLaws.{says_else, nothing_left, courses_left, none_left}
use Rattle.neighbours.proofs.terms.term_judged.Goals as goal

pub returns-in_err-says : goal.returns-in_err-says
returns-in_err-says c =
    let p = err_from_is_err_and c.from_residual.result c.from_residual.ensures.1 in
    ap (step_of c.args.s.now) (p.1 ∙ ap Err p.2) ∙ none_left c.args.s.now c.args.j _ c.in_err-says.ensures

pub returns-then-eq : goal.returns-then-eq
returns-then-eq c =
    let is : c.in_ok-says.field-0 ≡ Courses = search rules in
    c.each_course.ensures ∙ courses_left c.args.s.now c.args.j (subst (λ w. SaysOf (year_in c.args.s.now) c.args.j (Ok w)) is c.in_ok-says.ensures)

pub returns-else-eq : goal.returns-else-eq
returns-else-eq c =
    let is : c.in_ok-says.field-0 ≡ Nothing = says_else c.in_ok-says.field-0 (λ e. let q = rw e at c.if-eq.ensures in cc) in
    nothing_left c.args.s.now c.args.j (subst (λ w. SaysOf (year_in c.args.s.now) c.args.j (Ok w)) is c.in_ok-says.ensures)
