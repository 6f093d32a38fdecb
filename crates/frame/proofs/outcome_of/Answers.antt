-- No plan by the rule itself, or what the bounds tell, with the rule for a crossing.
use mathlib.Core.Path.{ap, ◌∙◌}
use borrow.Author.Rules.{rules}
use Rattle.frame.specs.Bounds.{outcome}
use Rattle.frame.proofs.ToldLaws.{told_dead, named_by, named_map, told_moved}
use Rattle.frame.proofs.outcome_of.Goals as goal

pub returns-then-fails : goal.returns-then-fails
unfolding outcome
returns-then-fails c t x is = rw c.if-fails.true (told_dead c.args.rule t)

pub returns : goal.returns
returns c t x is =
    let a = c.args in
    rw c.if-fails.false
    (named_map a.rule a.w c.map_err.result _ c.map_err.ensures.cases (λ e d p. search rules) ∙ ap (named_by a.rule) is ∙ told_moved a.rule t x)
