-- Whether all can be packed decides the answer.
use mathlib.Core.Path.{sym, ◌∙◌}
use Rattle.packing.proofs.StateLaws.{finds_no_plan, finds_nothing}
use Rattle.packing.proofs.rule_11.Goals as goal

pub returns-then-unpackable : goal.returns-then-unpackable
returns-then-unpackable c = finds_no_plan c.args.s.now (sym c.unpackable.ensures ∙ c.if-unpackable.true)

pub returns : goal.returns
returns c = finds_nothing c.args.s.now (sym c.unpackable.ensures ∙ c.if-unpackable.false)
