-- The loop's invariant: the heaviest open courses among the first i.
use mathlib.Core.Path.{refl, ap₂, ◌∙◌}
use Rattle.theory.specs.Tab.{tab}
use Rattle.lists.specs.Heaviest.{heaviest_to, heaviest_with}
use Rattle.lists.proofs.HeaviestLaws.{heaviest_all_more}
use Rattle.lists.proofs.heaviest.heaviest.Goals as goal

pub loop-i-init : goal.loop-i-init
unfolding tab heaviest_to
loop-i-init c = refl

pub loop-i-preserved : goal.loop-i-preserved
loop-i-preserved c =
    let s = c.args.s.now in
    c.add_course.ensures ∙ ap₂ (λ t x. tab 16 (heaviest_with t x)) c.loop-i.invariant c.course_in.ensures ∙ heaviest_all_more s.weight.now s.list c.loop-i.i
