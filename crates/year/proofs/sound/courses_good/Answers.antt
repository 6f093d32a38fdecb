-- The loop's invariant: the flag says whether the first i entries are good.
use mathlib.Core.Path.{◌≡◌, sym, ap, ap₂, ◌∙◌}
use mathlib.Core.Bool.{◌&&◌}
use native.Mathlib.Omega.{arith}
use lib.Dec.{ltb}
use borrow.Author.Rules.{rules}
use Rattle.theory.specs.Tests.{all}
use Rattle.theory.proofs.TestLaws.{all_more}
use Rattle.theory.specs.Choice.{choose}
use Rattle.year.specs.Sound.{course_sound, course_blank, course_good}
use Rattle.year.specs.declared.Course.{Course}
use Rattle.year.proofs.sound.courses_good.Goals as goal

pub loop-i-init : goal.loop-i-init
unfolding all
loop-i-init c = search rules

pub loop-i-preserved : goal.loop-i-preserved
loop-i-preserved c =
    let o = c.before in
    let l = o.before.before.before.before in
    let y = l.args.y.now in
    let one : c.course_good-good.result ≡ course_good y l.loop-i.i = c.course_good-good.ensures ∙ ap (λ (x : Course). choose (ltb l.loop-i.i y.courses) (course_sound x y.terms) (course_blank x)) o.course_of-c.ensures in
    (search rules, ap₂ ◌&&◌ l.loop-i.invariant.1 one ∙ sym (all_more l.loop-i.i (course_good y)))

pub returns : goal.returns
returns c =
    let is : c.loop-i.i ≡ 64 = omega arith in
    c.loop-i.invariant.1 ∙ ap (λ n. all n (course_good c.args.y.now)) is
