-- The loop's invariant: the flag says whether the first j entries are good.
use mathlib.Core.Path.{◌≡◌, sym, ap, ap₂, ◌∙◌}
use mathlib.Core.Bool.{◌&&◌}
use native.Mathlib.Omega.{arith}
use borrow.Author.Rules.{rules}
use Rattle.theory.specs.Tests.{all}
use Rattle.theory.proofs.TestLaws.{all_more}
use Rattle.year.specs.Sound.{term_good}
use Rattle.year.proofs.sound.terms_good.Goals as goal

pub loop-j-init : goal.loop-j-init
unfolding all
loop-j-init c = search rules

pub loop-j-preserved : goal.loop-j-preserved
loop-j-preserved c =
    let l = c.before.before.before in
    let y = l.args.y.now in
    let one : c.term_good-good.result ≡ term_good y l.loop-j.j = c.term_good-good.ensures in
    (search rules, ap₂ ◌&&◌ l.loop-j.invariant.1 one ∙ sym (all_more l.loop-j.j (term_good y)))

pub returns : goal.returns
returns c =
    let is : c.loop-j.j ≡ 16 = omega arith in
    c.loop-j.invariant.1 ∙ ap (λ n. all n (term_good c.args.y.now)) is
