-- Each test is the definition's. That the arrays have their lengths is what holding a year tells.
use mathlib.Core.Path.{◌≡◌, sym, ◌∙◌}
use mathlib.Core.Bool.{true, true≢false}
use lib.ListN.{length}
use borrow.Author.Rules.{rules}
use borrow.Author.Tests.{eq-eqb}
use Rattle.year.specs.Sound.{sound_but_sums, shaped}
use Rattle.year.proofs.sound.is_sound_but_sums.Goals as goal
use Rattle.year.proofs.sound.is_sound_but_sums.Goals.{Start, then-sized, else-sized}

-- an array of the program has its length
shape : (c : Start) → shaped c.args.y.now ≡ true
shape c =
    let t : length c.args.y.now.term ≡ 16 = search rules in
    let w : length c.args.y.now.weight ≡ 64 = search rules in
    let l : length c.args.y.now.list ≡ 64 = search rules in
    simp (eq-eqb _ _ t, eq-eqb _ _ w, eq-eqb _ _ l)

pub returns-then-terms_good : goal.returns-then-terms_good
unfolding sound_but_sums
returns-then-terms_good c =
    elim c.if-sized.branch [
      | then-sized w ↦ simp (w.if-sized.true, shape (goal.at.returns-then-terms_good c).Start, sym w.terms_good.ensures ∙ sym w.value-is ∙ c.if-terms_good.true) c.courses_good.ensures
      | else-sized w ↦ absurd (true≢false (sym c.if-terms_good.true ∙ w.value-is ∙ w.if-sized.false))
    ]

pub returns-else-terms_good : goal.returns-else-terms_good
unfolding sound_but_sums
returns-else-terms_good c =
    elim c.if-sized.branch [
      | then-sized w ↦ simp (w.if-sized.true, shape (goal.at.returns-else-terms_good c).Start, sym w.terms_good.ensures ∙ sym w.value-is ∙ c.if-terms_good.false) c.if-terms_good.false
      | else-sized w ↦ simp (w.if-sized.false) c.if-terms_good.false
    ]
