-- Sound but for the sums, and then by them. That the array of sums has its length is what holding a year tells.
use mathlib.Core.Path.{◌≡◌, sym, ◌∙◌}
use lib.ListN.{length}
use borrow.Author.Rules.{rules}
use borrow.Author.Tests.{eq-eqb}
use Rattle.year.specs.Sound.{is_sound}
use Rattle.year.proofs.Year.is_sound.Goals as goal

pub returns-then-is_sound_but_sums : goal.returns-then-is_sound_but_sums
unfolding is_sound
returns-then-is_sound_but_sums c =
    let y = c.args.self.now in
    let long : length y.sums ≡ 16 = search rules in
    simp (sym c.is_sound_but_sums.ensures ∙ c.if-is_sound_but_sums.true, eq-eqb _ _ long) c.sums_good.ensures

pub returns-else-is_sound_but_sums : goal.returns-else-is_sound_but_sums
unfolding is_sound
returns-else-is_sound_but_sums c = simp (sym c.is_sound_but_sums.ensures ∙ c.if-is_sound_but_sums.false) c.if-is_sound_but_sums.false
