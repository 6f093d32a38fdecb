-- The test is the definition's; what passes it has courses within the sizes.
use mathlib.Core.Bool.{true}
use mathlib.Core.Path.{◌≡◌, sym, ◌∙◌}
use Rattle.year.specs.Sound.{sound_but_sums}
use Rattle.year.specs.ByHand.{summed_of}
use Rattle.year.proofs.SoundLaws.{summed_sound}
use Rattle.year.proofs.Year.summed.Goals as goal
use Rattle.year.proofs.Year.summed.Goals.{Then-is_sound_but_sums}

passed : (c : Then-is_sound_but_sums) → sound_but_sums c.args.self ≡ true
passed c = sym c.is_sound_but_sums.ensures ∙ c.if-is_sound_but_sums.true

pub with_sums-requires : goal.with_sums-requires
with_sums-requires c =
    let s = summed_sound c.args.self (passed c) in
    record { sizes = (s.terms_most, s.courses_most); each_course = λ i h. ((s.course_sound i h).weight_most, (s.course_sound i h).list_within) }

pub returns-then-is_sound_but_sums : goal.returns-then-is_sound_but_sums
unfolding summed_of
returns-then-is_sound_but_sums c = simp (passed (goal.at.returns-then-is_sound_but_sums c).Then-is_sound_but_sums) c.with_sums.ensures

pub returns : goal.returns
unfolding summed_of
returns c = simp (sym c.is_sound_but_sums.ensures ∙ c.if-is_sound_but_sums.false)
