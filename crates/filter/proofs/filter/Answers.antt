-- A year that is not sound is refused; any other is known to be sound.
use mathlib.Core.Path.{ap, ◌∙◌}
use Rattle.year.proofs.SoundYearLaws.{inside_same, none_unsound}
use Rattle.filter.specs.Filter.{filter_of}
use Rattle.filter.proofs.filter.Goals as goal

pub returns-in-Some : goal.returns-in-Some
returns-in-Some c = c.filter_sound.ensures ∙ ap filter_of (inside_same _ _ c.sound.ensures _ c.in-Some.is)

pub returns-in-None : goal.returns-in-None
unfolding filter_of
returns-in-None c = simp (none_unsound _ _ c.sound.ensures c.in-None.is)
