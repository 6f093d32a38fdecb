-- A sound year is not refused.
use Rattle.year.proofs.SoundLaws.{sound_to}
use Rattle.filter.specs.Filter.{filter_of}
use Rattle.filter.proofs.filter_sound.Goals as goal

pub returns : goal.returns
unfolding filter_of
returns c = simp (sound_to c.args.y.year c.args.y.sound) c.run.ensures
