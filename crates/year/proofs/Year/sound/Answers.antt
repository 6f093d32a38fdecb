-- What passes the test is sound.
use mathlib.Core.Path.{sym, ◌∙◌}
use Rattle.year.proofs.SoundLaws.{sound_of}
use Rattle.year.proofs.Year.sound.Goals as goal

pub invariant_of-result : goal.invariant_of-result
invariant_of-result c = record { sound = sound_of _ (sym c.is_sound.ensures ∙ c.if-not-is_sound.false) }
