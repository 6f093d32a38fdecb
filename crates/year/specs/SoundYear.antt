-- A year as one that is known to be sound, or none where it is not, each without its proof.
use Rattle.std.specs.Prelude.{Option, Some, None, Result, Ok, Err}
use Rattle.theory.specs.Choice.{choose}
use Rattle.year.specs.Sound.{is_sound}
use Rattle.year.specs.declared.Year.{Year}
use Rattle.year.specs.declared.SoundYear.{SoundYear}

-- this year where it is sound
abbrev pub if_sound : Year → Option Year
if_sound y = choose (is_sound y) (Some y) None

-- the year inside
abbrev pub year_inside : Option SoundYear → Option Year
year_inside (Some s) = Some s.year
year_inside None = None

-- the same of an answer that is a year or a refusal
abbrev pub answer_inside : {E : Type 0} → Result SoundYear E → Result Year E
answer_inside (Ok s) = Ok s.year
answer_inside (Err e) = Err e
