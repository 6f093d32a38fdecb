-- `filtered`: the filtered year is sound.
use Rattle.display.proofs.ListingLaws.{filtered_sound}
use Rattle.display.proofs.filtered.Goals as goal

pub invariant_of-with_year : goal.invariant_of-with_year
invariant_of-with_year c = record { sound = filtered_sound _ _ c.filter_sound-f.ensures c.args.y.sound }

pub invariant_of-with_year-in-Open : goal.invariant_of-with_year-in-Open
invariant_of-with_year-in-Open c = record { sound = filtered_sound _ _ c.filter_sound-f.ensures c.args.y.sound }
