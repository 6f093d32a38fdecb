-- `into::filter_into`: what the filtering gave is the definition's, so the year that is written is sound and as long as the one read.
use Prim.Native.Nat.{◌<◌}
use mathlib.Core.Path.{sym, subst}
use Rattle.filter.specs.declared.Filtered.{Filtered}
use Rattle.boundary.specs.Packed.{answer_detail}
use Rattle.boundary.proofs.SmallLaws.{detail_small}
use Rattle.boundary.proofs.IntoLaws.{filtered_fits}
use Rattle.boundary.proofs.into.filter_into.Goals as goal

pub write_sound-requires : goal.write_sound-requires
write_sound-requires g c =
    let is = c.requires.filters _ c.filtering-answer.ensures in
    record { room = (filtered_fits c.args.y.year _ is c.args.y.sound _ c.requires.room).1 }

pub answer-requires : goal.answer-requires
answer-requires g c =
    subst (λ (f : Filtered). answer_detail f.answer < 256) (sym (c.requires.filters _ c.filtering-answer.ensures)) (detail_small c.args.y.year)

pub invariant_of-write_sound : goal.invariant_of-write_sound
invariant_of-write_sound g c =
    let is = c.requires.filters _ c.filtering-answer.ensures in
    record { sound = (filtered_fits c.args.y.year _ is c.args.y.sound _ c.requires.room).0 }
