-- `write`: a year that passes the test is sound, so its records fit where the buffer has room for them.
use mathlib.Core.Bool.{true}
use mathlib.Core.Path.{◌≡◌}
use Rattle.year.specs.Sound.{is_sound}
use Rattle.year.proofs.SoundLaws.{sound_to}
use Rattle.year.proofs.SoundYearLaws.{inside_same, none_unsound}
use Rattle.records.proofs.WriteLaws as law
use Rattle.records.proofs.write.Goals as goal
use Rattle.records.proofs.write.Goals.{In-Some}

-- the year inside is the one that was given
same : (c : In-Some) → c.in-Some.y.year ≡ c.args.y
same c = inside_same c.args.y c.sound.result c.sound.ensures c.in-Some.y c.in-Some.is

passes : (c : In-Some) → is_sound c.in-Some.y.year ≡ true
passes c = sound_to c.in-Some.y.year c.in-Some.y.sound

pub returns-in_default : goal.returns-in_default
returns-in_default c = let all = law.write_unsound c.args.y c.args.buf.now (none_unsound c.args.y c.sound.result c.sound.ensures c.in_default.is) in record { answer = all.0; buf_after = all.1 }

pub returns-then-buf-y : goal.returns-then-buf-y
returns-then-buf-y c =
    let i = (goal.at.returns-then-buf-y c).In-Some in
    let all = rw (same i) at (law.write_short c.in-Some.y.year c.args.buf.now (passes i) c.if-buf-y.true) in
    record { answer = all.0; buf_after = all.1 }

pub returns : goal.returns
returns c =
    let i = (goal.at.returns c).In-Some in
    record {
      answer = rw (same i) at (law.write_done c.in-Some.y.year c.args.buf.now (passes i) c.if-buf-y.false);
      buf_after = rw (same i) at c.write_sound.ensures;
    }
