-- `turfsteeple_join`: two lists that do not join, then a short buffer, then the year is written.
use mathlib.Core.Path.{sym}
use native.Mathlib.Omega.{arith}
use Rattle.boundary.proofs.CallLaws as law
use Rattle.boundary.proofs.turfsteeple_join.Goals as goal

pub overflow_add-terms : goal.overflow_add-terms
overflow_add-terms c = omega (arith, (law.join_year _ _ _ (sym c.in-Ok.ensures)).2)

pub write_sound-requires : goal.write_sound-requires
write_sound-requires c = record { room = omega (arith, (law.join_year _ _ _ (sym c.in-Ok-2.ensures)).1, c.if-out-terms.false) }

pub unjoined-requires : goal.unjoined-requires
unjoined-requires c = law.join_place _ _ _ (sym c.in-Err.ensures)

pub returns-in-Ok : goal.returns-in-Ok
returns-in-Ok c = let all = law.join_short _ _ _ (sym c.in-Ok.ensures) _ c.if-out-terms.true in record { value = all.0; out_after = all.1 }

pub returns-in-Ok-2 : goal.returns-in-Ok-2
returns-in-Ok-2 c = let all = law.join_done _ _ _ (sym c.in-Ok-2.ensures) _ c.if-out-terms.false _ c.write_sound.ensures in record { value = all.0; out_after = all.1 }

pub returns-in-Err : goal.returns-in-Err
returns-in-Err c = let all = law.join_refused _ _ _ (sym c.in-Err.ensures) _ c.unjoined.ensures _ in record { value = all.0; out_after = all.1 }
