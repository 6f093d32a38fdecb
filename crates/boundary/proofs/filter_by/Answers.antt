-- `filter_by`: a list that does not read, then a short buffer, then the call proper.
use mathlib.Core.Path.{sym}
use native.Mathlib.Omega.{arith}
use Rattle.boundary.proofs.CallLaws as law
use Rattle.boundary.proofs.SmallLaws.{place_small}
use Rattle.boundary.proofs.filter_by.Goals as goal

pub filter_into-requires-clause-room : goal.filter_into-requires-clause-room
filter_into-requires-clause-room g c = omega (arith, (law.read_year _ _ (sym c.in-Ok-2.ensures)).1, c.if-out-list.false)

pub refused-requires : goal.refused-requires
refused-requires g c = place_small _ _ (sym c.in-Err.ensures)

pub returns-in-Ok : goal.returns-in-Ok
returns-in-Ok g c = let all = law.filter_short _ _ (sym c.in-Ok.ensures) _ c.if-out-list.true in record { value = all.0; out_after = all.1 }

pub returns-in-Ok-2 : goal.returns-in-Ok-2
returns-in-Ok-2 g c =
    let all = law.filter_done _ _ (sym c.in-Ok-2.ensures) _ c.if-out-list.false _ _ c.filter_into.ensures.value c.filter_into.ensures.out_after in
    record { value = all.0; out_after = all.1 }

pub returns-in-Err : goal.returns-in-Err
returns-in-Err g c = let all = law.filter_refused _ _ (sym c.in-Err.ensures) _ c.refused.ensures _ in record { value = all.0; out_after = all.1 }
