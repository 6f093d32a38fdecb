-- `turfsteeple_narrow`: a list that does not read, then a short buffer, then the call proper.
use Rattle.records.proofs.GatherLaws.{received_done, received_refused}
use Rattle.boundary.proofs.CallLaws as law
use Rattle.boundary.proofs.SmallLaws.{place_small}
use Rattle.boundary.proofs.turfsteeple_narrow.Goals as goal

pub refused-requires : goal.refused-requires
refused-requires c = place_small _ _ (received_refused _ _ c.read-answer.ensures _ c.in-Err.is)

pub returns-in-Ok : goal.returns-in-Ok
returns-in-Ok c =
    let all = law.narrow_short _ _ (received_done _ _ c.read-answer.ensures c.in-Ok.is) _ _ _ _ c.if-out-list.true in
    record { value = all.0; out_after = all.1 }

pub returns-in-Ok-2 : goal.returns-in-Ok-2
returns-in-Ok-2 c =
    let all = law.narrow_done _ _ (received_done _ _ c.read-answer.ensures c.in-Ok-2.is) _ _ _ _ c.if-out-list.false _ _ c.narrow_into.ensures.value c.narrow_into.ensures.out_after in
    record { value = all.0; out_after = all.1 }

pub returns-in-Err : goal.returns-in-Err
returns-in-Err c =
    let all = law.narrow_refused _ _ (received_refused _ _ c.read-answer.ensures _ c.in-Err.is) _ c.refused.ensures _ _ _ _ in
    record { value = all.0; out_after = all.1 }
