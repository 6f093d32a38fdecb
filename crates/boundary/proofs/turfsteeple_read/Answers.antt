-- `turfsteeple_read`: the code of what reading answers.
use Rattle.records.proofs.GatherLaws.{received_done, received_refused}
use Rattle.boundary.proofs.CallLaws as law
use Rattle.boundary.proofs.SmallLaws.{place_small}
use Rattle.boundary.proofs.turfsteeple_read.Goals as goal

pub refused-requires : goal.refused-requires
refused-requires c = place_small _ _ (received_refused _ _ c.read-answer.ensures _ c.in-Err.is)

pub returns-in-Ok : goal.returns-in-Ok
returns-in-Ok c = law.read_done _ _ (received_done _ _ c.read-answer.ensures c.in-Ok.is)

pub returns-in-Err : goal.returns-in-Err
returns-in-Err c = law.read_refused _ _ (received_refused _ _ c.read-answer.ensures _ c.in-Err.is) _ c.refused.ensures
