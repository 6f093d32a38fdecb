-- `turfsteeple_imbalance`: a list that does not read is refused, otherwise its year is measured.
use mathlib.Core.Path.{sym}
use Rattle.boundary.proofs.CallLaws as law
use Rattle.boundary.proofs.SmallLaws.{place_small}
use Rattle.boundary.proofs.turfsteeple_imbalance.Goals as goal

pub refused-requires : goal.refused-requires
refused-requires c = place_small _ _ (sym c.in-Err.ensures)

pub returns-in-Ok : goal.returns-in-Ok
returns-in-Ok c = law.imbalance_done _ _ (sym c.in-Ok.ensures) _ c.imbalance.ensures

pub returns-in-Err : goal.returns-in-Err
returns-in-Err c = law.imbalance_refused _ _ (sym c.in-Err.ensures) _ c.refused.ensures
