-- The paper's table, by computation.
use mathlib.Core.Path.{refl}
use Rattle.year.specs.Narrow.{bar_of}
use Rattle.year.specs.Imbalance.{one_plan, imbalance_of}
use Rattle.records.specs.Computing.{computing as computingReading}
use Rattle.filter.specs.Computing.{computing}
use Rattle.promises.specs.Table.{TableHolds}

pub table_holds : TableHolds
unfolding computing computingReading bar_of one_plan imbalance_of
table_holds = (refl, (refl, (refl, (refl, (refl, (refl, (refl, (refl, (refl, (refl, (refl, (refl, tt))))))))))))
