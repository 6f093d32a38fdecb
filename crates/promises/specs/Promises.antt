-- All promises in one record. It is proved in proofs/All.antt. (M is the resources of the memory that programs run in: any.)
use Rattle.promises.specs.Demands.{Demand1, Demand2, Demand3}
use Rattle.promises.specs.ImbalancePlan.{ImbalanceMeans}
use Rattle.promises.specs.Listing.{NumbersRead, PlansCounted, YearE}
use Rattle.promises.specs.Joining.{HoursMean}
use Rattle.promises.specs.Table.{TableHolds}
use Rattle.promises.specs.Answering.{EachAnswers}
use Rattle.promises.specs.Unique.{OneResult}
use Rattle.promises.specs.Narrowings.{EachNarrowing}
use Rattle.promises.specs.Rounds.{FilteringNarrows}
use Rattle.promises.specs.OnePlacing.{OnePlacing}
use Rattle.promises.specs.SumsKept.{SumsKept}
use Rattle.promises.specs.ByHand.{MadeByHand}
use Rattle.promises.specs.SpareRoom.{SpareRoom}
use Rattle.promises.specs.SizesTried.{SizesAreEnough}
use Rattle.promises.specs.Neighbours.{NoSubsetWithin}
use Rattle.promises.specs.Reasons.{StepsExplained}

pub record Promises (M : Type 1) : Type 2 where
  pub each_answers : EachAnswers M
  pub demand_1 : Demand1
  pub demand_2 : Demand2
  pub demand_3 : Demand3
  pub table_holds : TableHolds
  pub imbalance_means : ImbalanceMeans
  pub hours_mean : HoursMean
  pub year_e : YearE
  pub plans_counted : PlansCounted
  pub numbers_read : NumbersRead
  pub one_result : OneResult
  pub each_narrowing : EachNarrowing
  pub filtering_narrows : FilteringNarrows
  pub one_placing : OnePlacing
  pub sums_kept : SumsKept
  pub made_by_hand : MadeByHand
  pub spare_room : SpareRoom
  pub sizes_are_enough : SizesAreEnough
  pub no_subset_within : NoSubsetWithin
  pub steps_explained : StepsExplained
