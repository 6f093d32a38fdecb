-- Every promise is proved: one proof of the record of them all.
use Rattle.rules.proofs.ThresholdLaws.{at_sizes_is}
use Rattle.promises.specs.Promises.{Promises}
use Rattle.promises.proofs.Rounds.{filtering_narrows}
use Rattle.promises.proofs.Narrowings.{each_narrowing}
use Rattle.promises.proofs.SettledPlan.{one_placing}
use Rattle.promises.proofs.SumsKept.{sums_kept}
use Rattle.promises.proofs.ByHand.{made_by_hand}
use Rattle.promises.proofs.ImbalancePlan.{imbalance_means}
use Rattle.promises.proofs.JoinedYear.{hours_mean}
use Rattle.promises.proofs.SpareRoom.{spare_room}
use Rattle.promises.proofs.Reasons.{steps_explained}
use Rattle.promises.proofs.Neighbours.{no_subset_within}
use Rattle.promises.proofs.Decimal.{numbers_read}
use Rattle.promises.proofs.Listing.{plans_counted, year_e_whole}
use Rattle.promises.proofs.Table.{table_holds}
use Rattle.promises.proofs.Answering.{each_answers}
use Rattle.promises.proofs.Unique.{one_result}
use Rattle.promises.proofs.Demands.{demand_1, demand_2, demand_3}

pub promises : (M : Type 1) → Promises M
promises M = record {
  each_answers = each_answers M;
  demand_1 = demand_1;
  demand_2 = demand_2;
  demand_3 = demand_3;
  imbalance_means = imbalance_means;
  hours_mean = hours_mean;
  year_e = year_e_whole;
  plans_counted = plans_counted;
  numbers_read = numbers_read;
  table_holds = table_holds;
  one_result = one_result;
  each_narrowing = each_narrowing;
  filtering_narrows = filtering_narrows;
  one_placing = one_placing;
  sums_kept = sums_kept;
  made_by_hand = made_by_hand;
  spare_room = spare_room;
  sizes_are_enough = at_sizes_is;
  no_subset_within = no_subset_within;
  steps_explained = steps_explained;
}
