-- The three demands, each gathered from what the other files prove.
use mathlib.Core.Path.{sym, ap, subst, ◌∙◌}
use Rattle.records.specs.Reading.{read_list, year_read}
use Rattle.records.proofs.GatherLaws.{is_done}
use Rattle.records.proofs.ListLaws.{read_sound}
use Rattle.records.proofs.WriteLaws.{records_length, records_most}
use Rattle.records.proofs.ReadWrite.{read_write}
use Rattle.records.proofs.WriteRead.{write_read}
use Rattle.filter.proofs.RoundLaws.{answer_few}
use Rattle.promises.specs.Rounds.{Filtering}
use Rattle.promises.specs.Sequence.{start}
use Rattle.promises.specs.Demands.{Demand1, Demand2, Demand3}
use Rattle.promises.proofs.Rounds.{filter_runs, no_other, marks_tell, filter_rested}
use Rattle.promises.proofs.RoundsKept.{filter_kept}
use Rattle.promises.proofs.Narrowings.{each_narrowing}
use Rattle.promises.proofs.SettledPlan.{settled_plan}
use Rattle.promises.proofs.ImbalancePlan.{imbalance_due}
use Rattle.promises.proofs.Refusals.{reading_due}
use Rattle.promises.proofs.Joining.{joining_due}
use Rattle.promises.proofs.JoinedYear.{join_refused, joined_sound}
use Rattle.promises.proofs.Answers.{sound_told, writing_due, filtering_due}
use Rattle.promises.proofs.Listing.{listing_due}
use Rattle.promises.proofs.Codes.{codes_due}
use Rattle.promises.proofs.Boundary.{buffer_left}
use Rattle.promises.proofs.RoundTrip.{read_refused, wrote}
use Rattle.promises.proofs.Sequence.{start_sound, sequence_narrower, sequence_plans, sequence_no_plan, sequence_settled}

-- ---- 1

pub demand_1 : Demand1
demand_1 = record {
  bounded_rounds = λ y. (answer_few y).1;
  sound_told = sound_told;
  reading_due = reading_due;
  joining_due = joining_due;
  writing_due = writing_due;
  narrowing_due = λ n y. (each_narrowing n y).number;
  filtering_due = filtering_due;
  imbalance_due = imbalance_due;
  listing_due = listing_due;
  codes_due = codes_due;
  refused_reading = read_refused;
  refused_joining = join_refused;
  refused_narrowing = λ n y. (each_narrowing n y).refused;
  refused_filtering = λ y. (filter_kept y).refused;
  refused_writing = λ y b. (wrote y b).untouched;
  buffer_left = buffer_left;
}

-- ---- 2

pub demand_2 : Demand2
demand_2 = record {
  rounds_in_order = λ y r s. (no_other s r, λ e. subst (Filtering y) (sym e) (filter_runs y s));
  marks_tell = marks_tell;
  filters_to_itself = filter_rested;
  write_then_read = λ y b s e. ap read_list ((wrote y b).front e) ∙ write_read y s;
  records_in_front = λ y b. (wrote y b).front;
  nothing_behind = λ y b. (wrote y b).behind;
  sixteen_a_record = records_length;
  records_read = write_read;
  records_fit = records_most;
  read_is_sound = λ s e. read_sound s (year_read (read_list s)) (is_done (read_list s) e);
  joined_is_sound = joined_sound;
  read_then_write = λ s bytes e. read_write s bytes (year_read (read_list s)) (is_done (read_list s) e);
}

-- ---- 3

pub demand_3 : Demand3
demand_3 = record {
  plans_kept = λ o calls e. sequence_plans (start o).year calls (start_sound o e);
  narrower = λ o calls e. sequence_narrower (start o).year calls (start_sound o e);
  no_plan_only_where_none = λ o calls e. sequence_no_plan (start o).year calls (start_sound o e);
  settled_is_the_plan = λ o calls e. sequence_settled (start o).year calls (start_sound o e);
  settled_exactly_if_plan = settled_plan;
}
