-- The three demands that stand over everything, each as one statement.
use Rattle.std.specs.Prelude.{ℕ, ◌+◌, ◌*◌, ◌≤◌, ◌<◌, true, List, Err, ◌↔◌, ◌≡◌, length, take, drop}
use Rattle.year.specs.Doors.{empty_year}
use Rattle.year.specs.Plans.{Placing, Plan, the_placing}
use Rattle.year.specs.Sound.{Sound}
use Rattle.year.specs.Sums.{all_placed}
use Rattle.year.specs.Numbers.{narrowing_number}
use Rattle.year.specs.declared.Year.{Year}
use Rattle.records.specs.Bytes.{AllBytes}
use Rattle.records.specs.Numbers.{reading_number, writing_number}
use Rattle.records.specs.Reading.{read_list, received, year_read, done}
use Rattle.records.specs.Writing.{records_of, write_answer, written}
use Rattle.records.specs.declared.Refusal.{Refusal}
use Rattle.hours.specs.Numbers.{joining_number}
use Rattle.hours.specs.Joining.{join_of, given_back, year_joined}
use Rattle.hours.specs.declared.JoiningRefusal.{JoiningRefusal}
use Rattle.rules.specs.Narrower.{Narrower}
use Rattle.filter.specs.Filter.{filter_of}
use Rattle.filter.specs.Numbers.{filter_number, filter_rounds, is_settled}
use Rattle.filter.specs.declared.Filtered.{Filtered}
use Rattle.promises.specs.Narrowings.{Narrow, narrow, number_due}
use Rattle.promises.specs.Rounds.{Filtering, MarksTell, Rested}
use Rattle.promises.specs.Sequence.{Origin, start, Call, filter, result, after, PlanThatMeets}
use Rattle.promises.specs.Refusals.{ReadingDue}
use Rattle.promises.specs.Joining.{JoiningDue}
use Rattle.promises.specs.Answers.{SoundTold, WritingDue, FilteringDue}
use Rattle.promises.specs.ImbalancePlan.{ImbalanceDue}
use Rattle.promises.specs.Listing.{ListingDue}
use Rattle.promises.specs.Codes.{CodesDue}
use Rattle.promises.specs.Boundary.{BufferLeft}

-- ---- 1

-- Every byte string and every year value gets an answer in a bounded number of rounds. Bad ones are refused by the paper's numbers
-- under exactly its conditions; a refused call, or one answered "no plan", hands the year back unaltered and writes nothing to a lent
-- buffer. (That each call answers, without trapping or hanging, is EachAnswers, in Answering.)
pub record Demand1 : Type 0 where
  pub bounded_rounds : (y : Year) → filter_rounds (filter_of y).answer ≤ 1025985
  -- refused by the paper's numbers under exactly its conditions
  pub sound_told : SoundTold
  pub reading_due : ReadingDue
  pub joining_due : JoiningDue
  pub writing_due : WritingDue
  pub narrowing_due : (n : Narrow) (y : Year) → narrowing_number (narrow n y).answer ≡ number_due y n
  pub filtering_due : FilteringDue
  pub imbalance_due : ImbalanceDue
  pub listing_due : ListingDue
  pub codes_due : CodesDue
  -- handed back unaltered, and nothing written; of a refused list, or two that do not join, the year handed back is the empty one, and the
  -- answer beside it an Err
  pub refused_reading : (bytes : List ℕ) → (reading_number (read_list bytes) ≡ 0 → ⊥)
      → (year_read (read_list bytes) ≡ empty_year)
      × (r : Refusal) × (read_list bytes ≡ Err r) × ((received (read_list bytes)).answer ≡ Err r)
  pub refused_joining : (t h : List ℕ) → (joining_number (join_of t h) ≡ 0 → ⊥)
      → (year_joined (join_of t h) ≡ empty_year)
      × (r : JoiningRefusal) × (join_of t h ≡ Err r) × ((given_back (join_of t h)).answer ≡ Err r)
  pub refused_narrowing : (n : Narrow) (y : Year) → (narrowing_number (narrow n y).answer ≡ 0 → ⊥) → (narrow n y).year ≡ y
  pub refused_filtering : (y : Year) → (filter_number (filter_of y).answer ≡ 0 → ⊥) → (filter_of y).year ≡ y
  pub refused_writing : (y : Year) (buffer : List ℕ) → (writing_number (write_answer y (length buffer)) ≡ 0 → ⊥) → written y buffer ≡ buffer
  pub buffer_left : BufferLeft

-- ---- 2

-- Filtering gives the year, the answer and the round count that the rules give when run in the paper's order until a full round
-- alters nothing. Write then read gives the year; a list that reads is written back byte for byte.
pub record Demand2 : Type 0 where
  pub rounds_in_order : (y : Year) (r : Filtered) → Sound y → Filtering y r ↔ (r ≡ filter_of y)
  pub marks_tell : MarksTell
  pub filters_to_itself : (y : Year) → Sound y → filter_number (filter_of y).answer ≡ 0 → Rested (filter_of y)
  pub write_then_read : (y : Year) (buffer : List ℕ) → Sound y → writing_number (write_answer y (length buffer)) ≡ 0
      → read_list (take (length (records_of y)) (written y buffer)) ≡ done y
  pub records_in_front : (y : Year) (buffer : List ℕ) → writing_number (write_answer y (length buffer)) ≡ 0
      → take (length (records_of y)) (written y buffer) ≡ records_of y
  pub nothing_behind : (y : Year) (buffer : List ℕ) → writing_number (write_answer y (length buffer)) ≡ 0
      → drop (length (records_of y)) (written y buffer) ≡ drop (length (records_of y)) buffer
  pub sixteen_a_record : (y : Year) → length (records_of y) ≡ (y.terms + y.courses) * 16
  pub records_read : (y : Year) → Sound y → read_list (records_of y) ≡ done y
  pub records_fit : (y : Year) → Sound y → length (records_of y) ≤ 1280
  pub read_is_sound : (bytes : List ℕ) → reading_number (read_list bytes) ≡ 0 → Sound (year_read (read_list bytes))
  pub joined_is_sound : (t h : List ℕ) → joining_number (join_of t h) ≡ 0 → Sound (year_joined (join_of t h))
  pub read_then_write : (bytes : List ℕ) → AllBytes bytes → reading_number (read_list bytes) ≡ 0
      → records_of (year_read (read_list bytes)) ≡ bytes

-- ---- 3

-- No plan is lost and none appears, over any sequence of narrowings, filterings and writings read back. "No plan" only when there is
-- none. When every course has one term, "settled" exactly if that placing is a plan. The first year is any sound value, or what was
-- read from a list, or joined from a terms' list and an hours list.
pub record Demand3 : Type 0 where
  pub plans_kept : (o : Origin) (calls : List Call) → (start o).number ≡ 0
      → let first = (start o).year in
      (p : Placing) → Plan (after calls first) p ↔ PlanThatMeets first calls p
  pub narrower : (o : Origin) (calls : List Call) → (start o).number ≡ 0 → Narrower (start o).year (after calls (start o).year)
  pub no_plan_only_where_none : (o : Origin) (calls : List Call) → (start o).number ≡ 0
      → let first = (start o).year in
      (result filter (after calls first)).number ≡ 13
      → (p : Placing) → PlanThatMeets first calls p → ⊥
  pub settled_is_the_plan : (o : Origin) (calls : List Call) → (start o).number ≡ 0
      → let first = (start o).year in
      is_settled (filter_of (after calls first)).answer ≡ true
      → let p = the_placing (filter_of (after calls first)).year in
      PlanThatMeets first calls p
      × ((q : Placing) → PlanThatMeets first calls q → (i : ℕ) → i < first.courses → q i ≡ p i)
  pub settled_exactly_if_plan : (y : Year) → Sound y → all_placed y ≡ true
      → (is_settled (filter_of y).answer ≡ true) ↔ Plan y (the_placing y)
