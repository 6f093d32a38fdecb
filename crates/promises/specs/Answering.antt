-- Every public call gets an answer: the kit's own statement of each, that from whatever it is given the function returns, without
-- trapping, in an end that meets its contract. Unique says that no contract asks anything and that it allows one end.
use Rattle.year.proofs.Year.empty.Statement as empty-call
use Rattle.year.proofs.Year.by_hand.Statement as by-hand-call
use Rattle.year.proofs.Year.summed.Statement as summed-call
use Rattle.year.proofs.Year.course.Statement as course-call
use Rattle.year.proofs.sound.is_sound.Statement as is-sound-call
use Rattle.year.proofs.Year.is_sound.Statement as year-is-sound-call
use Rattle.year.proofs.Year.sound.Statement as sound-call
use Rattle.year.proofs.Year.place.Statement as place-call
use Rattle.year.proofs.Year.bar.Statement as bar-call
use Rattle.year.proofs.Year.raise_low_credits.Statement as raise-low-credits-call
use Rattle.year.proofs.Year.lower_high_credits.Statement as lower-high-credits-call
use Rattle.year.proofs.Year.raise_low_count.Statement as raise-low-count-call
use Rattle.year.proofs.Year.lower_high_count.Statement as lower-high-count-call
use Rattle.totals.proofs.measure.imbalance.Statement as imbalance-call
use Rattle.records.proofs.read.Statement as read-call
use Rattle.records.proofs.read_sound.Statement as read-sound-call
use Rattle.records.proofs.fault_number.Statement as fault-number-call
use Rattle.records.proofs.write.Statement as write-call
use Rattle.hours.proofs.join.Statement as join-call
use Rattle.hours.proofs.join_sound.Statement as join-sound-call
use Rattle.rules.proofs.Rule.number.Statement as rule-number-call
use Rattle.filter.proofs.filter.Statement as filter-call
use Rattle.boundary.proofs.turfsteeple_read.Statement as turfsteeple-read-call
use Rattle.boundary.proofs.turfsteeple_filter.Statement as turfsteeple-filter-call
use Rattle.boundary.proofs.turfsteeple_narrow.Statement as turfsteeple-narrow-call
use Rattle.boundary.proofs.turfsteeple_imbalance.Statement as turfsteeple-imbalance-call
use Rattle.boundary.proofs.turfsteeple_join.Statement as turfsteeple-join-call
use Rattle.display.proofs.listing.Statement as listing-call
use Rattle.display.proofs.front.Statement as front-call

-- a line for each public call
pub record EachAnswers (M : Type 1) : Type 2 where
  pub empty : empty-call.statement M
  pub by_hand : by-hand-call.statement M
  pub summed : summed-call.statement M
  pub course : course-call.statement M
  pub is_sound : is-sound-call.statement M
  pub year_is_sound : year-is-sound-call.statement M
  pub sound : sound-call.statement M
  pub place : place-call.statement M
  pub bar : bar-call.statement M
  pub raise_low_credits : raise-low-credits-call.statement M
  pub lower_high_credits : lower-high-credits-call.statement M
  pub raise_low_count : raise-low-count-call.statement M
  pub lower_high_count : lower-high-count-call.statement M
  pub imbalance : imbalance-call.statement M
  pub read : read-call.statement M
  pub read_sound : read-sound-call.statement M
  pub fault_number : fault-number-call.statement M
  pub write : write-call.statement M
  pub join : join-call.statement M
  pub join_sound : join-sound-call.statement M
  pub rule_number : rule-number-call.statement M
  pub filter : filter-call.statement M
  pub turfsteeple_read : turfsteeple-read-call.statement M
  pub turfsteeple_filter : turfsteeple-filter-call.statement M
  pub turfsteeple_narrow : turfsteeple-narrow-call.statement M
  pub turfsteeple_imbalance : turfsteeple-imbalance-call.statement M
  pub turfsteeple_join : turfsteeple-join-call.statement M
  pub listing : listing-call.statement M
  pub front : front-call.statement M
