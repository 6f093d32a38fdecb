-- Each public call's own theorem.
use Rattle.year.proofs.Year.empty.Met as empty-call
use Rattle.year.proofs.Year.by_hand.Met as by-hand-call
use Rattle.year.proofs.Year.summed.Met as summed-call
use Rattle.year.proofs.Year.course.Met as course-call
use Rattle.year.proofs.sound.is_sound.Met as is-sound-call
use Rattle.year.proofs.Year.is_sound.Met as year-is-sound-call
use Rattle.year.proofs.Year.sound.Met as sound-call
use Rattle.year.proofs.Year.place.Met as place-call
use Rattle.year.proofs.Year.bar.Met as bar-call
use Rattle.year.proofs.Year.raise_low_credits.Met as raise-low-credits-call
use Rattle.year.proofs.Year.lower_high_credits.Met as lower-high-credits-call
use Rattle.year.proofs.Year.raise_low_count.Met as raise-low-count-call
use Rattle.year.proofs.Year.lower_high_count.Met as lower-high-count-call
use Rattle.totals.proofs.measure.imbalance.Met as imbalance-call
use Rattle.records.proofs.read.Met as read-call
use Rattle.records.proofs.read_sound.Met as read-sound-call
use Rattle.records.proofs.fault_number.Met as fault-number-call
use Rattle.records.proofs.write.Met as write-call
use Rattle.hours.proofs.join.Met as join-call
use Rattle.hours.proofs.join_sound.Met as join-sound-call
use Rattle.rules.proofs.Rule.number.Met as rule-number-call
use Rattle.filter.proofs.filter.Met as filter-call
use Rattle.boundary.proofs.turfsteeple_read.Met as turfsteeple-read-call
use Rattle.boundary.proofs.turfsteeple_filter.Met as turfsteeple-filter-call
use Rattle.boundary.proofs.turfsteeple_narrow.Met as turfsteeple-narrow-call
use Rattle.boundary.proofs.turfsteeple_imbalance.Met as turfsteeple-imbalance-call
use Rattle.boundary.proofs.turfsteeple_join.Met as turfsteeple-join-call
use Rattle.display.proofs.listing.Met as listing-call
use Rattle.display.proofs.front.Met as front-call
use Rattle.promises.specs.Answering.{EachAnswers}

pub each_answers : (M : Type 1) → EachAnswers M
each_answers M = record {
  empty = empty-call.met;
  by_hand = by-hand-call.met;
  summed = summed-call.met;
  course = course-call.met;
  is_sound = is-sound-call.met;
  year_is_sound = year-is-sound-call.met;
  sound = sound-call.met;
  place = place-call.met;
  bar = bar-call.met;
  raise_low_credits = raise-low-credits-call.met;
  lower_high_credits = lower-high-credits-call.met;
  raise_low_count = raise-low-count-call.met;
  lower_high_count = lower-high-count-call.met;
  imbalance = imbalance-call.met;
  read = read-call.met;
  read_sound = read-sound-call.met;
  fault_number = fault-number-call.met;
  write = write-call.met;
  join = join-call.met;
  join_sound = join-sound-call.met;
  rule_number = rule-number-call.met;
  filter = filter-call.met;
  turfsteeple_read = turfsteeple-read-call.met;
  turfsteeple_filter = turfsteeple-filter-call.met;
  turfsteeple_narrow = turfsteeple-narrow-call.met;
  turfsteeple_imbalance = turfsteeple-imbalance-call.met;
  turfsteeple_join = turfsteeple-join-call.met;
  listing = listing-call.met;
  front = front-call.met;
}
