-- Each public call's own contract, as the kit takes it from the source, asks nothing of the caller and allows one result, lent bytes
-- included. No contract is repeated here: one that is weakened in the source makes its line false.
use Rattle.std.specs.Prelude.{ℕ, List, Option, Result, ◌≡◌}
use contract.Lifetimes.{Lfts}
use Rattle.std.specs.Borrow.{Bor, MutBor}
use Rattle.year.specs.SoundYear.{year_inside, answer_inside}
use Rattle.year.specs.declared.Year.{Year}
use Rattle.year.specs.declared.SoundYear.{SoundYear}
use Rattle.year.proofs.Year.empty.Reads as empty-call
use Rattle.year.proofs.Year.by_hand.Reads as by-hand-call
use Rattle.year.proofs.Year.summed.Reads as summed-call
use Rattle.year.proofs.Year.course.Reads as course-call
use Rattle.year.proofs.sound.is_sound.Reads as is-sound-call
use Rattle.year.proofs.Year.is_sound.Reads as year-is-sound-call
use Rattle.year.proofs.Year.sound.Reads as sound-call
use Rattle.year.proofs.Year.place.Reads as place-call
use Rattle.year.proofs.Year.bar.Reads as bar-call
use Rattle.year.proofs.Year.raise_low_credits.Reads as raise-low-credits-call
use Rattle.year.proofs.Year.lower_high_credits.Reads as lower-high-credits-call
use Rattle.year.proofs.Year.raise_low_count.Reads as raise-low-count-call
use Rattle.year.proofs.Year.lower_high_count.Reads as lower-high-count-call
use Rattle.totals.proofs.measure.imbalance.Reads as imbalance-call
use Rattle.records.proofs.read.Reads as read-call
use Rattle.records.proofs.read_sound.Reads as read-sound-call
use Rattle.records.proofs.fault_number.Reads as fault-number-call
use Rattle.records.proofs.write.Reads as write-call
use Rattle.hours.proofs.join.Reads as join-call
use Rattle.hours.proofs.join_sound.Reads as join-sound-call
use Rattle.rules.proofs.Rule.number.Reads as rule-number-call
use Rattle.filter.proofs.filter.Reads as filter-call
use Rattle.boundary.proofs.turfsteeple_read.Reads as turfsteeple-read-call
use Rattle.boundary.proofs.turfsteeple_filter.Reads as turfsteeple-filter-call
use Rattle.boundary.proofs.turfsteeple_narrow.Reads as turfsteeple-narrow-call
use Rattle.boundary.proofs.turfsteeple_imbalance.Reads as turfsteeple-imbalance-call
use Rattle.boundary.proofs.turfsteeple_join.Reads as turfsteeple-join-call
use Rattle.display.proofs.listing.Reads as listing-call
use Rattle.display.proofs.front.Reads as front-call

-- A contract: what it asks of the arguments; and what it says of the arguments, the result and the arguments at exit. It asks nothing;
-- and two ends that meet it are the same in all that a caller sees of them
pub record One {A R E S : Type 0} (asks : A → Type 0) (says : A → R → E → Type 0) (seen : R → E → S) : Type 0 where
  pub asks_nothing : (a : A) → asks a
  pub one_end : (a : A) (r s : R) (e f : E) → says a r e → says a s f → seen r e ≡ seen s f

-- ---- what a caller sees

-- the result
abbrev pub result : {R E : Type 0} → R → E → R
result r e = r

-- the result and the bytes of the list that was lent as the second argument, as the third, or as the fifth
abbrev pub and_second : {R B D : Type 0} → R → B × (MutBor (List ℕ) × D) → R × List ℕ
and_second r e = (r, e.1.0.now)

abbrev pub and_third : {R B C D : Type 0} → R → B × (C × (MutBor (List ℕ) × D)) → R × List ℕ
and_third r e = (r, e.1.1.0.now)

abbrev pub and_fifth : {R B C D E F : Type 0} → R → B × (C × (D × (E × (MutBor (List ℕ) × F)))) → R × List ℕ
and_fifth r e = (r, e.1.1.1.1.0.now)

-- the bytes of a result that is a part of a lent list
abbrev pub bytes_of : {E : Type 0} → Bor (List ℕ) → E → List ℕ
bytes_of r e = r.now

-- a result that holds a year known to be sound: the year itself; the field beside it is a proof, which is nothing at run time
abbrev pub option_of : {E : Type 0} → Option SoundYear → E → Option Year
option_of r e = year_inside r

abbrev pub answer_of : {F E : Type 0} → Result SoundYear F → E → Result Year F
answer_of r e = answer_inside r

-- ---- a line for each public call

pub record OneResult : Type 0 where
  pub empty : (κs : Lfts 0) → One (empty-call.Pre κs) (empty-call.Post κs) result
  pub by_hand : (κs : Lfts 0) → One (by-hand-call.Pre κs) (by-hand-call.Post κs) result
  pub summed : (κs : Lfts 0) → One (summed-call.Pre κs) (summed-call.Post κs) result
  pub course : (κs : Lfts 0) → One (course-call.Pre κs) (course-call.Post κs) result
  pub is_sound : (κs : Lfts 0) → One (is-sound-call.Pre κs) (is-sound-call.Post κs) result
  pub year_is_sound : (κs : Lfts 1) → One (year-is-sound-call.Pre κs) (year-is-sound-call.Post κs) result
  pub sound : (κs : Lfts 0) → One (sound-call.Pre κs) (sound-call.Post κs) option_of
  pub place : (κs : Lfts 0) → One (place-call.Pre κs) (place-call.Post κs) result
  pub bar : (κs : Lfts 0) → One (bar-call.Pre κs) (bar-call.Post κs) result
  pub raise_low_credits : (κs : Lfts 0) → One (raise-low-credits-call.Pre κs) (raise-low-credits-call.Post κs) result
  pub lower_high_credits : (κs : Lfts 0) → One (lower-high-credits-call.Pre κs) (lower-high-credits-call.Post κs) result
  pub raise_low_count : (κs : Lfts 0) → One (raise-low-count-call.Pre κs) (raise-low-count-call.Post κs) result
  pub lower_high_count : (κs : Lfts 0) → One (lower-high-count-call.Pre κs) (lower-high-count-call.Post κs) result
  pub imbalance : (κs : Lfts 0) → One (imbalance-call.Pre κs) (imbalance-call.Post κs) result
  pub read : (κs : Lfts 1) → One (read-call.Pre κs) (read-call.Post κs) result
  pub read_sound : (κs : Lfts 1) → One (read-sound-call.Pre κs) (read-sound-call.Post κs) answer_of
  pub fault_number : (κs : Lfts 0) → One (fault-number-call.Pre κs) (fault-number-call.Post κs) result
  pub write : (κs : Lfts 1) → One (write-call.Pre κs) (write-call.Post κs) and_second
  pub join : (κs : Lfts 2) → One (join-call.Pre κs) (join-call.Post κs) result
  pub join_sound : (κs : Lfts 2) → One (join-sound-call.Pre κs) (join-sound-call.Post κs) answer_of
  pub rule_number : (κs : Lfts 0) → One (rule-number-call.Pre κs) (rule-number-call.Post κs) result
  pub filter : (κs : Lfts 0) → One (filter-call.Pre κs) (filter-call.Post κs) result
  pub turfsteeple_read : (κs : Lfts 1) → One (turfsteeple-read-call.Pre κs) (turfsteeple-read-call.Post κs) result
  pub turfsteeple_filter : (κs : Lfts 2) → One (turfsteeple-filter-call.Pre κs) (turfsteeple-filter-call.Post κs) and_second
  pub turfsteeple_narrow : (κs : Lfts 2) → One (turfsteeple-narrow-call.Pre κs) (turfsteeple-narrow-call.Post κs) and_fifth
  pub turfsteeple_imbalance : (κs : Lfts 1) → One (turfsteeple-imbalance-call.Pre κs) (turfsteeple-imbalance-call.Post κs) result
  pub turfsteeple_join : (κs : Lfts 3) → One (turfsteeple-join-call.Pre κs) (turfsteeple-join-call.Post κs) and_third
  pub listing : (κs : Lfts 2) → One (listing-call.Pre κs) (listing-call.Post κs) and_second
  pub front : (κs : Lfts 1) → One (front-call.Pre κs) (front-call.Post κs) bytes_of
