-- Codes taken apart: the three parts of every answer fit their places.
use Prim.Native.Nat.{ℕ, ◌+◌, ◌*◌, ◌/◌, ◌%◌, ◌<◌}
use mathlib.Core.List.{List}
use mathlib.Core.Path.{◌≡◌, refl, ap, ◌∙◌}
use native.Mathlib.Omega.{arith}
use lib.Dec.{ltb}
use lib.ListN.{length}
use Rattle.std.specs.Prelude.{Result, Ok, Err}
use Rattle.theory.proofs.ChoiceLaws.{choose_any}
use Rattle.year.specs.Imbalance.{imbalance_of}
use Rattle.year.specs.Numbers.{narrowing_number, imbalance_number, imbalance_value}
use Rattle.year.specs.declared.Year.{Year}
use Rattle.year.specs.declared.NarrowingRefusal.{NarrowingRefusal}
use Rattle.year.specs.declared.NarrowingRefusal.TheVariants as narrowing
use Rattle.year.specs.declared.ImbalanceRefusal.{ImbalanceRefusal}
use Rattle.year.specs.declared.ImbalanceRefusal.TheVariants as imbalance
use Rattle.records.specs.Numbers.{fault_number, reading_number, reading_place}
use Rattle.records.specs.Reading.{read_list, year_read}
use Rattle.records.specs.declared.Fault.{Fault}
use Rattle.records.specs.declared.Fault.TheVariants as fault
use Rattle.records.specs.declared.Refusal.{Refusal}
use Rattle.hours.specs.Numbers.{joining_number, joining_list}
use Rattle.hours.specs.Joining.{join_of}
use Rattle.hours.specs.declared.JoiningRefusal.{JoiningRefusal}
use Rattle.hours.specs.declared.JoiningRefusal.TheVariants.{InTerms, InHours}
use Rattle.hours.proofs.JoinLaws.{place_few}
use Rattle.filter.specs.Filter.{filter_of}
use Rattle.filter.specs.Numbers.{filter_number}
use Rattle.filter.specs.declared.Answer.{Answer}
use Rattle.filter.specs.declared.Answer.TheVariants.{Settled, Open, NoPlan, Unsound}
use Rattle.filter.proofs.RoundLaws.{answer_few}
use Rattle.boundary.specs.Packed.{Told, told, packed, apart, reading_told, joining_told, short_told, narrowing_told, measured_told, answer_told}
use Rattle.boundary.specs.Calls.{when_read, when_room, read_code, imbalance_code, filter_code, narrow_of, narrow_code, when_joined, join_code}
use Rattle.boundary.proofs.SmallLaws.{place_small, detail_small}
use Rattle.year.proofs.ImbalanceLaws.{imbalance_small}
use Rattle.promises.specs.Codes.{Tells, CodesDue}

-- ---- what fits is undone

record Fits (t : Told) : Type 0 where
  number_fits : t.number < 256
  detail_fits : t.detail < 256
  value_fits : t.value < 281474976710656

undo : (t : Told) → Fits t → apart (packed t) ≡ t
undo t f =
    let a : (t.number + t.detail * 256 + t.value * 65536) % 256 ≡ t.number = omega (arith, f.number_fits) in
    let above : (t.number + t.detail * 256 + t.value * 65536) / 256 ≡ t.detail + t.value * 256 = omega (arith, f.number_fits) in
    let lowest : (t.detail + t.value * 256) % 256 ≡ t.detail = omega (arith, f.detail_fits) in
    let b : (t.number + t.detail * 256 + t.value * 65536) / 256 % 256 ≡ t.detail = ap (λ n. n % 256) above ∙ lowest in
    let c : (t.number + t.detail * 256 + t.value * 65536) / 65536 ≡ t.value = omega (arith, f.number_fits, f.detail_fits) in
    λ i. told (a i) (b i) (c i)

tells : (t : Told) → Fits t → Tells (packed t) t
tells t f = record { number_fits = f.number_fits; detail_fits = f.detail_fits; value_fits = f.value_fits; undone = undo t f }

-- ---- each answer fits

fault_few : (f : Fault) → fault_number f < 256
fault_few fault.Length = omega arith
fault_few fault.Letter = omega arith
fault_few fault.Number = omega arith
fault_few fault.Size = omega arith
fault_few fault.Order = omega arith
fault_few fault.List = omega arith
fault_few fault.Padding = omega arith

reading_fits : (s : List ℕ) → Fits (reading_told (read_list s))
reading_fits s = record { number_fits = few (read_list s); detail_fits = omega arith; value_fits = small (read_list s) refl }
  where
    few : (r : Result Year Refusal) → reading_number r < 256
    few (Ok y) = omega arith
    few (Err q) = fault_few q.fault

    small : (r : Result Year Refusal) → read_list s ≡ r → reading_place r < 281474976710656
    small (Ok y) e = omega arith
    small (Err q) e = omega (arith, place_small s q e)

joining_fits : (t h : List ℕ) → Fits (joining_told (join_of t h))
joining_fits t h = record { number_fits = few (join_of t h); detail_fits = listed (join_of t h); value_fits = omega (arith, place_few t h) }
  where
    few : (r : Result Year JoiningRefusal) → joining_number r < 256
    few (Ok y) = omega arith
    few (Err (InTerms q)) = fault_few q.fault
    few (Err (InHours q)) = fault_few q.fault

    listed : (r : Result Year JoiningRefusal) → joining_list r < 256
    listed (Ok y) = omega arith
    listed (Err (InTerms q)) = omega arith
    listed (Err (InHours q)) = omega arith

narrowing_fits : (a : Result (Unit {0}) NarrowingRefusal) → Fits (narrowing_told a)
narrowing_fits a = record { number_fits = few a; detail_fits = omega arith; value_fits = omega arith }
  where
    few : (a : Result (Unit {0}) NarrowingRefusal) → narrowing_number a < 256
    few (Ok done) = omega arith
    few (Err narrowing.Unsound) = omega arith
    few (Err narrowing.Missing) = omega arith
    few (Err narrowing.Outside) = omega arith
    few (Err narrowing.Crossing) = omega arith

measured_fits : (y : Year) → Fits (measured_told (imbalance_of y))
measured_fits y = record { number_fits = few (imbalance_of y); detail_fits = omega arith; value_fits = small (imbalance_of y) refl }
  where
    few : (m : Result ℕ ImbalanceRefusal) → imbalance_number m < 256
    few (Ok v) = omega arith
    few (Err imbalance.Unsound) = omega arith
    few (Err imbalance.Unsettled) = omega arith

    small : (m : Result ℕ ImbalanceRefusal) → imbalance_of y ≡ m → imbalance_value m < 281474976710656
    small (Ok v) e = omega (arith, imbalance_small y v e)
    small (Err r) e = omega arith

answer_fits : (y : Year) → Fits (answer_told (filter_of y).answer)
answer_fits y = record {
  number_fits = few (filter_of y).answer;
  detail_fits = detail_small y;
  value_fits = omega (arith, (answer_few y).1);
}
  where
    few : (a : Answer) → filter_number a < 256
    few (Settled n) = omega arith
    few (Open n) = omega arith
    few (NoPlan r n) = omega arith
    few Unsound = omega arith

room_fits : (room n : ℕ) (own : Told) → Fits own → Fits (when_room room n own)
room_fits room n own f =
    choose_any Fits (ltb room n) short_told own (record { number_fits = omega arith; detail_fits = omega arith; value_fits = omega arith }) f

read_fits : (r : Result Year Refusal) (own : Told) → Fits (reading_told r) → Fits own → Fits (when_read r own)
read_fits (Ok y) own f g = g
read_fits (Err q) own f g = f

join_fits : (r : Result Year JoiningRefusal) (own : Told) → Fits (joining_told r) → Fits own → Fits (when_joined r own)
join_fits (Ok y) own f g = g
join_fits (Err q) own f g = f

pub codes_due : CodesDue
unfolding read_code imbalance_code filter_code narrow_code join_code
codes_due = record {
  by_reading = λ s. tells _ (reading_fits s);
  by_imbalance = λ s. tells _ (read_fits (read_list s) _ (reading_fits s) (measured_fits (year_read (read_list s))));
  by_filtering = λ s room. tells _ (read_fits (read_list s) _ (reading_fits s) (room_fits room (length s) _ (answer_fits (year_read (read_list s)))));
  by_narrowing = λ s kind a b room.
      tells _ (read_fits (read_list s) _ (reading_fits s) (room_fits room (length s) _ (narrowing_fits (narrow_of (year_read (read_list s)) kind a b).answer)));
  by_joining = λ t h room. tells _ (join_fits (join_of t h) _ (joining_fits t h) (room_fits room (length t + length h) _ (joining_fits t h)));
}
