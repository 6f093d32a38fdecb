-- A list of terms and courses read record by record: the year of its first k records, and the list as a whole.
use Prim.Native.Nat.{ℕ, suc, ◌+◌, ◌*◌, ◌/◌, ◌%◌, ◌≤◌, ◌<◌}
use mathlib.Core.Bool.{true, false, not, ◌||◌}
use mathlib.Core.List.{List}
use mathlib.Core.Logic.{◌⊎◌, inl, inr}
use mathlib.Core.Path.{◌≡◌, refl, sym, ap, subst, ◌∙◌}
use native.Mathlib.Omega.{arith}
use lib.Dec.{eqb, ltb}
use lib.ListN.{length}
use borrow.Author.Tests.{ltb-false, eqb-true, eqb-false, not-false}
use Rattle.theory.proofs.TestLaws.{or_false}
use Rattle.year.specs.Doors.{with_sums}
use Rattle.year.specs.Sound.{Sound}
use Rattle.year.specs.declared.Term.{Term}
use Rattle.year.specs.declared.Course.{Course}
use Rattle.year.specs.declared.Year.{Year}
use Rattle.records.specs.declared.Fault.{Fault}
use Rattle.records.specs.declared.Fault.TheVariants as fault
use Rattle.records.specs.declared.Refusal.{Refusal}
use Rattle.std.specs.Prelude.{◌↔◌, Err}
use Rattle.records.specs.Numbers.{reading_number}
use Rattle.records.specs.Reading.{OfTerm, OfCourse, blank_year, add_term, add_course, done, refused, record_in, read_to, bad_length, read_list}
use Rattle.records.proofs.EntryLaws.{record_term, record_course}
use Rattle.records.proofs.GatherLaws.{gathered_keeps, FirstFault, is_refused, refused_numbered, listed, listed_done, listed_refused, summed_was, summed_refused, Begun, begun_blank, begun_term, begun_course, begun_sound}

-- ---- the first k records give the front of a sound year

pub record Front (k : ℕ) (y : Year) : Type 0 where
  pub count : y.terms + y.courses ≡ k
  pub some_term : 1 ≤ k → 1 ≤ y.terms
  pub begun : Begun y

pub front_start : Front 0 blank_year
front_start = record { count = refl; some_term = λ h. absurd (omega arith); begun = begun_blank }

pub front_term : (s : List ℕ) (k : ℕ) (y : Year) (t : Term) → Front k y → record_in s k y ≡ OfTerm t → Front (suc k) (add_term y t)
front_term s k y t f e =
    let r = record_term s (k * 16) y.terms y.courses t e in
    record {
      count = omega (arith, f.count);
      some_term = λ h. omega arith;
      begun = begun_term y t f.begun r.2.room (rw (sym r.2.held.holds) r.2.held.sound) r.1;
    }

pub front_course : (s : List ℕ) (k : ℕ) (y : Year) (c : Course) → Front k y → record_in s k y ≡ OfCourse c → Front (suc k) (add_course y c)
front_course s k y c f e =
    let r = record_course s (k * 16) y.terms y.courses c e in
    record {
      count = omega (arith, f.count);
      some_term = λ h. r.1;
      begun = begun_course y c f.begun r.2.room (rw (sym r.2.held.holds) r.2.held.sound);
    }

pub read_front : (s : List ℕ) (k : ℕ) (y : Year) → read_to s k ≡ done y → Front k y
read_front s = gathered_keeps (record_in s) blank_year Front front_start (front_term s) (front_course s)

-- ---- the whole list

-- a good length: some whole records, 80 at most
pub length_good : (n : ℕ) → bad_length n ≡ false → (1 ≤ n / 16) × (n / 16 * 16 ≡ n) × (n / 16 ≤ 80)
length_good n p =
    let q = or_false (eqb n 0 || ltb 1280 n) (not (eqb (n % 16) 0)) p in
    let r = or_false (eqb n 0) (ltb 1280 n) q.0 in
    let some : n ≡ 0 → ⊥ = eqb-false _ _ r.0 in
    let few : n ≤ 1280 = ltb-false _ _ r.1 in
    let whole : n % 16 ≡ 0 = eqb-true _ _ (not-false _ q.1) in
    (omega (arith, some), omega arith, omega arith)

-- a list that was read: its length, and the year of all its records, which was given its sums
pub list_read : (s : List ℕ) (y : Year) → read_list s ≡ done y
    → (1 ≤ length s / 16) × (length s / 16 * 16 ≡ length s) × (z : Year) × (read_to s (length s / 16) ≡ done z) × (with_sums z ≡ y)
unfolding read_list
list_read s y e =
    let w = summed_was (listed (bad_length (length s)) (record_in s) blank_year (length s / 16)) y e in
    let d = listed_done (bad_length (length s)) (record_in s) blank_year (length s / 16) w.0 w.1 in
    let g = length_good (length s) d.0 in
    (g.0, g.1, w.0, d.1, w.2)

-- a list that is refused gives a refusal
pub list_refused : (s : List ℕ) → (reading_number (read_list s) ≡ 0 → ⊥) ↔ ((r : Refusal) × (read_list s ≡ Err r))
list_refused s = (is_refused (read_list s), λ (r, e). refused_numbered (read_list s) r e)

-- a list has 80 records at most, and a refusal by length is at place 0
pub place_few : (s : List ℕ) (f : Fault) (k : ℕ) → read_list s ≡ refused f k → k ≤ 80
unfolding read_list
place_few s f k e = go (listed_refused (bad_length (length s)) (record_in s) blank_year (length s / 16) f k (summed_refused _ _ e))
  where
    go : ((bad_length (length s) ≡ true) × (f ≡ fault.Length) × (k ≡ 0)) ⊎ ((bad_length (length s) ≡ false) × (k < length s / 16) × FirstFault (record_in s) blank_year f k) → k ≤ 80
    go (inl (b, g, z)) = omega arith
    go (inr (b, h, q)) = omega (arith, (length_good (length s) b).2)

-- a year that was read is sound
pub read_sound : (s : List ℕ) (y : Year) → read_list s ≡ done y → Sound y
read_sound s y e =
    let l = list_read s y e in
    let f = read_front s (length s / 16) l.2 l.3 in
    subst Sound l.4 (begun_sound l.2 f.begun (f.some_term l.0))

-- and has a term or a course for each sixteen bytes
pub read_length : (s : List ℕ) (y : Year) → read_list s ≡ done y → (y.terms + y.courses) * 16 ≡ length s
read_length s y e =
    let l = list_read s y e in
    let f = read_front s (length s / 16) l.2 l.3 in
    subst (λ (z : Year). (z.terms + z.courses) * 16 ≡ length s) l.4 (ap (λ (n : ℕ). n * 16) f.count ∙ l.1)
