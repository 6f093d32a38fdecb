-- Records taken into a year one by one: what holds of the first year and is kept by each record holds of the year at the end; a
-- refusal is the first fault; what was taken is sound with its sums. What each record is, is left open.
use Prim.Native.Nat.{ℕ, zero, suc, ◌+◌, ◌-◌, ◌^◌, ◌≤◌, ◌<◌}
use mathlib.Core.Bool.{Bool, true, false}
use mathlib.Core.Logic.{◌⊎◌, inl, inr}
use mathlib.Core.Path.{◌≡◌, refl, sym, ap, ap₂, ◌∙◌}
use native.Mathlib.Nat.{add-zero, add-suc}
use native.Mathlib.Omega.{arith}
use native.Mathlib.Decide.{ℕ_discrete}
use lib.ListN.{length, length-set, length-replicate, get_or-replicate}
use lib.Seq.{get_or-set_same, get_or-set_other}
use Rattle.std.specs.Prelude.{Result, Ok, Err}
use Rattle.theory.specs.Choice.{choose}
use Rattle.year.specs.Year.{term_at, course_at, course_of, weight, list, zero_term, zero_course}
use Rattle.year.specs.Sums.{fixed_credits, open_credits, fixed_count, open_count, sums_at}
use Rattle.year.specs.Doors.{with_sums}
use Rattle.year.specs.Sound.{TermSound, CourseSound, Sound}
use Rattle.year.specs.declared.Term.{Term}
use Rattle.year.specs.declared.Course.{Course}
use Rattle.year.specs.declared.Year.{Year}
use Rattle.records.specs.declared.Fault.{Fault}
use Rattle.records.specs.declared.Fault.TheVariants as fault
use Rattle.records.specs.declared.Refusal.{Refusal}
use Rattle.records.specs.declared.Received.{Received}
use Rattle.records.specs.Numbers.{fault_number, reading_number}
use Rattle.records.specs.Reading.{Record, OfTerm, OfCourse, Faulty, blank_year, add_term, add_course, done, refusal, refused, taken, onward, gathered, summed, received, year_read}

-- ---- done, or refused

done_same : (y z : Year) → done y ≡ done z → y ≡ z
done_same y z = ap year_read

done_refused : (y : Year) (r : Refusal) → done y ≡ Err r → ⊥
done_refused y r e = cc

refused_same : (f g : Fault) (j k : ℕ) → refused f j ≡ refused g k → (f ≡ g) × (j ≡ k)
refused_same f g j k e =
    let q : refusal f j ≡ refusal g k = cc in
    (ap (λ (r : Refusal). r.fault) q, ap (λ (r : Refusal). r.record) q)

pub fault_some : (f : Fault) → fault_number f ≡ 0 → ⊥
fault_some fault.Length e = omega arith
fault_some fault.Letter e = omega arith
fault_some fault.Number e = omega arith
fault_some fault.Size e = omega arith
fault_some fault.Order e = omega arith
fault_some fault.List e = omega arith
fault_some fault.Padding e = omega arith

-- what bears the number 0 is a year, and what bears another is a refusal
pub is_done : (r : Result Year Refusal) → reading_number r ≡ 0 → r ≡ done (year_read r)
is_done (Ok y) e = refl
is_done (Err r) e = absurd (fault_some r.fault e)

pub is_refused : (r : Result Year Refusal) → (reading_number r ≡ 0 → ⊥) → (q : Refusal) × (r ≡ Err q)
is_refused (Ok y) n = absurd (n refl)
is_refused (Err q) n = (q, refl)

pub refused_numbered : (r : Result Year Refusal) (q : Refusal) → r ≡ Err q → reading_number r ≡ 0 → ⊥
refused_numbered r q e z = fault_some q.fault (sym (ap reading_number e) ∙ z)

ok_refused : (q : Refusal) → ◌≡◌ {A = Result (Unit {0}) Refusal} (Ok tt) (Err q) → ⊥
ok_refused q e = cc

-- what was handed back of a reading r, by its answer
module _ (r : Result Year Refusal) (got : Received) (is : got ≡ received r) where
  pub received_done : got.answer ≡ Ok tt → r ≡ done got.year
  received_done e = go r is
    where
      go : (r : Result Year Refusal) → got ≡ received r → r ≡ done got.year
      go (Ok y) p = ap done (sym (ap (λ (x : Received). x.year) p))
      go (Err q) p = absurd (ok_refused q (sym e ∙ ap (λ (x : Received). x.answer) p))

  pub received_refused : (q : Refusal) → got.answer ≡ Err q → r ≡ Err q
  received_refused q e = go r is
    where
      go : (r : Result Year Refusal) → got ≡ received r → r ≡ Err q
      go (Ok y) p = absurd (ok_refused q (sym (ap (λ (x : Received). x.answer) p) ∙ e))
      go (Err f) p =
          let i : ◌≡◌ {A = Result (Unit {0}) Refusal} (Err f) (Err q) = sym (ap (λ (x : Received). x.answer) p) ∙ e in
          let k : f ≡ q = cc in
          ap Err k

module _ (entry : ℕ → Year → Record) (start : Year) where
  -- ---- the records one by one

  pub gathered_zero : gathered entry start 0 ≡ done start
  unfolding gathered
  gathered_zero = refl

  pub gathered_more : (k : ℕ) (y : Year) → gathered entry start k ≡ done y → gathered entry start (suc k) ≡ taken y k (entry k y)
  unfolding gathered
  gathered_more k y e = rw e refl

  -- a refusal stays to the end of the list
  refused_on : (k m : ℕ) (f : Fault) (n : ℕ) → gathered entry start k ≡ refused f n → gathered entry start (k + m) ≡ refused f n
  unfolding gathered
  refused_on k zero f n e = rw add-zero e
  refused_on k (suc m) f n e = rw (add-suc, refused_on k m f n e) refl

  refused_stays : (k m : ℕ) (f : Fault) (n : ℕ) → k ≤ m → gathered entry start k ≡ refused f n → gathered entry start m ≡ refused f n
  refused_stays k m f n h e =
      let is : k + (m - k) ≡ m = omega arith in
      rw is at (refused_on k (m - k) f n e)

  -- and a record with a fault makes one
  pub fault_stays : (k : ℕ) (y : Year) (f : Fault) (n : ℕ) → k < n → gathered entry start k ≡ done y → entry k y ≡ Faulty f → gathered entry start n ≡ refused f k
  fault_stays k y f n l e r = refused_stays (suc k) n f k (omega arith) (gathered_more k y e ∙ ap (taken y k) r)

  -- what is done was done before the last record
  done_before : (k : ℕ) (z : Year) → gathered entry start (suc k) ≡ done z → (y : Year) × (gathered entry start k ≡ done y)
  unfolding gathered
  done_before k z = go (gathered entry start k) refl
    where
      go : (r : Result Year Refusal) → gathered entry start k ≡ r → onward r (λ y. taken y k (entry k y)) ≡ done z → (y : Year) × (gathered entry start k ≡ done y)
      go (Ok y) p e = (y, p)
      go (Err q) p e = absurd (done_refused z q (sym e))

  -- ---- the principle

  module _ (P : ℕ → Year → Type 0) (first : P 0 start)
      (term : (k : ℕ) (y : Year) (t : Term) → P k y → entry k y ≡ OfTerm t → P (suc k) (add_term y t))
      (course : (k : ℕ) (y : Year) (c : Course) → P k y → entry k y ≡ OfCourse c → P (suc k) (add_course y c)) where
    step : (k : ℕ) (y z : Year) (r : Record) → P k y → entry k y ≡ r → taken y k r ≡ done z → P (suc k) z
    step k y z (OfTerm t) p q e = rw (sym (done_same (add_term y t) z e)) (term k y t p q)
    step k y z (OfCourse c) p q e = rw (sym (done_same (add_course y c) z e)) (course k y c p q)
    step k y z (Faulty f) p q e = absurd (done_refused z (refusal f k) (sym e))

    pub gathered_keeps : (k : ℕ) (y : Year) → gathered entry start k ≡ done y → P k y
    gathered_keeps zero y e = rw (sym (done_same start y (sym gathered_zero ∙ e))) first
    gathered_keeps (suc k) z e =
        let b = done_before k z e in
        step k b.0 z (entry k b.0) (gathered_keeps k b.0 b.1) refl (sym (gathered_more k b.0 b.1) ∙ e)

  -- ---- a refusal is the first fault

  -- record k has the fault, and the records before it were taken
  pub record FirstFault (f : Fault) (k : ℕ) : Type 0 where
    pub so_far : Year
    pub taken_before : gathered entry start k ≡ done so_far
    pub fault_here : entry k so_far ≡ Faulty f

  fault_in : (m : ℕ) (y : Year) (f : Fault) (k : ℕ) → gathered entry start m ≡ done y → (r : Record) → entry m y ≡ r → taken y m r ≡ refused f k → (k ≤ m) × FirstFault f k
  fault_in m y f k b (OfTerm t) q e = absurd (done_refused _ _ e)
  fault_in m y f k b (OfCourse c) q e = absurd (done_refused _ _ e)
  fault_in m y f k b (Faulty g) q e =
      let s = refused_same g f m k e in
      (omega (arith, s.1), record { so_far = y; taken_before = rw (sym s.1) b; fault_here = rw (sym s.1) (q ∙ ap Faulty s.0) })

  pub first_fault : (m : ℕ) (f : Fault) (k : ℕ) → gathered entry start m ≡ refused f k → (k < m) × FirstFault f k
  unfolding gathered
  first_fault zero f k e = absurd (done_refused _ _ e)
  first_fault (suc m) f k e = go (gathered entry start m) refl (first_fault m f k)
    where
      go : (r : Result Year Refusal) → gathered entry start m ≡ r → (gathered entry start m ≡ refused f k → (k < m) × FirstFault f k) → (k < suc m) × FirstFault f k
      go (Ok y) p ih =
          let r = fault_in m y f k p (entry m y) refl (sym (gathered_more m y p) ∙ e) in
          (omega (arith, r.0), r.1)
      go (Err q) p ih =
          let r = ih (p ∙ rw p at e) in
          (omega (arith, r.0), r.1)

-- two lists whose records are the same behind each year that is met
module _ (entry other : ℕ → Year → Record) (start : Year) where
  pub gathered_same : (n : ℕ) → ((k : ℕ) (y : Year) → k < n → gathered entry start k ≡ done y → entry k y ≡ other k y) → gathered entry start n ≡ gathered other start n
  unfolding gathered
  gathered_same zero h = refl
  gathered_same (suc n) h = go (gathered entry start n) refl (gathered_same n (λ k y l. h k y (omega arith)))
    where
      -- the next record is looked at only where all before it were taken
      go : (r : Result Year Refusal) → gathered entry start n ≡ r → r ≡ gathered other start n
          → onward r (λ y. taken y n (entry n y)) ≡ onward (gathered other start n) (λ y. taken y n (other n y))
      go (Ok y) is e = rw (sym e, h n y (omega arith) is) refl
      go (Err q) is e = rw (sym e) refl

-- ---- a list as a whole

-- refused by its length, or what its n records give
abbrev pub listed : Bool → (ℕ → Year → Record) → Year → ℕ → Result Year Refusal
listed bad entry start n = choose bad (refused fault.Length 0) (gathered entry start n)

module _ (bad : Bool) (entry : ℕ → Year → Record) (start : Year) (n : ℕ) where
  -- done: its length is good, and each record was taken
  pub listed_done : (y : Year) → listed bad entry start n ≡ done y → (bad ≡ false) × (gathered entry start n ≡ done y)
  listed_done y e = go bad refl e
    where
      go : (b : Bool) → bad ≡ b → listed b entry start n ≡ done y → (b ≡ false) × (gathered entry start n ≡ done y)
      go true p e = absurd (done_refused _ _ (sym e))
      go false p e = (refl, e)

  -- refused: by its length at place 0, or at its first record with a fault
  pub listed_refused : (f : Fault) (k : ℕ) → listed bad entry start n ≡ refused f k
      → ((bad ≡ true) × (f ≡ fault.Length) × (k ≡ 0)) ⊎ ((bad ≡ false) × (k < n) × FirstFault entry start f k)
  listed_refused f k e = go bad refl e
    where
      go : (b : Bool) → bad ≡ b → listed b entry start n ≡ refused f k
          → ((b ≡ true) × (f ≡ fault.Length) × (k ≡ 0)) ⊎ ((b ≡ false) × (k < n) × FirstFault entry start f k)
      go true p e =
          let s = refused_same f fault.Length k 0 (sym e) in
          inl (refl, s.0, s.1)
      go false p e = let r = first_fault entry start n f k e in inr (refl, r.0, r.1)

-- ---- the sums filled in

-- a year with its sums was a year before, and a refusal was that refusal
pub summed_was : (r : Result Year Refusal) (y : Year) → summed r ≡ done y → (z : Year) × (r ≡ done z) × (with_sums z ≡ y)
summed_was (Ok z) y e = (z, refl, done_same (with_sums z) y e)
summed_was (Err q) y e = absurd (done_refused y q (sym e))

pub summed_refused : (r : Result Year Refusal) (q : Refusal) → summed r ≡ Err q → r ≡ Err q
summed_refused (Ok z) q e = absurd (done_refused _ q e)
summed_refused (Err p) q e = e

-- how a list ends whose year is handed back with its sums: refused by its length, refused at a record, or done
module _ (bad : Bool) (entry : ℕ → Year → Record) (start : Year) (n : ℕ) where
  pub summed_long : bad ≡ true → refused fault.Length 0 ≡ summed (listed bad entry start n)
  summed_long p = rw p refl

  pub summed_fault : bad ≡ false → (k : ℕ) (y : Year) (f : Fault) → k < n → gathered entry start k ≡ done y → entry k y ≡ Faulty f → refused f k ≡ summed (listed bad entry start n)
  summed_fault p k y f l e r = rw p (sym (ap summed (fault_stays entry start k y f n l e r)))

  pub summed_done : bad ≡ false → (k : ℕ) (y : Year) → k ≡ n → gathered entry start k ≡ done y → done (with_sums y) ≡ summed (listed bad entry start n)
  summed_done p k y is e = rw (p, sym is) (sym (ap summed e))

-- ---- a year in the making

-- all that is asked of a sound year, but that it may have no term yet, and its sums may not be filled in
pub record Begun (y : Year) : Type 0 where
  pub terms_most : y.terms ≤ 16
  pub courses_most : y.courses ≤ 64
  pub term_length : length y.term ≡ 16
  pub weight_length : length y.weight ≡ 64
  pub list_length : length y.list ≡ 64
  pub term_sound : (j : ℕ) → j < y.terms → TermSound (term_at y j)
  pub course_sound : (i : ℕ) → i < y.courses → CourseSound (course_at y i) y.terms
  pub term_blank : (j : ℕ) → y.terms ≤ j → j < 16 → term_at y j ≡ zero_term
  pub course_blank : (i : ℕ) → y.courses ≤ i → i < 64 → course_at y i ≡ zero_course

pub begun_blank : Begun blank_year
begun_blank = record {
  terms_most = omega arith;
  courses_most = omega arith;
  term_length = length-replicate 16 zero_term;
  weight_length = length-replicate {A = ℕ} 64 0;
  list_length = length-replicate {A = ℕ} 64 0;
  term_sound = λ j h. absurd (omega arith);
  course_sound = λ i h. absurd (omega arith);
  term_blank = λ j h m. get_or-replicate 16 j zero_term zero_term m;
  course_blank = λ i h m. ap₂ course_of (get_or-replicate 64 i 0 0 m) (get_or-replicate 64 i 0 0 m);
}

-- one term more, which is sound and for which there is room, while there is no course
module _ (y : Year) (t : Term) (b : Begun y) (room : y.terms < 16) where
  pub term_added : (j : ℕ) → j ≡ y.terms → term_at (add_term y t) j ≡ t
  term_added j q = rw q (get_or-set_same y.term y.terms t zero_term (omega (arith, b.term_length)))

  pub term_before : (j : ℕ) → (j ≡ y.terms → ⊥) → term_at (add_term y t) j ≡ term_at y j
  term_before j d = get_or-set_other y.term y.terms j t zero_term d

  pub begun_term : TermSound t → y.courses ≡ 0 → Begun (add_term y t)
  begun_term s none = record {
    terms_most = omega arith;
    courses_most = b.courses_most;
    term_length = length-set y.term y.terms t ∙ b.term_length;
    weight_length = b.weight_length;
    list_length = b.list_length;
    term_sound = λ j h. sound j h (ℕ_discrete j y.terms);
    course_sound = λ i h. absurd (omega arith);
    term_blank = λ j h m. term_before j (λ q. omega arith) ∙ b.term_blank j (omega arith) m;
    course_blank = b.course_blank;
  }
    where
      sound : (j : ℕ) → j < y.terms + 1 → Dec (j ≡ y.terms) → TermSound (term_at (add_term y t) j)
      sound j h (yes q) = rw (term_added j q) s
      sound j h (no d) = rw (term_before j d) (b.term_sound j (omega (arith, d)))

-- one course more, which is sound beside the terms and for which there is room
module _ (y : Year) (c : Course) (b : Begun y) (room : y.courses < 64) where
  pub course_added : (i : ℕ) → i ≡ y.courses → course_at (add_course y c) i ≡ c
  course_added i q =
      let w = get_or-set_same y.weight y.courses c.weight.0 0 (omega (arith, b.weight_length)) in
      let l = get_or-set_same y.list y.courses c.list 0 (omega (arith, b.list_length)) in
      rw q (ap₂ course_of w l)

  pub course_before : (i : ℕ) → (i ≡ y.courses → ⊥) → course_at (add_course y c) i ≡ course_at y i
  course_before i d = ap₂ course_of (get_or-set_other y.weight y.courses i c.weight.0 0 d) (get_or-set_other y.list y.courses i c.list 0 d)

  pub begun_course : CourseSound c y.terms → Begun (add_course y c)
  begun_course s = record {
    terms_most = b.terms_most;
    courses_most = omega arith;
    term_length = b.term_length;
    weight_length = length-set y.weight y.courses c.weight.0 ∙ b.weight_length;
    list_length = length-set y.list y.courses c.list ∙ b.list_length;
    term_sound = b.term_sound;
    course_sound = λ i h. sound i h (ℕ_discrete i y.courses);
    term_blank = b.term_blank;
    course_blank = λ i h m. course_before i (λ q. omega arith) ∙ b.course_blank i (omega arith) m;
  }
    where
      sound : (i : ℕ) → i < y.courses + 1 → Dec (i ≡ y.courses) → CourseSound (course_at (add_course y c) i) y.terms
      sound i h (yes q) = rw (course_added i q) s
      sound i h (no d) = rw (course_before i d) (b.course_sound i (omega (arith, d)))

-- what its sums are counted by
pub begun_light : (y : Year) → Begun y
    → ((y.terms ≤ 16) × (y.courses ≤ 64)) × ((i : ℕ) → i < y.courses → (weight y i ≤ 1000) × (list y i < 2 ^ y.terms))
begun_light y b =
    ((b.terms_most, b.courses_most), λ i h. ((b.course_sound i h).weight_most, (b.course_sound i h).list_within))

-- with a term, and with its sums, it is sound
pub begun_sound : (y : Year) → Begun y → 1 ≤ y.terms → Sound (with_sums y)
unfolding sums_at fixed_credits open_credits fixed_count open_count
begun_sound y b some = record {
  terms_least = some;
  terms_most = b.terms_most;
  courses_most = b.courses_most;
  term_length = b.term_length;
  weight_length = b.weight_length;
  list_length = b.list_length;
  term_sound = b.term_sound;
  course_sound = b.course_sound;
  term_blank = b.term_blank;
  course_blank = b.course_blank;
  sums_kept = refl;
}

-- and a sound year is one in the making
pub sound_begun : (y : Year) → Sound y → Begun y
sound_begun y s = record {
  terms_most = s.terms_most;
  courses_most = s.courses_most;
  term_length = s.term_length;
  weight_length = s.weight_length;
  list_length = s.list_length;
  term_sound = s.term_sound;
  course_sound = s.course_sound;
  term_blank = s.term_blank;
  course_blank = s.course_blank;
}
