-- The year so far in either list: the terms of the one, then the courses of the other; and the joined year.
use Prim.Native.Nat.{ℕ, suc, ◌*◌, ◌/◌, ◌%◌, ◌≤◌, ◌<◌}
use mathlib.Core.Bool.{false, not}
use mathlib.Core.List.{List}
use mathlib.Core.Logic.{⊎_elim}
use mathlib.Core.Path.{◌≡◌, refl, sym, ap, subst, ◌∙◌}
use native.Mathlib.Omega.{arith}
use native.Mathlib.Decide.{ℕ_discrete}
use lib.Dec.{eqb, ltb}
use lib.ListN.{length}
use borrow.Author.Tests.{ltb-false, eqb-true, not-false}
use Rattle.theory.specs.Tab.{tab}
use Rattle.theory.proofs.TestLaws.{or_false}
use Rattle.year.specs.Year.{term_at, course_at}
use Rattle.year.specs.Sums.{fixed_credits, open_credits, fixed_count, open_count, sums_at}
use Rattle.year.specs.Doors.{with_sums}
use Rattle.year.specs.Sound.{Sound}
use Rattle.year.specs.Computing.{computing as computingYear}
use Rattle.year.specs.declared.Term.{Term}
use Rattle.year.specs.declared.Course.{Course}
use Rattle.year.specs.SoundYear.{answer_inside}
use Rattle.year.specs.declared.Year.{Year}
use Rattle.year.specs.declared.SoundYear.{SoundYear}
use Rattle.records.specs.Bytes.{letter_at}
use Rattle.std.specs.Prelude.{Result, Ok, Err, MatchResult}
use Rattle.records.specs.declared.Refusal.{Refusal}
use Rattle.records.specs.Reading.{OfTerm, OfCourse, blank_year, add_term, add_course, done, gathered, bad_length}
use Rattle.records.proofs.EntryLaws.{TermHeld, TermRead, of_term_lem, of_course_lem, term_no_course, course_no_term}
use Rattle.year.proofs.SoundLaws.{with_sums_same}
use Rattle.records.proofs.GatherLaws.{fault_some, gathered_keeps, listed, listed_done, listed_refused, summed_was, summed_refused, Begun, begun_blank, begun_term, begun_course, begun_sound, term_added, term_before, course_added, course_before}
use Rattle.records.proofs.ListLaws.{length_good}
use Rattle.hours.specs.declared.JoiningRefusal.{JoiningRefusal}
use Rattle.hours.specs.declared.JoiningRefusal.TheVariants.{InTerms, InHours}
use Rattle.hours.specs.Numbers.{joining_number, joining_place}
use Rattle.hours.specs.Entries.{hours_record, term_alone}
use Rattle.hours.specs.Joining.{term_entry, term_list, hours_entry, bad_hours, hours_list, in_hours, with_hours, behind_terms, join_of, year_joined}
use Rattle.hours.proofs.EntryLaws.{alone_read, HoursHeld, HoursRead, hours_read}

-- ---- the list of terms

-- the year of its first k records
pub record Terms (s : List ℕ) (k : ℕ) (y : Year) : Type 0 where
  pub begun : Begun y
  pub no_course : y.courses ≡ 0
  pub sums_kept : y.sums ≡ tab 16 (sums_at y)
  pub count : y.terms ≡ k
  pub each : (j : ℕ) → j < k → (letter_at s (j * 16) ≡ 84) × TermHeld s (j * 16) (term_at y j)

terms_start : (s : List ℕ) → Terms s 0 blank_year
unfolding computingYear
terms_start s = record { begun = begun_blank; no_course = refl; sums_kept = refl; count = refl; each = λ j h. absurd (omega arith) }

terms_term : (s : List ℕ) (k : ℕ) (y : Year) (t : Term) → Terms s k y → term_entry s k y ≡ OfTerm t → Terms s (suc k) (add_term y t)
unfolding sums_at fixed_credits open_credits fixed_count open_count
terms_term s k y t p e = record {
  begun = begun_term y t p.begun r.1.room (rw (sym r.1.held.holds) r.1.held.sound) p.no_course;
  no_course = p.no_course;
  sums_kept = p.sums_kept;
  count = omega (arith, p.count);
  each = λ j h. at j h (ℕ_discrete j k);
}
  where
    r : (letter_at s (k * 16) ≡ 84) × TermRead s (k * 16) y.terms t
    r = alone_read s (k * 16) y.terms t (of_term_lem (term_alone s (k * 16) y.terms) t e)

    at : (j : ℕ) → j < suc k → Dec (j ≡ k) → (letter_at s (j * 16) ≡ 84) × TermHeld s (j * 16) (term_at (add_term y t) j)
    at j h (yes q) = rw (term_added y t p.begun r.1.room j (q ∙ sym p.count), q) (r.0, r.1.held)
    at j h (no d) =
        let other : j ≡ y.terms → ⊥ = λ q. d (q ∙ p.count) in
        rw (term_before y t p.begun r.1.room j other) (p.each j (omega (arith, d)))

terms_course : (s : List ℕ) (k : ℕ) (y : Year) (c : Course) → Terms s k y → term_entry s k y ≡ OfCourse c → Terms s (suc k) (add_course y c)
terms_course s k y c p e = absurd (term_no_course (term_alone s (k * 16) y.terms) c e)

pub terms_so_far : (s : List ℕ) (k : ℕ) (y : Year) → gathered (term_entry s) blank_year k ≡ done y → Terms s k y
terms_so_far s = gathered_keeps (term_entry s) blank_year (Terms s) (terms_start s) (terms_term s) (terms_course s)

-- ---- the hours list behind a year y

module _ (y : Year) (s : List ℕ) where
  -- its records alter no term
  abbrev SameTerms : ℕ → Year → Type 0
  SameTerms k z = (z.terms ≡ y.terms) × (z.term ≡ y.term)

  pub terms_same : (k : ℕ) (z : Year) → gathered (hours_entry s) y k ≡ done z → SameTerms k z
  terms_same =
      gathered_keeps (hours_entry s) y SameTerms (refl, refl) (λ k z t p e. absurd (course_no_term (hours_record s (k * 16) z.courses z.terms) t e)) (λ k z c p e. p)

  -- the year of its first k records
  pub record Hours (k : ℕ) (z : Year) : Type 0 where
    pub begun : Begun z
    pub count : z.courses ≡ k
    pub within : z.terms ≡ y.terms
    pub each : (i : ℕ) → i < k → HoursHeld s (i * 16) y.terms (course_at z i)

  hours_course : (k : ℕ) (z : Year) (c : Course) → Hours k z → hours_entry s k z ≡ OfCourse c → Hours (suc k) (add_course z c)
  hours_course k z c p e = record {
    begun = begun_course z c p.begun r.room (rw (sym r.held.held.holds) r.held.held.sound);
    count = omega (arith, p.count);
    within = p.within;
    each = λ i h. at i h (ℕ_discrete i k);
  }
    where
      r : HoursRead s (k * 16) z.courses z.terms c
      r = hours_read s (k * 16) z.courses z.terms c (of_course_lem (hours_record s (k * 16) z.courses z.terms) c e)

      at : (i : ℕ) → i < suc k → Dec (i ≡ k) → HoursHeld s (i * 16) y.terms (course_at (add_course z c) i)
      at i h (yes q) = rw (course_added z c p.begun r.room i (q ∙ sym p.count), q, sym p.within) r.held
      at i h (no d) =
          let other : i ≡ z.courses → ⊥ = λ q. d (q ∙ p.count) in
          rw (course_before z c p.begun r.room i other) (p.each i (omega (arith, d)))

  pub hours_so_far : Begun y → y.courses ≡ 0 → (k : ℕ) (z : Year) → gathered (hours_entry s) y k ≡ done z → Hours k z
  hours_so_far b none =
      gathered_keeps (hours_entry s) y Hours (record { begun = b; count = none; within = refl; each = λ i h. absurd (omega arith) }) (λ k z t p e. absurd (course_no_term (hours_record s (k * 16) z.courses z.terms) t e)) hours_course

-- ---- each list as a whole

-- a good length of an hours list: whole records, 64 at most
hours_good : (n : ℕ) → bad_hours n ≡ false → (n / 16 * 16 ≡ n) × (n / 16 ≤ 64)
hours_good n p =
    let q = or_false (ltb 1024 n) (not (eqb (n % 16) 0)) p in
    let few : n ≤ 1024 = ltb-false _ _ q.0 in
    let whole : n % 16 ≡ 0 = eqb-true _ _ (not-false _ q.1) in
    (omega arith, omega arith)

-- a list of terms that is done
pub terms_done : (s : List ℕ) (y : Year) → term_list s ≡ done y
    → Terms s (length s / 16) y × (1 ≤ length s / 16) × (length s / 16 * 16 ≡ length s)
unfolding term_list
terms_done s y e =
    let d = listed_done (bad_length (length s)) (term_entry s) blank_year (length s / 16) y e in
    let g = length_good (length s) d.0 in
    (terms_so_far s (length s / 16) y d.1, g.0, g.1)

-- its year is sound, and has its sums
pub terms_sound : (s : List ℕ) (y : Year) → term_list s ≡ done y → Sound y
terms_sound s y e =
    let r = terms_done s y e in
    subst Sound (with_sums_same y r.0.sums_kept) (begun_sound y r.0.begun (omega (arith, r.1, r.0.count)))

-- an hours list that is done, behind terms that are: the year of its records is handed back with its sums
pub hours_done : (y : Year) (s : List ℕ) → Begun y → y.courses ≡ 0 → (w : Year) → hours_list y s ≡ done w
    → (z : Year) × Hours y s (length s / 16) z × SameTerms y s (length s / 16) z × (length s / 16 * 16 ≡ length s) × (with_sums z ≡ w)
unfolding hours_list
hours_done y s b none w e =
    let u = summed_was (listed (bad_hours (length s)) (hours_entry s) y (length s / 16)) w e in
    let d = listed_done (bad_hours (length s)) (hours_entry s) y (length s / 16) u.0 u.1 in
    (u.0, hours_so_far y s b none (length s / 16) u.0 d.1, terms_same y s (length s / 16) u.0 d.1, (hours_good (length s) d.0).0, u.2)

-- refused, the place is one of its records or 0
pub terms_refused : (s : List ℕ) (q : Refusal) → term_list s ≡ Err q → q.record ≤ 80
unfolding term_list
terms_refused s q e =
    ⊎_elim (λ r. omega (arith, r.2)) (λ r. omega (arith, r.1, (length_good (length s) r.0).2)) (listed_refused (bad_length (length s)) (term_entry s) blank_year (length s / 16) q.fault q.record e)

pub hours_refused : (y : Year) (s : List ℕ) (q : Refusal) → hours_list y s ≡ Err q → q.record ≤ 80
unfolding hours_list
hours_refused y s q e =
    ⊎_elim (λ r. omega (arith, r.2)) (λ r. omega (arith, r.1, (hours_good (length s) r.0).1)) (listed_refused (bad_hours (length s)) (hours_entry s) y (length s / 16) q.fault q.record (summed_refused _ q e))

-- ---- both

-- the endings of the two lists, as endings of the joining
module _ (t h : List ℕ) where
  pub join_behind : (y : Year) → term_list t ≡ done y → with_hours y h ≡ join_of t h
  unfolding join_of
  join_behind y e = rw e refl

  pub join_in_terms : (q : Refusal) → term_list t ≡ Err q → Err (InTerms q) ≡ join_of t h
  unfolding join_of
  join_in_terms q e = rw e refl

-- what reading the hours list gave, each refusal under that list
pub listed_under : (r : Result SoundYear Refusal) (m : Result SoundYear JoiningRefusal) (P : Refusal → Type 0) → MatchResult r (λ y. m ≡ Ok y) P → ((q : Refusal) → r ≡ Err q → m ≡ Err (InHours q)) → answer_inside m ≡ in_hours (answer_inside r)
listed_under (Ok y) m P h each = ap answer_inside h
listed_under (Err q) m P h each = ap answer_inside (each q refl)

-- what the hours stand behind has no course
pub front_empty : (t : List ℕ) (y : Year) → term_list t ≡ done y → y.courses ≡ 0
front_empty t y e = (terms_done t y e).0.no_course

-- how a joining ends: refused in the terms' list, or as the hours list behind its year
module _ (t h : List ℕ) where
  pub data Ends : Result Year JoiningRefusal → Type 0 where
    in_terms : (q : Refusal) → term_list t ≡ Err q → Ends (Err (InTerms q))
    behind : (y : Year) → term_list t ≡ done y → Ends (with_hours y h)

  pub ends : Ends (join_of t h)
  unfolding join_of
  ends = go (term_list t) refl
    where
      go : (r : Result Year Refusal) → term_list t ≡ r → Ends (behind_terms r h)
      go (Ok y) p = behind y p
      go (Err q) p = in_terms q p

joined_refused : (y : Year) (q : JoiningRefusal) → ◌≡◌ {A = Result Year JoiningRefusal} (Err q) (Ok y) → ⊥
joined_refused y q e = cc

-- what bears the number 0 is a year, and what bears another is a refusal
pub is_joined : (r : Result Year JoiningRefusal) → joining_number r ≡ 0 → r ≡ Ok (year_joined r)
is_joined (Ok y) e = refl
is_joined (Err (InTerms r)) e = absurd (fault_some r.fault e)
is_joined (Err (InHours r)) e = absurd (fault_some r.fault e)

pub is_unjoined : (r : Result Year JoiningRefusal) → (joining_number r ≡ 0 → ⊥) → (q : JoiningRefusal) × (r ≡ Err q)
is_unjoined (Ok y) n = absurd (n refl)
is_unjoined (Err q) n = (q, refl)

pub unjoined_numbered : (r : Result Year JoiningRefusal) (q : JoiningRefusal) → r ≡ Err q → joining_number r ≡ 0 → ⊥
unjoined_numbered r q e z = joined_refused (year_joined r) q (sym e ∙ is_joined r z)

-- the year of both lists
pub record Joint (t h : List ℕ) (y : Year) : Type 0 where
  pub front : Year
  pub front_done : term_list t ≡ done front
  pub front_same : (y.terms ≡ front.terms) × (y.term ≡ front.term)
  pub sound : Sound y
  pub term_bytes_lem : y.terms * 16 ≡ length t
  pub course_bytes_lem : y.courses * 16 ≡ length h
  pub each_term : (j : ℕ) → j < y.terms → TermHeld t (j * 16) (term_at y j)
  pub each_course : (i : ℕ) → i < y.courses → HoursHeld h (i * 16) y.terms (course_at y i)

pub joint : (t h : List ℕ) (y : Year) → join_of t h ≡ Ok y → Joint t h y
joint t h y = go (join_of t h) (ends t h)
  where
    listed_in : (r : Result Year Refusal) → in_hours r ≡ Ok y → r ≡ done y
    listed_in (Ok z) e = ap done (ap year_joined e)
    listed_in (Err q) e = absurd (joined_refused y (InHours q) e)

    go : (j : Result Year JoiningRefusal) → Ends t h j → j ≡ Ok y → Joint t h y
    go j (in_terms q p) e = absurd (joined_refused y (InTerms q) e)
    go j (behind f p) e =
        let r = terms_done t f p in
        let q = hours_done f h r.0.begun r.0.no_course y (listed_in (hours_list f h) e) in
        let z = q.0 in
        let many : z.terms ≡ length t / 16 = q.2.0 ∙ r.0.count in
        subst (Joint t h) q.4
        (record {
          front = f;
          front_done = p;
          front_same = q.2;
          sound = begun_sound z q.1.begun (omega (arith, r.1, many));
          term_bytes_lem = ap (λ (n : ℕ). n * 16) many ∙ r.2;
          course_bytes_lem = ap (λ (n : ℕ). n * 16) q.1.count ∙ q.3;
          each_term = λ j l. rw q.2.1 (r.0.each j (omega (arith, many))).1;
          each_course = λ i l. rw q.2.0 (q.1.each i (omega (arith, q.1.count)));
        })

-- refused, the place is one of a record, or 0
pub place_few : (t h : List ℕ) → joining_place (join_of t h) ≤ 80
place_few t h = go (join_of t h) (ends t h)
  where
    by : (y : Year) (r : Result Year Refusal) → hours_list y h ≡ r → joining_place (in_hours r) ≤ 80
    by y (Ok z) e = omega arith
    by y (Err q) e = hours_refused y h q e

    go : (j : Result Year JoiningRefusal) → Ends t h j → joining_place j ≤ 80
    go j (in_terms q p) = terms_refused t q p
    go j (behind y p) = by y (hours_list y h) refl
