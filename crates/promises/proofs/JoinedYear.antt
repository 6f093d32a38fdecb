-- The joined year: its terms and its courses, its records; a list of terms alone beside reading; the editions' weights.
use Prim.Native.Nat.{ℕ, ◌*◌}
use mathlib.Core.List.{List, [], ◌++◌, append-nil}
use mathlib.Core.Path.{◌≡◌, refl, sym, ap, ap₂, ◌∙◌}
use native.Mathlib.Omega.{arith}
use lib.ListN.{length, take, get_or}
use lib.Seq.{take-append_seam}
use Rattle.std.specs.Prelude.{Result, Ok, Err}
use Rattle.year.specs.Doors.{empty_year}
use Rattle.year.specs.Year.{course_of, course_at, zero_term}
use Rattle.year.specs.Sound.{Sound}
use Rattle.year.specs.declared.Course.{Course}
use Rattle.year.specs.declared.Year.{Year}
use Rattle.records.specs.Bytes.{AllBytes, word_at}
use Rattle.records.specs.Numbers.{reading_number, reading_place}
use Rattle.records.specs.Reading.{read_list, year_read}
use Rattle.records.specs.Writing.{term_bytes, term_block, course_block, joined, records_of}
use Rattle.records.specs.declared.Refusal.{Refusal}
use Rattle.records.proofs.ReadWrite.{read_write}
use Rattle.records.proofs.WriteRead.{write_read}
use Rattle.hours.specs.Numbers.{edition_number, joining_number, joining_list, joining_place}
use Rattle.hours.specs.Entries.{weight_by}
use Rattle.hours.specs.Joining.{term_list, join_of, given_back, year_joined}
use Rattle.hours.specs.declared.Edition.{Edition}
use Rattle.hours.specs.declared.Edition.TheVariants.{First, Second}
use Rattle.hours.specs.declared.JoiningRefusal.{JoiningRefusal}
use Rattle.hours.proofs.EntryLaws.{HoursHeld}
use Rattle.hours.proofs.JoinLaws.{is_joined, is_unjoined, Joint, joint, terms_done}
use Rattle.hours.proofs.ReadLaws.{terms_as_read, terms_read, in_terms, joined_with_none}
use Rattle.promises.specs.Refusals.{byte_of}
use Rattle.promises.specs.Joining.{JoinedYear, NoCourse, AsReading, HoursMean}
use Rattle.promises.proofs.Refusals.{letter_of}

-- ---- done, and refused

pub joined_sound : (t h : List ℕ) → joining_number (join_of t h) ≡ 0 → Sound (year_joined (join_of t h))
joined_sound t h e = (joint t h (year_joined (join_of t h)) (is_joined (join_of t h) e)).sound

pub join_refused : (t h : List ℕ) → (joining_number (join_of t h) ≡ 0 → ⊥)
    → (year_joined (join_of t h) ≡ empty_year) × (r : JoiningRefusal) × (join_of t h ≡ Err r) × ((given_back (join_of t h)).answer ≡ Err r)
join_refused t h n =
    let r = is_unjoined (join_of t h) n in
    (ap year_joined r.1, r.0, r.1, ap (λ (x : Result Year JoiningRefusal). (given_back x).answer) r.1)

-- ---- the year

-- a record's course by the edition that it names
course_named : (h : List ℕ) (i m : ℕ) (c : Course) (e : Edition) → HoursHeld h (i * 16) m c → byte_of h i 2 ≡ edition_number e
    → c ≡ course_of (weight_by e (word_at h (i * 16) 4) (word_at h (i * 16) 6)) (word_at h (i * 16) 8)
course_named h i m c e r q = go r.edition e (sym r.named ∙ q) (sym r.held.holds)
  where
    go : (f e : Edition) → edition_number f ≡ edition_number e
        → c ≡ course_of (weight_by f (word_at h (i * 16) 4) (word_at h (i * 16) 6)) (word_at h (i * 16) 8)
        → c ≡ course_of (weight_by e (word_at h (i * 16) 4) (word_at h (i * 16) 6)) (word_at h (i * 16) 8)
    go First First n p = p
    go First Second n p = absurd (omega arith)
    go Second First n p = absurd (omega arith)
    go Second Second n p = p

-- its records are those of the terms, which are the terms' list, and then those of the courses
records_are : (t h : List ℕ) (y : Year) → Joint t h y → AllBytes t → records_of y ≡ t ++ joined (course_block y) y.courses
unfolding records_of joined
records_are t h y j bytes =
    let z = j.front in
    let none : z.courses ≡ 0 = (terms_done t z j.front_done).0.no_course in
    let front : joined (term_block z) z.terms ≡ t =
    sym (append-nil (joined (term_block z) z.terms)) ∙ rw none at (read_write t bytes z (terms_read t z j.front_done)) in
    let same : joined (term_block y) y.terms ≡ joined (term_block z) z.terms =
    ap₂ (λ (l : List _) (n : ℕ). joined (λ i. term_bytes i (get_or l i zero_term)) n) j.front_same.1 j.front_same.0 in
    ap (λ (l : List ℕ). l ++ joined (course_block y) y.courses) (same ∙ front)

joined_year : (t h : List ℕ) → joining_number (join_of t h) ≡ 0 → JoinedYear t h (year_joined (join_of t h))
joined_year t h e =
    let y = year_joined (join_of t h) in
    let j = joint t h y (is_joined (join_of t h) e) in record {
      sound = j.sound;
      as_many_terms = omega (arith, j.term_bytes_lem);
      as_many_courses = omega (arith, j.course_bytes_lem);
      term_is = λ k l. sym (j.each_term k l).holds;
      course_is = λ i f l q. course_named h i y.terms (course_at y i) f (j.each_course i l) q;
      terms_in_front = λ bytes. ap (take (length t)) (records_are t h y j bytes) ∙ take-append_seam t (joined (course_block y) y.courses);
      written_and_read = write_read y j.sound;
    }

-- ---- no hours

as_reading : (s : List ℕ) → NoCourse s → AsReading s
as_reading s none =
    let is : term_list s ≡ read_list s = terms_as_read s (λ k l c. none k l (letter_of s k ∙ c)) in
    let j : join_of s [] ≡ in_terms (read_list s) = joined_with_none s ∙ ap in_terms is in
    record {
      same_number = ap joining_number j ∙ number (read_list s);
      same_place = ap joining_place j ∙ place (read_list s);
      same_year = ap year_joined j ∙ year (read_list s);
      in_terms = λ n. ap joining_list j ∙ named (read_list s) (λ e. n (ap joining_number j ∙ e));
    }
  where
    number : (r : Result Year Refusal) → joining_number (in_terms r) ≡ reading_number r
    number (Ok y) = refl
    number (Err q) = refl

    place : (r : Result Year Refusal) → joining_place (in_terms r) ≡ reading_place r
    place (Ok y) = refl
    place (Err q) = refl

    year : (r : Result Year Refusal) → year_joined (in_terms r) ≡ year_read r
    year (Ok y) = refl
    year (Err q) = refl

    named : (r : Result Year Refusal) → (joining_number (in_terms r) ≡ 0 → ⊥) → joining_list (in_terms r) ≡ 1
    named (Ok y) n = absurd (n refl)
    named (Err q) n = refl

-- ---- the statement

pub hours_mean : HoursMean
hours_mean = record {
  joined_year = joined_year;
  empty_as_reading = as_reading;
  differ_by_1 = λ l b. (λ e. omega arith, λ o. omega arith);
  equal_otherwise = λ l b. (λ e. omega arith, λ o. omega arith);
}
