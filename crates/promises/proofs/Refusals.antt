-- Which byte strings are refused by which number: a record by the first row of the table that is wrong with it, a list by its first such record.
use Prim.Native.Nat.{ℕ, suc, ◌+◌, ◌*◌, ◌/◌, ◌≤◌}
use mathlib.Core.Bool.{Bool, false, ◌&&◌}
use mathlib.Core.List.{List}
use mathlib.Core.Path.{◌≡◌, refl, sym, ap, subst, ◌∙◌}
use native.Mathlib.Nat.{add-zero}
use native.Mathlib.Omega.{arith}
use native.Mathlib.Decide.{ℕ_discrete}
use lib.Dec.{eqb, leb}
use lib.ListN.{length, get_or}
use Rattle.theory.specs.Sum.{sum}
use Rattle.theory.proofs.ChoiceLaws.{choose_case}
use Rattle.theory.proofs.SumLaws.{pick_eq, pick_ne}
use Rattle.year.specs.declared.Term.{Term}
use Rattle.year.specs.declared.Course.{Course}
use Rattle.year.specs.declared.Year.{Year}
use Rattle.records.specs.Bytes.{letter_at, blank_from}
use Rattle.records.specs.Numbers.{reading_number}
use Rattle.records.specs.Reading.{OfTerm, OfCourse, bears_next, bad_bounds, bad_order, bad_weight, bad_list, term_by_itself, course_by, term_record, course_record, of_term, of_course, record_at, blank_year, add_term, add_course, record_in, bad_length, read_list, year_read}
use Rattle.records.specs.declared.Fault.TheVariants as fault
use Rattle.records.proofs.EntryLaws.{record_term, record_course}
use Rattle.records.proofs.GatherLaws.{is_done}
use Rattle.records.proofs.ListLaws.{Front, front_start, front_term, front_course, read_sound}
use Rattle.records.proofs.ReadWrite.{read_write}
use Rattle.records.proofs.WriteRead.{write_read}
use Rattle.promises.specs.Refusals.{T, C, byte_of, word_of, before, BadLength, Wrong, neither_letter, course_first, term_behind_course, number, place, ReadingDue}
use Rattle.promises.proofs.Tells.{Tells, tells_eq, tells_le, tells_and}
use Rattle.promises.proofs.Judging.{Found, bad_length_lem, first_wrong, all_right, found_once, found_length, found_right, found_most, found_wrong, Judged, one_more, none_start, none_left, row, row_passed, found_summed}
use Rattle.promises.proofs.RefusalRows.{tells_length, term_letter, term_number, term_size, term_order, term_list, term_padding, course_letter, course_number, course_size, course_order, course_list, course_padding, wrong_number}

-- ---- one record

pub letter_of : (s : List ℕ) (k : ℕ) → byte_of s k 0 ≡ letter_at s (k * 16)
letter_of s k = ap (λ (n : ℕ). get_or s n 0) (add-zero (k * 16))

module _ (s : List ℕ) (k : ℕ) where
  pub judged_term : byte_of s k 0 ≡ T → before s C k ≡ 0 → Judged (Wrong s) k (of_term (term_record s (k * 16) (before s T k)))
  unfolding term_record term_by_itself
  judged_term is none =
      row_passed (Wrong s) of_term (λ f. refl) k fault.Number (bears_next s (k * 16) (before s T k) 16) (term_by_itself s (k * 16)) (term_number s k is) (one_more (Wrong s) k 2 (none_start (Wrong s) (wrong_number s) k) (term_letter s k is none)) λ n3.
      row (Wrong s) of_term (λ f. refl) k fault.Size (bad_bounds s (k * 16)) _ (term_size s k is) n3 λ n4.
      row (Wrong s) of_term (λ f. refl) k fault.Order (bad_order s (k * 16)) _ (term_order s k is) n4 λ n5.
      row_passed (Wrong s) of_term (λ f. refl) k fault.Padding (blank_from s (k * 16) 10) _ (term_padding s k is) (one_more (Wrong s) k 6 n5 (term_list s k is))
      (none_left (Wrong s) (wrong_number s) k)

  judged_course : byte_of s k 0 ≡ C → 1 ≤ k → Judged (Wrong s) k (of_course (course_record s (k * 16) (before s C k) (before s T k)))
  unfolding course_record course_by
  judged_course is some =
      row_passed (Wrong s) of_course (λ f. refl) k fault.Number (bears_next s (k * 16) (before s C k) 64) _ (course_number s k is) (one_more (Wrong s) k 2 (none_start (Wrong s) (wrong_number s) k) (course_letter s k is some)) λ n3.
      row (Wrong s) of_course (λ f. refl) k fault.Size (bad_weight (word_of s k 2)) _ (course_size s k is) n3 λ n4.
      row (Wrong s) of_course (λ f. refl) k fault.List (bad_list (word_of s k 4) (before s T k)) _ (course_list s k is) (one_more (Wrong s) k 5 n4 (course_order s k is)) λ n6.
      row_passed (Wrong s) of_course (λ f. refl) k fault.Padding (blank_from s (k * 16) 6) _ (course_padding s k is) n6
      (none_left (Wrong s) (wrong_number s) k)

  -- the letter and what stands before it: a term, a course
  abbrev term_here : Bool
  term_here = eqb (letter_at s (k * 16)) T && eqb (before s C k) 0

  abbrev course_here : Bool
  course_here = eqb (letter_at s (k * 16)) C && leb 1 (before s T k)

  term_here_lem : Tells term_here ((letter_at s (k * 16) ≡ T) × (before s C k ≡ 0))
  term_here_lem = tells_and _ _ (tells_eq (letter_at s (k * 16)) T) (tells_eq (before s C k) 0)

  course_here_lem : Tells course_here ((letter_at s (k * 16) ≡ C) × (1 ≤ before s T k))
  course_here_lem = tells_and _ _ (tells_eq (letter_at s (k * 16)) C) (tells_le 1 (before s T k))

  -- neither; a course that no term stands before is the first record
  wrong_letter : term_here ≡ false → course_here ≡ false → (1 ≤ k → 1 ≤ before s T k) → Wrong s k 2
  wrong_letter p q some = go (ℕ_discrete (byte_of s k 0) T) (ℕ_discrete (byte_of s k 0) C)
    where
      go : Dec (byte_of s k 0 ≡ T) → Dec (byte_of s k 0 ≡ C) → Wrong s k 2
      go (yes t) c =
          let behind : before s C k ≡ 0 → ⊥ = λ z. term_here_lem.1 p (sym (letter_of s k) ∙ t, z) in
          term_behind_course t (omega (arith, behind))
      go (no t) (yes c) =
          let later : 1 ≤ k → ⊥ = λ h. course_here_lem.1 q (sym (letter_of s k) ∙ c, some h) in
          course_first (omega (arith, later)) c
      go (no t) (no c) = neither_letter t c

  judged_record : before s T k + before s C k ≡ k → (1 ≤ k → 1 ≤ before s T k) → Judged (Wrong s) k (record_at s (k * 16) (before s T k) (before s C k))
  unfolding record_at
  judged_record count some =
      choose_case (Judged (Wrong s) k) term_here _ _
      (λ p. let r = term_here_lem.0 p in judged_term (letter_of s k ∙ r.0) r.1)
      λ p. choose_case (Judged (Wrong s) k) course_here _ _
      (λ q. let r = course_here_lem.0 q in judged_course (letter_of s k ∙ r.0) (omega (arith, r.1)))
      λ q. (wrong_letter p q some, none_start (Wrong s) (wrong_number s) k)

-- ---- the records before record k

-- the year read so far: its terms and courses are those before record k
record Behind (s : List ℕ) (k : ℕ) (y : Year) : Type 0 where
  front : Front k y
  terms_are : y.terms ≡ before s T k
  courses_are : y.courses ≡ before s C k

module _ (s : List ℕ) where
  judged : (k : ℕ) (y : Year) → Behind s k y → Judged (Wrong s) k (record_in s k y)
  judged k y p =
      rw (p.terms_are, p.courses_are)
      (judged_record s k (omega (arith, p.front.count, p.terms_are, p.courses_are)) (λ h. omega (arith, p.front.some_term h, p.terms_are)))

  behind_start : Behind s 0 blank_year
  unfolding sum
  behind_start = record { front = front_start; terms_are = refl; courses_are = refl }

  behind_term : (k : ℕ) (y : Year) (t : Term) → Behind s k y → record_in s k y ≡ OfTerm t → Behind s (suc k) (add_term y t)
  unfolding sum
  behind_term k y t p e =
      let r = record_term s (k * 16) y.terms y.courses t e in
      let is : byte_of s k 0 ≡ T = letter_of s k ∙ r.0 in
      record {
        front = front_term s k y t p.front e;
        terms_are = omega (arith, p.terms_are, pick_eq (byte_of s k 0) T 1 is);
        courses_are = omega (arith, p.courses_are, pick_ne (byte_of s k 0) C 1 (λ c. omega arith));
      }

  behind_course : (k : ℕ) (y : Year) (c : Course) → Behind s k y → record_in s k y ≡ OfCourse c → Behind s (suc k) (add_course y c)
  unfolding sum
  behind_course k y c p e =
      let r = record_course s (k * 16) y.terms y.courses c e in
      let is : byte_of s k 0 ≡ C = letter_of s k ∙ r.0 in
      record {
        front = front_course s k y c p.front e;
        terms_are = omega (arith, p.terms_are, pick_ne (byte_of s k 0) T 1 (λ t. omega arith));
        courses_are = omega (arith, p.courses_are, pick_eq (byte_of s k 0) C 1 is);
      }

-- ---- the list

abbrev FoundOf : List ℕ → ℕ → ℕ → Type 0
FoundOf s = Found (BadLength (length s)) (length s / 16) (Wrong s)

-- what reading answers is what the rows say
found : (s : List ℕ) → FoundOf s (number s) (place s)
unfolding read_list
found s =
    found_summed (Wrong s) (record_in s) blank_year (Behind s) (behind_start s) (behind_term s) (behind_course s) (judged s) (BadLength (length s)) (length s / 16) (bad_length (length s)) (tells_length (length s))

-- ---- the statement

-- and the other way round
answered : (s : List ℕ) (n k : ℕ) → FoundOf s n k → (number s ≡ n) × (place s ≡ k)
answered s n k = found_once (number s) (place s) n k (found s)

found_at : (s : List ℕ) (n k : ℕ) → number s ≡ n → place s ≡ k → FoundOf s n k
found_at s n k e f = subst (FoundOf s n) f (subst (λ (m : ℕ). FoundOf s m (place s)) e (found s))

bad_if_1 : (s : List ℕ) → number s ≡ 1 → BadLength (length s) × (place s ≡ 0)
bad_if_1 s e = found_length (wrong_number s) (place s) (found_at s 1 (place s) e refl)

pub reading_due : ReadingDue
reading_due = record {
  by_length = λ s. (λ e. (bad_if_1 s e).0, λ b. (answered s 1 0 (bad_length_lem b)).0);
  by_length_at_0 = λ s e. (bad_if_1 s e).1;
  by_record = λ s n k h. (λ e. found_wrong n k h (found_at s n k e.0 e.1), λ w. answered s n k (first_wrong w));
  read = λ s. (λ e. found_right (wrong_number s) (place s) (found_at s 0 (place s) e refl), λ r. (answered s 0 0 (all_right r.0 r.1)).0);
  reads_records = λ s bytes. (
    λ e. let y = year_read (read_list s) in let is = is_done (read_list s) e in (y, read_sound s y is, read_write s bytes y is),
    λ (y, sound, is). ap number (sym is) ∙ ap reading_number (write_read y sound),
  );
  no_other_number = λ s. found_most (wrong_number s) (number s) (place s) (found s);
}
