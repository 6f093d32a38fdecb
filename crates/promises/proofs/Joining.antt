-- Which pairs of byte strings are refused in which list by which number: the rows of either list, and the terms' list before the other.
use Prim.Native.Nat.{ℕ, suc, ◌*◌, ◌/◌, ◌%◌, ◌^◌, ◌≤◌, ◌<◌}
use mathlib.Core.Bool.{Bool, true, false, not, ◌&&◌}
use mathlib.Core.List.{List}
use mathlib.Core.Logic.{◌⊎◌, inl, inr, ⊎_elim, ◌↔◌}
use mathlib.Core.Path.{◌≡◌, refl, sym, subst, ◌∙◌}
use native.Mathlib.Omega.{arith}
use lib.Dec.{eqb, ltb}
use lib.ListN.{length}
use borrow.Author.Tests.{eqb-true, eqb-false}
use Rattle.std.specs.Prelude.{Result, Ok, Err}
use Rattle.theory.specs.Choice.{choose}
use Rattle.theory.specs.Sum.{sum}
use Rattle.theory.proofs.SumLaws.{pick_eq, pick_ne}
use Rattle.year.specs.declared.Term.{Term}
use Rattle.year.specs.declared.Course.{Course}
use Rattle.year.specs.declared.Year.{Year}
use Rattle.records.specs.Bytes.{letter_at, blank_from}
use Rattle.records.specs.Numbers.{fault_number, reading_number, reading_place}
use Rattle.records.specs.Reading.{Record, OfTerm, OfCourse, Faulty, bears_next, bad_weight, bad_list, course_by, term_record, of_term, of_course, blank_year, add_term, add_course, done, bad_length}
use Rattle.records.specs.declared.Fault.{Fault}
use Rattle.records.specs.declared.Fault.TheVariants as fault
use Rattle.records.specs.declared.Refusal.{Refusal}
use Rattle.records.proofs.EntryLaws.{of_term_lem, term_no_course, course_no_term}
use Rattle.records.proofs.GatherLaws.{fault_some}
use Rattle.hours.specs.Numbers.{edition_number, joining_number, joining_list, joining_place}
use Rattle.hours.specs.Entries.{weight_by, weighed, hours_by_itself, hours_record, term_alone}
use Rattle.hours.specs.Joining.{term_entry, term_list, hours_entry, bad_hours, hours_list, in_hours, join_of}
use Rattle.hours.specs.declared.Edition.{Edition}
use Rattle.hours.specs.declared.Edition.TheVariants.{First, Second}
use Rattle.hours.specs.declared.JoiningRefusal.{JoiningRefusal}
use Rattle.hours.proofs.EntryLaws.{alone_read}
use Rattle.hours.proofs.JoinLaws as law
use Rattle.promises.specs.Refusals.{T, C, byte_of, word_of, before, BadLength, Wrong}
use Rattle.promises.specs.Joining.{list, number, place, Answers, WrongTerm, no_term, as_in_reading, BadHours, too_long, no_multiple, WrongHours, no_hours, not_next, past_courses, no_edition, weightless, too_heavy, list_empty, term_lacking, third_not_zero, not_zero, TermsRight, JoiningDue}
use Rattle.promises.proofs.Tells.{Tells, tells_eq, tells_lt, tells_not, tells_or, tells_nand, tells_same, tells_number, tells_blank, tells_weight, tells_list}
use Rattle.promises.proofs.Judging.{Found, bad_length_lem, first_wrong, all_right, found_once, found_length, found_right, found_most, found_wrong, NoneBelow, Judged, one_more, none_start, none_left, row, row_passed, found_by, found_summed}
use Rattle.promises.proofs.RefusalRows.{tells_length, wrong_number}
use Rattle.promises.proofs.Refusals.{letter_of, judged_term}

-- ---- the terms' list

term_few : (s : List ℕ) (k n : ℕ) → WrongTerm s k n → (2 ≤ n) × (n ≤ 7)
term_few s k n (no_term d) = (omega arith, omega arith)
term_few s k n (as_in_reading t w) = wrong_number s k n w

module _ (s : List ℕ) (k : ℕ) where
  -- a term's record is judged as in reading
  as_read : byte_of s k 0 ≡ T → (r : Record) → Judged (Wrong s) k r → Judged (WrongTerm s) k r
  as_read is r = go r
    where
      none : (n : ℕ) → (Wrong s k n → ⊥) → WrongTerm s k n → ⊥
      none n right (no_term d) = d is
      none n right (as_in_reading t w) = right w

      go : (r : Record) → Judged (Wrong s) k r → Judged (WrongTerm s) k r
      go (OfTerm t) j = λ n. none n (j n)
      go (OfCourse c) j = λ n. none n (j n)
      go (Faulty f) j = (as_in_reading is j.0, λ m h. none m (j.1 m h))

  judged_alone : before s C k ≡ 0 → Judged (WrongTerm s) k (of_term (term_alone s (k * 16) (before s T k)))
  unfolding term_alone
  judged_alone none = go (eqb (letter_at s (k * 16)) 84) refl
    where
      go : (a : Bool) → eqb (letter_at s (k * 16)) 84 ≡ a → Judged (WrongTerm s) k (of_term (choose a (term_record s (k * 16) (before s T k)) (Err fault.Letter)))
      go true p =
          let is : byte_of s k 0 ≡ T = letter_of s k ∙ eqb-true _ _ p in
          as_read is (of_term (term_record s (k * 16) (before s T k))) (judged_term s k is none)
      go false p = (no_term (λ e. eqb-false (letter_at s (k * 16)) 84 p (sym (letter_of s k) ∙ e)), none_start (WrongTerm s) (term_few s) k)

-- the year so far has the terms before record k, and all of them are terms
record OnlyTerms (s : List ℕ) (k : ℕ) (y : Year) : Type 0 where
  terms_are : y.terms ≡ before s T k
  no_course : before s C k ≡ 0

module _ (s : List ℕ) where
  only_start : OnlyTerms s 0 blank_year
  unfolding sum
  only_start = record { terms_are = refl; no_course = refl }

  only_term : (k : ℕ) (y : Year) (t : Term) → OnlyTerms s k y → term_entry s k y ≡ OfTerm t → OnlyTerms s (suc k) (add_term y t)
  unfolding sum
  only_term k y t p e =
      let r = alone_read s (k * 16) y.terms t (of_term_lem (term_alone s (k * 16) y.terms) t e) in
      let is : byte_of s k 0 ≡ T = letter_of s k ∙ r.0 in
      record {
        terms_are = omega (arith, p.terms_are, pick_eq (byte_of s k 0) T 1 is);
        no_course = omega (arith, p.no_course, pick_ne (byte_of s k 0) C 1 (λ c. omega arith));
      }

  only_course : (k : ℕ) (y : Year) (c : Course) → OnlyTerms s k y → term_entry s k y ≡ OfCourse c → OnlyTerms s (suc k) (add_course y c)
  only_course k y c p e = absurd (term_no_course (term_alone s (k * 16) y.terms) c e)

  judged_entry : (k : ℕ) (y : Year) → OnlyTerms s k y → Judged (WrongTerm s) k (term_entry s k y)
  judged_entry k y p = rw p.terms_are (judged_alone s k p.no_course)

abbrev pub FoundTerms : List ℕ → ℕ → ℕ → Type 0
FoundTerms t = Found (BadLength (length t)) (length t / 16) (WrongTerm t)

pub found_terms : (t : List ℕ) → FoundTerms t (reading_number (term_list t)) (reading_place (term_list t))
unfolding term_list
found_terms t =
    found_by (WrongTerm t) (term_entry t) blank_year (OnlyTerms t) (only_start t) (only_term t) (only_course t) (judged_entry t) (BadLength (length t)) (length t / 16) (bad_length (length t)) (tells_length (length t))

-- ---- the hours list

hours_few : (m : ℕ) (s : List ℕ) (k n : ℕ) → WrongHours m s k n → (2 ≤ n) × (n ≤ 7)
hours_few m s k n (no_hours d) = (omega arith, omega arith)
hours_few m s k n (not_next d) = (omega arith, omega arith)
hours_few m s k n (past_courses h) = (omega arith, omega arith)
hours_few m s k n (no_edition a b) = (omega arith, omega arith)
hours_few m s k n (weightless e q z) = (omega arith, omega arith)
hours_few m s k n (too_heavy e q h) = (omega arith, omega arith)
hours_few m s k n (list_empty z) = (omega arith, omega arith)
hours_few m s k n (term_lacking j h b) = (omega arith, omega arith)
hours_few m s k n (third_not_zero d) = (omega arith, omega arith)
hours_few m s k n (not_zero b low high d) = (omega arith, omega arith)

tells_hours_length : (n : ℕ) → Tells (bad_hours n) (BadHours n)
tells_hours_length n =
    tells_same (bad_hours n)
    (tells_or (ltb 1024 n) (not (eqb (n % 16) 0)) (tells_lt 1024 n) (tells_not (eqb (n % 16) 0) (tells_eq (n % 16) 0)))
    (⊎_elim too_long no_multiple)
    back
  where
    back : BadHours n → 1024 < n ⊎ (n % 16 ≡ 0 → ⊥)
    back (too_long h) = inl h
    back (no_multiple d) = inr d

module _ (m : ℕ) (s : List ℕ) (k : ℕ) where
  abbrev W : ℕ → ℕ → Type 0
  W = WrongHours m s

  hours_letter : Tells (not (eqb (letter_at s (k * 16)) 72)) (W k 2)
  hours_letter =
      tells_same (not (eqb (letter_at s (k * 16)) 72)) (tells_not (eqb (letter_at s (k * 16)) 72) (tells_eq (letter_at s (k * 16)) 72))
      (λ d. no_hours (λ e. d (sym (letter_of s k) ∙ e)))
      back
    where
      back : W k 2 → letter_at s (k * 16) ≡ 72 → ⊥
      back (no_hours d) e = d (letter_of s k ∙ e)

  hours_number : Tells (not (bears_next s (k * 16) k 64)) (W k 3)
  hours_number = tells_same (not (bears_next s (k * 16) k 64)) (tells_number s (k * 16) k 64) (⊎_elim not_next past_courses) back
    where
      back : W k 3 → (byte_of s k 1 ≡ k → ⊥) ⊎ (64 ≤ byte_of s k 1)
      back (not_next d) = inl d
      back (past_courses h) = inr h

  -- the weight by the edition that the record names
  abbrev weight_in : Edition → ℕ
  weight_in e = weight_by e (word_of s k 4) (word_of s k 6)

  same_edition : (e f : Edition) → byte_of s k 2 ≡ edition_number e → byte_of s k 2 ≡ edition_number f → weight_in f ≡ weight_in e
  same_edition First First p q = refl
  same_edition First Second p q = absurd (omega arith)
  same_edition Second First p q = absurd (omega arith)
  same_edition Second Second p q = refl

  named : (e : Edition) → byte_of s k 2 ≡ edition_number e → (byte_of s k 2 ≡ 1 → ⊥) → (byte_of s k 2 ≡ 2 → ⊥) → ⊥
  named First p a b = a p
  named Second p a b = b p

  hours_weight : (e : Edition) → byte_of s k 2 ≡ edition_number e → Tells (bad_weight (weight_in e)) (W k 4)
  hours_weight e is = tells_same (bad_weight (weight_in e)) (tells_weight (weight_in e)) (⊎_elim (weightless e is) (too_heavy e is)) back
    where
      back : W k 4 → (weight_in e ≡ 0) ⊎ 1000 < weight_in e
      back (no_edition a b) = absurd (named e is a b)
      back (weightless f q z) = inl (sym (same_edition e f is q) ∙ z)
      back (too_heavy f q h) = inr (subst (λ (w : ℕ). 1000 < w) (same_edition e f is q) h)

  no_fifth : (n : ℕ) → W k n → n ≡ 5 → ⊥
  no_fifth n (no_hours d) e = omega arith
  no_fifth n (not_next d) e = omega arith
  no_fifth n (past_courses h) e = omega arith
  no_fifth n (no_edition a b) e = omega arith
  no_fifth n (weightless f q z) e = omega arith
  no_fifth n (too_heavy f q h) e = omega arith
  no_fifth n (list_empty z) e = omega arith
  no_fifth n (term_lacking j h b) e = omega arith
  no_fifth n (third_not_zero d) e = omega arith
  no_fifth n (not_zero b low high d) e = omega arith

  hours_list_lem : Tells (bad_list (word_of s k 8) m) (W k 6)
  hours_list_lem = tells_same (bad_list (word_of s k 8) m) (tells_list (word_of s k 8) m) (⊎_elim list_empty (λ r. term_lacking r.0 r.1 r.2)) back
    where
      back : W k 6 → (word_of s k 8 ≡ 0) ⊎ ((j : ℕ) × (m ≤ j) × (word_of s k 8 / 2 ^ j % 2 ≡ 1))
      back (list_empty z) = inl z
      back (term_lacking j h b) = inr (j, h, b)

  abbrev zeros_in : Bool
  zeros_in = eqb (byte_of s k 3) 0 && blank_from s (k * 16) 10

  hours_zeros : Tells (not zeros_in) (W k 7)
  hours_zeros =
      tells_same (not zeros_in)
      (tells_nand (eqb (byte_of s k 3) 0) (blank_from s (k * 16) 10) (tells_not (eqb (byte_of s k 3) 0) (tells_eq (byte_of s k 3) 0)) (tells_blank s (k * 16) 10))
      (⊎_elim third_not_zero (λ r. not_zero r.0 r.1 r.2 r.3))
      back
    where
      back : W k 7 → (byte_of s k 3 ≡ 0 → ⊥) ⊎ ((b : ℕ) × (10 ≤ b) × (b < 16) × (byte_of s k b ≡ 0 → ⊥))
      back (third_not_zero d) = inl d
      back (not_zero b low high d) = inr (b, low, high, d)

  judged_weighed : (e : Edition) → byte_of s k 2 ≡ edition_number e → NoneBelow W k 4 → Judged W k (of_course (weighed e s (k * 16) m))
  unfolding course_by
  judged_weighed e is n4 =
      row W of_course (λ f. refl) k fault.Size (bad_weight (weight_in e)) _ (hours_weight e is) n4 λ n5.
      row W of_course (λ f. refl) k fault.List (bad_list (word_of s k 8) m) _ hours_list_lem (one_more W k 5 n5 (λ w. no_fifth 5 w refl)) λ n7.
      row_passed W of_course (λ f. refl) k fault.Padding zeros_in _ hours_zeros n7
      (none_left W (hours_few m s) k)

  judged_by_itself : NoneBelow W k 4 → Judged W k (of_course (hours_by_itself s (k * 16) m))
  unfolding hours_by_itself
  judged_by_itself n4 = go (eqb (byte_of s k 2) 1) refl (eqb (byte_of s k 2) 2) refl
    where
      go : (a : Bool) → eqb (byte_of s k 2) 1 ≡ a → (b : Bool) → eqb (byte_of s k 2) 2 ≡ b → Judged W k (of_course (choose a (weighed First s (k * 16) m) (choose b (weighed Second s (k * 16) m) (Err fault.Size))))
      go true p b q = judged_weighed First (eqb-true _ _ p) n4
      go false p true q = judged_weighed Second (eqb-true _ _ q) n4
      go false p false q = (no_edition (eqb-false _ _ p) (eqb-false _ _ q), n4)

  judged_hours : Judged W k (of_course (hours_record s (k * 16) k m))
  unfolding hours_record
  judged_hours =
      row_passed W of_course (λ f. refl) k fault.Letter (eqb (letter_at s (k * 16)) 72) _ hours_letter (none_start W (hours_few m s) k) λ n3.
      row_passed W of_course (λ f. refl) k fault.Number (bears_next s (k * 16) k 64) (hours_by_itself s (k * 16) m) hours_number n3 judged_by_itself

abbrev FoundHours : ℕ → List ℕ → ℕ → ℕ → Type 0
FoundHours m h = Found (BadHours (length h)) (length h / 16) (WrongHours m h)

-- behind a year y: each record bears the number of its place
module _ (y : Year) (h : List ℕ) where
  abbrev InTurn : ℕ → Year → Type 0
  InTurn k z = (z.courses ≡ k) × (z.terms ≡ y.terms)

  found_hours : y.courses ≡ 0 → FoundHours y.terms h (reading_number (hours_list y h)) (reading_place (hours_list y h))
  unfolding hours_list
  found_hours none =
      found_summed (WrongHours y.terms h) (hours_entry h) y InTurn (none, refl)
      (λ k z t p e. absurd (course_no_term (hours_record h (k * 16) z.courses z.terms) t e))
      (λ k z c p e. (omega (arith, p.0), p.1))
      (λ k z p. rw (p.0, p.1) (judged_hours y.terms h k))
      (BadHours (length h)) (length h / 16) (bad_hours (length h)) (tells_hours_length (length h))

-- ---- both

-- what the rows say of two lists: the list, the number, the place
data JoinFound (t h : List ℕ) : ℕ → ℕ → ℕ → Type 0 where
  in_terms : {n k : ℕ} → 1 ≤ n → FoundTerms t n k → JoinFound t h 1 n k
  in_hours_lem : {n k : ℕ} → 1 ≤ n → FoundTerms t 0 0 → FoundHours (length t / 16) h n k → JoinFound t h 2 n k
  in_neither : FoundTerms t 0 0 → FoundHours (length t / 16) h 0 0 → JoinFound t h 0 0 0

-- a fault has a number
some : (f : Fault) → 1 ≤ fault_number f
some f = let n = fault_some f in omega (arith, n)

join_found : (t h : List ℕ) → JoinFound t h (list t h) (number t h) (place t h)
join_found t h = go (join_of t h) (law.ends t h)
  where
    terms_found : (r : Result Year Refusal) → term_list t ≡ r → FoundTerms t (reading_number r) (reading_place r)
    terms_found r p = subst (λ (r : Result Year Refusal). FoundTerms t (reading_number r) (reading_place r)) p (found_terms t)

    hours_found : (y : Year) → term_list t ≡ done y → (r : Result Year Refusal) → hours_list y h ≡ r → FoundHours (length t / 16) h (reading_number r) (reading_place r)
    hours_found y p r e =
        let d = law.terms_done t y p in
        subst (λ (m : ℕ). FoundHours m h (reading_number r) (reading_place r)) d.0.count
        (subst (λ (r : Result Year Refusal). FoundHours y.terms h (reading_number r) (reading_place r)) e (found_hours y h d.0.no_course))

    behind : (y : Year) → term_list t ≡ done y → (r : Result Year Refusal) → hours_list y h ≡ r
        → JoinFound t h (joining_list (in_hours r)) (joining_number (in_hours r)) (joining_place (in_hours r))
    behind y p (Ok z) e = in_neither (terms_found (done y) p) (hours_found y p (done z) e)
    behind y p (Err q) e = in_hours_lem (some q.fault) (terms_found (done y) p) (hours_found y p (Err q) e)

    go : (r : Result Year JoiningRefusal) → law.Ends t h r → JoinFound t h (joining_list r) (joining_number r) (joining_place r)
    go r (law.in_terms q p) = in_terms (some q.fault) (terms_found (Err q) p)
    go r (law.behind y p) = behind y p (hours_list y h) refl

-- they say it once
join_once : (t h : List ℕ) (l n k l' n' k' : ℕ) → JoinFound t h l n k → JoinFound t h l' n' k' → (l ≡ l') × (n ≡ n') × (k ≡ k')
join_once t h l n k l' n' k' (in_terms p a) (in_terms q b) = let r = found_once n k n' k' a b in (refl, r.0, r.1)
join_once t h l n k l' n' k' (in_terms p a) (in_hours_lem q b c) = absurd (omega (arith, (found_once n k 0 0 a b).0))
join_once t h l n k l' n' k' (in_terms p a) (in_neither b c) = absurd (omega (arith, (found_once n k 0 0 a b).0))
join_once t h l n k l' n' k' (in_hours_lem p a d) (in_terms q b) = absurd (omega (arith, (found_once 0 0 n' k' a b).0))
join_once t h l n k l' n' k' (in_hours_lem p a d) (in_hours_lem q b c) = let r = found_once n k n' k' d c in (refl, r.0, r.1)
join_once t h l n k l' n' k' (in_hours_lem p a d) (in_neither b c) = absurd (omega (arith, (found_once n k 0 0 d c).0))
join_once t h l n k l' n' k' (in_neither a d) (in_terms q b) = absurd (omega (arith, (found_once 0 0 n' k' a b).0))
join_once t h l n k l' n' k' (in_neither a d) (in_hours_lem q b c) = absurd (omega (arith, (found_once 0 0 n' k' d c).0))
join_once t h l n k l' n' k' (in_neither a d) (in_neither b c) = (refl, refl, refl)

-- ---- the statement

answered : (t h : List ℕ) (l n k : ℕ) → JoinFound t h l n k → Answers t h l n k
answered t h l n k = join_once t h (list t h) (number t h) (place t h) l n k (join_found t h)

found_at : (t h : List ℕ) (l n k : ℕ) → Answers t h l n k → JoinFound t h l n k
found_at t h l n k a =
    subst (JoinFound t h l n) a.2
    (subst (λ (m : ℕ). JoinFound t h l m (place t h)) a.1 (subst (λ (m : ℕ). JoinFound t h m (number t h) (place t h)) a.0 (join_found t h)))

-- what is found in the one list, and in the other behind it
of_terms : (t h : List ℕ) (n k : ℕ) → JoinFound t h 1 n k → FoundTerms t n k
of_terms t h n k (in_terms p a) = a

of_hours : (t h : List ℕ) (n k : ℕ) → JoinFound t h 2 n k → FoundTerms t 0 0 × FoundHours (length t / 16) h n k
of_hours t h n k (in_hours_lem p a b) = (a, b)

of_neither : (t h : List ℕ) (n k : ℕ) → JoinFound t h 0 n k → FoundTerms t 0 0 × FoundHours (length t / 16) h 0 0
of_neither t h n k (in_neither a b) = (a, b)

-- no other answer
listed_by_number : (t h : List ℕ) (l n k : ℕ) → JoinFound t h l n k → (n ≡ 0) ↔ (l ≡ 0)
listed_by_number t h l n k (in_terms p a) = (λ z. absurd (omega arith), λ z. absurd (omega arith))
listed_by_number t h l n k (in_hours_lem p a b) = (λ z. absurd (omega arith), λ z. absurd (omega arith))
listed_by_number t h l n k (in_neither a b) = (λ z. refl, λ z. refl)

few_lists : (t h : List ℕ) (l n k : ℕ) → JoinFound t h l n k → (l ≤ 2) × (n ≤ 7)
few_lists t h l n k (in_terms p a) = (omega arith, found_most (term_few t) n k a)
few_lists t h l n k (in_hours_lem p a b) = (omega arith, found_most (hours_few (length t / 16) h) n k b)
few_lists t h l n k (in_neither a b) = (omega arith, omega arith)

length_first : (t h : List ℕ) (l n k : ℕ) → JoinFound t h l n k → n ≡ 1 → k ≡ 0
length_first t h l n k (in_terms p a) e = (found_length (term_few t) k (subst (λ (m : ℕ). FoundTerms t m k) e a)).1
length_first t h l n k (in_hours_lem p a b) e = (found_length (hours_few (length t / 16) h) k (subst (λ (m : ℕ). FoundHours (length t / 16) h m k) e b)).1
length_first t h l n k (in_neither a b) e = refl

pub terms_right : (t : List ℕ) → FoundTerms t 0 0 → TermsRight t
terms_right t = found_right (term_few t) 0

pub joining_due : JoiningDue
joining_due = record {
  terms_by_length = λ t h. (
    λ a. (found_length (term_few t) 0 (of_terms t h 1 0 (found_at t h 1 1 0 a))).0,
    λ b. answered t h 1 1 0 (in_terms (omega arith) (bad_length_lem b)),
  );
  terms_by_record = λ t h n k l. (
    λ a. found_wrong n k l (of_terms t h n k (found_at t h 1 n k a)),
    λ w. answered t h 1 n k (in_terms (omega arith) (first_wrong w)),
  );
  hours_by_length = λ t h. (
    λ a. let r = of_hours t h 1 0 (found_at t h 2 1 0 a) in (terms_right t r.0, (found_length (hours_few (length t / 16) h) 0 r.1).0),
    λ r. answered t h 2 1 0 (in_hours_lem (omega arith) (all_right r.0.0 r.0.1) (bad_length_lem r.1)),
  );
  hours_by_record = λ t h n k l. (
    λ a. let r = of_hours t h n k (found_at t h 2 n k a) in (terms_right t r.0, found_wrong n k l r.1),
    λ r. answered t h 2 n k (in_hours_lem (omega arith) (all_right r.0.0 r.0.1) (first_wrong r.1)),
  );
  joins = λ t h. (
    λ a. let r = of_neither t h 0 0 (found_at t h 0 0 0 a) in (terms_right t r.0, found_right (hours_few (length t / 16) h) 0 r.1),
    λ r. answered t h 0 0 0 (in_neither (all_right r.0.0 r.0.1) (all_right r.1.0 r.1.1)),
  );
  list_for_number = λ t h. listed_by_number t h (list t h) (number t h) (place t h) (join_found t h);
  length_at_0 = λ t h. length_first t h (list t h) (number t h) (place t h) (join_found t h);
  no_other_list = λ t h. (few_lists t h (list t h) (number t h) (place t h) (join_found t h)).0;
  no_other_number = λ t h. (few_lists t h (list t h) (number t h) (place t h) (join_found t h)).1;
}
