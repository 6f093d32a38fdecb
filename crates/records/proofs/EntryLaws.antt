-- What one record that was read says of its bytes, and what it holds.
use Prim.Native.Nat.{ℕ, ◌/◌, ◌^◌, ◌≤◌, ◌<◌}
use mathlib.Core.Bool.{Bool, true, false, not, ◌&&◌, ◌||◌, true≢false}
use mathlib.Core.List.{List}
use mathlib.Core.Path.{◌≡◌, refl, sym, ap₂, ◌∙◌}
use native.Mathlib.Omega.{arith}
use native.Mathlib.Nat.{div-lt_iff_lt-mul, one-mul}
use lib.Dec.{eqb, leb, ltb}
use lib.Pow.{pow_pos}
use borrow.Author.Tests.{ltb-true, ltb-false, leb-true, le-leb, eqb-true, eqb-false, not-false}
use Rattle.theory.specs.Choice.{choose}
use Rattle.theory.proofs.TestLaws.{and_true, or_false}
use Rattle.year.specs.Year.{term_of, course_of}
use Rattle.year.specs.Sound.{TermSound, CourseSound}
use Rattle.year.specs.declared.Term.{Term}
use Rattle.year.specs.declared.Course.{Course}
use Rattle.records.specs.declared.Fault.TheVariants as fault
use Rattle.std.specs.Prelude.{Result, Ok, Err}
use Rattle.records.specs.declared.Fault.{Fault}
use Rattle.records.specs.Bytes.{letter_at, byte_at, word_at, blank_from}
use Rattle.records.specs.Reading.{OfTerm, OfCourse, Faulty, bears_next, bad_bounds, bad_order, bad_weight, bad_list, term_by_itself, course_by, course_by_itself, term_record, course_record, of_term, of_course, record_at}

-- ---- tests in one

-- zeros where they must be and neither of two faults
pub one_test : (zeros a b : Bool) → (zeros && not a && not b) ≡ true → (a ≡ false) × (b ≡ false) × (zeros ≡ true)
one_test true false false e = (refl, refl, refl)
one_test true false true e = absurd (true≢false (sym e))
one_test true true b e = absurd (true≢false (sym e))
one_test false a b e = absurd (true≢false (sym e))

-- neither fault, and yet not good
pub left_zeros : (zeros a b : Bool) → (zeros && not a && not b) ≡ false → a ≡ false → b ≡ false → zeros ≡ false
left_zeros true a b e p q = absurd (true≢false (sym (ap₂ (λ (x y : Bool). not x && not y) p q) ∙ e))
left_zeros false a b e p q = refl

-- ---- a number that is the next

pub number_is : (s : List ℕ) (at next most : ℕ) → bears_next s at next most ≡ true → (byte_at s at 1 ≡ next) × (next < most)
number_is s at next most e =
    let p = and_true (eqb (byte_at s at 1) next) (ltb next most) e in
    (eqb-true _ _ p.0, ltb-true _ _ p.1)

-- ---- a term's record

abbrev pub term_in : List ℕ → ℕ → Term
term_in s at = term_of (word_at s at 2) (word_at s at 4) (word_at s at 6) (word_at s at 8)

-- what is good by itself
pub record TermHeld (s : List ℕ) (at : ℕ) (t : Term) : Type 0 where
  pub holds : term_in s at ≡ t
  pub sound : TermSound (term_in s at)
  pub blank : blank_from s at 10 ≡ true

-- and bears the next number
pub record TermRead (s : List ℕ) (at next : ℕ) (t : Term) : Type 0 where
  pub number : byte_at s at 1 ≡ next
  pub room : next < 16
  pub held : TermHeld s at t

bounds_are : (s : List ℕ) (at : ℕ) → bad_bounds s at ≡ false → bad_order s at ≡ false → TermSound (term_in s at)
bounds_are s at e f =
    let p = or_false (ltb 64000 (word_at s at 2) || ltb 64000 (word_at s at 4) || ltb 64 (word_at s at 6)) (ltb 64 (word_at s at 8)) e in
    let q = or_false (ltb 64000 (word_at s at 2) || ltb 64000 (word_at s at 4)) (ltb 64 (word_at s at 6)) p.0 in
    let r = or_false (ltb 64000 (word_at s at 2)) (ltb 64000 (word_at s at 4)) q.0 in
    let u = or_false (ltb (word_at s at 4) (word_at s at 2)) (ltb (word_at s at 8) (word_at s at 6)) f in
    record { credits_ordered = ltb-false _ _ u.0; credits_most = ltb-false _ _ r.1; count_ordered = ltb-false _ _ u.1; count_most = ltb-false _ _ p.1 }

pub term_held : (s : List ℕ) (at : ℕ) (t : Term) → term_by_itself s at ≡ Ok t → TermHeld s at t
unfolding term_by_itself
term_held s at t e = go (bad_bounds s at) refl (bad_order s at) refl (blank_from s at 10) refl e
  where
    go : (b : Bool) → bad_bounds s at ≡ b → (d : Bool) → bad_order s at ≡ d → (u : Bool) → blank_from s at 10 ≡ u → choose b (Err fault.Size) (choose d (Err fault.Order) (choose u (Ok (term_in s at)) (Err fault.Padding))) ≡ Ok t → TermHeld s at t
    go true q d r u z e = let x : ◌≡◌ {A = ℕ} 0 1 = cc in absurd (omega arith)
    go false q true r u z e = let x : ◌≡◌ {A = ℕ} 0 1 = cc in absurd (omega arith)
    go false q false r false z e = let x : ◌≡◌ {A = ℕ} 0 1 = cc in absurd (omega arith)
    go false q false r true z e =
        let x : term_in s at ≡ t = cc in
        record { holds = x; sound = bounds_are s at q r; blank = z }

pub term_read : (s : List ℕ) (at next : ℕ) (t : Term) → term_record s at next ≡ Ok t → TermRead s at next t
unfolding term_record
term_read s at next t e = go (bears_next s at next 16) refl e
  where
    go : (a : Bool) → bears_next s at next 16 ≡ a → choose a (term_by_itself s at) (Err fault.Number) ≡ Ok t → TermRead s at next t
    go true p e = let n = number_is s at next 16 p in record { number = n.0; room = n.1; held = term_held s at t e }
    go false p e = let x : ◌≡◌ {A = ℕ} 0 1 = cc in absurd (omega arith)

-- ---- a course's record

-- a course of weight w and list l that is good: the test of its other bytes passed
pub record CourseHeld (w l : ℕ) (zeros : Bool) (terms : ℕ) (c : Course) : Type 0 where
  pub holds : course_of w l ≡ c
  pub sound : CourseSound (course_of w l) terms
  pub blank : zeros ≡ true

pub record CourseRead (s : List ℕ) (at next terms : ℕ) (c : Course) : Type 0 where
  pub number : byte_at s at 1 ≡ next
  pub room : next < 64
  pub held : CourseHeld (word_at s at 2) (word_at s at 4) (blank_from s at 6) terms c

parts_are : (w l terms : ℕ) → bad_weight w ≡ false → bad_list l terms ≡ false → CourseSound (course_of w l) terms
parts_are w l terms e f =
    let p = or_false (ltb w 1) (ltb 1000 w) e in
    let q = or_false (eqb l 0) (not (eqb (l / 2 ^ terms) 0)) f in
    let some : l ≡ 0 → ⊥ = eqb-false _ _ q.0 in
    let none : l / 2 ^ terms ≡ 0 = eqb-true _ _ (not-false _ q.1) in
    let few : l / 2 ^ terms < 1 = omega arith in
    record { weight_least = ltb-false _ _ p.0; weight_most = ltb-false _ _ p.1; list_some = omega (arith, some); list_within = rw one-mul at ((div-lt_iff_lt-mul (pow_pos terms)).0 few) }

pub course_held : (w l : ℕ) (zeros : Bool) (terms : ℕ) (c : Course) → course_by w l zeros terms ≡ Ok c → CourseHeld w l zeros terms c
unfolding course_by
course_held w l zeros terms c e = go (bad_weight w) refl (bad_list l terms) refl zeros refl e
  where
    go : (b : Bool) → bad_weight w ≡ b → (d : Bool) → bad_list l terms ≡ d → (u : Bool) → zeros ≡ u → choose b (Err fault.Size) (choose d (Err fault.List) (choose u (Ok (course_of w l)) (Err fault.Padding))) ≡ Ok c → CourseHeld w l zeros terms c
    go true q d r u z e = let x : ◌≡◌ {A = ℕ} 0 1 = cc in absurd (omega arith)
    go false q true r u z e = let x : ◌≡◌ {A = ℕ} 0 1 = cc in absurd (omega arith)
    go false q false r false z e = let x : ◌≡◌ {A = ℕ} 0 1 = cc in absurd (omega arith)
    go false q false r true z e =
        let x : course_of w l ≡ c = cc in
        record { holds = x; sound = parts_are w l terms q r; blank = z }

pub course_read : (s : List ℕ) (at next terms : ℕ) (c : Course) → course_record s at next terms ≡ Ok c → CourseRead s at next terms c
unfolding course_record
course_read s at next terms c e = go (bears_next s at next 64) refl e
  where
    go : (a : Bool) → bears_next s at next 64 ≡ a → choose a (course_by_itself s at terms) (Err fault.Number) ≡ Ok c → CourseRead s at next terms c
    go true p e =
        let n = number_is s at next 64 p in
        record { number = n.0; room = n.1; held = course_held (word_at s at 2) (word_at s at 4) (blank_from s at 6) terms c e }
    go false p e = let x : ◌≡◌ {A = ℕ} 0 1 = cc in absurd (omega arith)

-- ---- a record of either kind

-- by its letter, and by what stands before it
module _ (s : List ℕ) (at terms courses : ℕ) where
  pub at_term : {r : Result Term Fault} → letter_at s at ≡ 84 → courses ≡ 0 → term_record s at terms ≡ r → record_at s at terms courses ≡ of_term r
  unfolding record_at
  at_term p q e = rw (p, q, e) refl

  pub at_course : {r : Result Course Fault} → letter_at s at ≡ 67 → 1 ≤ terms → course_record s at courses terms ≡ r → record_at s at terms courses ≡ of_course r
  unfolding record_at
  at_course p q e = rw (p, le-leb 1 terms q, e) refl

  pub at_neither : (letter_at s at ≡ 84 → courses ≡ 0 → ⊥) → (letter_at s at ≡ 67 → 1 ≤ terms → ⊥) → record_at s at terms courses ≡ Faulty fault.Letter
  unfolding record_at
  at_neither n m = go (eqb (letter_at s at) 84 && eqb courses 0) refl (eqb (letter_at s at) 67 && leb 1 terms) refl
    where
      go : (a : Bool) → (eqb (letter_at s at) 84 && eqb courses 0) ≡ a → (b : Bool) → (eqb (letter_at s at) 67 && leb 1 terms) ≡ b
          → choose a (of_term (term_record s at terms)) (choose b (of_course (course_record s at courses terms)) (Faulty fault.Letter)) ≡ Faulty fault.Letter
      go true p b q = let r = and_true _ _ p in absurd (n (eqb-true _ _ r.0) (eqb-true _ _ r.1))
      go false p true q = let r = and_true _ _ q in absurd (m (eqb-true _ _ r.0) (leb-true _ _ r.1))
      go false p false q = refl

-- a record of a list that is a term was read as a term's, and so with a course
pub of_term_lem : (r : Result Term Fault) (t : Term) → of_term r ≡ OfTerm t → r ≡ Ok t
of_term_lem (Ok u) t e = let x : u ≡ t = cc in rw x refl
of_term_lem (Err f) t e = let x : ◌≡◌ {A = ℕ} 0 1 = cc in absurd (omega arith)

pub of_course_lem : (r : Result Course Fault) (c : Course) → of_course r ≡ OfCourse c → r ≡ Ok c
of_course_lem (Ok d) c e = let x : d ≡ c = cc in rw x refl
of_course_lem (Err f) c e = let x : ◌≡◌ {A = ℕ} 0 1 = cc in absurd (omega arith)

pub term_no_course : (r : Result Term Fault) (c : Course) → of_term r ≡ OfCourse c → ⊥
term_no_course (Ok t) c e = let x : ◌≡◌ {A = ℕ} 0 1 = cc in omega arith
term_no_course (Err f) c e = let x : ◌≡◌ {A = ℕ} 0 1 = cc in omega arith

pub course_no_term : (r : Result Course Fault) (t : Term) → of_course r ≡ OfTerm t → ⊥
course_no_term (Ok c) t e = let x : ◌≡◌ {A = ℕ} 0 1 = cc in omega arith
course_no_term (Err f) t e = let x : ◌≡◌ {A = ℕ} 0 1 = cc in omega arith

pub record_term : (s : List ℕ) (at terms courses : ℕ) (t : Term) → record_at s at terms courses ≡ OfTerm t → (letter_at s at ≡ 84) × (courses ≡ 0) × TermRead s at terms t
unfolding record_at
record_term s at terms courses t e = go (eqb (letter_at s at) 84 && eqb courses 0) refl (eqb (letter_at s at) 67 && leb 1 terms) e
  where
    go : (a : Bool) → (eqb (letter_at s at) 84 && eqb courses 0) ≡ a → (b : Bool) → choose a (of_term (term_record s at terms)) (choose b (of_course (course_record s at courses terms)) (Faulty fault.Letter)) ≡ OfTerm t → (letter_at s at ≡ 84) × (courses ≡ 0) × TermRead s at terms t
    go true p b e =
        let q = and_true (eqb (letter_at s at) 84) (eqb courses 0) p in
        (eqb-true _ _ q.0, eqb-true _ _ q.1, term_read s at terms t (of_term_lem (term_record s at terms) t e))
    go false p true e = absurd (course_no_term (course_record s at courses terms) t e)
    go false p false e = let x : ◌≡◌ {A = ℕ} 0 1 = cc in absurd (omega arith)

pub record_course : (s : List ℕ) (at terms courses : ℕ) (c : Course) → record_at s at terms courses ≡ OfCourse c → (letter_at s at ≡ 67) × (1 ≤ terms) × CourseRead s at courses terms c
unfolding record_at
record_course s at terms courses c e = go (eqb (letter_at s at) 84 && eqb courses 0) (eqb (letter_at s at) 67 && leb 1 terms) refl e
  where
    go : (a b : Bool) → (eqb (letter_at s at) 67 && leb 1 terms) ≡ b → choose a (of_term (term_record s at terms)) (choose b (of_course (course_record s at courses terms)) (Faulty fault.Letter)) ≡ OfCourse c → (letter_at s at ≡ 67) × (1 ≤ terms) × CourseRead s at courses terms c
    go true b p e = absurd (term_no_course (term_record s at terms) c e)
    go false true p e =
        let q = and_true (eqb (letter_at s at) 67) (leb 1 terms) p in
        (eqb-true _ _ q.0, leb-true _ _ q.1, course_read s at courses terms c (of_course_lem (course_record s at courses terms) c e))
    go false false p e = let x : ◌≡◌ {A = ℕ} 0 1 = cc in absurd (omega arith)
