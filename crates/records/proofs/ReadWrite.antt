-- What was read is written back byte for byte.
use Prim.Native.Nat.{ℕ, zero, suc, ◌+◌, ◌-◌, ◌*◌, ◌/◌, ◌%◌, ◌≤◌, ◌<◌}
use mathlib.Core.Bool.{true}
use mathlib.Core.List.{List, ◌++◌, append_assoc, append-nil}
use mathlib.Core.Path.{◌≡◌, refl, sym, ap, ap₂, ◌∙◌}
use native.Mathlib.Nat.{add-zero}
use native.Mathlib.Omega.{arith}
use lib.Dec.{lit<}
use lib.ListN.{length, get_or, take, drop, length-drop}
use lib.Seq.{ext_get_or, length-take-le, get_or-take, get_or-drop, take-add, take-length}
use borrow.Author.Tests.{eqb-true}
use Rattle.theory.specs.Tab.{tab}
use Rattle.theory.proofs.TabLaws.{length_tab, get_or_tab}
use Rattle.theory.proofs.TestLaws.{all_at}
use Rattle.year.specs.Year.{course_of}
use Rattle.year.specs.declared.Term.{Term}
use Rattle.year.specs.declared.Course.{Course}
use Rattle.year.specs.declared.Year.{Year}
use Rattle.records.specs.Bytes.{letter_at, byte_at, word_at, blank_at, blank_from, AllBytes}
use Rattle.records.specs.Reading.{OfTerm, OfCourse, blank_year, add_term, add_course, done, record_in, read_list}
use Rattle.records.specs.Writing.{term_bytes, course_bytes, term_block, course_block, joined, records_of}
use Rattle.records.proofs.EntryLaws.{term_in, TermRead, CourseRead, record_term, record_course}
use Rattle.records.proofs.LayLaws.{joined_more}
use Rattle.records.proofs.GatherLaws.{gathered_keeps, Begun, term_added, term_before, course_added, course_before}
use Rattle.records.proofs.ListLaws.{Front, front_start, front_term, front_course, list_read}

-- ---- sixteen bytes of a list

taken_bytes : (s : List ℕ) (at n : ℕ) → at + n ≤ length s → take n (drop at s) ≡ tab n (byte_at s at)
taken_bytes s at n h =
    let long : length (take n (drop at s)) ≡ n = length-take-le n (drop at s) (omega (arith, length-drop at s)) in
    ext_get_or 0 (take n (drop at s)) (tab n (byte_at s at)) (long ∙ sym (length_tab n (byte_at s at)))
    (λ i l.
    let m : i < n = omega arith in
    get_or-take n (drop at s) i 0 m ∙ get_or-drop at s i 0 ∙ sym (get_or_tab n (byte_at s at) 0 i m))

-- a byte that must be zero is
blank_byte : (s : List ℕ) (at k i : ℕ) → blank_from s at k ≡ true → i < 16 - k → byte_at s at (k + i) ≡ 0
blank_byte s at k i e h = eqb-true _ _ (all_at (16 - k) (blank_at s at k) e i h)

-- the two bytes of a number
high_byte : (a b : ℕ) → b < 256 → a ≡ (a * 256 + b) / 256
high_byte a b h = omega arith

low_byte : (a b : ℕ) → b < 256 → b ≡ (a * 256 + b) % 256
low_byte a b h = omega arith

module _ (s : List ℕ) (at : ℕ) (fits : at + 16 ≤ length s) (bytes : AllBytes s) where
  high : (k : ℕ) → k < 15 → byte_at s at k ≡ word_at s at k / 256
  high k h = high_byte (byte_at s at k) (byte_at s at (k + 1)) (bytes (at + (k + 1)) (omega arith))

  low : (k : ℕ) → k < 15 → byte_at s at (k + 1) ≡ word_at s at k % 256
  low k h = low_byte (byte_at s at k) (byte_at s at (k + 1)) (bytes (at + (k + 1)) (omega arith))

  letter : (x : ℕ) → letter_at s at ≡ x → byte_at s at 0 ≡ x
  letter x e = ap (λ (n : ℕ). get_or s n 0) (add-zero at) ∙ e

  pub term_back : (n : ℕ) (t : Term) → letter_at s at ≡ 84 → TermRead s at n t → take 16 (drop at s) ≡ term_bytes n t
  unfolding tab
  term_back n t e r =
      let z : (i : ℕ) → i < 6 → byte_at s at (10 + i) ≡ 0 = λ i. blank_byte s at 10 i r.held.blank in
      let is : tab 16 (byte_at s at) ≡ term_bytes n (term_in s at) =
      cc (letter 84 e, r.number, high 2 (lit< tt), low 2 (lit< tt), high 4 (lit< tt), low 4 (lit< tt), high 6 (lit< tt), low 6 (lit< tt), high 8 (lit< tt), low 8 (lit< tt), z 0 (lit< tt), z 1 (lit< tt), z 2 (lit< tt), z 3 (lit< tt), z 4 (lit< tt), z 5 (lit< tt)) in
      taken_bytes s at 16 fits ∙ is ∙ ap (term_bytes n) r.held.holds

  pub course_back : (n terms : ℕ) (c : Course) → letter_at s at ≡ 67 → CourseRead s at n terms c → take 16 (drop at s) ≡ course_bytes n c
  unfolding tab
  course_back n terms c e r =
      let z : (i : ℕ) → i < 10 → byte_at s at (6 + i) ≡ 0 = λ i. blank_byte s at 6 i r.held.blank in
      let is : tab 16 (byte_at s at) ≡ course_bytes n (course_of (word_at s at 2) (word_at s at 4)) =
      cc (letter 67 e, r.number, high 2 (lit< tt), low 2 (lit< tt), high 4 (lit< tt), low 4 (lit< tt), z 0 (lit< tt), z 1 (lit< tt), z 2 (lit< tt), z 3 (lit< tt), z 4 (lit< tt), z 5 (lit< tt), z 6 (lit< tt), z 7 (lit< tt), z 8 (lit< tt), z 9 (lit< tt)) in
      taken_bytes s at 16 fits ∙ is ∙ ap (course_bytes n) r.held.holds

-- ---- the records of a year with one more

joined_same : (f g : ℕ → List ℕ) (n : ℕ) → ((i : ℕ) → i < n → f i ≡ g i) → joined f n ≡ joined g n
unfolding joined
joined_same f g zero h = refl
joined_same f g (suc n) h = ap₂ ◌++◌ (joined_same f g n (λ i l. h i (omega arith))) (h n (omega arith))

records_term : (y : Year) (t : Term) → Begun y → y.terms < 16 → y.courses ≡ 0 → records_of (add_term y t) ≡ records_of y ++ term_bytes y.terms t
unfolding records_of joined
records_term y t b room none =
    let z = add_term y t in
    let n = y.terms in
    let same : joined (term_block z) n ≡ joined (term_block y) n =
    joined_same (term_block z) (term_block y) n (λ i l. ap (term_bytes i) (term_before y t b room i (λ q. omega arith))) in
    let new : term_block z n ≡ term_bytes n t = ap (term_bytes n) (term_added y t b room n refl) in
    rw none
    (append-nil (joined (term_block z) (n + 1))
    ∙ joined_more (term_block z) n
    ∙ ap₂ ◌++◌ (same ∙ sym (append-nil (joined (term_block y) n))) new)

records_course : (y : Year) (c : Course) → Begun y → y.courses < 64 → records_of (add_course y c) ≡ records_of y ++ course_bytes y.courses c
unfolding records_of
records_course y c b room =
    let z = add_course y c in
    let n = y.courses in
    let same : joined (course_block z) n ≡ joined (course_block y) n =
    joined_same (course_block z) (course_block y) n (λ i l. ap (course_bytes i) (course_before y c b room i (λ q. omega arith))) in
    let new : course_block z n ≡ course_bytes n c = ap (course_bytes n) (course_added y c b room n refl) in
    ap (λ (l : List ℕ). joined (term_block y) y.terms ++ l) (joined_more (course_block z) n ∙ ap₂ ◌++◌ same new)
    ∙ sym (append_assoc (joined (term_block y) y.terms) (joined (course_block y) n) (course_bytes n c))

-- ---- the list

module _ (s : List ℕ) (bytes : AllBytes s) where
  -- the records of the year so far are the bytes so far
  abbrev Back : ℕ → Year → Type 0
  Back k y = Front k y × (k * 16 ≤ length s → records_of y ≡ take (k * 16) s)

  back_start : Back 0 blank_year
  unfolding records_of joined
  back_start = (front_start, λ h. refl)

  further : (k : ℕ) (l : List ℕ) → take 16 (drop (k * 16) s) ≡ l → take (suc k * 16) s ≡ take (k * 16) s ++ l
  further k l e =
      let is : suc k * 16 ≡ k * 16 + 16 = omega arith in
      ap (λ (n : ℕ). take n s) is ∙ take-add (k * 16) 16 s ∙ ap (λ (m : List ℕ). take (k * 16) s ++ m) e

  back_term : (k : ℕ) (y : Year) (t : Term) → Back k y → record_in s k y ≡ OfTerm t → Back (suc k) (add_term y t)
  back_term k y t p e =
      let r = record_term s (k * 16) y.terms y.courses t e in (
        front_term s k y t p.0 e,
        λ h.
            records_term y t p.0.begun r.2.room r.1
            ∙ ap (λ (l : List ℕ). l ++ term_bytes y.terms t) (p.1 (omega arith))
            ∙ sym (further k (term_bytes y.terms t) (term_back s (k * 16) (omega arith) bytes y.terms t r.0 r.2)),
      )

  back_course : (k : ℕ) (y : Year) (c : Course) → Back k y → record_in s k y ≡ OfCourse c → Back (suc k) (add_course y c)
  back_course k y c p e =
      let r = record_course s (k * 16) y.terms y.courses c e in (
        front_course s k y c p.0 e,
        λ h.
            records_course y c p.0.begun r.2.room
            ∙ ap (λ (l : List ℕ). l ++ course_bytes y.courses c) (p.1 (omega arith))
            ∙ sym (further k (course_bytes y.courses c) (course_back s (k * 16) (omega arith) bytes y.courses y.terms c r.0 r.2)),
      )

  pub read_write : (y : Year) → read_list s ≡ done y → records_of y ≡ s
  unfolding records_of
  read_write y e =
      let l = list_read s y e in
      let b = gathered_keeps (record_in s) blank_year Back back_start back_term back_course (length s / 16) l.2 l.3 in
      ap records_of (sym l.4) ∙ b.1 (omega (arith, l.1)) ∙ ap (λ (n : ℕ). take n s) l.1 ∙ take-length s
