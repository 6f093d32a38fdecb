-- What was written of a sound year is read back as that year.
use Prim.Native.Nat.{ℕ, zero, suc, ◌+◌, ◌*◌, ◌/◌, ◌%◌, ◌≤◌, ◌<◌}
use mathlib.Core.Bool.{true, ◌&&◌}
use mathlib.Core.List.{List, ◌++◌}
use mathlib.Core.Path.{◌≡◌, refl, sym, ap, ◌∙◌}
use native.Mathlib.Nat.{add-zero, add-suc, div-eq_of_lt}
use native.Mathlib.Numerals.{add-one}
use native.Mathlib.Omega.{arith}
use native.Mathlib.Decide.{ℕ_discrete}
use lib.Dec.{eqb, ltb, lit<}
use lib.ListN.{length, get_or, replicate, length-replicate, get_or-replicate, get_or-append}
use lib.Seq.{get_or-append-add}
use borrow.Author.Tests.{lt-ltb, le-ltb, le-leb, eq-eqb, ne_eqb}
use Rattle.theory.proofs.TabLaws.{fill, fill_front, tab_get_or}
use Rattle.theory.specs.Tests.{all}
use Rattle.year.specs.Year.{term_at, course_at, weight, list, zero_term}
use Rattle.year.specs.Sums.{fixed_credits, open_credits, fixed_count, open_count, no_sums, sums_at}
use Rattle.year.specs.Doors.{with_sums}
use Rattle.year.specs.Sound.{TermSound, CourseSound, Sound}
use Rattle.year.specs.declared.Term.{Term}
use Rattle.year.specs.declared.Course.{Course}
use Rattle.year.specs.declared.Year.{Year}
use Rattle.records.specs.Bytes.{letter_at, byte_at}
use Rattle.records.specs.Reading.{OfTerm, OfCourse, term_by_itself, course_by, term_record, course_record, record_at, blank_year, done, taken, record_in, read_to, summed, read_list}
use Rattle.records.specs.Writing.{term_bytes, course_bytes, term_block, course_block, joined, records_of}
use Rattle.records.proofs.LayLaws.{length_joined}
use Rattle.records.proofs.GatherLaws.{gathered_zero, gathered_more}
use Rattle.records.proofs.WriteLaws.{records_length, records_most}

-- ---- a byte of a block

get_or_joined : (f : ℕ → List ℕ) (n i r : ℕ) → ((j : ℕ) → length (f j) ≡ 16) → i < n → r < 16 → get_or (joined f n) (i * 16 + r) 0 ≡ get_or (f i) r 0
unfolding joined
get_or_joined f zero i r h l m = absurd (omega arith)
get_or_joined f (suc n) i r h l m = go (ℕ_discrete i n) (λ q. get_or_joined f n i r h q m)
  where
    long : length (joined f n) ≡ n * 16
    long = length_joined f n h

    go : Dec (i ≡ n) → (i < n → get_or (joined f n) (i * 16 + r) 0 ≡ get_or (f i) r 0) → get_or (joined f n ++ f n) (i * 16 + r) 0 ≡ get_or (f i) r 0
    go (yes q) ih =
        let is : i * 16 + r ≡ length (joined f n) + r = omega (arith, long) in
        ap (λ (k : ℕ). get_or (joined f n ++ f n) k 0) is ∙ get_or-append-add (joined f n) (f n) r 0 ∙ ap (λ (k : ℕ). get_or (f k) r 0) (sym q)
    go (no d) ih = get_or-append (joined f n) (f n) 0 (i * 16 + r) (omega (arith, d, long)) ∙ ih (omega (arith, d))

module _ (y : Year) where
  term_byte : (j r : ℕ) → j < y.terms → r < 16 → get_or (records_of y) (j * 16 + r) 0 ≡ get_or (term_block y j) r 0
  unfolding records_of
  term_byte j r l m =
      let t = joined (term_block y) y.terms in
      get_or-append t (joined (course_block y) y.courses) 0 (j * 16 + r) (omega (arith, length_joined (term_block y) y.terms (λ i. refl)))
      ∙ get_or_joined (term_block y) y.terms j r (λ i. refl) l m

  course_byte : (i r : ℕ) → i < y.courses → r < 16 → get_or (records_of y) ((y.terms + i) * 16 + r) 0 ≡ get_or (course_block y i) r 0
  unfolding records_of
  course_byte i r l m =
      let t = joined (term_block y) y.terms in
      let is : (y.terms + i) * 16 + r ≡ length t + (i * 16 + r) = omega (arith, length_joined (term_block y) y.terms (λ i. refl)) in
      ap (λ (k : ℕ). get_or (t ++ joined (course_block y) y.courses) k 0) is
      ∙ get_or-append-add t (joined (course_block y) y.courses) (i * 16 + r) 0
      ∙ get_or_joined (course_block y) y.courses i r (λ k. refl) l m

-- ---- a block is read as what it holds

-- the two bytes of a number
word_is : (a b n : ℕ) → a ≡ n / 256 → b ≡ n % 256 → a * 256 + b ≡ n
word_is a b n p q = omega arith

letter_is : (s : List ℕ) (at x : ℕ) → byte_at s at 0 ≡ x → letter_at s at ≡ x
letter_is s at x e = ap (λ (n : ℕ). get_or s n 0) (sym (add-zero at)) ∙ e

number_good : (b n most : ℕ) → b ≡ n → n < most → (eqb b n && ltb n most) ≡ true
number_good b n most e h = simp (eq-eqb _ _ e, lt-ltb _ _ h)

term_reads : (s : List ℕ) (at n : ℕ) (t : Term) → ((r : ℕ) → r < 16 → byte_at s at r ≡ get_or (term_bytes n t) r 0) → TermSound t → n < 16 → record_at s at n 0 ≡ OfTerm t
unfolding record_at term_record term_by_itself all
term_reads s at n t h sound room =
    let w2 = word_is (byte_at s at 2) (byte_at s at 3) t.low.0 (h 2 (lit< tt)) (h 3 (lit< tt)) in
    let w4 = word_is (byte_at s at 4) (byte_at s at 5) t.high.0 (h 4 (lit< tt)) (h 5 (lit< tt)) in
    let w6 = word_is (byte_at s at 6) (byte_at s at 7) t.least.0 (h 6 (lit< tt)) (h 7 (lit< tt)) in
    let w8 = word_is (byte_at s at 8) (byte_at s at 9) t.most.0 (h 8 (lit< tt)) (h 9 (lit< tt)) in
    rw (w2, w4, w6, w8)
    (simp (
      letter_is s at 84 (h 0 (lit< tt)),
      number_good (byte_at s at 1) n 16 (h 1 (lit< tt)) room,
      le-ltb 64000 t.low.0 (omega arith),
      le-ltb 64000 t.high.0 (omega arith),
      le-ltb 64 t.least.0 (omega arith),
      le-ltb 64 t.most.0 (omega arith),
      le-ltb t.high.0 t.low.0 (omega arith),
      le-ltb t.most.0 t.least.0 (omega arith),
      h 10 (lit< tt),
      h 11 (lit< tt),
      h 12 (lit< tt),
      h 13 (lit< tt),
      h 14 (lit< tt),
      h 15 (lit< tt),
    ))

course_reads : (s : List ℕ) (at n terms : ℕ) (c : Course) → ((r : ℕ) → r < 16 → byte_at s at r ≡ get_or (course_bytes n c) r 0) → CourseSound c terms → n < 64 → 1 ≤ terms → record_at s at terms n ≡ OfCourse c
unfolding record_at course_record course_by all
course_reads s at n terms c h sound room some =
    let w2 = word_is (byte_at s at 2) (byte_at s at 3) c.weight.0 (h 2 (lit< tt)) (h 3 (lit< tt)) in
    let w4 = word_is (byte_at s at 4) (byte_at s at 5) c.list (h 4 (lit< tt)) (h 5 (lit< tt)) in
    rw (w2, w4)
    (simp (
      letter_is s at 67 (h 0 (lit< tt)),
      le-leb 1 terms some,
      number_good (byte_at s at 1) n 64 (h 1 (lit< tt)) room,
      le-ltb c.weight.0 1 (omega arith),
      le-ltb 1000 c.weight.0 (omega arith),
      ne_eqb c.list 0 (λ e. omega arith),
      div-eq_of_lt sound.list_within,
      h 6 (lit< tt),
      h 7 (lit< tt),
      h 8 (lit< tt),
      h 9 (lit< tt),
      h 10 (lit< tt),
      h 11 (lit< tt),
      h 12 (lit< tt),
      h 13 (lit< tt),
      h 14 (lit< tt),
      h 15 (lit< tt),
    ))

-- ---- the front of a year

-- its first a terms and b courses, the sums not filled in yet
abbrev front : Year → ℕ → ℕ → Year
front y a b = record {
  terms = a;
  courses = b;
  term = fill (term_at y) (replicate 16 zero_term) a;
  weight = fill (weight y) (replicate 64 0) b;
  list = fill (list y) (replicate 64 0) b;
  sums = replicate 16 no_sums;
}

-- a list of m entries whose entries from n on are x
filled : {A : Type 0} (l : List A) (x : A) (m n : ℕ) → length l ≡ m → n ≤ m → ((k : ℕ) → n ≤ k → k < m → get_or l k x ≡ x) → fill (λ k. get_or l k x) (replicate m x) n ≡ l
filled l x m n long le past =
    fill_front (λ k. get_or l k x) (replicate m x) x m n (length-replicate m x) le (λ k h q. get_or-replicate m k x x q ∙ sym (past k h q))
    ∙ tab_get_or l x m long

-- all of it, with its sums, is the year
front_all : (y : Year) → Sound y → with_sums (front y y.terms y.courses) ≡ y
unfolding sums_at fixed_credits open_credits fixed_count open_count
front_all y s =
    let t = filled y.term zero_term 16 y.terms s.term_length s.terms_most s.term_blank in
    let w = filled y.weight 0 64 y.courses s.weight_length s.courses_most (λ i h m. ap (λ (c : Course). c.weight.0) (s.course_blank i h m)) in
    let l = filled y.list 0 64 y.courses s.list_length s.courses_most (λ i h m. ap (λ (c : Course). c.list) (s.course_blank i h m)) in
    let kept = sym s.sums_kept in
    (λ i. with_sums (record { terms = y.terms; courses = y.courses; term = t i; weight = w i; list = l i; sums = replicate 16 no_sums }))
    ∙ (λ i. record { terms = y.terms; courses = y.courses; term = y.term; weight = y.weight; list = y.list; sums = kept i })

-- ---- the list

module _ (y : Year) (s : Sound y) where
  reads_terms : (j : ℕ) → j ≤ y.terms → read_to (records_of y) j ≡ done (front y j 0)
  unfolding fill
  reads_terms zero h = gathered_zero (record_in (records_of y)) blank_year
  reads_terms (suc j) h =
      let is : record_at (records_of y) (j * 16) j 0 ≡ OfTerm (term_at y j) =
      term_reads (records_of y) (j * 16) j (term_at y j) (λ r m. term_byte y j r (omega arith) m) (s.term_sound j (omega arith)) (omega (arith, s.terms_most)) in
      gathered_more (record_in (records_of y)) blank_year j (front y j 0) (reads_terms j (omega arith)) ∙ ap (taken (front y j 0) j) is ∙ rw add-one

  reads_courses : (i : ℕ) → i ≤ y.courses → read_to (records_of y) (y.terms + i) ≡ done (front y y.terms i)
  unfolding fill
  reads_courses zero h = ap (read_to (records_of y)) (add-zero y.terms) ∙ reads_terms y.terms (omega arith)
  reads_courses (suc i) h =
      let m = y.terms in
      let is : record_at (records_of y) ((m + i) * 16) m i ≡ OfCourse (course_at y i) =
      course_reads (records_of y) ((m + i) * 16) i m (course_at y i) (λ r q. course_byte y i r (omega arith) q) (s.course_sound i (omega arith)) (omega (arith, s.courses_most)) s.terms_least in
      ap (read_to (records_of y)) (add-suc m i)
      ∙ gathered_more (record_in (records_of y)) blank_year (m + i) (front y m i) (reads_courses i (omega arith))
      ∙ ap (taken (front y m i) (m + i)) is
      ∙ rw add-one

  pub write_read : read_list (records_of y) ≡ done y
  unfolding read_list
  write_read =
      let n = y.terms + y.courses in
      let l : length (records_of y) ≡ n * 16 = records_length y in
      let count : length (records_of y) / 16 ≡ n = omega arith in
      simp (ne_eqb (length (records_of y)) 0 (λ e. omega (arith, s.terms_least)), le-ltb 1280 (length (records_of y)) (records_most y s), eq-eqb (length (records_of y) % 16) 0 (omega arith))
      (ap (λ (k : ℕ). summed (read_to (records_of y) k)) count ∙ ap summed (reads_courses y.courses (omega arith)) ∙ ap done (front_all y s))
