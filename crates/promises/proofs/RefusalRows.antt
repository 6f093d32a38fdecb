-- Each row of the paper's table, 1 to 7: the test that reading makes tells whether the list, or a record of it, is wrong by that row.
use Prim.Native.Nat.{ℕ, ◌*◌, ◌/◌, ◌%◌, ◌^◌, ◌≤◌, ◌<◌}
use mathlib.Core.Bool.{not, ◌||◌}
use mathlib.Core.List.{List}
use mathlib.Core.Logic.{◌⊎◌, inl, inr, ⊎_elim}
use mathlib.Core.Path.{◌≡◌}
use native.Mathlib.Omega.{arith}
use lib.Dec.{eqb, ltb}
use Rattle.records.specs.Bytes.{blank_from}
use Rattle.records.specs.Reading.{bears_next, bad_bounds, bad_order, bad_weight, bad_list, bad_length}
use Rattle.promises.proofs.Tells.{Tells, tells_eq, tells_lt, tells_not, tells_or, tells_same, tells_number, tells_blank, tells_weight, tells_list}
use Rattle.promises.specs.Refusals.{T, C, byte_of, word_of, before, BadLength, empty, too_long, no_multiple, Wrong, neither_letter, course_first, term_behind_course, not_next_term, not_next_course, past_terms, past_courses, low_credits_outside, high_credits_outside, low_count_outside, high_count_outside, weightless, too_heavy, credits_crossed, counts_crossed, list_empty, term_lacking, term_not_zero, course_not_zero}

-- ---- row 1

pub tells_length : (n : ℕ) → Tells (bad_length n) (BadLength n)
tells_length n =
    tells_same (bad_length n)
    (tells_or (eqb n 0 || ltb 1280 n) (not (eqb (n % 16) 0))
    (tells_or (eqb n 0) (ltb 1280 n) (tells_eq n 0) (tells_lt 1280 n))
    (tells_not (eqb (n % 16) 0) (tells_eq (n % 16) 0)))
    (⊎_elim (⊎_elim empty too_long) no_multiple)
    back
  where
    back : BadLength n → ((n ≡ 0) ⊎ 1280 < n) ⊎ (n % 16 ≡ 0 → ⊥)
    back (empty z) = inl (inl z)
    back (too_long h) = inl (inr h)
    back (no_multiple d) = inr d

-- ---- the rows of a term

module _ (s : List ℕ) (k : ℕ) (is : byte_of s k 0 ≡ T) where
  pub term_letter : before s C k ≡ 0 → Wrong s k 2 → ⊥
  term_letter none (neither_letter t c) = t is
  term_letter none (course_first z c) = omega arith
  term_letter none (term_behind_course t h) = omega arith

  pub term_number : Tells (not (bears_next s (k * 16) (before s T k) 16)) (Wrong s k 3)
  term_number = tells_same (not (bears_next s (k * 16) (before s T k) 16)) (tells_number s (k * 16) (before s T k) 16) (⊎_elim (not_next_term is) (past_terms is)) back
    where
      back : Wrong s k 3 → (byte_of s k 1 ≡ before s T k → ⊥) ⊎ (16 ≤ byte_of s k 1)
      back (not_next_term t d) = inl d
      back (past_terms t h) = inr h
      back (not_next_course c d) = absurd (omega arith)
      back (past_courses c h) = absurd (omega arith)

  pub term_size : Tells (bad_bounds s (k * 16)) (Wrong s k 4)
  term_size =
      tells_same (bad_bounds s (k * 16))
      (tells_or (ltb 64000 (word_of s k 2) || ltb 64000 (word_of s k 4) || ltb 64 (word_of s k 6)) (ltb 64 (word_of s k 8))
      (tells_or (ltb 64000 (word_of s k 2) || ltb 64000 (word_of s k 4)) (ltb 64 (word_of s k 6))
      (tells_or (ltb 64000 (word_of s k 2)) (ltb 64000 (word_of s k 4)) (tells_lt 64000 (word_of s k 2)) (tells_lt 64000 (word_of s k 4)))
      (tells_lt 64 (word_of s k 6)))
      (tells_lt 64 (word_of s k 8)))
      (⊎_elim (⊎_elim (⊎_elim (low_credits_outside is) (high_credits_outside is)) (low_count_outside is)) (high_count_outside is))
      back
    where
      back : Wrong s k 4 → ((64000 < word_of s k 2 ⊎ 64000 < word_of s k 4) ⊎ 64 < word_of s k 6) ⊎ 64 < word_of s k 8
      back (low_credits_outside t h) = inl (inl (inl h))
      back (high_credits_outside t h) = inl (inl (inr h))
      back (low_count_outside t h) = inl (inr h)
      back (high_count_outside t h) = inr h
      back (weightless c h) = absurd (omega arith)
      back (too_heavy c h) = absurd (omega arith)

  pub term_order : Tells (bad_order s (k * 16)) (Wrong s k 5)
  term_order =
      tells_same (bad_order s (k * 16))
      (tells_or (ltb (word_of s k 4) (word_of s k 2)) (ltb (word_of s k 8) (word_of s k 6)) (tells_lt (word_of s k 4) (word_of s k 2)) (tells_lt (word_of s k 8) (word_of s k 6)))
      (⊎_elim (credits_crossed is) (counts_crossed is))
      back
    where
      back : Wrong s k 5 → word_of s k 4 < word_of s k 2 ⊎ word_of s k 8 < word_of s k 6
      back (credits_crossed t h) = inl h
      back (counts_crossed t h) = inr h

  pub term_list : Wrong s k 6 → ⊥
  term_list (list_empty c z) = omega arith
  term_list (term_lacking j c h b) = omega arith

  pub term_padding : Tells (not (blank_from s (k * 16) 10)) (Wrong s k 7)
  term_padding = tells_same (not (blank_from s (k * 16) 10)) (tells_blank s (k * 16) 10) (λ r. term_not_zero r.0 is r.1 r.2 r.3) back
    where
      back : Wrong s k 7 → (b : ℕ) × (10 ≤ b) × (b < 16) × (byte_of s k b ≡ 0 → ⊥)
      back (term_not_zero b t low high n) = (b, low, high, n)
      back (course_not_zero b c low high n) = absurd (omega arith)

-- ---- the rows of a course

module _ (s : List ℕ) (k : ℕ) (is : byte_of s k 0 ≡ C) where
  pub course_letter : 1 ≤ k → Wrong s k 2 → ⊥
  course_letter some (neither_letter t c) = c is
  course_letter some (course_first z c) = omega arith
  course_letter some (term_behind_course t h) = omega arith

  pub course_number : Tells (not (bears_next s (k * 16) (before s C k) 64)) (Wrong s k 3)
  course_number = tells_same (not (bears_next s (k * 16) (before s C k) 64)) (tells_number s (k * 16) (before s C k) 64) (⊎_elim (not_next_course is) (past_courses is)) back
    where
      back : Wrong s k 3 → (byte_of s k 1 ≡ before s C k → ⊥) ⊎ (64 ≤ byte_of s k 1)
      back (not_next_term t d) = absurd (omega arith)
      back (past_terms t h) = absurd (omega arith)
      back (not_next_course c d) = inl d
      back (past_courses c h) = inr h

  pub course_size : Tells (bad_weight (word_of s k 2)) (Wrong s k 4)
  course_size = tells_same (bad_weight (word_of s k 2)) (tells_weight (word_of s k 2)) (⊎_elim (weightless is) (too_heavy is)) back
    where
      back : Wrong s k 4 → (word_of s k 2 ≡ 0) ⊎ 1000 < word_of s k 2
      back (low_credits_outside t h) = absurd (omega arith)
      back (high_credits_outside t h) = absurd (omega arith)
      back (low_count_outside t h) = absurd (omega arith)
      back (high_count_outside t h) = absurd (omega arith)
      back (weightless c z) = inl z
      back (too_heavy c h) = inr h

  pub course_order : Wrong s k 5 → ⊥
  course_order (credits_crossed t h) = omega arith
  course_order (counts_crossed t h) = omega arith

  pub course_list : Tells (bad_list (word_of s k 4) (before s T k)) (Wrong s k 6)
  course_list =
      tells_same (bad_list (word_of s k 4) (before s T k)) (tells_list (word_of s k 4) (before s T k)) (⊎_elim (list_empty is) (λ r. term_lacking r.0 is r.1 r.2)) back
    where
      back : Wrong s k 6 → (word_of s k 4 ≡ 0) ⊎ ((j : ℕ) × (before s T k ≤ j) × (word_of s k 4 / 2 ^ j % 2 ≡ 1))
      back (list_empty c z) = inl z
      back (term_lacking j c h b) = inr (j, h, b)

  pub course_padding : Tells (not (blank_from s (k * 16) 6)) (Wrong s k 7)
  course_padding = tells_same (not (blank_from s (k * 16) 6)) (tells_blank s (k * 16) 6) (λ r. course_not_zero r.0 is r.1 r.2 r.3) back
    where
      back : Wrong s k 7 → (b : ℕ) × (6 ≤ b) × (b < 16) × (byte_of s k b ≡ 0 → ⊥)
      back (term_not_zero b t low high n) = absurd (omega arith)
      back (course_not_zero b c low high n) = (b, low, high, n)

-- ---- the numbers of the rows

pub wrong_number : (s : List ℕ) (k n : ℕ) → Wrong s k n → (2 ≤ n) × (n ≤ 7)
wrong_number s k n (neither_letter t c) = (omega arith, omega arith)
wrong_number s k n (course_first z c) = (omega arith, omega arith)
wrong_number s k n (term_behind_course t h) = (omega arith, omega arith)
wrong_number s k n (not_next_term t d) = (omega arith, omega arith)
wrong_number s k n (not_next_course c d) = (omega arith, omega arith)
wrong_number s k n (past_terms t h) = (omega arith, omega arith)
wrong_number s k n (past_courses c h) = (omega arith, omega arith)
wrong_number s k n (low_credits_outside t h) = (omega arith, omega arith)
wrong_number s k n (high_credits_outside t h) = (omega arith, omega arith)
wrong_number s k n (low_count_outside t h) = (omega arith, omega arith)
wrong_number s k n (high_count_outside t h) = (omega arith, omega arith)
wrong_number s k n (weightless c h) = (omega arith, omega arith)
wrong_number s k n (too_heavy c h) = (omega arith, omega arith)
wrong_number s k n (credits_crossed t h) = (omega arith, omega arith)
wrong_number s k n (counts_crossed t h) = (omega arith, omega arith)
wrong_number s k n (list_empty c z) = (omega arith, omega arith)
wrong_number s k n (term_lacking j c h b) = (omega arith, omega arith)
wrong_number s k n (term_not_zero b t low high d) = (omega arith, omega arith)
wrong_number s k n (course_not_zero b c low high d) = (omega arith, omega arith)
