-- The test of soundness and the record of facts say the same.
use Prim.Native.Nat.{ℕ, ◌/◌, ◌^◌, ◌≤◌, ◌<◌}
use mathlib.Core.Bool.{true, ◌&&◌}
use mathlib.Core.Path.{◌≡◌, refl, sym, ap, ◌∙◌}
use native.Mathlib.Omega.{arith}
use native.Mathlib.Nat.{div-lt_iff_lt-mul, one-mul, div-eq_of_lt}
use native.Mathlib.Decide.{dec_lt}
use lib.ListN.{length}
use lib.Dec.{eqb, leb}
use lib.Pow.{pow_pos}
use borrow.Author.Tests.{lt-ltb, le-ltb, leb-true, eqb-true, le-leb, eq-eqb}
use Rattle.theory.specs.Tests.{all}
use Rattle.theory.proofs.TestLaws.{all_at, all_of, and_true, and_of}
use Rattle.year.specs.Year.{term_at, course_at, zero_term, zero_course, term_of, course_of}
use Rattle.theory.specs.Tab.{tab}
use Rattle.theory.proofs.TabLaws.{tab_get_or, tab_cong, get_or_tab, length_tab}
use Rattle.year.specs.Sums.{fixed_credits, open_credits, fixed_count, open_count, no_sums, sums_in, sums_at}
use Rattle.year.specs.Doors.{with_sums}
use Rattle.year.specs.Sound.{term_sound, course_sound, term_blank, course_blank, term_good, course_good, shaped, sound_but_sums, sums_same, sums_good, is_sound, TermSound, CourseSound, Sound}
use Rattle.year.specs.declared.Term.{Term}
use Rattle.year.specs.declared.Course.{Course}
use Rattle.year.specs.declared.Sums.{Sums}
use Rattle.year.specs.declared.Year.{Year}

-- ---- a term and a course are their numbers

pub term_is : (t : Term) (a b d e : ℕ) → t.low.0 ≡ a → t.high.0 ≡ b → t.least.0 ≡ d → t.most.0 ≡ e → t ≡ term_of a b d e
term_is t a b d e p q r s = λ i. record { low = record { 0 = p i }; high = record { 0 = q i }; least = record { 0 = r i }; most = record { 0 = s i } }

pub course_is : (c : Course) (w l : ℕ) → c.weight.0 ≡ w → c.list ≡ l → c ≡ course_of w l
course_is c w l p q = λ i. record { weight = record { 0 = p i }; list = q i }

-- ---- from the test to the facts

pub term_sound_of : (t : Term) → term_sound t ≡ true → TermSound t
term_sound_of t e =
    let p = and_true (leb t.low.0 t.high.0 && leb t.high.0 64000 && leb t.least.0 t.most.0) (leb t.most.0 64) e in
    let q = and_true (leb t.low.0 t.high.0 && leb t.high.0 64000) (leb t.least.0 t.most.0) p.0 in
    let r = and_true (leb t.low.0 t.high.0) (leb t.high.0 64000) q.0 in
    record { credits_ordered = leb-true _ _ r.0; credits_most = leb-true _ _ r.1; count_ordered = leb-true _ _ q.1; count_most = leb-true _ _ p.1 }

pub course_sound_of : (c : Course) (n : ℕ) → course_sound c n ≡ true → CourseSound c n
course_sound_of c n e =
    let p = and_true (leb 1 c.weight.0 && leb c.weight.0 1000 && leb 1 c.list) (eqb (c.list / 2 ^ n) 0) e in
    let q = and_true (leb 1 c.weight.0 && leb c.weight.0 1000) (leb 1 c.list) p.0 in
    let r = and_true (leb 1 c.weight.0) (leb c.weight.0 1000) q.0 in
    record { weight_least = leb-true _ _ r.0; weight_most = leb-true _ _ r.1; list_some = leb-true _ _ q.1; list_within = within p.1 }
  where
    within : eqb (c.list / 2 ^ n) 0 ≡ true → c.list < 2 ^ n
    within z =
        let h : c.list / 2 ^ n < 1 = omega (arith, eqb-true (c.list / 2 ^ n) 0 z) in
        rw one-mul at ((div-lt_iff_lt-mul (pow_pos n)).0 h)

term_blank_of : (t : Term) → term_blank t ≡ true → t ≡ zero_term
term_blank_of t e =
    let p = and_true (eqb t.low.0 0 && eqb t.high.0 0 && eqb t.least.0 0) (eqb t.most.0 0) e in
    let q = and_true (eqb t.low.0 0 && eqb t.high.0 0) (eqb t.least.0 0) p.0 in
    let r = and_true (eqb t.low.0 0) (eqb t.high.0 0) q.0 in
    term_is t 0 0 0 0 (eqb-true _ _ r.0) (eqb-true _ _ r.1) (eqb-true _ _ q.1) (eqb-true _ _ p.1)

course_blank_of : (c : Course) → course_blank c ≡ true → c ≡ zero_course
course_blank_of c e =
    let p = and_true (eqb c.weight.0 0) (eqb c.list 0) e in
    course_is c 0 0 (eqb-true _ _ p.0) (eqb-true _ _ p.1)

-- the same four sums are the same sums
sums_same_lem : (a b : Sums) → sums_same a b ≡ true → a ≡ b
sums_same_lem a b e =
    let p = and_true (eqb a.fixed.0 b.fixed.0 && eqb a.possible.0 b.possible.0 && eqb a.placed.0 b.placed.0) (eqb a.free.0 b.free.0) e in
    let q = and_true (eqb a.fixed.0 b.fixed.0 && eqb a.possible.0 b.possible.0) (eqb a.placed.0 b.placed.0) p.0 in
    let r = and_true (eqb a.fixed.0 b.fixed.0) (eqb a.possible.0 b.possible.0) q.0 in
    let f = eqb-true _ _ r.0 in
    let t = eqb-true _ _ r.1 in
    let c = eqb-true _ _ q.1 in
    let o = eqb-true _ _ p.1 in
    λ i. record { fixed = record { 0 = f i }; possible = record { 0 = t i }; placed = record { 0 = c i }; free = record { 0 = o i } }

sums_kept_of : (y : Year) → length y.sums ≡ 16 → all 16 (sums_good y) ≡ true → y.sums ≡ tab 16 (sums_at y)
sums_kept_of y long e =
    sym (tab_get_or y.sums no_sums 16 long)
    ∙ tab_cong 16 (sums_in y.sums) (sums_at y) (λ j l. sums_same_lem (sums_in y.sums j) (sums_at y j) (all_at 16 (sums_good y) e j l))

-- sound but for its sums, and these kept
sound_with : (y : Year) → sound_but_sums y ≡ true → y.sums ≡ tab 16 (sums_at y) → Sound y
unfolding sound_but_sums
sound_with y e kept =
    let p = and_true (leb 1 y.terms && leb y.terms 16 && leb y.courses 64 && shaped y && all 16 (term_good y)) (all 64 (course_good y)) e in
    let q = and_true (leb 1 y.terms && leb y.terms 16 && leb y.courses 64 && shaped y) (all 16 (term_good y)) p.0 in
    let r = and_true (leb 1 y.terms && leb y.terms 16 && leb y.courses 64) (shaped y) q.0 in
    let s = and_true (leb 1 y.terms && leb y.terms 16) (leb y.courses 64) r.0 in
    let t = and_true (leb 1 y.terms) (leb y.terms 16) s.0 in
    let u = and_true (eqb (length y.term) 16 && eqb (length y.weight) 64) (eqb (length y.list) 64) r.1 in
    let v = and_true (eqb (length y.term) 16) (eqb (length y.weight) 64) u.0 in
    let most : y.terms ≤ 16 = leb-true _ _ t.1 in
    let few : y.courses ≤ 64 = leb-true _ _ s.1 in
    record {
      terms_least = leb-true _ _ t.0;
      terms_most = most;
      courses_most = few;
      term_length = eqb-true _ _ v.0;
      weight_length = eqb-true _ _ v.1;
      list_length = eqb-true _ _ u.1;
      term_sound = λ j l. term_sound_of (term_at y j) (rw (lt-ltb _ _ l) at (all_at 16 (term_good y) q.1 j (omega arith)));
      course_sound = λ i l. course_sound_of (course_at y i) y.terms (rw (lt-ltb _ _ l) at (all_at 64 (course_good y) p.1 i (omega arith)));
      term_blank = λ j l m. term_blank_of (term_at y j) (rw (le-ltb _ _ l) at (all_at 16 (term_good y) q.1 j m));
      course_blank = λ i l m. course_blank_of (course_at y i) (rw (le-ltb _ _ l) at (all_at 64 (course_good y) p.1 i m));
      sums_kept = kept;
    }

pub sound_of : (y : Year) → is_sound y ≡ true → Sound y
unfolding is_sound
sound_of y e =
    let p = and_true (sound_but_sums y && eqb (length y.sums) 16) (all 16 (sums_good y)) e in
    let q = and_true (sound_but_sums y) (eqb (length y.sums) 16) p.0 in
    sound_with y q.0 (sums_kept_of y (eqb-true _ _ q.1) p.1)

-- ---- and back

term_sound_to : (t : Term) → TermSound t → term_sound t ≡ true
term_sound_to t h = simp (le-leb _ _ h.credits_ordered, le-leb _ _ h.credits_most, le-leb _ _ h.count_ordered, le-leb _ _ h.count_most)

course_sound_to : (c : Course) (n : ℕ) → CourseSound c n → course_sound c n ≡ true
course_sound_to c n h =
    simp (le-leb _ _ h.weight_least, le-leb _ _ h.weight_most, le-leb _ _ h.list_some, eq-eqb _ _ (div-eq_of_lt h.list_within))

sums_good_to : (y : Year) (j : ℕ) → j < 16 → y.sums ≡ tab 16 (sums_at y) → sums_good y j ≡ true
sums_good_to y j l e =
    let is : sums_in y.sums j ≡ sums_at y j = ap (λ s. sums_in s j) e ∙ get_or_tab 16 (sums_at y) no_sums j l in
    let at = sums_at y j in
    rw is (simp (eq-eqb at.fixed.0 at.fixed.0 refl, eq-eqb at.possible.0 at.possible.0 refl, eq-eqb at.placed.0 at.placed.0 refl, eq-eqb at.free.0 at.free.0 refl))

pub but_sums_to : (y : Year) → Sound y → sound_but_sums y ≡ true
unfolding sound_but_sums
but_sums_to y s =
    simp (le-leb _ _ s.terms_least, le-leb _ _ s.terms_most, le-leb _ _ s.courses_most, eq-eqb _ _ s.term_length, eq-eqb _ _ s.weight_length, eq-eqb _ _ s.list_length)
    (and_of (all 16 (term_good y)) (all 64 (course_good y))
    (all_of 16 (term_good y) (λ j l. term j l (dec_lt j y.terms)))
    (all_of 64 (course_good y) (λ i l. course i l (dec_lt i y.courses))))
  where
    term : (j : ℕ) → j < 16 → Dec (j < y.terms) → term_good y j ≡ true
    term j l (yes m) = simp (lt-ltb _ _ m) (term_sound_to (term_at y j) (s.term_sound j m))
    term j l (no n) =
        let m : y.terms ≤ j = omega (arith, n) in
        simp (le-ltb _ _ m, s.term_blank j m l)

    course : (i : ℕ) → i < 64 → Dec (i < y.courses) → course_good y i ≡ true
    course i l (yes m) = simp (lt-ltb _ _ m) (course_sound_to (course_at y i) y.terms (s.course_sound i m))
    course i l (no n) =
        let m : y.courses ≤ i = omega (arith, n) in
        let z = s.course_blank i m l in
        simp (le-ltb _ _ m, ap (λ (c : Course). c.weight.0) z, ap (λ (c : Course). c.list) z)

pub sound_to : (y : Year) → Sound y → is_sound y ≡ true
unfolding is_sound
sound_to y s =
    simp (but_sums_to y s, eq-eqb _ _ (ap length s.sums_kept ∙ length_tab 16 (sums_at y)))
    (all_of 16 (sums_good y) (λ j l. sums_good_to y j l s.sums_kept))

-- ---- the sums filled in

-- a year that is sound but for its sums is sound with them
pub summed_sound : (y : Year) → sound_but_sums y ≡ true → Sound (with_sums y)
unfolding sound_but_sums sums_at fixed_credits open_credits fixed_count open_count
summed_sound y e = sound_with (with_sums y) e refl

-- and a year that has them stays as it is
pub with_sums_same : (y : Year) → y.sums ≡ tab 16 (sums_at y) → with_sums y ≡ y
with_sums_same y e =
    let kept = sym e in
    λ i. record { terms = y.terms; courses = y.courses; term = y.term; weight = y.weight; list = y.list; sums = kept i }
