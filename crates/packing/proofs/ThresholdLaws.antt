-- The thresholds that occur, over sizes in arrays: one after another in the order of the courses, with what is still to come.
use Prim.Native.Nat.{ℕ, zero, suc, ◌+◌, ◌/◌, ◌≤◌, ◌<◌}
use mathlib.Core.Bool.{Bool, true, false, not, ◌&&◌, ◌||◌, and-false, or-false, true≢false}
use mathlib.Core.List.{List}
use mathlib.Core.Path.{◌≡◌, refl, sym, ap, ap₂, ◌∙◌, subst, fun_ext}
use native.Mathlib.Decide.{dec_lt, ℕ_discrete}
use native.Mathlib.Omega.{arith}
use lib.Dec.{leb, ltb}
use lib.ListN.{length, get_or}
use borrow.Author.Tests.{lt-ltb, le-ltb, ltb-true, le-leb, lt-leb, leb-true}
use Rattle.theory.specs.Sum.{pick, sum}
use Rattle.theory.proofs.SumLaws.{sum_more, sum_cong, sum_behind, sum_front}
use Rattle.theory.specs.Tests.{any}
use Rattle.theory.proofs.TestLaws.{and_true, and_of, any_none, any_false, any_of, or_left, or_right}
use Rattle.theory.specs.Packing.{share}
use Rattle.theory.proofs.PackingLaws.{share_small, share_mid}
use Rattle.theory.proofs.ThresholdLaws.{thresholds_that_occur}
use Rattle.packing.specs.Sizes.{size_at, share_at, share_sum, over}
use Rattle.packing.specs.Thresholds.{Rising, from_at, from_sum, tried, course_exceeds, term_exceeds}
use Rattle.packing.proofs.SizeLaws.{share_pick, none_more}

-- ---- one threshold

module _ (a b : List ℕ) (c limit : ℕ) where
  -- what a sum was found to be, beside the terms'
  pub over_is : (t x : ℕ) (r v : Bool) → x ≡ share_sum a c t → r ≡ ltb limit (x + share_sum b c t) → r ≡ v → over a b c limit t ≡ v
  over_is t x r v e f g = ap (λ z. ltb limit (z + share_sum b c t)) (sym e) ∙ sym f ∙ g

  pub tried_over : (t : ℕ) → t ≤ c / 2 → over a b c limit t ≡ true → tried a b c limit t ≡ true
  tried_over t l e = and_of (leb t (c / 2)) (over a b c limit t) (le-leb t (c / 2) l) e

  pub tried_within : (t : ℕ) → over a b c limit t ≡ false → tried a b c limit t ≡ false
  tried_within t e = ap (λ o. leb t (c / 2) && o) e ∙ and-false (leb t (c / 2))

  pub not_tried : (t : ℕ) → c / 2 < t → tried a b c limit t ≡ false
  not_tried t l = ap (λ e. e && over a b c limit t) (lt-leb t (c / 2) l)

-- the test whether a size is to be tried
pub new_size : (last t h : ℕ) → ltb last t && leb t h ≡ true → (last < t) × (t ≤ h)
new_size last t h e =
    let a = and_true (ltb last t) (leb t h) e in
    (ltb-true last t a.0, leb-true t h a.1)

pub old_size : (last t h : ℕ) → ltb last t && leb t h ≡ false → last < t → t ≤ h → ⊥
old_size last t h e l m = true≢false (sym (and_of (ltb last t) (leb t h) (lt-ltb last t l) (le-leb t h m)) ∙ e)

-- ---- all thresholds that occur

module _ (a b : List ℕ) (c limit : ℕ) where
  -- a size of 0 counts nothing, so it may be left out
  over_open : (t : ℕ) → ltb limit (sum (length a) (λ i. pick (ltb 0 (get_or a i 0)) (share c t (get_or a i 0))) + sum (length b) (λ k. share c t (get_or b k 0))) ≡ over a b c limit t
  unfolding share_sum
  over_open t =
      ap (λ x. ltb limit (x + share_sum b c t))
      (sum_cong (length a) (λ i. pick (ltb 0 (get_or a i 0)) (share c t (get_or a i 0))) (share_at a c t)
      (λ i l. sym (share_pick c t (ltb 0 (get_or a i 0)) (get_or a i 0)) ∙ ap (share c t) (itself (get_or a i 0))))
    where
      itself : (x : ℕ) → pick (ltb 0 x) x ≡ x
      itself zero = refl
      itself (suc x) = ap (λ q. pick q (suc x)) (lt-ltb 0 (suc x) (omega arith))

  pub some_threshold : any (c / 2 + 1) (over a b c limit)
      ≡ any (length a) (course_exceeds a b c limit) || (any (length b) (term_exceeds a b c limit) || over a b c limit (c / 2))
  some_threshold =
      subst
      (λ (f : ℕ → Bool). any (c / 2 + 1) f
      ≡ any (length a) (λ i. ltb 0 (get_or a i 0) && (leb (get_or a i 0) (c / 2) && f (get_or a i 0)))
      || (any (length b) (λ k. leb (get_or b k 0) (c / 2) && f (get_or b k 0)) || f (c / 2)))
      (fun_ext over_open)
      (thresholds_that_occur c (length a) (length b) (λ i. get_or a i 0) (λ k. get_or b k 0) (λ i. ltb 0 (get_or a i 0)) limit (c / 2))

  -- half of c is enough, or a term's size; where neither is, the courses' sizes decide
  abbrev courses : Bool
  courses = any (length a) (course_exceeds a b c limit)

  abbrev terms : Bool
  terms = any (length b) (term_exceeds a b c limit)

  pub half_exceeds : over a b c limit (c / 2) ≡ true → any (c / 2 + 1) (over a b c limit) ≡ true
  half_exceeds h = some_threshold ∙ or_right courses (terms || over a b c limit (c / 2)) (or_right terms (over a b c limit (c / 2)) h)

  pub terms_exceed : terms ≡ true → any (c / 2 + 1) (over a b c limit) ≡ true
  terms_exceed t = some_threshold ∙ or_right courses (terms || over a b c limit (c / 2)) (or_left terms (over a b c limit (c / 2)) t)

  pub courses_decide : over a b c limit (c / 2) ≡ false → terms ≡ false → any (c / 2 + 1) (over a b c limit) ≡ courses
  courses_decide h t = some_threshold ∙ ap (λ x. courses || x) (ap₂ ◌||◌ t h) ∙ or-false courses

-- ---- what the sizes from t on count for

-- where no size is above c - t, each counts itself or nothing
pub from_counts : (x : List ℕ) (c t h : ℕ) → ((i : ℕ) → i < length x → get_or x i 0 ≤ h) → h + t ≤ c → from_sum x t ≡ share_sum x c t
unfolding from_sum share_sum
from_counts x c t h top l = sum_cong (length x) (from_at x t) (share_at x c t) (λ i q. each (get_or x i 0) (top i q) (dec_lt (get_or x i 0) t))
  where
    each : (s : ℕ) → s ≤ h → Dec (s < t) → pick (not (ltb s t)) s ≡ share c t s
    each s q (yes k) = ap (λ e. pick (not e) s) (lt-ltb s t k) ∙ sym (share_small c t s (omega arith) k)
    each s q (no k) = ap (λ e. pick (not e) s) (le-ltb s t (omega (arith, k))) ∙ sym (share_mid c t s (omega arith) (omega (arith, k)))

-- ---- in the order of the courses

module _ (a b o : List ℕ) (c limit : ℕ) where
  -- the size at a place of the order
  abbrev pub size_in : ℕ → ℕ
  size_in q = get_or a (get_or o q 0) 0

  -- the first r courses have gone by: `last` is the last size tried, and `rest` what is still to come
  pub record Passed (r last rest : ℕ) : Type 0 where
    pub few : r ≤ length a
    pub to_come : rest + sum r size_in ≡ sum (length a) size_in
    pub none : any r (λ q. course_exceeds a b c limit (get_or o q 0)) ≡ false
    pub below : (q : ℕ) → q < r → size_in q ≤ c / 2 → size_in q ≤ last
    pub above : (q : ℕ) → r ≤ q → q < length a → 0 < size_in q → last ≤ size_in q
    pub last_none : ltb 0 last && tried a b c limit last ≡ false

  module _ (u : Rising a o) where
    pub none_passed : (rest : ℕ) → rest ≡ sum (length a) (size_at a) → Passed 0 0 rest
    unfolding any sum
    none_passed rest e = record {
      few = omega arith;
      to_come = omega (arith, u.each (size_at a));
      none = refl;
      below = λ q l h. omega arith;
      above = λ q l h p. omega arith;
      last_none = refl;
    }

    -- a course whose size exceeds
    pub one_exceeds : (r : ℕ) → r < length a → 0 < size_in r → size_in r ≤ c / 2 → over a b c limit (size_in r) ≡ true → any (length a) (course_exceeds a b c limit) ≡ true
    one_exceeds r l new half e =
        any_of (length a) (course_exceeds a b c limit) (get_or o r 0) (u.within r l)
        (and_of (ltb 0 (size_in r)) (tried a b c limit (size_in r)) (lt-ltb 0 (size_in r) new) (tried_over a b c limit (size_in r) half e))

    pub all_passed : (last rest : ℕ) → Passed (length a) last rest → any (length a) (course_exceeds a b c limit) ≡ false
    all_passed last rest p = any_none (length a) (course_exceeds a b c limit) each
      where
        each : (i : ℕ) → i < length a → course_exceeds a b c limit i ≡ false
        each i l = go (course_exceeds a b c limit i) refl
          where
            go : (e : Bool) → course_exceeds a b c limit i ≡ e → e ≡ false
            go true is =
                absurd
                (u.onto i l
                (λ r m e. true≢false (sym is ∙ ap (course_exceeds a b c limit) (sym e) ∙ any_false (length a) (λ q. course_exceeds a b c limit (get_or o q 0)) p.none r m)))
            go false is = refl

    module _ (r last rest : ℕ) (p : Passed r last rest) (l : r < length a) where
      -- what is still to come has the course at hand in it
      pub enough : size_in r ≤ rest
      enough = omega (arith, p.to_come, sum_front (length a) (r + 1) size_in (omega arith), sum_more r size_in)

      -- a size that was not tried yet: what is still to come are the sizes from it on
      pub rest_from : last < size_in r → size_in r ≤ c / 2 → rest ≡ from_sum a (size_in r)
      unfolding from_sum
      rest_from new half =
          omega (
            arith,
            p.to_come,
            u.each (from_at a (size_in r)),
            sum_behind (length a) r size_in (λ q. from_at a (size_in r) (get_or o q 0)) p.few gone coming,
          )
        where
          gone : (q : ℕ) → q < r → from_at a (size_in r) (get_or o q 0) ≡ 0
          gone q h = ap (λ e. pick (not e) (size_in q)) (lt-ltb (size_in q) (size_in r) less)
            where
              less : size_in q < size_in r
              less = let e = u.rises q r (omega arith) l (omega arith) in omega (arith, p.below q h (omega arith))

          coming : (q : ℕ) → r ≤ q → q < length a → from_at a (size_in r) (get_or o q 0) ≡ size_in q
          coming q h m = go (ℕ_discrete (size_in q) 0)
            where
              go : Dec (size_in q ≡ 0) → pick (not (ltb (size_in q) (size_in r))) (size_in q) ≡ size_in q
              go (yes e) = ap (λ x. pick (not (ltb x (size_in r))) x) e ∙ ap (λ t. pick (not t) 0) (lt-ltb 0 (size_in r) (omega arith)) ∙ sym e
              go (no d) = ap (λ t. pick (not t) (size_in q)) (le-ltb (size_in q) (size_in r) (u.rises r q h m (omega (arith, d))))

      -- a size that was not tried yet does not exceed
      pub one_tried : last < size_in r → over a b c limit (size_in r) ≡ false → (rest' : ℕ) → rest' + size_in r ≡ rest → Passed (r + 1) (size_in r) rest'
      one_tried new e rest' is = record {
        few = omega arith;
        to_come = omega (arith, p.to_come, sum_more r size_in);
        none = none_more r (λ q. course_exceeds a b c limit (get_or o q 0)) p.none fails;
        below = λ q h half. go q (ℕ_discrete q r) h half;
        above = λ q h m. u.rises r q (omega arith) m;
        last_none = fails;
      }
        where
          fails : course_exceeds a b c limit (get_or o r 0) ≡ false
          fails = ap (λ t. ltb 0 (size_in r) && t) (tried_within a b c limit (size_in r) e) ∙ and-false (ltb 0 (size_in r))

          go : (q : ℕ) → Dec (q ≡ r) → q < r + 1 → size_in q ≤ c / 2 → size_in q ≤ size_in r
          go q (yes d) h half = omega (arith, ap size_in d)
          go q (no d) h half = omega (arith, p.below q (omega (arith, d)) half)

      -- a size that is 0, was tried, or is above half of c
      pub one_passed : (last < size_in r → size_in r ≤ c / 2 → ⊥) → (rest' : ℕ) → rest' + size_in r ≡ rest → Passed (r + 1) last rest'
      one_passed old rest' is = record {
        few = omega arith;
        to_come = omega (arith, p.to_come, sum_more r size_in);
        none = none_more r (λ q. course_exceeds a b c limit (get_or o q 0)) p.none (fails (dec_lt (c / 2) (size_in r)) (ℕ_discrete (size_in r) 0));
        below = λ q h half. go q (ℕ_discrete q r) h half;
        above = λ q h m. p.above q (omega arith) m;
        last_none = p.last_none;
      }
        where
          fails : Dec (c / 2 < size_in r) → Dec (size_in r ≡ 0) → course_exceeds a b c limit (get_or o r 0) ≡ false
          fails (yes k) q = ap (λ t. ltb 0 (size_in r) && t) (not_tried a b c limit (size_in r) k) ∙ and-false (ltb 0 (size_in r))
          fails (no k) (yes e) = ap (λ x. ltb 0 x && tried a b c limit x) e
          fails (no k) (no z) = ap (λ x. ltb 0 x && tried a b c limit x) (same (dec_lt last (size_in r))) ∙ p.last_none
            where
              same : Dec (last < size_in r) → size_in r ≡ last
              same (yes d) = absurd (old d (omega (arith, k)))
              same (no d) = omega (arith, d, p.above r (omega arith) l (omega (arith, z)))

          go : (q : ℕ) → Dec (q ≡ r) → q < r + 1 → size_in q ≤ c / 2 → size_in q ≤ last
          go q (yes d) h half = up_to (dec_lt last (size_in r))
            where
              up_to : Dec (last < size_in r) → size_in q ≤ last
              up_to (yes n) = absurd (old n (omega (arith, ap size_in d)))
              up_to (no n) = omega (arith, n, ap size_in d)
          go q (no d) h half = p.below q (omega (arith, d)) half
