-- Rule 11: the thresholds that occur are enough. As t rises to the next size nothing is lost and only more sizes count c.
use mathlib.Core.Bool.{Bool, true, false, ◌&&◌, ◌||◌}
use mathlib.Core.Logic.{◌⊎◌, inl, inr}
use mathlib.Core.Path.{◌≡◌, refl, sym, ap, ◌∙◌}
use Prim.Native.Nat.{ℕ, zero, suc, ◌+◌, ◌-◌, ◌≤◌}
use native.Mathlib.Omega.{arith}
use lib.Dec.{eqb, leb, ltb}
use borrow.Author.Tests.{lt-ltb, le-leb, leb-true, ltb-true, eqb-true, eqb-false}
use Rattle.theory.specs.Sum.{pick, sum}
use Rattle.theory.specs.Tests.{any}
use Rattle.theory.specs.Packing.{share}
use Rattle.theory.proofs.SumLaws.{sum_mono}
use Rattle.theory.proofs.TestLaws.{and_true, and_of, or_true, or_false, or_left, or_right, same_tests, any_true, any_false, any_of}
use Rattle.theory.proofs.PackingLaws.{share_next}

-- n courses, of which those with `many` are open, of the sizes x; and m terms of the sizes y
module _ (c n m : ℕ) (x y : ℕ → ℕ) (many : ℕ → Bool) where
  -- what all sizes count for at t
  abbrev counted : ℕ → ℕ
  counted t = sum n (λ i. pick (many i) (share c t (x i))) + sum m (λ k. share c t (y k))

  abbrev is_size : ℕ → Bool
  is_size t = any n (λ i. many i && eqb (x i) t) || any m (λ k. eqb (y k) t)

  -- t is no size: the next t counts no less
  next_counts : (t : ℕ) → is_size t ≡ false → counted t ≤ counted (suc t)
  next_counts t e =
      let none = or_false (any n (λ i. many i && eqb (x i) t)) (any m (λ k. eqb (y k) t)) e in
      omega (
        arith,
        sum_mono n (λ i. pick (many i) (share c t (x i))) (λ i. pick (many i) (share c (suc t) (x i)))
            (λ i l. course (many i) (x i) (any_false n (λ i. many i && eqb (x i) t) none.0 i l)),
        sum_mono m (λ k. share c t (y k)) (λ k. share c (suc t) (y k))
            (λ k l. share_next c t (y k) (eqb-false (y k) t (any_false m (λ k. eqb (y k) t) none.1 k l))),
      )
    where
      course : (b : Bool) (w : ℕ) → b && eqb w t ≡ false → pick b (share c t w) ≤ pick b (share c (suc t) w)
      course true w e = share_next c t w (eqb-false w t e)
      course false w e = omega arith

  -- from any t, d below h, a size up to h or h itself counts no less
  next_size : (h d t : ℕ) → t + d ≡ h → (u : ℕ) × (u ≤ h) × ((u ≡ h) ⊎ (is_size u ≡ true)) × (counted t ≤ counted u)
  next_size h zero t e = (t, omega arith, inl (omega arith), omega arith)
  next_size h (suc d) t e = go (is_size t) refl (next_size h d (suc t) (omega arith))
    where
      go : (b : Bool) → is_size t ≡ b → (u : ℕ) × (u ≤ h) × ((u ≡ h) ⊎ (is_size u ≡ true)) × (counted (suc t) ≤ counted u)
          → (u : ℕ) × (u ≤ h) × ((u ≡ h) ⊎ (is_size u ≡ true)) × (counted t ≤ counted u)
      go true q r = (t, omega arith, inr q, omega arith)
      go false q r = (r.0, r.1, r.2, omega (arith, r.3, next_counts t q))

  module _ (limit h : ℕ) where
    abbrev over : ℕ → Bool
    over t = ltb limit (counted t)

    -- a size up to h exceeds
    abbrev tried : ℕ → Bool
    tried s = leb s h && over s

    abbrev tried_course : ℕ → Bool
    tried_course i = many i && tried (x i)

    abbrev tried_term : ℕ → Bool
    tried_term k = tried (y k)

    tried_of : (s u : ℕ) → s ≡ u → u ≤ h → over u ≡ true → tried s ≡ true
    tried_of s u e l o = and_of (leb s h) (over s) (le-leb s h (omega arith)) (ap over e ∙ o)

    over_of : (s : ℕ) → tried s ≡ true → any (h + 1) over ≡ true
    over_of s e =
        let a = and_true (leb s h) (over s) e in
        any_of (h + 1) over s (omega (arith, leb-true s h a.0)) a.1

    -- some t from 0 to h exceeds exactly if an open course's size up to h, or a term's, or h itself does
    pub thresholds_that_occur : any (h + 1) over ≡ any n tried_course || (any m tried_term || over h)
    thresholds_that_occur = same_tests (any (h + 1) over) (any n tried_course || (any m tried_term || over h)) onto from
      where
        at_size : (u : ℕ) → u ≤ h → over u ≡ true → (u ≡ h) ⊎ (is_size u ≡ true) → any n tried_course || (any m tried_term || over h) ≡ true
        at_size u l o (inl e) = or_right (any n tried_course) (any m tried_term || over h) (or_right (any m tried_term) (over h) (ap over (sym e) ∙ o))
        at_size u l o (inr e) = size (or_true (any n (λ i. many i && eqb (x i) u)) (any m (λ k. eqb (y k) u)) e)
          where
            size : (any n (λ i. many i && eqb (x i) u) ≡ true) ⊎ (any m (λ k. eqb (y k) u) ≡ true) → any n tried_course || (any m tried_term || over h) ≡ true
            size (inl a) =
                let r = any_true n (λ i. many i && eqb (x i) u) a in
                let b = and_true (many r.0) (eqb (x r.0) u) r.2 in
                or_left (any n tried_course) (any m tried_term || over h)
                (any_of n tried_course r.0 r.1 (and_of (many r.0) (tried (x r.0)) b.0 (tried_of (x r.0) u (eqb-true (x r.0) u b.1) l o)))
            size (inr a) =
                let r = any_true m (λ k. eqb (y k) u) a in
                or_right (any n tried_course) (any m tried_term || over h)
                (or_left (any m tried_term) (over h) (any_of m tried_term r.0 r.1 (tried_of (y r.0) u (eqb-true (y r.0) u r.2) l o)))

        onto : any (h + 1) over ≡ true → any n tried_course || (any m tried_term || over h) ≡ true
        onto e =
            let r = any_true (h + 1) over e in
            let s = next_size h (h - r.0) r.0 (omega (arith, r.1)) in
            at_size s.0 s.1 (lt-ltb limit (counted s.0) (omega (arith, s.3, ltb-true limit (counted r.0) r.2))) s.2

        from : any n tried_course || (any m tried_term || over h) ≡ true → any (h + 1) over ≡ true
        from e = go (or_true (any n tried_course) (any m tried_term || over h) e)
          where
            rest : (any m tried_term ≡ true) ⊎ (over h ≡ true) → any (h + 1) over ≡ true
            rest (inl a) = let r = any_true m tried_term a in over_of (y r.0) r.2
            rest (inr a) = any_of (h + 1) over h (omega arith) a

            go : (any n tried_course ≡ true) ⊎ (any m tried_term || over h ≡ true) → any (h + 1) over ≡ true
            go (inl a) =
                let r = any_true n tried_course a in
                over_of (x r.0) (and_true (many r.0) (tried (x r.0)) r.2).1
            go (inr a) = rest (or_true (any m tried_term) (over h) a)
