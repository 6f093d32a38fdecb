-- The heaviest open course of each term: a course more, and what it bounds.
use Prim.Native.Nat.{ℕ, zero, suc, ◌+◌, ◌-◌, ◌^◌, ◌≤◌, ◌<◌, max}
use mathlib.Core.Bool.{Bool, true, false, not, ◌&&◌, true≢false}
use mathlib.Core.List.{List}
use mathlib.Core.Path.{◌≡◌, refl, sym, ap, ◌∙◌}
use native.Mathlib.Numerals.{add-one}
use native.Mathlib.Decide.{ℕ_discrete}
use native.Mathlib.Omega.{arith}
use lib.Dec.{eqb, ltb}
use lib.ListN.{get_or}
use borrow.Author.Tests.{ltb-true, ltb-false, eq-eqb, ne_eqb}
use Rattle.theory.specs.Sum.{pick}
use Rattle.theory.proofs.SumLaws.{pick_le}
use Rattle.theory.proofs.TestLaws.{and_true, and_of}
use Rattle.theory.specs.Bits.{has}
use Rattle.theory.proofs.BitLaws.{has_le, has_some, has_struck, has_power}
use Rattle.theory.specs.Tab.{tab}
use Rattle.theory.proofs.TabLaws.{get_or_tab, tab_cong}
use Rattle.year.specs.Year.{course_in, course_at, weight, list, lists, is_fixed, is_open}
use Rattle.year.specs.Sums.{open_weight}
use Rattle.year.specs.Sound.{Sound}
use Rattle.year.specs.declared.Credits.{Credits}
use Rattle.year.specs.declared.Year.{Year}
use Rattle.rules.specs.Step.{Step}
use Rattle.rules.proofs.Narrows.{Narrows}
use Rattle.lists.specs.Heaviest.{heaviest_to, heaviest_in, heaviest_with}

pub larger_first : (b : Bool) (heaviest w : ℕ) → b && ltb heaviest w ≡ true → w ≡ max heaviest (pick b w)
larger_first true heaviest w e = omega (arith, ltb-true heaviest w e)
larger_first false heaviest w e = absurd (let z : ◌≡◌ {A = Bool} false true = e in let n : ◌≡◌ {A = ℕ} 0 1 = cc in omega arith)

pub larger_second : (b : Bool) (heaviest w : ℕ) → b && ltb heaviest w ≡ false → heaviest ≡ max heaviest (pick b w)
larger_second true heaviest w e = omega (arith, ltb-false heaviest w e)
larger_second false heaviest w e = omega arith

module _ (w l : List ℕ) where
  heaviest_more : (n j : ℕ) → heaviest_to w l (n + 1) j ≡ max (heaviest_to w l n j) (open_weight w l j n)
  unfolding heaviest_to
  heaviest_more n j = rw add-one

  pub heaviest_all_more : (n : ℕ) → tab 16 (heaviest_with (tab 16 (heaviest_in w l n)) (course_in w l n)) ≡ tab 16 (heaviest_in w l (n + 1))
  heaviest_all_more n =
      tab_cong 16 (heaviest_with (tab 16 (heaviest_in w l n)) (course_in w l n)) (heaviest_in w l (n + 1))
      (λ k h.
      let e = ap (λ (x : Credits). max x.0 (open_weight w l k n)) (get_or_tab 16 (heaviest_in w l n) (record { 0 = 0 }) k h) ∙ sym (heaviest_more n k) in
      λ i. record { 0 = e i })

  -- it bounds every open course
  pub heaviest_bounds : (n j i : ℕ) → i < n → open_weight w l j i ≤ heaviest_to w l n j
  unfolding heaviest_to
  heaviest_bounds zero j i h = absurd (omega arith)
  heaviest_bounds (suc n) j i h = go (ℕ_discrete i n) (λ q. heaviest_bounds n j i q)
    where
      go : Dec (i ≡ n) → (i < n → open_weight w l j i ≤ heaviest_to w l n j) → open_weight w l j i ≤ heaviest_to w l (suc n) j
      go (yes e) ih = rw e (omega arith)
      go (no d) ih = omega (arith, ih (omega arith))

pub heaviest_most : (y : Year) (n j : ℕ) → Sound y → n ≤ y.courses → heaviest_to y.weight y.list n j ≤ 1000
unfolding heaviest_to
heaviest_most y zero j s h = omega arith
heaviest_most y (suc n) j s h =
    omega (arith, heaviest_most y n j s (omega arith), pick_le (is_open (course_at y n) j) (weight y n), (s.course_sound n (omega arith)).weight_most)

-- a course that is open in a later year was open before it
module _ (y : Year) (t : Step) (w : Narrows y t) (i j : ℕ) (h : i < y.courses) where
  was_open : is_open (course_at t.year i) j ≡ true → is_open (course_at y i) j ≡ true
  was_open e =
      let l = list t.year i in
      let p = and_true (lists (course_at t.year i) j) (not (is_fixed (course_at t.year i) j)) e in
      let listed : has l j ≡ true = p.0 in
      let ne : l ≡ 2 ^ j → ⊥ = λ q. true≢false (sym p.1 ∙ ap not (eq-eqb l (2 ^ j) q)) in
      let le : 2 ^ j ≤ l = has_le l j listed in
      let inside : l < 2 ^ t.year.terms = (w.year.sound.course_sound i (omega (arith, w.year.courses_same))).list_within in
      let r = has_some t.year.terms (l - 2 ^ j) (omega (arith, ne)) (omega arith) in
      let other = and_true (has l r.0) (not (eqb r.0 j)) (sym (has_struck l j r.0 listed) ∙ r.2) in
      let not_alone : list y i ≡ 2 ^ j → ⊥ = λ q.
      let k : eqb r.0 j ≡ true = sym (has_power j r.0) ∙ ap (λ x. has x r.0) (sym q) ∙ w.year.lists_less i r.0 other.0 in
      true≢false (sym other.1 ∙ ap not k) in
      and_of (lists (course_at y i) j) (not (is_fixed (course_at y i) j)) (w.year.lists_less i j listed) (ap not (ne_eqb (list y i) (2 ^ j) not_alone))

  pub open_less : open_weight t.year.weight t.year.list j i ≤ open_weight y.weight y.list j i
  open_less = go (is_open (course_at t.year i) j) refl
    where
      go : (b : Bool) → is_open (course_at t.year i) j ≡ b → pick b (weight t.year i) ≤ open_weight y.weight y.list j i
      go true e = rw (was_open e) (omega (arith, ap (λ v. get_or v i 0) w.year.weight_same))
      go false e = omega arith
