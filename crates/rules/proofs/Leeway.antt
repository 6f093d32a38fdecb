-- How much there is left to narrow: what lies between the bounds, and the terms listed beyond one. At most 1,025,984 in a sound year.
use Prim.Native.Nat.{ℕ, ◌+◌, ◌-◌, ◌^◌, ◌≤◌, ◌<◌}
use mathlib.Core.Bool.{Bool, true, false, not, ◌&&◌}
use mathlib.Core.Path.{◌≡◌, refl, ap, ◌∙◌}
use native.Mathlib.Omega.{arith}
use native.Mathlib.Nat.{mul-le-mul_right}
use lib.Dec.{eqb}
use borrow.Author.Tests.{eq-eqb, ne_eqb}
use Rattle.theory.specs.Sum.{pick, sum}
use Rattle.theory.proofs.SumLaws.{pick_le, sum_change, sum_term_le, sum_le_mul, sum_single}
use Rattle.theory.specs.Bits.{has}
use Rattle.theory.proofs.BitLaws.{has_le, has_power, has_struck, has_some}
use Rattle.year.specs.Year.{term_at, course_at}
use Rattle.year.specs.Sound.{Sound}
use Rattle.year.specs.declared.Term.{Term}
use Rattle.year.specs.declared.Year.{Year}

abbrev pub slack : Term → ℕ
slack t = (t.high.0 - t.low.0) + (t.most.0 - t.least.0)

abbrev pub has_one : ℕ → ℕ → ℕ
has_one l k = pick (has l k) 1

-- how many terms a list names, and how many beyond one
unfoldable pub named : ℕ → ℕ
named l = sum 16 (has_one l)

abbrev pub choices : ℕ → ℕ
choices l = named l - 1

abbrev pub slack_at : Year → ℕ → ℕ
slack_at y k = slack (term_at y k)

abbrev pub choices_at : Year → ℕ → ℕ
choices_at y i = choices (course_at y i).list

unfoldable pub leeway : Year → ℕ
leeway y = sum y.terms (slack_at y) + sum y.courses (choices_at y)

pub named_most : (l : ℕ) → named l ≤ 16
unfolding named
named_most l = sum_le_mul 16 1 (has_one l) (λ k h. pick_le (has l k) 1)

pub leeway_most : (y : Year) → Sound y → leeway y ≤ 1025984
unfolding leeway
leeway_most y s =
    omega (
      arith,
      sum_le_mul y.terms 64064 (slack_at y) (λ k h. omega (arith, s.term_sound k h)),
      sum_le_mul y.courses 15 (choices_at y) (λ i h. omega (arith, named_most (course_at y i).list)),
      mul-le-mul_right 64064 s.terms_most,
      mul-le-mul_right 15 s.courses_most,
    )

-- ---- a term struck is one less, a term alone is one

pick_not : (b : Bool) → pick (b && true) 1 ≡ pick b 1
pick_not true = refl
pick_not false = refl

pub named_struck : (l j : ℕ) → j < 16 → has l j ≡ true → named (l - 2 ^ j) + 1 ≡ named l
unfolding named
named_struck l j h e =
    let gone : has l j && not (eqb j j) ≡ false = rw (eq-eqb j j refl, e) refl in
    let at_j : has_one (l - 2 ^ j) j ≡ 0 = ap (λ b. pick b 1) (has_struck l j j e ∙ gone) in
    let old : has_one l j ≡ 1 = ap (λ b. pick b 1) e in
    omega (
      arith,
      sum_change 16 j (has_one (l - 2 ^ j)) (has_one l) h (λ k m ne. ap (λ b. pick b 1) (has_struck l j k e) ∙ rw (ne_eqb k j ne) (pick_not (has l k))),
    )

pub named_power : (j : ℕ) → j < 16 → named (2 ^ j) ≡ 1
unfolding named
named_power j h =
    sum_single 16 j (has_one (2 ^ j)) h (λ k m ne. ap (λ b. pick b 1) (has_power j k ∙ ne_eqb k j ne))
    ∙ ap (λ b. pick b 1) (has_power j j ∙ eq-eqb j j refl)

pub named_some : (l : ℕ) → 1 ≤ l → l < 2 ^ 16 → 1 ≤ named l
unfolding named
named_some l a h =
    let r = has_some 16 l a h in
    let e : has_one l r.0 ≡ 1 = ap (λ b. pick b 1) r.2 in
    omega (arith, sum_term_le 16 r.0 (has_one l) r.1)

-- a list with j and some other term: both ways out make the choices fewer
pub choices_struck : (l j : ℕ) → j < 16 → l < 2 ^ 16 → has l j ≡ true → (l ≡ 2 ^ j → ⊥) → choices (l - 2 ^ j) + 1 ≤ choices l
choices_struck l j h m e ne =
    let le : 2 ^ j ≤ l = has_le l j e in
    let some : 1 ≤ named (l - 2 ^ j) = named_some (l - 2 ^ j) (omega (arith, ne)) (omega arith) in
    omega (arith, named_struck l j h e)

pub choices_placed : (l j : ℕ) → j < 16 → l < 2 ^ 16 → has l j ≡ true → (l ≡ 2 ^ j → ⊥) → choices (2 ^ j) + 1 ≤ choices l
choices_placed l j h m e ne =
    let le : 2 ^ j ≤ l = has_le l j e in
    let some : 1 ≤ named (l - 2 ^ j) = named_some (l - 2 ^ j) (omega (arith, ne)) (omega arith) in
    omega (arith, named_struck l j h e, named_power j h)
