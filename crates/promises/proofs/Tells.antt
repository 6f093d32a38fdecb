-- Tests that tell whether a fact holds, and those that a record is held against: its number, the bytes that must be zero, its list.
use Prim.Native.Nat.{ℕ, ◌+◌, ◌-◌, ◌/◌, ◌%◌, ◌^◌, ◌≤◌, ◌<◌}
use mathlib.Core.Bool.{Bool, true, false, not, ◌&&◌, ◌||◌, true≢false}
use mathlib.Core.List.{List}
use mathlib.Core.Logic.{◌⊎◌, inl, inr, ⊎_elim}
use mathlib.Core.Path.{◌≡◌, refl, sym, ap, ◌∙◌}
use native.Mathlib.Nat.{div-eq_of_lt, div-lt_iff_lt-mul, one-mul}
use native.Mathlib.Omega.{arith}
use native.Mathlib.Decide.{ℕ_discrete, dec_lt}
use lib.Dec.{eqb, leb, ltb}
use lib.Pow.{pow_pos}
use borrow.Author.Tests.{ltb-true, ltb-false, leb-true, leb-false, eqb-true, eqb-false, eq-eqb, not-true, not-false}
use Rattle.theory.proofs.BitLaws.{has_above, has_below}
use Rattle.theory.proofs.TestLaws.{all_at, all_false}
use Rattle.records.specs.Bytes.{byte_at, blank_at, blank_from}
use Rattle.records.specs.Reading.{bears_next, bad_weight, bad_list}

-- ---- tests that tell

-- the test passes only where the fact holds, and fails only where it does not
abbrev pub Tells : Bool → Type 0 → Type 0
Tells b P = (b ≡ true → P) × (b ≡ false → P → ⊥)

pub tells_eq : (a b : ℕ) → Tells (eqb a b) (a ≡ b)
tells_eq a b = (eqb-true a b, eqb-false a b)

pub tells_lt : (a b : ℕ) → Tells (ltb a b) (a < b)
tells_lt a b = (ltb-true a b, λ e h. omega (arith, ltb-false a b e))

pub tells_le : (a b : ℕ) → Tells (leb a b) (a ≤ b)
tells_le a b = (leb-true a b, λ e h. omega (arith, leb-false a b e))

pub tells_not : {P : Type 0} (b : Bool) → Tells b P → Tells (not b) (P → ⊥)
tells_not b t = (λ e. t.1 (not-true b e), λ e n. n (t.0 (not-false b e)))

pub tells_and : {P Q : Type 0} (a b : Bool) → Tells a P → Tells b Q → Tells (a && b) (P × Q)
tells_and true b p q = (λ e. (p.0 refl, q.0 e), λ e r. q.1 e r.1)
tells_and false b p q = (λ e. absurd (true≢false (sym e)), λ e r. p.1 refl r.0)

pub tells_or : {P Q : Type 0} (a b : Bool) → Tells a P → Tells b Q → Tells (a || b) (P ⊎ Q)
tells_or true b p q = (λ e. inl (p.0 refl), λ e. absurd (true≢false e))
tells_or false b p q = (λ e. inr (q.0 e), λ e. ⊎_elim (p.1 refl) (q.1 e))

-- of two tests that are both to pass, the first fails or the second does
pub tells_nand : {P Q : Type 0} (a b : Bool) → Tells (not a) P → Tells (not b) Q → Tells (not (a && b)) (P ⊎ Q)
tells_nand true b p q = (λ e. inr (q.0 e), λ e. ⊎_elim (p.1 refl) (q.1 e))
tells_nand false b p q = (λ e. inl (p.0 refl), λ e. absurd (true≢false e))

-- the same of a fact that holds exactly where the other does
pub tells_same : {P Q : Type 0} (b : Bool) → Tells b P → (P → Q) → (Q → P) → Tells b Q
tells_same b t there back = (λ e. there (t.0 e), λ e q. t.1 e (back q))

-- ---- the tests of a record

-- what is told of the next number is told of the number that is the next
where_next : {P Q : Type 0} (b n : ℕ) → (b ≡ n → P → Q) → (b ≡ n → ⊥) ⊎ P → (b ≡ n → ⊥) ⊎ Q
where_next b n f (inl d) = inl d
where_next {P} {Q} b n f (inr p) = go (ℕ_discrete b n)
  where
    go : Dec (b ≡ n) → (b ≡ n → ⊥) ⊎ Q
    go (yes e) = inr (f e p)
    go (no d) = inl d

not_less : {a b : ℕ} → (a < b → ⊥) → Dec (a < b) → b ≤ a
not_less n (yes h) = absurd (n h)
not_less n (no h) = omega (arith, h)

-- the number is not the next, or is past the largest year
pub tells_number : (s : List ℕ) (at next most : ℕ) → Tells (not (bears_next s at next most)) ((byte_at s at 1 ≡ next → ⊥) ⊎ (most ≤ byte_at s at 1))
tells_number s at next most =
    let b = byte_at s at 1 in
    tells_same (not (bears_next s at next most))
    (tells_nand (eqb b next) (ltb next most)
    (tells_not (eqb b next) (tells_eq b next))
    (tells_same (not (ltb next most)) (tells_not (ltb next most) (tells_lt next most)) (λ n. not_less n (dec_lt next most)) (λ h l. omega arith)))
    (where_next b next (λ e h. omega arith))
    (where_next b next (λ e h. omega arith))

-- a byte from byte k on is not zero
pub tells_blank : (s : List ℕ) (at k : ℕ) → Tells (not (blank_from s at k)) ((b : ℕ) × (k ≤ b) × (b < 16) × (byte_at s at b ≡ 0 → ⊥))
tells_blank s at k = (there, back)
  where
    there : not (blank_from s at k) ≡ true → (b : ℕ) × (k ≤ b) × (b < 16) × (byte_at s at b ≡ 0 → ⊥)
    there e =
        let r = all_false (16 - k) (blank_at s at k) (not-true (blank_from s at k) e) in
        (k + r.0, omega arith, omega (arith, r.1), eqb-false _ _ r.2)

    back : not (blank_from s at k) ≡ false → ((b : ℕ) × (k ≤ b) × (b < 16) × (byte_at s at b ≡ 0 → ⊥)) → ⊥
    back e (b, low, high, n) =
        let is : k + (b - k) ≡ b = omega arith in
        let z = eqb-true (byte_at s at (k + (b - k))) 0 (all_at (16 - k) (blank_at s at k) (not-false (blank_from s at k) e) (b - k) (omega arith)) in
        n (ap (byte_at s at) (sym is) ∙ z)

-- a list names a term from m on
pub tells_lacking : (l m : ℕ) → Tells (not (eqb (l / 2 ^ m) 0)) ((j : ℕ) × (m ≤ j) × (l / 2 ^ j % 2 ≡ 1))
tells_lacking l m = tells_same (not (eqb (l / 2 ^ m) 0)) (tells_not (eqb (l / 2 ^ m) 0) (tells_eq (l / 2 ^ m) 0)) there back
  where
    enough : (l / 2 ^ m ≡ 0 → ⊥) → Dec (l < 2 ^ m) → 2 ^ m ≤ l
    enough n (yes h) = absurd (n (div-eq_of_lt h))
    enough n (no h) = omega (arith, h)

    there : (l / 2 ^ m ≡ 0 → ⊥) → (j : ℕ) × (m ≤ j) × (l / 2 ^ j % 2 ≡ 1)
    there n =
        let r = has_above m l (enough n (dec_lt l (2 ^ m))) in
        (r.0, r.1, eqb-true _ _ r.2)

    back : ((j : ℕ) × (m ≤ j) × (l / 2 ^ j % 2 ≡ 1)) → l / 2 ^ m ≡ 0 → ⊥
    back (j, h, b) z =
        let few : l / 2 ^ m < 1 = omega arith in
        let below : l < 2 ^ m = rw one-mul at ((div-lt_iff_lt-mul (pow_pos m)).0 few) in
        omega (arith, has_below m l j below (eq-eqb (l / 2 ^ j % 2) 1 b))

-- a weight outside the sizes; a list that is empty or names a term from m on
pub tells_weight : (w : ℕ) → Tells (bad_weight w) ((w ≡ 0) ⊎ 1000 < w)
tells_weight w =
    tells_or (ltb w 1) (ltb 1000 w) (tells_same (ltb w 1) (tells_lt w 1) (λ h. omega arith) (λ z. omega arith)) (tells_lt 1000 w)

pub tells_list : (l m : ℕ) → Tells (bad_list l m) ((l ≡ 0) ⊎ ((j : ℕ) × (m ≤ j) × (l / 2 ^ j % 2 ≡ 1)))
tells_list l m = tells_or (eqb l 0) (not (eqb (l / 2 ^ m) 0)) (tells_eq l 0) (tells_lacking l m)
