-- Laws of a term list as a number: one term alone, a term struck, and the terms that a list can name.
use Prim.Native.Nat.{ℕ, zero, suc, ◌-◌, ◌/◌, ◌%◌, ◌^◌, ◌≤◌, ◌<◌}
use mathlib.Core.Bool.{Bool, true, false, not, ◌&&◌, true≢false}
use mathlib.Core.Path.{◌≡◌, refl, sym, ap, ◌∙◌}
use native.Mathlib.Omega.{arith}
use native.Mathlib.Nat.{div-div-eq-div-mul, pow-suc, mul_comm, div-one}
use native.Mathlib.Decide.{ℕ_discrete, dec_lt}
use lib.Dec.{eqb, eqb-zero-suc, eqb-suc-zero, eqb-suc-suc}
use lib.Pow.{pow_pos}
use borrow.Author.Tests.{eqb-true, eqb-false, eq-eqb, ne_eqb}
use Rattle.theory.specs.Bits.{has}

-- the same bit, by halving: every law below is an induction on the place
bit : ℕ → ℕ → Bool
bit l zero = eqb (l % 2) 1
bit l (suc k) = bit (l / 2) k

has_bit : (l k : ℕ) → has l k ≡ bit l k
unfolding bit
has_bit l zero = ap (λ x. eqb (x % 2) 1) (div-one l)
has_bit l (suc k) = ap (λ x. eqb (x % 2) 1) (ap (λ x. l / x) (pow-suc 2 k ∙ mul_comm (2 ^ k) 2) ∙ sym (div-div-eq-div-mul l 2 (2 ^ k))) ∙ has_bit (l / 2) k

bit_zero : (k : ℕ) → bit 0 k ≡ false
unfolding bit
bit_zero zero = refl
bit_zero (suc k) = bit_zero k

bit_power : (j k : ℕ) → bit (2 ^ j) k ≡ eqb k j
unfolding bit
bit_power zero zero = refl
bit_power zero (suc k) = bit_zero k ∙ sym (eqb-suc-zero k)
bit_power (suc j) zero = let e : 2 ^ suc j % 2 ≡ 0 = omega arith in ap (λ x. eqb x 1) e ∙ sym (eqb-zero-suc j)
bit_power (suc j) (suc k) = let e : 2 ^ suc j / 2 ≡ 2 ^ j = omega arith in ap (λ x. bit x k) e ∙ bit_power j k ∙ sym (eqb-suc-suc k j)

bit_le : (l j : ℕ) → bit l j ≡ true → 2 ^ j ≤ l
unfolding bit
bit_le l zero e = omega (arith, eqb-true (l % 2) 1 e)
bit_le l (suc j) e = omega (arith, bit_le (l / 2) j e)

and_not : (a b : Bool) → b ≡ false → a ≡ a && not b
and_not true b h = ap not (sym h)
and_not false b h = refl

bit_struck : (l j k : ℕ) → bit l j ≡ true → bit (l - 2 ^ j) k ≡ bit l k && not (eqb k j)
unfolding bit
bit_struck l zero zero h =
    let o : l % 2 ≡ 1 = eqb-true (l % 2) 1 h in
    let e : (l - 1) % 2 ≡ 0 = omega arith in
    ap (λ x. eqb x 1) e ∙ ap (λ x. x && false) (sym h)
bit_struck l zero (suc k) h =
    let o : l % 2 ≡ 1 = eqb-true (l % 2) 1 h in
    let e : (l - 1) / 2 ≡ l / 2 = omega arith in
    ap (λ x. bit x k) e ∙ and_not (bit (l / 2) k) (eqb (suc k) 0) (eqb-suc-zero k)
bit_struck l (suc j) zero h =
    let g : 2 ^ suc j ≤ l = bit_le l (suc j) h in
    let e : (l - 2 ^ suc j) % 2 ≡ l % 2 = omega arith in
    ap (λ x. eqb x 1) e ∙ and_not (eqb (l % 2) 1) (eqb 0 (suc j)) (eqb-zero-suc j)
bit_struck l (suc j) (suc k) h =
    let g : 2 ^ suc j ≤ l = bit_le l (suc j) h in
    let e : (l - 2 ^ suc j) / 2 ≡ l / 2 - 2 ^ j = omega arith in
    ap (λ x. bit x k) e ∙ bit_struck (l / 2) j k h ∙ ap (λ x. bit (l / 2) k && not x) (sym (eqb-suc-suc k j))

bit_below : (m l k : ℕ) → l < 2 ^ m → bit l k ≡ true → k < m
unfolding bit
bit_below zero l k h e = let z : l ≡ 0 = omega arith in absurd (true≢false (sym e ∙ ap (λ x. bit x k) z ∙ bit_zero k))
bit_below (suc m) l zero h e = omega arith
bit_below (suc m) l (suc k) h e = omega (arith, bit_below m (l / 2) k (omega arith) e)

bit_some : (m l : ℕ) → 1 ≤ l → l < 2 ^ m → (k : ℕ) × (k < m) × (bit l k ≡ true)
unfolding bit
bit_some zero l a h = absurd (omega arith)
bit_some (suc m) l a h = go (eqb (l % 2) 1) refl (λ q. bit_some m (l / 2) q (omega arith))
  where
    go : (b : Bool) → eqb (l % 2) 1 ≡ b → (1 ≤ l / 2 → (k : ℕ) × (k < m) × (bit (l / 2) k ≡ true)) → (k : ℕ) × (k < suc m) × (bit l k ≡ true)
    go true e ih = (0, omega arith, e)
    go false e ih = let r = ih (omega (arith, eqb-false (l % 2) 1 e)) in (suc r.0, omega (arith, r.1), r.2)

below_power : (n : ℕ) → n < 2 ^ n
below_power zero = omega arith
below_power (suc n) = omega (arith, below_power n)

bit_above : (m l : ℕ) → 2 ^ m ≤ l → (k : ℕ) × (m ≤ k) × (bit l k ≡ true)
unfolding bit
bit_above zero l h = let r = bit_some l l (omega arith) (below_power l) in (r.0, omega arith, r.2)
bit_above (suc m) l h = let r = bit_above m (l / 2) (omega arith) in (suc r.0, omega (arith, r.1), r.2)

-- ---- the laws

-- the list of j alone names j and no other
pub has_power : (j k : ℕ) → has (2 ^ j) k ≡ eqb k j
has_power j k = has_bit (2 ^ j) k ∙ bit_power j k

-- a list that names j is at least the list of j alone
pub has_le : (l j : ℕ) → has l j ≡ true → 2 ^ j ≤ l
has_le l j e = bit_le l j (sym (has_bit l j) ∙ e)

-- j struck: every other term is named as before
pub has_struck : (l j k : ℕ) → has l j ≡ true → has (l - 2 ^ j) k ≡ has l k && not (eqb k j)
has_struck l j k e = has_bit (l - 2 ^ j) k ∙ bit_struck l j k (sym (has_bit l j) ∙ e) ∙ ap (λ x. x && not (eqb k j)) (sym (has_bit l k))

-- a list below 2 ^ m names terms below m only, and one of them where it is not 0
pub has_below : (m l k : ℕ) → l < 2 ^ m → has l k ≡ true → k < m
has_below m l k h e = bit_below m l k h (sym (has_bit l k) ∙ e)

pub has_some : (m l : ℕ) → 1 ≤ l → l < 2 ^ m → (k : ℕ) × (k < m) × (has l k ≡ true)
has_some m l a h = let r = bit_some m l a h in (r.0, r.1, has_bit l r.0 ∙ r.2)

-- a list from 2 ^ m on names some term from m on
pub has_above : (m l : ℕ) → 2 ^ m ≤ l → (k : ℕ) × (m ≤ k) × (has l k ≡ true)
has_above m l h = let r = bit_above m l h in (r.0, r.1, has_bit l r.0 ∙ r.2)

pub power_below : (j m : ℕ) → j < m → 2 ^ j < 2 ^ m
power_below j zero h = absurd (omega arith)
power_below j (suc m) h = go (ℕ_discrete j m) (λ q. power_below j m q)
  where
    go : Dec (j ≡ m) → (j < m → 2 ^ j < 2 ^ m) → 2 ^ j < 2 ^ suc m
    go (yes e) ih = rw e (omega (arith, pow_pos m))
    go (no d) ih = omega (arith, ih (omega arith))

-- a list that names j and no other is the list of j alone
pub has_only : (m l j : ℕ) → 1 ≤ l → l < 2 ^ m → ((k : ℕ) → has l k ≡ true → k ≡ j) → l ≡ 2 ^ j
has_only m l j a h only = go (dec_lt (2 ^ j) l)
  where
    named : has l j ≡ true
    named = let r = has_some m l a h in ap (has l) (sym (only r.0 r.2)) ∙ r.2

    go : Dec (2 ^ j < l) → l ≡ 2 ^ j
    go (yes q) =
        let r = has_some m (l - 2 ^ j) (omega arith) (omega arith) in
        let b = sym (has_struck l j r.0 named) ∙ r.2 in
        absurd (other (has l r.0) (eqb r.0 j) (only r.0) (λ e. eq-eqb r.0 j e) b)
      where
        other : {k : ℕ} (x y : Bool) → (x ≡ true → k ≡ j) → (k ≡ j → y ≡ true) → x && not y ≡ true → ⊥
        other true true f g e = true≢false (sym e)
        other true false f g e = true≢false (sym (g (f refl)))
        other false y f g e = true≢false (sym e)
    go (no d) = omega (arith, has_le l j named)

pub power_eqb : (j k : ℕ) → eqb (2 ^ j) (2 ^ k) ≡ eqb j k
power_eqb j k = go (ℕ_discrete j k)
  where
    go : Dec (j ≡ k) → eqb (2 ^ j) (2 ^ k) ≡ eqb j k
    go (yes e) = eq-eqb (2 ^ j) (2 ^ k) (ap (λ x. 2 ^ x) e) ∙ sym (eq-eqb j k e)
    go (no d) = ne_eqb (2 ^ j) (2 ^ k) (λ e. d (eqb-true j k (sym (has_power k j) ∙ ap (λ x. has x j) (sym e) ∙ has_power j j ∙ eq-eqb j j refl))) ∙ sym (ne_eqb j k d)
