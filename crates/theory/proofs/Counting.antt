-- What a placing puts into a term, from some facts alone: what is surely there, and what may be. Rules 1, 3, 4 and 10 rest on these.
use mathlib.Core.Path.{◌≡◌, refl, sym, ap, ◌∙◌}
use mathlib.Core.Bool.{Bool, true, false, not, ◌&&◌, true≢false}
use Prim.Native.Nat.{ℕ, zero, suc, ◌+◌, ◌≤◌, ◌<◌}
use native.Mathlib.Omega.{arith}
use native.Mathlib.Decide.{ℕ_discrete}
use lib.Dec.{eqb}
use borrow.Author.Tests.{eqb-true}
use Rattle.theory.specs.Sum.{pick, sum}
use Rattle.theory.proofs.SumLaws.{pick_eq, pick_ne, sum_cong, sum_mono, sum_add, sum_point}
use Rattle.theory.proofs.LoadLaws.{load}

module _ (n : ℕ) (p w : ℕ → ℕ) (j : ℕ) where
  -- what passes F is in j
  module _ (F : ℕ → Bool) (sure : (i : ℕ) → i < n → F i ≡ true → p i ≡ j) where
    in_point : (i : ℕ) → i < n → (b : Bool) → F i ≡ b → pick b (w i) ≤ pick (eqb (p i) j) (w i)
    in_point i l true e = omega (arith, pick_eq (p i) j (w i) (sure i l e))
    in_point i l false e = omega arith

    pub at_least : sum n (λ i. pick (F i) (w i)) ≤ load n w p j
    unfolding load
    at_least = sum_mono n (λ i. pick (F i) (w i)) (λ i. pick (eqb (p i) j) (w i)) (λ i l. in_point i l (F i) refl)

    -- and with it a course that does not pass F
    pub at_least_with : (a : ℕ) → a < n → F a ≡ false → p a ≡ j → sum n (λ i. pick (F i) (w i)) + w a ≤ load n w p j
    unfolding load
    at_least_with a l f e =
        omega (
          arith,
          sum_point n a (w a) l,
          sum_add n (λ i. pick (F i) (w i)) (λ i. pick (eqb a i) (w a)),
          sum_mono n (λ i. pick (F i) (w i) + pick (eqb a i) (w a)) (λ i. pick (eqb (p i) j) (w i)) (λ i k. go i k (ℕ_discrete a i)),
        )
      where
        go : (i : ℕ) → i < n → Dec (a ≡ i) → pick (F i) (w i) + pick (eqb a i) (w a) ≤ pick (eqb (p i) j) (w i)
        go i k (yes q) = omega (arith, pick_eq a i (w a) q, ap w q, ap (λ b. pick b (w i)) (ap F (sym q) ∙ f), pick_eq (p i) j (w i) (ap p (sym q) ∙ e))
        go i k (no d) = omega (arith, pick_ne a i (w a) d, in_point i k (F i) refl)

  -- what is in j passes G
  module _ (G : ℕ → Bool) (may : (i : ℕ) → i < n → p i ≡ j → G i ≡ true) where
    out_point : (i : ℕ) → i < n → (b : Bool) → eqb (p i) j ≡ b → pick b (w i) ≤ pick (G i) (w i)
    out_point i l true e = rw (may i l (eqb-true (p i) j e)) (omega arith)
    out_point i l false e = omega arith

    pub at_most : load n w p j ≤ sum n (λ i. pick (G i) (w i))
    unfolding load
    at_most = sum_mono n (λ i. pick (eqb (p i) j) (w i)) (λ i. pick (G i) (w i)) (λ i l. out_point i l (eqb (p i) j) refl)

    -- and without a course that passes G and is elsewhere
    pub at_most_without : (a : ℕ) → a < n → G a ≡ true → (p a ≡ j → ⊥) → load n w p j + w a ≤ sum n (λ i. pick (G i) (w i))
    unfolding load
    at_most_without a l g e =
        omega (
          arith,
          sum_point n a (w a) l,
          sum_add n (λ i. pick (eqb (p i) j) (w i)) (λ i. pick (eqb a i) (w a)),
          sum_mono n (λ i. pick (eqb (p i) j) (w i) + pick (eqb a i) (w a)) (λ i. pick (G i) (w i)) (λ i k. go i k (ℕ_discrete a i)),
        )
      where
        go : (i : ℕ) → i < n → Dec (a ≡ i) → pick (eqb (p i) j) (w i) + pick (eqb a i) (w a) ≤ pick (G i) (w i)
        go i k (yes q) = omega (arith, pick_eq a i (w a) q, ap w q, ap (λ b. pick b (w i)) (ap G (sym q) ∙ g), pick_ne (p i) j (w i) (λ r. e (ap p q ∙ r)))
        go i k (no d) = omega (arith, pick_ne a i (w a) d, out_point i k (eqb (p i) j) refl)

-- what passes G is what passes F and G, if F passes nothing else, and what passes G alone
pub sum_halves : (n : ℕ) (F G : ℕ → Bool) (w : ℕ → ℕ) → ((i : ℕ) → i < n → F i ≡ true → G i ≡ true)
    → sum n (λ i. pick (G i) (w i)) ≡ sum n (λ i. pick (F i) (w i)) + sum n (λ i. pick (G i && not (F i)) (w i))
sum_halves n F G w h =
    sum_cong n (λ i. pick (G i) (w i)) (λ i. pick (F i) (w i) + pick (G i && not (F i)) (w i)) (λ i l. point (F i) (G i) (w i) (h i l))
    ∙ sum_add n (λ i. pick (F i) (w i)) (λ i. pick (G i && not (F i)) (w i))
  where
    point : (f g : Bool) (x : ℕ) → (f ≡ true → g ≡ true) → pick g x ≡ pick f x + pick (g && not f) x
    point true true x q = omega arith
    point true false x q = absurd (true≢false (sym (q refl)))
    point false true x q = omega arith
    point false false x q = omega arith

pub sum_ones : (n : ℕ) → sum n (λ i. 1) ≡ n
unfolding sum
sum_ones zero = refl
sum_ones (suc n) = omega (arith, sum_ones n)
