-- What a placing puts into each term, and sums over the other terms: rules 2 and 5 rest on these.
use mathlib.Core.Path.{◌≡◌, refl, ap, ◌∙◌}
use mathlib.Core.Bool.{Bool, true, false, not}
use Prim.Native.Nat.{ℕ, ◌+◌, ◌-◌, ◌≤◌, ◌<◌}
use native.Mathlib.Omega.{arith}
use native.Mathlib.Numerals.{add-one}
use lib.Dec.{eqb}
use borrow.Author.Tests.{eqb-false}
use Rattle.theory.specs.Sum.{pick, sum}
use Rattle.theory.proofs.SumLaws.{pick_eq, sum_cong, sum_mono, sum_swap, sum_split, sum_point, sum_single, pick_ne}
use Rattle.theory.specs.Others.{others}

-- what the courses that p puts into j weigh; with the weight 1, how many they are
unfoldable pub load : ℕ → (ℕ → ℕ) → (ℕ → ℕ) → ℕ → ℕ
load n w p j = sum n (λ i. pick (eqb (p i) j) (w i))

-- one course more, as a loop adds it
pub load_in : (n : ℕ) (w p : ℕ → ℕ) (j : ℕ) → p n ≡ j → load (n + 1) w p j ≡ load n w p j + w n
unfolding load sum
load_in n w p j e = rw add-one (omega (arith, pick_eq (p n) j (w n) e))

pub load_out : (n : ℕ) (w p : ℕ → ℕ) (j : ℕ) → (p n ≡ j → ⊥) → load (n + 1) w p j ≡ load n w p j
unfolding load sum
load_out n w p j d = rw add-one (omega (arith, pick_ne (p n) j (w n) d))

pub others_split : (m j : ℕ) (f : ℕ → ℕ) → j < m → sum m f ≡ f j + others m j f
unfolding others
others_split m j f h =
    sum_split m (λ k. eqb k j) f
    ∙ ap (λ x. x + others m j f) (sum_single m j (λ k. pick (eqb k j) (f k)) h (λ k q d. pick_ne k j (f k) d) ∙ pick_eq j j (f j) refl)

pub others_mono : (m j : ℕ) (f g : ℕ → ℕ) → ((k : ℕ) → k < m → (k ≡ j → ⊥) → f k ≤ g k) → others m j f ≤ others m j g
unfolding others
others_mono m j f g h =
    sum_mono m (λ k. pick (not (eqb k j)) (f k)) (λ k. pick (not (eqb k j)) (g k)) (λ k q. at k q (eqb k j) refl)
  where
    at : (k : ℕ) → k < m → (b : Bool) → eqb k j ≡ b → pick (not b) (f k) ≤ pick (not b) (g k)
    at k q true e = omega arith
    at k q false e = h k q (eqb-false k j e)

module _ (n m : ℕ) (w p : ℕ → ℕ) (within : (i : ℕ) → i < n → p i < m) where
  pub loads_total : sum m (load n w p) ≡ sum n w
  unfolding load
  loads_total =
      sum_swap m n (λ j i. pick (eqb (p i) j) (w i))
      ∙ sum_cong n (λ i. sum m (λ j. pick (eqb (p i) j) (w i))) w (λ i h. sum_point m (p i) (w i) (within i h))

  -- rules 2 and 5: S less the others' high bounds, and S less the others' low bounds
  pub rule_2_low : (j : ℕ) (high : ℕ → ℕ) → j < m → ((k : ℕ) → k < m → (k ≡ j → ⊥) → load n w p k ≤ high k) → sum n w - others m j high ≤ load n w p j
  rule_2_low j high h b = omega (arith, loads_total, others_split m j (load n w p) h, others_mono m j (load n w p) high b)

  pub rule_2_high : (j : ℕ) (low : ℕ → ℕ) → j < m → ((k : ℕ) → k < m → (k ≡ j → ⊥) → low k ≤ load n w p k) → others m j low + load n w p j ≤ sum n w
  rule_2_high j low h b = omega (arith, loads_total, others_split m j (load n w p) h, others_mono m j low (load n w p) b)
