-- Rule 11: the facts suffice for both of its no plans.
use Prim.Native.Nat.{ℕ, ◌+◌, ◌-◌, ◌*◌, ◌/◌, ◌≤◌, ◌<◌}
use mathlib.Core.Bool.{Bool, true, false, not, true≢false}
use mathlib.Core.Path.{◌≡◌, refl, sym}
use native.Mathlib.Omega.{arith}
use lib.Dec.{eqb}
use borrow.Author.Tests.{eq-eqb, ltb-true}
use Rattle.theory.specs.Sum.{pick}
use Rattle.theory.proofs.SumLaws.{sum_add, sum_mono}
use Rattle.theory.specs.Tests.{any}
use Rattle.theory.proofs.TestLaws.{any_true, any_of}
use Rattle.theory.proofs.LoadLaws.{load}
use Rattle.theory.proofs.LargestLaws.{largest_above}
use Rattle.theory.proofs.Open.{Fix}
use Rattle.theory.proofs.PackingLaws.{rule_11, ceiling}
use Rattle.year.specs.Year.{course_at, weight, is_fixed, high_credits}
use Rattle.year.specs.Sums.{fixed_weight, fixed_credits, is_placed, placed_at}
use Rattle.year.specs.Plans.{Placing, credits_in}
use Rattle.year.specs.Sound.{Sound}
use Rattle.year.specs.declared.Quantity.TheVariants.{Credits}
use Rattle.year.specs.declared.Side.TheVariants.{High}
use Rattle.year.specs.declared.Year.{Year}
use Rattle.rules.specs.Step.{fails}
use Rattle.rules.specs.Packing.{burst, room, shares, rounded_up, bursts}
use Rattle.rules.specs.Facts.{Into, MeetsAll, Suffice, every, the_fixed, the_bound}
use Rattle.rules.specs.Reasons.{basis11}
use Rattle.rules.proofs.Reading.{fixed_at}
use Rattle.rules.proofs.FactLaws.{met_left, met_right, met_fixed, met_bound}

module _ (y : Year) (s : Sound y) (p : Placing) (into : Into y p) (m : MeetsAll y p basis11) where
  fixed : (k : ℕ) → k < y.terms → Fix y.courses (fixed_at y) p k
  fixed k l = met_fixed y p every k refl l (met_left y p (the_fixed every) (the_bound High Credits every) m)

  highs : (k : ℕ) → k < y.terms → credits_in y p k ≤ high_credits y k
  highs k l = met_bound y p every k refl High Credits l (met_right y p (the_fixed every) (the_bound High Credits every) m)

  -- the courses with several terms that p puts into k, beside what is fixed there
  several : (k : ℕ) → k < y.terms → load y.courses (λ i. pick (not (placed_at y i)) (weight y i)) p k + fixed_credits y k ≤ credits_in y p k
  unfolding load fixed_credits is_placed
  several k l =
      omega (
        arith,
        sum_add y.courses (λ i. pick (eqb (p i) k) (pick (not (placed_at y i)) (weight y i))) (fixed_weight y.weight y.list k),
        sum_mono y.courses (λ i. pick (eqb (p i) k) (pick (not (placed_at y i)) (weight y i)) + fixed_weight y.weight y.list k i) (λ i. pick (eqb (p i) k) (weight y i))
            (λ i h. point (is_fixed (course_at y i) k) (placed_at y i) (eqb (p i) k) (weight y i)
            (λ e. any_of 16 (is_fixed (course_at y i)) k (omega (arith, s)) e) (λ e. eq-eqb (p i) k (fixed k l i h e))),
      )
    where
      point : (f o e : Bool) (x : ℕ) → (f ≡ true → o ≡ true) → (f ≡ true → e ≡ true) → pick e (pick (not o) x) + pick f x ≤ pick e x
      point true true true x a b = omega arith
      point true true false x a b = absurd (true≢false (sym (b refl)))
      point true false e x a b = absurd (true≢false (sym (a refl)))
      point false true true x a b = omega arith
      point false true false x a b = omega arith
      point false false true x a b = omega arith
      point false false false x a b = omega arith

  shares_fit : (t : ℕ) → t + t ≤ room y → shares y (room y) t ≤ y.terms * room y
  unfolding shares
  shares_fit t half =
      rule_11 (room y) t half y.courses y.terms (weight y) p (λ k. room y - (high_credits y k - fixed_credits y k)) (λ i. not (placed_at y i)) into
      (λ k l. omega (arith, several k l, highs k l, largest_above y.terms (high_credits y) k l))

module _ (y : Year) (s : Sound y) where
  -- p exceeds high credits for some term
  pub burst_11 : any y.terms (burst y) ≡ true → Suffice y basis11 fails
  burst_11 e p into m =
      let r = any_true y.terms (burst y) e in
      omega (
        arith,
        ltb-true (high_credits y r.0) (fixed_credits y r.0) r.2,
        several y s p into m r.0 r.1,
        highs y s p into m r.0 r.1,
      )

  -- for some t the sum divided by c, rounded up, exceeds the number of terms
  pub sizes_11 : (room y ≡ 0 → ⊥) → any (room y / 2 + 1) (bursts y (room y)) ≡ true → Suffice y basis11 fails
  sizes_11 d e p into m =
      let r = any_true (room y / 2 + 1) (bursts y (room y)) e in
      let t : ℕ = r.0 in
      let over : y.terms < rounded_up (shares y (room y) t) (room y) = ltb-true y.terms (rounded_up (shares y (room y) t) (room y)) r.2 in
      let less : t < room y / 2 + 1 = r.1 in
      omega (arith, (ceiling (room y) y.terms (shares y (room y) t) (omega (arith, d))).0 over, shares_fit y s p into m t (omega arith))
