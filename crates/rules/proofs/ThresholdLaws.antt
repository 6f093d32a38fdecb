-- Rule 11 at the sizes that occur is rule 11: from the law about plain numbers.
use Prim.Native.Nat.{ℕ, ◌+◌, ◌-◌, ◌*◌, ◌/◌, ◌<◌}
use mathlib.Core.Bool.{Bool, true, false, not, ◌&&◌, ◌||◌}
use mathlib.Core.Path.{◌≡◌, refl, sym, ap, subst, fun_ext}
use native.Mathlib.Omega.{arith}
use lib.Dec.{eqb, leb}
use borrow.Author.Tests.{eqb-false}
use Rattle.theory.specs.Choice.{choose}
use Rattle.theory.specs.Tests.{any}
use Rattle.theory.proofs.PackingLaws.{ceiling_test}
use Rattle.theory.proofs.ThresholdLaws.{thresholds_that_occur}
use Rattle.year.specs.Year.{weight, high_credits}
use Rattle.year.specs.Sums.{fixed_credits, placed_at}
use Rattle.year.specs.declared.Year.{Year}
use Rattle.rules.specs.Step.{live, dead}
use Rattle.rules.specs.Packing.{burst, room, shares, bursts, rule11}
use Rattle.rules.specs.Thresholds.{bursts_at_sizes, rule11_at_sizes}

module _ (y : Year) where
  -- some t from 0 to c/2 exceeds exactly if a size up to c/2, or c/2, does
  bursts_at_sizes_lem : (c : ℕ) → 0 < c → any (c / 2 + 1) (bursts y c) ≡ bursts_at_sizes y c
  unfolding shares
  bursts_at_sizes_lem c h =
      subst
      (λ (f : ℕ → Bool). any (c / 2 + 1) f
      ≡ any y.courses (λ i. not (placed_at y i) && (leb (weight y i) (c / 2) && f (weight y i)))
      || (any y.terms (λ k. leb (size k) (c / 2) && f (size k)) || f (c / 2)))
      (fun_ext (λ t. sym (ceiling_test c y.terms (shares y c t) h)))
      (thresholds_that_occur c y.courses y.terms (weight y) size (λ i. not (placed_at y i)) (y.terms * c) (c / 2))
    where
      size : ℕ → ℕ
      size k = c - (high_credits y k - fixed_credits y k)

  pub at_sizes_is : rule11_at_sizes y ≡ rule11 y
  unfolding rule11 rule11_at_sizes
  at_sizes_is = ap (choose (any y.terms (burst y)) (dead 11 y)) (go (eqb (room y) 0) refl)
    where
      go : (b : Bool) → eqb (room y) 0 ≡ b
          → choose b (live y) (choose (bursts_at_sizes y (room y)) (dead 11 y) (live y))
          ≡ choose b (live y) (choose (any (room y / 2 + 1) (bursts y (room y))) (dead 11 y) (live y))
      go true e = refl
      go false e = ap (λ t. choose t (dead 11 y) (live y)) (sym (bursts_at_sizes_lem (room y) (omega (arith, eqb-false (room y) 0 e))))
