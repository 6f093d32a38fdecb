-- The largest of a row of numbers: one number more, and that it is the least that none of them is above.
use Prim.Native.Nat.{ℕ, zero, suc, ◌+◌, max, ◌≤◌, ◌<◌}
use mathlib.Core.Path.{◌≡◌, ap}
use native.Mathlib.Decide.{ℕ_discrete}
use native.Mathlib.Numerals.{add-one}
use native.Mathlib.Omega.{arith}
use Rattle.theory.specs.Largest.{largest}

pub largest_more : (n : ℕ) (f : ℕ → ℕ) → largest (n + 1) f ≡ max (largest n f) (f n)
unfolding largest
largest_more n f = rw add-one

pub largest_above : (n : ℕ) (f : ℕ → ℕ) (k : ℕ) → k < n → f k ≤ largest n f
unfolding largest
largest_above zero f k l = absurd (omega arith)
largest_above (suc n) f k l = go (ℕ_discrete k n) (λ h. largest_above n f k h)
  where
    go : Dec (k ≡ n) → (k < n → f k ≤ largest n f) → f k ≤ largest (suc n) f
    go (yes e) ih = omega (arith, ap f e)
    go (no d) ih = omega (arith, ih (omega arith))

pub largest_most : (n m : ℕ) (f : ℕ → ℕ) → f 0 ≤ m → ((k : ℕ) → k < n → f k ≤ m) → largest n f ≤ m
unfolding largest
largest_most zero m f z h = z
largest_most (suc n) m f z h = omega (arith, largest_most n m f z (λ k l. h k (omega arith)), h n (omega arith))
