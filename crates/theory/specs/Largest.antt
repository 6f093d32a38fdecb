-- The largest of some numbers.
use Rattle.std.specs.Prelude.{ℕ, zero, suc, max}

-- of f 0, f 1, .. and f (n - 1), for n from 1 on
unfoldable pub largest : ℕ → (ℕ → ℕ) → ℕ
largest zero f = f 0
largest (suc n) f = max (largest n f) (f n)
