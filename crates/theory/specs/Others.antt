-- The sum over the other terms.
use Rattle.std.specs.Prelude.{not, ℕ, eqb}
use Rattle.theory.specs.Sum.{pick, sum}

-- the sum over the terms other than j
unfoldable pub others : ℕ → ℕ → (ℕ → ℕ) → ℕ
others m j f = sum m (λ k. pick (not (eqb k j)) (f k))
