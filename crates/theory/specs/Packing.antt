-- Rule 11: what a size counts for at the threshold t.
use Rattle.std.specs.Prelude.{true, false, ℕ, ◌-◌, ltb}

unfoldable pub share : (c t x : ℕ) → ℕ
share c t x = elim (ltb (c - t) x) [ true ↦ c | false ↦ elim (ltb x t) [ true ↦ 0 | false ↦ x ] ]
