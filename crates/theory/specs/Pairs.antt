-- Squares, how far two numbers are apart, and sums over pairs.
use Rattle.std.specs.Prelude.{ℕ, ◌+◌, ◌-◌, ◌*◌}
use Rattle.theory.specs.Sum.{sum}

abbrev pub square : ℕ → ℕ
square x = x * x

-- the larger less the smaller: one of the two differences is 0
abbrev pub distance : ℕ → ℕ → ℕ
distance a b = (a - b) + (b - a)

-- over all pairs of the numbers below n, each pair once: j below k
unfoldable pub over_pairs : ℕ → (ℕ → ℕ → ℕ) → ℕ
over_pairs n f = sum n (λ k. sum k (λ j. f j k))
