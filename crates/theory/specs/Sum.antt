-- A number under a test, sums over the numbers below n, and what the members of a list weigh together.
use Rattle.std.specs.Prelude.{Bool, true, false, List, [], ◌∷◌, ℕ, zero, suc, ◌+◌}

-- x where the test passes, and 0 where it fails
abbrev pub pick : Bool → ℕ → ℕ
pick true x = x
pick false x = 0

unfoldable pub sum : ℕ → (ℕ → ℕ) → ℕ
sum zero f = 0
sum (suc n) f = sum n f + f n

-- w is the weight of each
abbrev pub weigh : (ℕ → ℕ) → List ℕ → ℕ
weigh w [] = 0
weigh w (g ∷ L) = w g + weigh w L
