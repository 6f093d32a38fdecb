-- The terms of an array as bins.
use Rattle.std.specs.Prelude.{ℕ, Bool, List, ltb}
use Rattle.frame.specs.Bounds.{high_in}
use Rattle.year.specs.SumsOf.{fixed_in}
use Rattle.theory.specs.Largest.{largest}
use Rattle.year.specs.declared.Term.{Term}
use Rattle.year.specs.declared.Sums.{Sums}

-- what is fixed in term k exceeds its high credits
abbrev pub burst_in : List Term → List Sums → ℕ → Bool
burst_in t s k = ltb (high_in t k) (fixed_in s k)

-- the largest high credits of the first m terms
abbrev pub room_in : List Term → ℕ → ℕ
room_in t m = largest m (high_in t)
