-- Rule 11: sizes that have to be packed into terms of the largest high credits.
use Rattle.std.specs.Prelude.{ℕ, ◌+◌, ◌-◌, ◌/◌, Bool, not, eqb, ltb}
use Rattle.theory.specs.Choice.{choose}
use Rattle.theory.specs.Sum.{pick, sum}
use Rattle.theory.specs.Tests.{any}
use Rattle.theory.specs.Packing.{share}
use Rattle.year.specs.Year.{weight, high_credits}
use Rattle.year.specs.Sums.{fixed_credits, placed_at}
use Rattle.theory.specs.Largest.{largest}
use Rattle.year.specs.declared.Year.{Year}
use Rattle.rules.specs.Step.{live, dead, Step}

-- p exceeds high credits in term k
abbrev pub burst : Year → ℕ → Bool
burst y k = ltb (high_credits y k) (fixed_credits y k)

-- c: the largest high credits
abbrev pub room : Year → ℕ
room y = largest y.terms (high_credits y)

-- what a course with several terms, and what a term, counts for at t
abbrev pub course_share : Year → ℕ → ℕ → ℕ → ℕ
course_share y c t i = pick (not (placed_at y i)) (share c t (weight y i))

abbrev pub term_share : Year → ℕ → ℕ → ℕ → ℕ
term_share y c t k = share c t (c - (high_credits y k - fixed_credits y k))

unfoldable pub shares : Year → ℕ → ℕ → ℕ
shares y c t = sum y.courses (course_share y c t) + sum y.terms (term_share y c t)

-- a quotient rounded up
abbrev pub rounded_up : ℕ → ℕ → ℕ
rounded_up x c = (x + (c - 1)) / c

-- at t the sum divided by c, rounded up, exceeds the number of terms
abbrev pub bursts : Year → ℕ → ℕ → Bool
bursts y c t = ltb y.terms (rounded_up (shares y c t) c)

unfoldable pub rule11 : Year → Step
rule11 y =
    choose (any y.terms (burst y)) (dead 11 y)
    (choose (eqb (room y) 0) (live y)
    (choose (any (room y / 2 + 1) (bursts y (room y))) (dead 11 y)
    (live y)))
