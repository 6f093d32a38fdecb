-- Request A2: rule 11 tried only at the sizes that are at most c/2, and at c/2 rounded down. So it is traced by hand; that it
-- is rule 11 itself is promised.
use Rattle.std.specs.Prelude.{ℕ, ◌-◌, ◌/◌, Bool, not, ◌&&◌, ◌||◌, eqb, leb}
use Rattle.theory.specs.Choice.{choose}
use Rattle.theory.specs.Tests.{any}
use Rattle.year.specs.Year.{weight, high_credits}
use Rattle.year.specs.Sums.{fixed_credits, placed_at}
use Rattle.year.specs.declared.Year.{Year}
use Rattle.rules.specs.Step.{live, dead, Step}
use Rattle.rules.specs.Packing.{burst, room, bursts}

-- a size that is at most c/2, taken for t
abbrev pub tried : Year → ℕ → ℕ → Bool
tried y c size = leb size (c / 2) && bursts y c size

-- the size of a course with several terms, and that of a term
abbrev pub course_tried : Year → ℕ → ℕ → Bool
course_tried y c i = not (placed_at y i) && tried y c (weight y i)

abbrev pub term_tried : Year → ℕ → ℕ → Bool
term_tried y c k = tried y c (c - (high_credits y k - fixed_credits y k))

-- at some size, or at c/2
abbrev pub bursts_at_sizes : Year → ℕ → Bool
bursts_at_sizes y c = any y.courses (course_tried y c) || (any y.terms (term_tried y c) || bursts y c (c / 2))

unfoldable pub rule11_at_sizes : Year → Step
rule11_at_sizes y =
    choose (any y.terms (burst y)) (dead 11 y)
    (choose (eqb (room y) 0) (live y)
    (choose (bursts_at_sizes y (room y)) (dead 11 y)
    (live y)))
