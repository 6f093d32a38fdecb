-- What a year that was narrowed is, whether by a rule, by a filtering or by a narrowing.
use Rattle.std.specs.Prelude.{ℕ, true, ◌≡◌}
use Rattle.year.specs.Year.{course_at, lists}
use Rattle.year.specs.Bound.{bound, Keeps}
use Rattle.year.specs.Sound.{Sound}
use Rattle.year.specs.declared.Quantity.{Quantity}
use Rattle.year.specs.declared.Side.{Side}
use Rattle.year.specs.declared.Year.{Year}

-- a sound year z of the terms, courses and weights of y, with no bound looser and no list longer
pub record Narrower (y z : Year) : Type 0 where
  pub sound : Sound z
  pub terms_same : z.terms ≡ y.terms
  pub courses_same : z.courses ≡ y.courses
  pub weight_same : z.weight ≡ y.weight
  pub bounds : (s : Side) (q : Quantity) (k : ℕ) → Keeps s (bound s q y k) (bound s q z k)
  pub lists_less : (i k : ℕ) → lists (course_at z i) k ≡ true → lists (course_at y i) k ≡ true
