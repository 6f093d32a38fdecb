-- The walk of rules 6 to 9, over any order of courses and with any test to stop.
use Rattle.std.specs.Prelude.{Bool, true, false, List, [], ◌∷◌, ℕ, suc, ◌+◌}

-- what a walk ends with
pub record Reached : Type 0 where
  pub credits : ℕ
  pub count : ℕ

-- The state S holds the spares. `blocked s g`: some other term that lists g has spare 0.
-- `charge s g`: one less for each other term that lists g.
pub record Table (S : Type 0) : Type 0 where
  pub blocked : S → ℕ → Bool
  pub charge : S → ℕ → S

-- `stop c n x` is asked before each course, of the credits and the count so far and the course's weight
unfoldable pub walk : {S : Type 0} (T : Table S) (w : ℕ → ℕ) (stop : ℕ → ℕ → ℕ → Bool) → List ℕ → S → ℕ → ℕ → Reached
walk T w stop [] s c n = record { credits = c; count = n }
walk T w stop (g ∷ L) s c n =
    elim (stop c n (w g)) [
      | true ↦ record { credits = c; count = n }
      | false ↦ elim (T.blocked s g) [ true ↦ walk T w stop L s c n | false ↦ walk T w stop L (T.charge s g) (c + w g) (suc n) ]
    ]
