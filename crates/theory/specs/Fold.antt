-- Steps in a row at 0, 1, 2 and so on, up to one after which the row does not go on.
use Rattle.std.specs.Prelude.{ℕ, zero, suc, Bool}
use Rattle.theory.specs.Choice.{choose}

-- the steps at the numbers below n, from s on
unfoldable pub fold : {S : Type 0} → (S → Bool) → (S → ℕ → S) → S → ℕ → S
fold goes f s zero = s
fold goes f s (suc k) = choose (goes (fold goes f s k)) (f (fold goes f s k) k) (fold goes f s k)
