-- The choice between two values by a test.
use Rattle.std.specs.Prelude.{Bool, true, false}

-- the first where the test passes, the second where it fails
abbrev pub choose : {A : Type 0} → Bool → A → A → A
choose true a b = a
choose false a b = b
