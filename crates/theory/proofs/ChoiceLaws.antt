-- What holds of a chosen value.
use mathlib.Core.Bool.{Bool, true, false}
use mathlib.Core.Path.{◌≡◌, refl}
use Rattle.theory.specs.Choice.{choose}

-- what holds of both holds of the one that is chosen
pub choose_any : {A : Type 0} (P : A → Type 0) (b : Bool) (x y : A) → P x → P y → P (choose b x y)
choose_any P true x y p q = p
choose_any P false x y p q = q

-- what holds of each under its test holds of the one that is chosen
pub choose_case : {A : Type 0} (P : A → Type 0) (b : Bool) (x y : A) → (b ≡ true → P x) → (b ≡ false → P y) → P (choose b x y)
choose_case P true x y p q = p refl
choose_case P false x y p q = q refl
