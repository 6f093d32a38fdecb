-- Spares in an array of sixteen: set up, and against a list of other terms.
use Rattle.std.specs.Prelude.{ℕ, ◌-◌, Bool, ◌&&◌, List, eqb, get_or}
use Rattle.theory.specs.Sum.{pick}
use Rattle.theory.specs.Tab.{tab}
use Rattle.theory.specs.Bits.{has}
use Rattle.year.specs.declared.Term.{Term}
use Rattle.year.specs.declared.Sums.{Sums}
use Rattle.year.specs.Sums.{sums_in}
use Rattle.frame.specs.Bounds.{least_in}
use Rattle.walks.specs.declared.Tallies.{Tallies}

-- ---- set up

abbrev pub free_in : List Sums → ℕ → ℕ
free_in u k = (sums_in u k).free.0

abbrev pub placed_in : List Sums → ℕ → ℕ
placed_in u k = (sums_in u k).placed.0

abbrev pub tallies_of : List Sums → Tallies
tallies_of u = record { free = tab 16 (free_in u); placed = tab 16 (placed_in u) }

-- the open courses of a term less those that its low count still needs: from tallies and low counts, and from bounds and sums
abbrev pub spare_from : Tallies → List ℕ → ℕ → ℕ
spare_from t s k = get_or t.free k 0 - (get_or s k 0 - get_or t.placed k 0)

abbrev pub spare_in : List Term → List Sums → ℕ → ℕ
spare_in t u k = free_in u k - (least_in t k - placed_in u k)

-- ---- against a list

-- term k is on the list and has spare 0
abbrev pub stuck : List ℕ → ℕ → ℕ → Bool
stuck s l k = has l k && eqb (get_or s k 0) 0

-- what is left at k after one is taken where the list has k
abbrev pub charged_at : List ℕ → ℕ → ℕ → ℕ
charged_at s l k = get_or s k 0 - pick (has l k) 1
