-- The weight of the heaviest course that is open in a term: over the first courses and over all.
use Rattle.std.specs.Prelude.{ℕ, zero, suc, max, List, get_or}
use Rattle.theory.specs.Sum.{pick}
use Rattle.year.specs.Year.{is_open}
use Rattle.year.specs.Sums.{open_weight}
use Rattle.year.specs.declared.Course.{Course}
use Rattle.year.specs.declared.Credits.{Credits}
use Rattle.year.specs.declared.Year.{Year}

-- the weights of an array, with one course more
abbrev pub heaviest_with : List Credits → Course → ℕ → Credits
heaviest_with heaviest c k = record { 0 = max (get_or heaviest k (record { 0 = 0 })).0 (pick (is_open c k) c.weight.0) }

-- over the first n courses of two columns
unfoldable pub heaviest_to : List ℕ → List ℕ → ℕ → ℕ → ℕ
heaviest_to w l zero j = 0
heaviest_to w l (suc n) j = max (heaviest_to w l n j) (open_weight w l j n)

abbrev pub heaviest_in : List ℕ → List ℕ → ℕ → ℕ → Credits
heaviest_in w l n j = record { 0 = heaviest_to w l n j }

abbrev pub heaviest_at : Year → ℕ → Credits
heaviest_at y j = heaviest_in y.weight y.list y.courses j
