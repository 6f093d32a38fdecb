-- The open courses of a term as the code gathers them.
use Rattle.std.specs.Prelude.{ℕ, ◌≤◌, ◌<◌, Bool, List, ◌≡◌, length, get_or, take}
use Rattle.theory.specs.Order.{keep}
use Rattle.year.specs.Year.{course_in, is_open}
use Rattle.neighbours.specs.Lightest.{upto}

abbrev pub at : List ℕ → ℕ → ℕ
at w i = get_or w i 0

-- course i is open in term j
abbrev pub open_in : List ℕ → List ℕ → ℕ → ℕ → Bool
open_in weight list j i = is_open (course_in weight list i) j

-- the open courses among the first n places of an order
abbrev pub opened : List ℕ → List ℕ → List ℕ → ℕ → ℕ → List ℕ
opened weight list order n j = keep (open_in weight list j) (take n order)

-- the first n places of an order hold courses, none of them twice
pub record Ordered (weight list order : List ℕ) (n : ℕ) : Type 0 where
  pub few : n ≤ 64
  pub long : n ≤ length order
  pub weighed : (r : ℕ) → r < n → at order r < length weight
  pub listed : (r : ℕ) → r < n → at order r < length list
  pub numbered : (r : ℕ) → r < n → at order r < 64
  pub light : (r : ℕ) → r < n → at weight (at order r) ≤ 1000
  pub apart : (r q : ℕ) → r < n → q < n → at order r ≡ at order q → r ≡ q

-- how many of a set there are, what the lightest weigh (in u), and the place of each (in p)
pub record Gathers (w : ℕ → ℕ) (set : List ℕ) (count : ℕ) (u p : List ℕ) : Type 0 where
  pub counted : count ≡ length set
  pub sums : (t : ℕ) → t ≤ length set → at u t ≡ upto w set t
  pub places : (k : ℕ) → k < length set → at p (at set k) ≡ k
  pub upto_long : length u ≡ 65
  pub place_long : length p ≡ 64
