-- The thresholds that occur, over sizes in arrays: what is tried, and what the order of the courses is good for.
use Rattle.std.specs.Prelude.{ℕ, ◌/◌, ◌≤◌, ◌<◌, Bool, not, ◌&&◌, List, ◌≡◌, leb, ltb, length, get_or}
use Rattle.theory.specs.Sum.{pick, sum}
use Rattle.packing.specs.Sizes.{over}

-- an order of the sizes that holds each once, and in which they rise, but for the zeros of courses that have one term
pub record Rising (x o : List ℕ) : Type 0 where
  pub long : length x ≤ length o
  pub within : (r : ℕ) → r < length x → get_or o r 0 < length x
  pub onto : (i : ℕ) → i < length x → ((r : ℕ) → r < length x → get_or o r 0 ≡ i → ⊥) → ⊥
  pub each : (f : ℕ → ℕ) → sum (length x) (λ r. f (get_or o r 0)) ≡ sum (length x) f
  pub rises : (r q : ℕ) → r ≤ q → q < length x → 0 < get_or x (get_or o q 0) 0 → get_or x (get_or o r 0) 0 ≤ get_or x (get_or o q 0) 0

-- sizes a of the courses, none above the heaviest, in a rising order o, and sizes b of the terms, in a room of c
pub record Fitting (a o b : List ℕ) (c heaviest : ℕ) : Type 0 where
  pub few_courses : length a ≤ 64
  pub few_terms : length b ≤ 64
  pub room : c ≤ 64000
  pub light : heaviest ≤ 1000
  pub top : (i : ℕ) → i < length a → get_or a i 0 ≤ heaviest
  pub rising : Rising a o

-- the sum of the sizes that are at least t
abbrev pub from_at : List ℕ → ℕ → ℕ → ℕ
from_at x t i = pick (not (ltb (get_or x i 0) t)) (get_or x i 0)

unfoldable pub from_sum : List ℕ → ℕ → ℕ
from_sum x t = sum (length x) (from_at x t)

-- ---- what is tried

-- a size that is at most half of c exceeds
abbrev pub tried : List ℕ → List ℕ → ℕ → ℕ → ℕ → Bool
tried a b c limit t = leb t (c / 2) && over a b c limit t

-- the size of course i, if it has several terms; the size of term k
abbrev pub course_exceeds : List ℕ → List ℕ → ℕ → ℕ → ℕ → Bool
course_exceeds a b c limit i = ltb 0 (get_or a i 0) && tried a b c limit (get_or a i 0)

abbrev pub term_exceeds : List ℕ → List ℕ → ℕ → ℕ → ℕ → Bool
term_exceeds a b c limit k = tried a b c limit (get_or b k 0)
