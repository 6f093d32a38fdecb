-- Sizes in arrays: what they count for at t, the most that they count for at any t, and the answer of rule 11.
use Rattle.std.specs.Prelude.{ℕ, ◌+◌, ◌-◌, ◌/◌, Bool, true, false, not, List, eqb, ltb, length, get_or}
use Rattle.theory.specs.Choice.{choose}
use Rattle.theory.specs.Sum.{pick, sum}
use Rattle.theory.specs.Tests.{any}
use Rattle.theory.specs.Packing.{share}
use Rattle.year.specs.Sums.{is_placed}
use Rattle.year.specs.Year.{course_in}
use Rattle.frame.specs.Bounds.{high_in}
use Rattle.year.specs.SumsOf.{fixed_in}
use Rattle.year.specs.declared.Course.{Course}
use Rattle.year.specs.declared.Sums.{Sums}
use Rattle.year.specs.declared.Term.{Term}
use Rattle.year.specs.declared.Year.{Year}
use Rattle.rules.specs.Packing.{burst, room, bursts}

-- ---- sizes

abbrev pub size_of : Course → ℕ
size_of c = pick (not (is_placed c)) c.weight.0

-- of a course of two columns
abbrev pub size_in : List ℕ → List ℕ → ℕ → ℕ
size_in w l i = size_of (course_in w l i)

-- what of room c is not free in term k
abbrev pub used_in : List Term → List Sums → ℕ → ℕ → ℕ
used_in t s c k = c - (high_in t k - fixed_in s k)

-- the first n numbers, and 0 past them
abbrev pub first_of : ℕ → (ℕ → ℕ) → ℕ → ℕ
first_of n f k = pick (ltb k n) (f k)

-- ---- what they count for

abbrev pub size_at : List ℕ → ℕ → ℕ
size_at x i = get_or x i 0

abbrev pub share_at : List ℕ → ℕ → ℕ → ℕ → ℕ
share_at x c t i = share c t (get_or x i 0)

unfoldable pub share_sum : List ℕ → ℕ → ℕ → ℕ
share_sum x c t = sum (length x) (share_at x c t)

-- at t up to half of c: a size up to half of c counts at most itself, a larger one at most c
abbrev pub capped : ℕ → ℕ → ℕ
capped c x = choose (ltb (c / 2) x) c x

abbrev pub capped_at : List ℕ → ℕ → ℕ → ℕ
capped_at x c i = capped c (get_or x i 0)

unfoldable pub cap_sum : List ℕ → ℕ → ℕ
cap_sum x c = sum (length x) (capped_at x c)

-- at t, two arrays of sizes count for more than the limit
abbrev pub over : List ℕ → List ℕ → ℕ → ℕ → ℕ → Bool
over a b c limit t = ltb limit (share_sum a c t + share_sum b c t)

-- ---- the answer: rule 11 finds no plan

unfoldable pub unpackable : Year → Bool
unpackable y =
    choose (any y.terms (burst y)) true
    (choose (eqb (room y) 0) false
    (any (room y / 2 + 1) (bursts y (room y))))
