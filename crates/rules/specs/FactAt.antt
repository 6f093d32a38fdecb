-- The facts of a step by place: at most one for a course and a term, one for a bound of a term. In a stretch the pairs come first, by
-- course and then term, then the bounds by term, in the order of a term record (request A7).
use Rattle.std.specs.Prelude.{ℕ, zero, suc, ◌&&◌, not, List, [], ◌∷◌, ◌++◌}
use Rattle.theory.specs.Choice.{choose}
use Rattle.year.specs.Year.{course_at, lists, is_fixed}
use Rattle.year.specs.Bound.{bound}
use Rattle.year.specs.declared.Quantity.{Quantity}
use Rattle.year.specs.declared.Quantity.TheVariants.{Credits, Counts}
use Rattle.year.specs.declared.Side.{Side}
use Rattle.year.specs.declared.Side.TheVariants.{Low, High}
use Rattle.year.specs.declared.Year.{Year}
use Rattle.rules.specs.Facts.{Fact, inside, outside, keeps, Basis, Rests}

-- ---- at a place

pub data Found : Type 0 where
  nothing : Found
  just : Fact → Found

abbrev pub pair_at : Year → Basis → ℕ → ℕ → Found
pair_at y b i k =
    choose (b.fixed k && is_fixed (course_at y i) k) (just (inside i k))
    (choose (b.unlisted k && not (lists (course_at y i) k)) (just (outside i k))
    nothing)

abbrev pub bound_at : Year → Basis → ℕ → Side → Quantity → Found
bound_at y b k s q = choose (b.bounds s q k) (just (keeps s q k (bound s q y k))) nothing

-- the place of a fact
abbrev pub found_at : Year → Basis → Fact → Found
found_at y b (inside i k) = pair_at y b i k
found_at y b (outside i k) = pair_at y b i k
found_at y b (keeps s q k n) = bound_at y b k s q

-- what is found, if anything, is a fact of the basis
abbrev pub Right : Year → Basis → Found → Type 0
Right y b nothing = Unit {0}
Right y b (just f) = Rests y b f

-- ---- in a stretch

abbrev pub listed : Found → List Fact
listed nothing = []
listed (just f) = f ∷ []

-- what stands at 0, 1 and so on below n
unfoldable pub in_order : ℕ → (ℕ → List Fact) → List Fact
in_order zero f = []
in_order (suc n) f = in_order n f ++ f n

abbrev pub pairs_of : Year → Basis → ℕ → List Fact
pairs_of y b i = in_order y.terms (λ k. listed (pair_at y b i k))

abbrev pub bounds_of : Year → Basis → ℕ → List Fact
bounds_of y b k =
    listed (bound_at y b k Low Credits)
    ++ listed (bound_at y b k High Credits)
    ++ listed (bound_at y b k Low Counts)
    ++ listed (bound_at y b k High Counts)

unfoldable pub stretch_of : Year → Basis → List Fact
stretch_of y b = in_order y.courses (pairs_of y b) ++ in_order y.terms (bounds_of y b)
