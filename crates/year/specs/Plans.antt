-- What a placing and a plan are; the one placing where every course has one term; the plans of a small year by trying all placings.
use Rattle.std.specs.Prelude.{ℕ, zero, suc, ◌^◌, ◌<◌, Bool, true, ◌&&◌, List, [], ◌∷◌, ◌++◌, map, ◌≡◌, eqb, ltb, length, get_or}
use Rattle.theory.specs.Sum.{pick, sum}
use Rattle.theory.specs.Tests.{all}
use Rattle.theory.specs.Tab.{tab}
use Rattle.theory.specs.Order.{keep}
use Rattle.year.specs.Year.{term_at, course_at, list, lists, is_fixed}
use Rattle.year.specs.Bound.{bound, Keeps}
use Rattle.year.specs.Imbalance.{fits}
use Rattle.year.specs.declared.Course.{Course}
use Rattle.year.specs.declared.Quantity.{Quantity}
use Rattle.year.specs.declared.Quantity.TheVariants.{Credits, Counts}
use Rattle.year.specs.declared.Side.{Side}
use Rattle.year.specs.declared.Year.{Year}

-- a placing puts each course i of a year into the term p i
abbrev pub Placing : Type 0
Placing = ℕ → ℕ

-- what course i of the weights w adds to a quantity, and what the courses add that p puts into term k
abbrev pub amount : Quantity → List ℕ → ℕ → ℕ
amount Credits w i = get_or w i 0
amount Counts w i = 1

abbrev pub put_in : Quantity → Year → Placing → ℕ → ℕ
put_in q y p k = sum y.courses (λ i. pick (eqb (p i) k) (amount q y.weight i))

abbrev pub credits_in : Year → Placing → ℕ → ℕ
credits_in = put_in Credits

abbrev pub count_in : Year → Placing → ℕ → ℕ
count_in = put_in Counts

-- a plan: each course stands in a term of the year that its list has, and each term keeps its bounds
pub record Plan (y : Year) (p : Placing) : Type 0 where
  pub within : (i : ℕ) → i < y.courses → p i < y.terms
  pub listed : (i : ℕ) → i < y.courses → lists (course_at y i) (p i) ≡ true
  pub bounds : (s : Side) (q : Quantity) (k : ℕ) → k < y.terms → Keeps s (bound s q y k) (put_in q y p k)

-- ---- the one placing

-- each course of the year has one term, the one where p puts it
abbrev pub PlacedBy : Year → Placing → Type 0
PlacedBy y p = (i : ℕ) → i < y.courses → list y i ≡ 2 ^ p i

-- the term of a course that has one
unfoldable pub the_term : Course → ℕ
the_term c = sum 16 (λ k. pick (is_fixed c k) k)

abbrev pub the_placing : Year → Placing
the_placing y i = the_term (course_at y i)

-- ---- the plans of a small year, counted

-- the same as a test: course i stands in a term of the year that its list has, and term k is within its bounds
abbrev pub stands : Year → Placing → ℕ → Bool
stands y p i = ltb (p i) y.terms && lists (course_at y i) (p i)

abbrev pub fits_in : Year → Placing → ℕ → Bool
fits_in y p k = fits (term_at y k) (credits_in y p k) (count_in y p k)

unfoldable pub is_plan : Year → Placing → Bool
is_plan y p = all y.courses (stands y p) && all y.terms (fits_in y p)

-- a row is the terms of the courses, in order: the row of a placing, and the placing of a row
abbrev pub row_of : Year → Placing → List ℕ
row_of y p = tab y.courses p

abbrev pub placing_of : List ℕ → Placing
placing_of r i = get_or r i 0

-- each of some rows behind each term below t
unfoldable pub behind : ℕ → List (List ℕ) → List (List ℕ)
behind zero rs = []
behind (suc t) rs = behind t rs ++ map (λ r. t ∷ r) rs

-- all rows of n terms below t
unfoldable pub rows : ℕ → ℕ → List (List ℕ)
rows t zero = [] ∷ []
rows t (suc n) = behind t (rows t n)

-- the rows of the plans
unfoldable pub plans_of : Year → List (List ℕ)
plans_of y = keep (λ r. is_plan y (placing_of r)) (rows y.terms y.courses)

abbrev pub count_of_plans : Year → ℕ
count_of_plans y = length (plans_of y)

-- r stands at some place of rs
abbrev pub Among : List (List ℕ) → List ℕ → Type 0
Among rs r = (k : ℕ) × (k < length rs) × (get_or rs k [] ≡ r)

-- rs has the row of each plan, of plans alone, nothing but rows, and each of them once
pub record EachPlanOnce (y : Year) (rs : List (List ℕ)) : Type 0 where
  pub every : (p : Placing) → Plan y p → Among rs (row_of y p)
  pub only : (p : Placing) → Among rs (row_of y p) → Plan y p
  pub a_row : (k : ℕ) → k < length rs → row_of y (placing_of (get_or rs k [])) ≡ get_or rs k []
  pub once : (i k : ℕ) → i < length rs → k < length rs → get_or rs i [] ≡ get_or rs k [] → i ≡ k
