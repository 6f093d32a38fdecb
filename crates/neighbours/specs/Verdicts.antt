-- Rule 12's verdicts out of the columns of a year, and as the code finds them.
use Rattle.std.specs.Prelude.{ℕ, ◌-◌, ◌≤◌, ◌<◌, Bool, true, false, not, ◌||◌, List, ◌≡◌, eqb, ltb, length}
use Rattle.std.specs.Prelude.{Option, Some, None, Result, Ok, Err}
use Rattle.theory.specs.Choice.{choose}
use Rattle.theory.specs.Order.{lighter, order, keep}
use Rattle.theory.specs.Neighbours.{fires}
use Rattle.year.specs.Year.{term_at}
use Rattle.year.specs.Sums.{fixed_credits}
use Rattle.year.specs.declared.Term.{Term}
use Rattle.year.specs.declared.Year.{Year}
use Rattle.rules.specs.declared.Rule.{Rule}
use Rattle.rules.specs.declared.Rule.TheVariants.{Neighbours}
use Rattle.rules.specs.declared.Verdict.{Verdict}
use Rattle.rules.specs.declared.Verdict.TheVariants.{Stays, Struck, Fixed}
use Rattle.neighbours.specs.Lightest.{left_out, fires_by}
use Rattle.neighbours.specs.Opened.{at, open_in, opened, Gathers}
use Rattle.neighbours.specs.declared.First.{First}
use Rattle.neighbours.specs.declared.Opened.{Opened}
use Rattle.neighbours.specs.declared.Says.{Says}
use Rattle.neighbours.specs.declared.Says.TheVariants.{Nothing, Courses}

-- ---- out of the columns

-- the courses from lightest to heaviest
abbrev pub rising_in : List ℕ → ℕ → List ℕ
rising_in weight n = order (lighter (at weight)) n

-- the open courses of term j, and the rest of them without course i
abbrev pub set_in : List ℕ → List ℕ → ℕ → ℕ → List ℕ
set_in weight list n j = opened weight list (rising_in weight n) n j

abbrev pub rest_in : List ℕ → List ℕ → ℕ → ℕ → ℕ → List ℕ
rest_in weight list n j i = keep (λ k. not (eqb k i)) (set_in weight list n j)

-- the verdict on course i of n, in term j, in the range a to b
abbrev pub verdict_in : List ℕ → List ℕ → ℕ → ℕ → ℕ → ℕ → ℕ → Verdict
verdict_in weight list n j a b i =
    let w = at weight i in
    choose (open_in weight list j i)
    (choose (ltb b w || fires (at weight) (rest_in weight list n j i) (a - w) (b - w)) Struck
    (choose (fires (at weight) (rest_in weight list n j i) a b) Fixed
    Stays))
    Stays

-- no plan in term t with p credits fixed
abbrev pub cannot_in : List ℕ → List ℕ → ℕ → ℕ → Term → ℕ → Bool
cannot_in weight list n j t p =
    ltb t.high.0 p || fires (at weight) (set_in weight list n j) (t.low.0 - p) (t.high.0 - p)

-- ---- as the code finds them

-- an open course at a place among n, from what the lightest weigh
abbrev pub verdict_by : List ℕ → ℕ → ℕ → ℕ → ℕ → ℕ → Verdict
verdict_by u n place w a b =
    choose (ltb b w || fires_by (left_out u place w) (n - 1) (a - w) (b - w)) Struck
    (choose (fires_by (left_out u place w) (n - 1) a b) Fixed
    Stays)

-- n courses in the columns
pub record Columns (weight list : List ℕ) (n : ℕ) : Type 0 where
  pub few : n ≤ 64
  pub weighed : n ≤ length weight
  pub listed : n ≤ length list
  pub light : (i : ℕ) → i < n → at weight i ≤ 1000

-- the open courses of term j are gathered
abbrev pub Gathered : Year → ℕ → Opened → Type 0
Gathered y j o = Gathers (at y.weight) (set_in y.weight y.list y.courses j) o.count o.upto o.place

-- no course from `start` on and before `end` has a verdict
abbrev pub NoneFrom : Year → ℕ → ℕ → ℕ → ℕ → ℕ → Type 0
NoneFrom y j a b start end = (k : ℕ) → start ≤ k → k < end → verdict_in y.weight y.list y.courses j a b k ≡ Stays

-- the first course from `start` on that has a verdict, and the verdict
pub record FirstAt (y : Year) (j a b start : ℕ) (f : First) : Type 0 where
  pub from : start ≤ f.course
  pub within : f.course < y.courses
  pub before : NoneFrom y j a b start f.course
  pub here : f.verdict ≡ verdict_in y.weight y.list y.courses j a b f.course
  pub speaks : f.verdict ≡ Stays → ⊥

-- that, or that there is none
abbrev pub IsFirst : Year → ℕ → ℕ → ℕ → ℕ → Option First → Type 0
IsFirst y j a b start None = NoneFrom y j a b start y.courses
IsFirst y j a b start (Some f) = FirstAt y j a b start f

-- what is said of the open courses of term j in the range a to b
abbrev pub RightIn : Year → ℕ → ℕ → ℕ → Result Says Rule → Type 0
RightIn y j a b (Ok Nothing) =
    (fires (at y.weight) (set_in y.weight y.list y.courses j) a b ≡ false)
    × ((i : ℕ) → i < y.courses → verdict_in y.weight y.list y.courses j a b i ≡ Stays)
RightIn y j a b (Ok Courses) = fires (at y.weight) (set_in y.weight y.list y.courses j) a b ≡ false
RightIn y j a b (Err r) = (fires (at y.weight) (set_in y.weight y.list y.courses j) a b ≡ true) × (r ≡ Neighbours)

-- what is said of term j, which is t with p credits fixed
abbrev pub Right : Year → ℕ → Term → ℕ → Result Says Rule → Type 0
Right y j t p (Ok Nothing) =
    (cannot_in y.weight y.list y.courses j t p ≡ false)
    × ((i : ℕ) → i < y.courses → verdict_in y.weight y.list y.courses j (t.low.0 - p) (t.high.0 - p) i ≡ Stays)
Right y j t p (Ok Courses) = cannot_in y.weight y.list y.courses j t p ≡ false
Right y j t p (Err r) = (cannot_in y.weight y.list y.courses j t p ≡ true) × (r ≡ Neighbours)

-- the same, as the year has it
abbrev pub SaysOf : Year → ℕ → Result Says Rule → Type 0
SaysOf y j r = Right y j (term_at y j) (fixed_credits y j) r
