-- Rules 6 to 9: one walk over the open courses of a term, with the number of courses that each other term can still spare.
use Rattle.std.specs.Prelude.{ℕ, ◌+◌, ◌-◌, Bool, ◌&&◌, not, List, eqb, leb, ltb, get_or, take}
use Rattle.theory.specs.Sum.{pick}
use Rattle.theory.specs.Tests.{any}
use Rattle.theory.specs.Tab.{tab}
use Rattle.theory.specs.Order.{heavier, lighter, order, keep}
use Rattle.theory.specs.Walk.{Table, Reached, walk}
use Rattle.theory.specs.Choice.{choose}
use Rattle.year.specs.Year.{term_at, course_at, weight, lists, is_open, low_credits, low_count}
use Rattle.year.specs.Sums.{fixed_credits, fixed_count, open_count}
use Rattle.year.specs.declared.Course.{Course}
use Rattle.year.specs.declared.Quantity.TheVariants.{Credits, Counts}
use Rattle.year.specs.declared.Side.TheVariants.{Low, High}
use Rattle.year.specs.declared.Year.{Year}
use Rattle.rules.specs.Step.{Change, fails, move, applied, Step}
use Rattle.rules.specs.declared.Until.{Until}
use Rattle.rules.specs.declared.Until.TheVariants as until

-- ---- spares

-- open(k) - (low count of k - number fixed in k)
abbrev pub spare : Year → ℕ → ℕ
spare y k = open_count y k - (low_count y k - fixed_count y k)

unfoldable pub spares : Year → List ℕ
spares y = tab 16 (spare y)

-- k is another term than j, and the course lists it
abbrev pub other : ℕ → Course → ℕ → Bool
other j c k = lists c k && not (eqb k j)

-- some other term that lists the course has spare 0
abbrev pub blocks : ℕ → List ℕ → Course → ℕ → Bool
blocks j s c k = other j c k && eqb (get_or s k 0) 0

unfoldable pub blocked : ℕ → List ℕ → Course → Bool
blocked j s c = any 16 (blocks j s c)

-- one is taken from the spare of each other term that lists the course
abbrev pub less : ℕ → List ℕ → Course → ℕ → ℕ
less j s c k = get_or s k 0 - pick (other j c k) 1

unfoldable pub charged : ℕ → List ℕ → Course → List ℕ
charged j s c = tab 16 (less j s c)

abbrev pub table : Year → ℕ → Table (List ℕ)
table y j = record { blocked = λ s i. blocked j s (course_at y i); charge = λ s i. charged j s (course_at y i) }

-- ---- the walk

-- asked before each course, of the credits c and the count n so far and the course's weight x
abbrev pub stops : Until → ℕ → ℕ → ℕ → Bool
stops (until.Credits a) c n x = leb a.0 c
stops (until.Count a) c n x = leb a.0 n
stops (until.Past a) c n x = ltb a.0 (c + x)

-- the open courses of j in the order o
abbrev pub open_at : Year → ℕ → ℕ → Bool
open_at y j i = is_open (course_at y i) j

abbrev pub open_of : Year → ℕ → List ℕ → List ℕ
open_of y j o = keep (open_at y j) (take y.courses o)

-- spares set up afresh, credits starting at p and the count at the number fixed
unfoldable pub walk_of : Year → ℕ → Until → List ℕ → Reached
walk_of y j u o = walk (table y j) (weight y) (stops u) (open_of y j o) (spares y) (fixed_credits y j) (fixed_count y j)

-- from heaviest to lightest, and from lightest to heaviest; ties by lower number
unfoldable pub down : Year → List ℕ
down y = order (heavier (weight y)) y.courses

unfoldable pub up : Year → List ℕ
up y = order (lighter (weight y)) y.courses

-- ---- the four rules

-- least count: stop when credits reach low credits; raise low count to fixed plus counted. Not reaching low credits is no plan
unfoldable pub least_count : Year → ℕ → Change
least_count y j =
    let w = walk_of y j (until.Credits (term_at y j).low) (down y) in
    choose (ltb w.credits (low_credits y j)) fails (move Low Counts y j w.count)

-- most count: stop when the next course, skipped or not, would pass high credits; lower high count to fixed plus counted
unfoldable pub most_count : Year → ℕ → Change
most_count y j = move High Counts y j (walk_of y j (until.Past (term_at y j).high) (up y)).count

-- least load: until the count reaches low count; raise low credits to the credits so reached. Not reaching it is no plan
unfoldable pub least_load : Year → ℕ → Change
least_load y j =
    let w = walk_of y j (until.Count (term_at y j).least) (up y) in
    choose (ltb w.count (low_count y j)) fails (move Low Credits y j w.credits)

-- most load: until the count reaches high count or courses end; lower high credits to the credits so reached
unfoldable pub most_load : Year → ℕ → Change
most_load y j = move High Credits y j (walk_of y j (until.Count (term_at y j).most) (down y)).credits

abbrev pub rule6 : Year → ℕ → Step
rule6 y j = applied 6 y (least_count y j)

abbrev pub rule7 : Year → ℕ → Step
rule7 y j = applied 7 y (most_count y j)

abbrev pub rule8 : Year → ℕ → Step
rule8 y j = applied 8 y (least_load y j)

abbrev pub rule9 : Year → ℕ → Step
rule9 y j = applied 9 y (most_load y j)
