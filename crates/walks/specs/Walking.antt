-- The walk of rules 6 to 9, course by course over two columns, and what each rule makes of it.
use Rattle.std.specs.Prelude.{ℕ, ◌+◌, Bool, false, List, ltb, get_or, take}
use Rattle.theory.specs.Choice.{choose}
use Rattle.theory.specs.Order.{keep}
use Rattle.theory.specs.Walk.{Table, Reached, walk}
use Rattle.year.specs.Year.{course_in, is_open, term_at}
use Rattle.frame.specs.Bounds.{Outcome, outcome}
use Rattle.year.specs.Within.{within}
use Rattle.year.specs.declared.Quantity.TheVariants.{Credits, Counts}
use Rattle.year.specs.declared.Term.{Term}
use Rattle.year.specs.declared.Course.{Course}
use Rattle.year.specs.declared.Sums.{Sums}
use Rattle.year.specs.declared.Year.{Year}
use Rattle.year.specs.Sums.{sums_in}
use Rattle.rules.specs.Step.{Step}
use Rattle.rules.specs.Spares.{blocked, charged, stops, spares, down, up, rule6, rule7, rule8, rule9}
use Rattle.rules.specs.declared.Until.{Until}
use Rattle.rules.specs.declared.Until.TheVariants as until
use Rattle.walks.specs.declared.Walk.{Walk}
use Rattle.walks.specs.declared.WalkRule.{WalkRule}
use Rattle.walks.specs.declared.WalkRule.TheVariants.{LeastCount, MostCount, LeastLoad, MostLoad}

-- ---- one course

abbrev pub walk_as : List ℕ → ℕ → ℕ → Walk
walk_as s c n = record { spare = s; credits = record { 0 = c }; count = record { 0 = n } }

-- an open course that the walk does not stop at: skipped, or taken
unfoldable pub taken : Walk → Course → ℕ → Walk
taken w c j = choose (blocked j w.spare c) w (walk_as (charged j w.spare c) (w.credits.0 + c.weight.0) (w.count.0 + 1))

-- ---- the courses of two columns, the weights w and the lists l

abbrev pub open_in : List ℕ → List ℕ → ℕ → ℕ → Bool
open_in w l j i = is_open (course_in w l i) j

abbrev pub table_in : List ℕ → List ℕ → ℕ → Table (List ℕ)
table_in w l j = record { blocked = λ s i. blocked j s (course_in w l i); charge = λ s i. charged j s (course_in w l i) }

-- the walk a over the open courses of an order
abbrev pub walk_over : List ℕ → List ℕ → ℕ → Until → List ℕ → Walk → Reached
walk_over w l j u o a =
    walk (table_in w l j) (λ i. get_or w i 0) (stops u) (keep (open_in w l j) o) a.spare a.credits.0 a.count.0

abbrev pub reached : Walk → Reached
reached w = record { credits = w.credits.0; count = w.count.0 }

-- ---- rule by rule

abbrev pub begun_of : List ℕ → Sums → Walk
begun_of s u = walk_as s u.fixed.0 u.placed.0

abbrev pub until_of : WalkRule → Term → Until
until_of LeastCount t = until.Credits t.low
until_of MostCount t = until.Past t.high
until_of LeastLoad t = until.Count t.least
until_of MostLoad t = until.Count t.most

abbrev pub ended_of : WalkRule → Term → Reached → Outcome
ended_of LeastCount t w = outcome 6 (ltb w.credits t.low.0) t (within Counts t w.count t.most.0)
ended_of MostCount t w = outcome 7 false t (within Counts t t.least.0 w.count)
ended_of LeastLoad t w = outcome 8 (ltb w.count t.least.0) t (within Credits t w.credits t.high.0)
ended_of MostLoad t w = outcome 9 false t (within Credits t t.low.0 w.credits)

-- ---- the paper's rules, and the orders that they walk in

abbrev pub rule_of : WalkRule → Year → ℕ → Step
rule_of LeastCount = rule6
rule_of MostCount = rule7
rule_of LeastLoad = rule8
rule_of MostLoad = rule9

abbrev pub order_of : WalkRule → Year → List ℕ
order_of LeastCount y = down y
order_of MostCount y = up y
order_of LeastLoad y = up y
order_of MostLoad y = down y

-- at term j of a year: the walk over the rule's order, with spares set up afresh
abbrev pub walked_at : WalkRule → Year → ℕ → Outcome
walked_at r y j =
    let t = term_at y j in
    ended_of r t (walk_over y.weight y.list j (until_of r t) (take y.courses (order_of r y)) (begun_of (spares y) (sums_in y.sums j)))
