-- The loop's invariant: both columns are filled with the first i entries. Filled whole, they are those of all courses.
use Prim.Native.Nat.{ℕ, ◌≤◌, ◌-◌}
use mathlib.Core.List.{List}
use mathlib.Core.Path.{◌≡◌}
use lib.ListN.{get_or}
use Rattle.theory.proofs.TabLaws.{fill}
use Rattle.year.specs.Year.{zero_course}
use Rattle.year.specs.declared.Course.{Course}
use Rattle.year.proofs.by_hand.unsummed.Given as goal

-- entry i of a column of the courses
abbrev pub columnAt : (Course → ℕ) → List Course → ℕ → ℕ
columnAt f cs i = f (get_or cs i zero_course)

abbrev pub list_of : Course → ℕ
list_of c = c.list

abbrev pub weight_of : Course → ℕ
weight_of c = c.weight.0

abbrev pub invariant-loop-i : goal.invariant-loop-i
invariant-loop-i l = (l.i ≤ 64) × (l.weight ≡ fill (columnAt weight_of l.course) l.initial.weight l.i) × (l.list ≡ fill (columnAt list_of l.course) l.initial.list l.i)

abbrev pub decreases-loop-i : goal.decreases-loop-i
decreases-loop-i l = 64 - l.i
