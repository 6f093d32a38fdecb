-- The six narrowings. Each refuses in the order 8, 10, 11, 12, and a refused one hands back the year it was given.
use Rattle.std.specs.Prelude.{ℕ, ◌^◌, Bool, false, ◌||◌, eqb, leb, ltb, Result, Ok, Err}
use Rattle.theory.specs.Choice.{choose}
use Rattle.year.specs.Year.{term_at, course_at, list, lists}
use Rattle.year.specs.Bound.{Tight, largest_bound, tightened}
use Rattle.year.specs.Doors.{with_term, placed, struck}
use Rattle.year.specs.Sound.{is_sound}
use Rattle.year.specs.declared.Quantity.{Quantity}
use Rattle.year.specs.declared.Quantity.TheVariants.{Credits, Counts}
use Rattle.year.specs.declared.Side.{Side}
use Rattle.year.specs.declared.Side.TheVariants.{Low, High}
use Rattle.year.specs.declared.Year.{Year}
use Rattle.year.specs.declared.NarrowingRefusal.{NarrowingRefusal}
use Rattle.year.specs.declared.NarrowingRefusal.TheVariants.{Unsound, Missing, Outside, Crossing}
use Rattle.year.specs.declared.Narrowed.{Narrowed}

-- an answer beside the year: done, or a refusal
abbrev pub answered : Result (Unit {0}) NarrowingRefusal → Year → Narrowed
answered a y = record { answer = a; year = y }

-- refusals 8, 10 and 11, in this order, and then what the narrowing does
abbrev pub checked : Year → Bool → Bool → Narrowed → Narrowed
checked y missing outside done =
    choose (is_sound y)
    (choose missing (answered (Err Missing) y) (choose outside (answered (Err Outside) y) done))
    (answered (Err Unsound) y)

-- ---- lists

abbrev pub no_such : Year → ℕ → ℕ → Bool
no_such y i j = leb y.courses i || leb y.terms j

-- course i in term j alone, if its list has j
abbrev pub placing : Year → ℕ → ℕ → Narrowed
placing y i j = choose (lists (course_at y i) j) (answered (Ok tt) (placed y i j)) (answered (Err Crossing) y)

-- course i without term j, unless j is its last; a term that is not listed alters nothing
abbrev pub barring : Year → ℕ → ℕ → Narrowed
barring y i j =
    choose (lists (course_at y i) j)
    (choose (eqb (list y i) (2 ^ j)) (answered (Err Crossing) y) (answered (Ok tt) (struck y i j)))
    (answered (Ok tt) y)

unfoldable pub place_of : Year → ℕ → ℕ → Narrowed
place_of y i j = checked y (no_such y i j) false (placing y i j)

unfoldable pub bar_of : Year → ℕ → ℕ → Narrowed
bar_of y i j = checked y (no_such y i j) false (barring y i j)

-- ---- bounds

-- term j with a tighter bound, unless that crosses
abbrev pub moving : Year → ℕ → Tight → Narrowed
moving y j w =
    choose w.crossed (answered (Err Crossing) y)
    (choose w.altered (answered (Ok tt) (with_term y j w.term)) (answered (Ok tt) y))

unfoldable pub tighten_of : Side → Quantity → Year → ℕ → ℕ → Narrowed
tighten_of s q y j v = checked y (leb y.terms j) (ltb (largest_bound q) v) (moving y j (tightened s q (term_at y j) v))

-- by the calls' names
abbrev pub raise_low_credits_of : Year → ℕ → ℕ → Narrowed
raise_low_credits_of = tighten_of Low Credits

abbrev pub lower_high_credits_of : Year → ℕ → ℕ → Narrowed
lower_high_credits_of = tighten_of High Credits

abbrev pub raise_low_count_of : Year → ℕ → ℕ → Narrowed
raise_low_count_of = tighten_of Low Counts

abbrev pub lower_high_count_of : Year → ℕ → ℕ → Narrowed
lower_high_count_of = tighten_of High Counts
