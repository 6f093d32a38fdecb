-- The six narrowings: what each makes of a year, what it asks of a placing, which number it is due; and what is promised of each.
use Rattle.std.specs.Prelude.{ℕ, ◌^◌, Bool, false, not, ◌||◌, ◌↔◌, ◌≡◌, eqb, leb, ltb}
use Rattle.theory.specs.Choice.{choose}
use Rattle.year.specs.Year.{course_at, list, lists}
use Rattle.year.specs.Bound.{bound, largest_bound, opposite, Keeps, beyond}
use Rattle.year.specs.Narrow.{place_of, bar_of, tighten_of}
use Rattle.year.specs.Plans.{Placing, put_in, Plan}
use Rattle.year.specs.Sound.{is_sound, Sound}
use Rattle.year.specs.Numbers.{narrowing_number}
use Rattle.year.specs.declared.Quantity.{Quantity}
use Rattle.year.specs.declared.Side.{Side}
use Rattle.year.specs.declared.Year.{Year}
use Rattle.year.specs.declared.Narrowed.{Narrowed}
use Rattle.rules.specs.Narrower.{Narrower}

-- ---- the calls

-- place course i in term j; bar course i from term j; raise or lower a bound of term j to v
pub data Narrow : Type 0 where
  place bar : ℕ → ℕ → Narrow
  tighten : Side → Quantity → ℕ → ℕ → Narrow

abbrev pub narrow : Narrow → Year → Narrowed
narrow (place i j) y = place_of y i j
narrow (bar i j) y = bar_of y i j
narrow (tighten s q j v) y = tighten_of s q y j v

-- a placing of the courses of y meets a narrowing
abbrev pub Meets : Year → Narrow → Placing → Type 0
Meets y (place i j) p = p i ≡ j
Meets y (bar i j) p = p i ≡ j → ⊥
Meets y (tighten s q j v) p = Keeps s v (put_in q y p j)

-- ---- the numbers of the answers, as the paper's table has them

-- 10: no such course or term
abbrev pub missing : Year → Narrow → Bool
missing y (place i j) = leb y.courses i || leb y.terms j
missing y (bar i j) = leb y.courses i || leb y.terms j
missing y (tighten s q j v) = leb y.terms j

-- 11: a bound outside the sizes
abbrev pub outside : Narrow → Bool
outside (place i j) = false
outside (bar i j) = false
outside (tighten s q j v) = ltb (largest_bound q) v

-- 12: it would place a course in a term that its list lacks, empty a term list, or cross a pair of bounds
abbrev pub crossing : Year → Narrow → Bool
crossing y (place i j) = not (lists (course_at y i) j)
crossing y (bar i j) = eqb (list y i) (2 ^ j)
crossing y (tighten s q j v) = beyond s v (bound (opposite s) q y j)

-- 8 first, then in rising number; 0 where it is done
abbrev pub number_due : Year → Narrow → ℕ
number_due y n = choose (is_sound y) (choose (missing y n) 10 (choose (outside n) 11 (choose (crossing y n) 12 0))) 8

-- ---- what is promised

-- r, the answer to the narrowing n of y: of a sound year it hands back that year narrowed; done, the plans of the year handed back are
-- the plans of y that meet n; refused, it is y; and the number is the one due
pub record NarrowedBy (y : Year) (n : Narrow) (r : Narrowed) : Type 0 where
  pub narrower : Sound y → Narrower y r.year
  pub plans : narrowing_number r.answer ≡ 0 → (p : Placing) → Plan r.year p ↔ (Plan y p × Meets y n p)
  pub refused : (narrowing_number r.answer ≡ 0 → ⊥) → r.year ≡ y
  pub number : narrowing_number r.answer ≡ number_due y n

abbrev pub EachNarrowing : Type 0
EachNarrowing = (n : Narrow) (y : Year) → NarrowedBy y n (narrow n y)
