-- Steps of rules. Every step sees the year left by the step before, and a step that finds no plan is the last.
use Rattle.std.specs.Prelude.{ℕ, Bool, true, false, ◌&&◌, ◌||◌, eqb}
use Rattle.theory.specs.Choice.{choose}
use Rattle.theory.specs.Fold.{fold}
use Rattle.year.specs.Year.{term_at}
use Rattle.year.specs.Bound.{tightened}
use Rattle.year.specs.Doors.{with_term, placed, struck}
use Rattle.year.specs.declared.Quantity.{Quantity}
use Rattle.year.specs.declared.Side.{Side}
use Rattle.year.specs.declared.Side.TheVariants.{Low, High}
use Rattle.year.specs.declared.Year.{Year}
use Rattle.rules.specs.declared.Verdict.{Verdict}
use Rattle.rules.specs.declared.Verdict.TheVariants.{Stays, Struck, Fixed}

-- ---- one step

-- what a step leaves: the year, whether something was altered, and the rule that found no plan (0 where none did)
pub record Step : Type 0 where
  pub year : Year
  pub altered : Bool
  pub rule : ℕ

abbrev pub step : Year → Bool → ℕ → Step
step y a r = record { year = y; altered = a; rule = r }

-- nothing is altered; no plan, found by rule r
abbrev pub live : Year → Step
live y = step y false 0

abbrev pub dead : ℕ → Year → Step
dead r y = step y false r

-- ---- what a rule does at a place

-- nothing; bound s of quantity q in term j becomes n; term j is struck from the list of course i, or alone is left on it;
-- no plan, because a bound of term j would cross its opposite, and no plan by what the rule itself says
pub data Change : Type 0 where
  rests : Change
  moves : Side → Quantity → ℕ → ℕ → Change
  strikes fixes : ℕ → ℕ → Change
  crosses : Side → Quantity → ℕ → Change
  fails : Change

-- the change under rule r. Through the doors: a move never loosens
abbrev pub applied : ℕ → Year → Change → Step
applied r y rests = live y
applied r y (moves s q j n) = step (with_term y j (tightened s q (term_at y j) n).term) true 0
applied r y (strikes i j) = step (struck y i j) true 0
applied r y (fixes i j) = step (placed y i j) true 0
applied r y (crosses s q j) = dead r y
applied r y fails = dead r y

-- a bound of term j tightened to n: what there is to do
unfoldable pub move : Side → Quantity → Year → ℕ → ℕ → Change
move s q y j n =
    let w = tightened s q (term_at y j) n in
    choose w.crossed (crosses s q j) (choose w.altered (moves s q j n) rests)

-- course i and term j under a verdict
abbrev pub ruled : ℕ → ℕ → Verdict → Change
ruled i j Stays = rests
ruled i j Struck = strikes i j
ruled i j Fixed = fixes i j

-- a list is altered alike under every rule
abbrev pub judged : Year → ℕ → ℕ → Verdict → Step
judged y i j v = applied 0 y (ruled i j v)

-- ---- steps in a row

-- no plan has been found so far
abbrev pub goes : Step → Bool
goes s = eqb s.rule 0

-- one step after another; what either altered is altered
abbrev pub joined : Step → Step → Step
joined s t = step t.year (s.altered || t.altered) t.rule

-- a rule at k, of the year that the steps before it left
abbrev pub then : (Year → ℕ → Step) → Step → ℕ → Step
then f s k = joined s (f s.year k)

-- one step more, at k, unless a step before it found no plan
abbrev pub next : (Year → ℕ → Step) → Step → ℕ → Step
next f s k = choose (goes s) (then f s k) s

-- raise, then lower: a change on each side of term j, the second of the year that the first left. A no plan of either leaves
-- the year as it was
abbrev pub raise_lower : ℕ → (Side → Year → ℕ → Change) → Year → ℕ → Step
raise_lower r f y j =
    let s = applied r y (f Low y j) in
    let t = applied r s.year (f High s.year j) in
    choose (goes s && goes t) (joined s t) (dead r y)

-- the steps at 0, 1 and so on below n
abbrev pub over_to : (Year → ℕ → Step) → Step → ℕ → Step
over_to f s n = fold goes (then f) s n

-- over all terms of the year, and over all its courses
abbrev pub over_terms : (Year → ℕ → Step) → Step → Step
over_terms f s = over_to f s s.year.terms

abbrev pub over_courses : (Year → ℕ → Step) → Step → Step
over_courses f s = over_to f s s.year.courses
