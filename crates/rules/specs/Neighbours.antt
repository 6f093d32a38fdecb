-- Rule 12 (request A5): neighbouring sums of the open courses of a term.
use Rattle.std.specs.Prelude.{ℕ, ◌-◌, Bool, not, ◌||◌, List, eqb, ltb}
use Rattle.theory.specs.Choice.{choose}
use Rattle.theory.specs.Order.{keep}
use Rattle.theory.specs.Neighbours.{fires}
use Rattle.year.specs.Year.{weight, low_credits, high_credits}
use Rattle.year.specs.Sums.{fixed_credits}
use Rattle.year.specs.declared.Year.{Year}
use Rattle.rules.specs.Step.{live, dead, judged, over_courses, Step}
use Rattle.rules.specs.Spares.{open_at, open_of, up}
use Rattle.rules.specs.Packing.{burst}
use Rattle.rules.specs.declared.Verdict.{Verdict}
use Rattle.rules.specs.declared.Verdict.TheVariants.{Stays, Struck, Fixed}

-- a: low credits less p, 0 if negative. b: high credits less p
abbrev pub needs : Year → ℕ → ℕ
needs y j = low_credits y j - fixed_credits y j

abbrev pub takes : Year → ℕ → ℕ
takes y j = high_credits y j - fixed_credits y j

-- all open courses of j, and the rest of them without course i
abbrev pub open_set : Year → ℕ → List ℕ
open_set y j = open_of y j (up y)

abbrev pub rest : Year → ℕ → ℕ → List ℕ
rest y j i = keep (λ k. not (eqb k i)) (open_set y j)

-- p exceeds high credits, or it fires on all open courses
abbrev pub cannot_be : Year → ℕ → Bool
cannot_be y j = burst y j || fires (weight y) (open_set y j) (needs y j) (takes y j)

-- an open course of weight w: strike j from its list if w exceeds b, or it fires on the rest with a and b each less w (a not
-- below 0); otherwise its list becomes j alone if it fires on the rest with a and b
unfoldable pub verdict12 : Year → ℕ → ℕ → Verdict
verdict12 y j i =
    let w = weight y i in
    let a = needs y j in
    let b = takes y j in
    choose (open_at y j i)
    (choose (ltb b w || fires (weight y) (rest y j i) (a - w) (b - w)) Struck
    (choose (fires (weight y) (rest y j i) a b) Fixed
    Stays))
    Stays

-- everything is read anew for each course
unfoldable pub rule12_course : ℕ → Year → ℕ → Step
rule12_course j y i = judged y i j (verdict12 y j i)

unfoldable pub rule12 : Year → ℕ → Step
rule12 y j = choose (cannot_be y j) (dead 12 y) (over_courses (rule12_course j) (live y))
