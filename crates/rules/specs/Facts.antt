-- Facts (request A7): what a step rests on, when that holds of a year, and when a placing of the courses into terms meets it.
use Rattle.std.specs.Prelude.{ℕ, ◌<◌, Bool, true, false, ◌&&◌, ◌||◌, not, ◌≡◌, eqb}
use Rattle.year.specs.Year.{course_at, lists, is_fixed}
use Rattle.year.specs.Bound.{bound, Keeps}
use Rattle.year.specs.Plans.{Placing, put_in}
use Rattle.year.specs.declared.Quantity.{Quantity}
use Rattle.year.specs.declared.Quantity.TheVariants.{Credits, Counts}
use Rattle.year.specs.declared.Side.{Side}
use Rattle.year.specs.declared.Side.TheVariants.{Low, High}
use Rattle.year.specs.declared.Year.{Year}
use Rattle.rules.specs.Step.{Change, rests, moves, strikes, fixes, crosses, fails}

-- ---- facts

-- course i is in term k; it is not; the credits or the count of term k are at least, or at most, n
pub data Fact : Type 0 where
  inside outside : ℕ → ℕ → Fact
  keeps : Side → Quantity → ℕ → ℕ → Fact

-- a fact holds of a year: the list of course i is term k alone, or lacks it; a bound of term k is n
abbrev pub Holds : Year → Fact → Type 0
Holds y (inside i k) = (i < y.courses) × (k < y.terms) × (is_fixed (course_at y i) k ≡ true)
Holds y (outside i k) = (i < y.courses) × (k < y.terms) × (lists (course_at y i) k ≡ false)
Holds y (keeps s q k n) = (k < y.terms) × (bound s q y k ≡ n)

-- a placing of the courses into terms, lists and bounds set aside: of the year only its sizes and its weights are asked
abbrev pub Into : Year → Placing → Type 0
Into y p = (i : ℕ) → i < y.courses → p i < y.terms

abbrev pub Meets : Year → Placing → Fact → Type 0
Meets y p (inside i k) = p i ≡ k
Meets y p (outside i k) = p i ≡ k → ⊥
Meets y p (keeps s q k n) = Keeps s n (put_in q y p k)

-- ---- the facts of a step, which are read off the year just before it

-- of which terms it rests on the courses fixed there, on the courses that do not list them, and on each bound
pub record Basis : Type 0 where
  pub fixed : ℕ → Bool
  pub unlisted : ℕ → Bool
  pub bounds : Side → Quantity → ℕ → Bool

-- f is one of them
abbrev pub Rests : Year → Basis → Fact → Type 0
Rests y b (inside i k) = (b.fixed k ≡ true) × Holds y (inside i k)
Rests y b (outside i k) = (b.unlisted k ≡ true) × Holds y (outside i k)
Rests y b (keeps s q k n) = (b.bounds s q k ≡ true) × Holds y (keeps s q k n)

-- ---- which terms

abbrev pub never : ℕ → Bool
never k = false

abbrev pub every : ℕ → Bool
every k = true

abbrev pub own : ℕ → ℕ → Bool
own j k = eqb k j

abbrev pub besides : ℕ → ℕ → Bool
besides j k = not (eqb k j)

-- ---- bases: the courses fixed in the terms of a choice, those that do not list them, one bound of each; and two bases in one

abbrev pub the_fixed : (ℕ → Bool) → Basis
the_fixed t = record { fixed = t; unlisted = never; bounds = λ s q. never }

abbrev pub the_unlisted : (ℕ → Bool) → Basis
the_unlisted t = record { fixed = never; unlisted = t; bounds = λ s q. never }

abbrev pub same_side : Side → Side → Bool
same_side Low Low = true
same_side Low High = false
same_side High Low = false
same_side High High = true

abbrev pub same_quantity : Quantity → Quantity → Bool
same_quantity Credits Credits = true
same_quantity Credits Counts = false
same_quantity Counts Credits = false
same_quantity Counts Counts = true

abbrev pub the_bound : Side → Quantity → (ℕ → Bool) → Basis
the_bound s q t = record { fixed = never; unlisted = never; bounds = λ r u k. same_side s r && same_quantity q u && t k }

infixr 6 ◌with◌
abbrev pub ◌with◌ : Basis → Basis → Basis
a with b = record {
  fixed = λ k. a.fixed k || b.fixed k;
  unlisted = λ k. a.unlisted k || b.unlisted k;
  bounds = λ s q k. a.bounds s q k || b.bounds s q k;
}

-- ---- conclusions

-- an altered bound concludes itself, a strike that the course is not in the term, a fixing that it is, a no plan falsehood
abbrev pub Concludes : Year → Placing → Change → Type 0
Concludes y p rests = Unit {0}
Concludes y p (moves s q j n) = Meets y p (keeps s q j n)
Concludes y p (strikes i j) = Meets y p (outside i j)
Concludes y p (fixes i j) = Meets y p (inside i j)
Concludes y p (crosses s q j) = ⊥
Concludes y p fails = ⊥

-- p meets every fact of a basis
abbrev pub MeetsAll : Year → Placing → Basis → Type 0
MeetsAll y p b = (f : Fact) → Rests y b f → Meets y p f

-- every placing of the courses into terms that meets the facts meets the conclusion
abbrev pub Suffice : Year → Basis → Change → Type 0
Suffice y b c = (p : Placing) → Into y p → MeetsAll y p b → Concludes y p c
