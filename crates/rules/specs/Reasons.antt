-- Reasons (request A7): what each rule does at each of its places, and the facts that it rests on. 02's list of facts, line by line.
use Rattle.std.specs.Prelude.{ℕ, ◌+◌, ◌/◌, ◌<◌, true, false, ◌≡◌, eqb}
use Rattle.theory.specs.Choice.{choose}
use Rattle.theory.specs.Tests.{any}
use Rattle.year.specs.Year.{course_at, is_open}
use Rattle.year.specs.Bound.{bound, opposite, beyond}
use Rattle.year.specs.declared.Quantity.{Quantity}
use Rattle.year.specs.declared.Quantity.TheVariants.{Credits, Counts}
use Rattle.year.specs.declared.Side.{Side}
use Rattle.year.specs.declared.Side.TheVariants.{Low, High}
use Rattle.year.specs.declared.Year.{Year}
use Rattle.rules.specs.Step.{Change, rests, moves, strikes, fixes, crosses, fails, ruled}
use Rattle.rules.specs.Bounds.{own_sums, other_terms}
use Rattle.rules.specs.Lists.{verdict_at3, overfull, short, full, needed, verdict10}
use Rattle.rules.specs.Spares.{least_count, most_count, least_load, most_load}
use Rattle.rules.specs.Packing.{burst, room, bursts}
use Rattle.rules.specs.Neighbours.{cannot_be, verdict12}
use Rattle.rules.specs.Facts.{Basis, Suffice, never, every, own, besides, the_fixed, the_unlisted, the_bound, ◌with◌}
use Rattle.rules.specs.declared.Verdict.{Verdict}
use Rattle.rules.specs.declared.Verdict.TheVariants.{Stays, Struck, Fixed}

pub record Reason : Type 0 where
  pub change : Change
  pub basis : Basis

abbrev pub reason : Change → Basis → Reason
reason c b = record { change = c; basis = b }

-- a crossing adds the bound crossed to what its rule rests on
abbrev pub with_crossed : Change → Basis → Basis
with_crossed rests b = b
with_crossed (moves s q j n) b = b
with_crossed (strikes i j) b = b
with_crossed (fixes i j) b = b
with_crossed (crosses s q j) b = b with the_bound (opposite s) q (own j)
with_crossed fails b = b

abbrev pub because : Change → Basis → Reason
because c b = reason c (with_crossed c b)

-- ---- rules 1 and 4: the fixed courses (raising) or the courses that don't list j (lowering)

abbrev pub basis14 : Side → ℕ → Basis
basis14 Low j = the_fixed (own j)
basis14 High j = the_unlisted (own j)

abbrev pub reason14 : Quantity → Side → Year → ℕ → Reason
reason14 q s y j = because (own_sums q s y j) (basis14 s j)

-- ---- rules 2 and 5: the other terms' opposite bounds

abbrev pub basis25 : Quantity → Side → ℕ → Basis
basis25 q s j = the_bound (opposite s) q (besides j)

abbrev pub reason25 : Quantity → Side → Year → ℕ → Reason
reason25 q s y j = because (other_terms q s y j) (basis25 q s j)

-- ---- rules 3 and 10: the courses fixed in j and its high bound, or the courses that don't list j and its low bound

abbrev pub basis_room : Quantity → ℕ → Basis
basis_room q j = the_fixed (own j) with the_bound High q (own j)

abbrev pub basis_need : Quantity → ℕ → Basis
basis_need q j = the_unlisted (own j) with the_bound Low q (own j)

-- a strike by the first, a fixing by the second
abbrev pub basis_on : Quantity → ℕ → Verdict → Basis
basis_on q j Stays = the_fixed never
basis_on q j Struck = basis_room q j
basis_on q j Fixed = basis_need q j

abbrev pub reason_on : Quantity → ℕ → ℕ → Verdict → Reason
reason_on q i j v = reason (ruled i j v) (basis_on q j v)

abbrev pub reason3 : Year → ℕ → ℕ → Reason
reason3 y j i = reason_on Credits i j (verdict_at3 y j i)

abbrev pub reason10_course : Year → ℕ → ℕ → Reason
reason10_course y j i = reason_on Counts i j (verdict10 (full y j) (needed y j) (course_at y i) j)

-- no plan in an overfull term by the first, in a short one by the second
abbrev pub reason10 : Year → ℕ → Reason
reason10 y j =
    choose (overfull y j) (reason fails (basis_room Counts j))
    (choose (short y j) (reason fails (basis_need Counts j))
    (reason rests (the_fixed never)))

-- ---- rules 6 to 9: every unlisted pair of course and term, the other terms' low counts, and the own bound used

abbrev pub basis_walk : Side → Quantity → ℕ → Basis
basis_walk s q j = the_unlisted every with (the_bound Low Counts (besides j) with the_bound s q (own j))

abbrev pub reason6 : Year → ℕ → Reason
reason6 y j = because (least_count y j) (basis_walk Low Credits j)

abbrev pub reason7 : Year → ℕ → Reason
reason7 y j = because (most_count y j) (basis_walk High Credits j)

abbrev pub reason8 : Year → ℕ → Reason
reason8 y j = because (least_load y j) (basis_walk Low Counts j)

abbrev pub reason9 : Year → ℕ → Reason
reason9 y j = because (most_load y j) (basis_walk High Counts j)

-- ---- rule 11: all fixed pairs and all high credits

abbrev pub basis11 : Basis
basis11 = the_fixed every with the_bound High Credits every

unfoldable pub reason11 : Year → Reason
reason11 y =
    choose (any y.terms (burst y)) (reason fails basis11)
    (choose (eqb (room y) 0) (reason rests basis11)
    (choose (any (room y / 2 + 1) (bursts y (room y))) (reason fails basis11)
    (reason rests basis11)))

-- ---- rule 12: the unlisted and fixed pairs of j and both its credit bounds

abbrev pub basis12 : ℕ → Basis
basis12 j = (the_unlisted (own j) with the_fixed (own j)) with (the_bound Low Credits (own j) with the_bound High Credits (own j))

abbrev pub reason12 : Year → ℕ → Reason
reason12 y j = reason (choose (cannot_be y j) fails rests) (basis12 j)

abbrev pub reason12_course : Year → ℕ → ℕ → Reason
reason12_course y j i = reason (ruled i j (verdict12 y j i)) (basis12 j)

-- ---- what makes a reason good

-- a change finds what it alters: a looser bound, which the new one does not take past its opposite; an open course
abbrev pub Alters : Year → Change → Type 0
Alters y rests = Unit {0}
Alters y (moves s q j n) = (j < y.terms) × (beyond s n (bound s q y j) ≡ true) × (beyond s n (bound (opposite s) q y j) ≡ false)
Alters y (strikes i j) = (i < y.courses) × (j < y.terms) × (is_open (course_at y i) j ≡ true)
Alters y (fixes i j) = (i < y.courses) × (j < y.terms) × (is_open (course_at y i) j ≡ true)
Alters y (crosses s q j) = Unit {0}
Alters y fails = Unit {0}

-- it alters what it finds, and every placing that meets its facts meets its conclusion
pub record Good (y : Year) (r : Reason) : Type 0 where
  pub alters : Alters y r.change
  pub suffices : Suffice y r.basis r.change
