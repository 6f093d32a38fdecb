-- Rules 1 to 5 and 10: the facts suffice. Credits and counts are one argument.
use Prim.Native.Nat.{ℕ, ◌+◌, ◌-◌, ◌≤◌, ◌<◌}
use mathlib.Core.Bool.{true}
use mathlib.Core.Path.{◌≡◌, refl}
use native.Mathlib.Omega.{arith}
use native.Mathlib.Decide.{ℕ_discrete}
use Rattle.theory.specs.Sum.{pick, sum}
use Rattle.theory.proofs.LoadLaws.{load, rule_2_low, rule_2_high}
use Rattle.theory.proofs.Counting.{sum_ones, at_least, at_least_with, at_most, at_most_without}
use Rattle.year.specs.Year.{course_at, lists, is_fixed, is_open}
use Rattle.year.specs.Bound.{bound}
use Rattle.year.specs.Sums.{fixed_credits, open_credits, fixed_count, open_count, all_credits, fixed_of, open_of, all_of}
use Rattle.year.specs.Plans.{Placing, amount, put_in}
use Rattle.year.specs.declared.Quantity.{Quantity}
use Rattle.year.specs.declared.Quantity.TheVariants.{Credits, Counts}
use Rattle.year.specs.declared.Side.TheVariants.{Low, High}
use Rattle.year.specs.declared.Year.{Year}
use Rattle.rules.specs.Step.{moves, strikes, fixes, fails}
use Rattle.rules.specs.Bounds.{others_of}
use Rattle.rules.specs.Facts.{Into, MeetsAll, Suffice, own, besides, the_fixed, the_unlisted, the_bound}
use Rattle.rules.specs.Reasons.{basis14, basis25, basis_room, basis_need}
use Rattle.rules.proofs.PlanSums.{halves, open_facts}
use Rattle.rules.proofs.FactLaws.{met_left, met_right, own_is, besides_is, met_fixed, met_unlisted, met_bound}

-- ---- the sums of a quantity, course by course

module _ (y : Year) (j : ℕ) where
  fixed_is : (q : Quantity) → sum y.courses (λ i. pick (is_fixed (course_at y i) j) (amount q y.weight i)) ≡ fixed_of q y j
  unfolding fixed_credits fixed_count
  fixed_is Credits = refl
  fixed_is Counts = refl

  open_is : (q : Quantity) → sum y.courses (λ i. pick (is_open (course_at y i) j) (amount q y.weight i)) ≡ open_of q y j
  unfolding open_credits open_count
  open_is Credits = refl
  open_is Counts = refl

all_is : (y : Year) (q : Quantity) → sum y.courses (amount q y.weight) ≡ all_of q y
unfolding all_credits
all_is y Credits = refl
all_is y Counts = sum_ones y.courses

module _ (q : Quantity) (y : Year) (j : ℕ) (l : j < y.terms) where
  abbrev w : ℕ → ℕ
  w = amount q y.weight

  -- ---- rules 1 and 4

  pub raise_14 : Suffice y (basis14 Low j) (moves Low q j (fixed_of q y j))
  unfolding load
  raise_14 p into m =
      omega (arith, fixed_is y j q, at_least y.courses p w j (λ i. is_fixed (course_at y i) j) (met_fixed y p (own j) j (own_is j) l m))

  pub lower_14 : Suffice y (basis14 High j) (moves High q j (fixed_of q y j + open_of q y j))
  unfolding load
  lower_14 p into m =
      omega (
        arith,
        fixed_is y j q,
        open_is y j q,
        halves y j w,
        at_most y.courses p w j (λ i. lists (course_at y i) j) (met_unlisted y p (own j) j (own_is j) into m),
      )

  -- ---- rules 2 and 5

  pub raise_25 : Suffice y (basis25 q Low j) (moves Low q j (all_of q y - others_of High q y j))
  unfolding load
  raise_25 p into m =
      omega (
        arith,
        all_is y q,
        rule_2_low y.courses y.terms w p into j (bound High q y) l (λ k h d. met_bound y p (besides j) k (besides_is j k d) High q h m),
      )

  sum_25 : (p : Placing) → Into y p → MeetsAll y p (basis25 q High j) → others_of Low q y j + put_in q y p j ≤ all_of q y
  unfolding load
  sum_25 p into m =
      omega (
        arith,
        all_is y q,
        rule_2_high y.courses y.terms w p into j (bound Low q y) l (λ k h d. met_bound y p (besides j) k (besides_is j k d) Low q h m),
      )

  pub lower_25 : Suffice y (basis25 q High j) (moves High q j (all_of q y - others_of Low q y j))
  lower_25 p into m = omega (arith, sum_25 p into m)

  -- negative is no plan
  pub negative_25 : all_of q y < others_of Low q y j → Suffice y (basis25 q High j) fails
  negative_25 c p into m = omega (arith, sum_25 p into m)

  -- ---- rules 3 and 10

  -- what a placing that meets the facts keeps in j
  room : (p : Placing) → Into y p → MeetsAll y p (basis_room q j) → MeetsAll y p (basis14 Low j) × (put_in q y p j ≤ bound High q y j)
  room p into m =
      let f = the_fixed (own j) in
      let b = the_bound High q (own j) in
      (met_left y p f b m, met_bound y p (own j) j (own_is j) High q l (met_right y p f b m))

  need : (p : Placing) → Into y p → MeetsAll y p (basis_need q j) → MeetsAll y p (basis14 High j) × (bound Low q y j ≤ put_in q y p j)
  need p into m =
      let f = the_unlisted (own j) in
      let b = the_bound Low q (own j) in
      (met_left y p f b m, met_bound y p (own j) j (own_is j) Low q l (met_right y p f b m))

  -- fixed exceeds the high bound; fixed plus open is below the low bound
  pub overfull_10 : bound High q y j < fixed_of q y j → Suffice y (basis_room q j) fails
  overfull_10 c p into m = let r = room p into m in omega (arith, raise_14 p into r.0, r.1)

  pub short_10 : fixed_of q y j + open_of q y j < bound Low q y j → Suffice y (basis_need q j) fails
  short_10 c p into m = let r = need p into m in omega (arith, lower_14 p into r.0, r.1)

  module _ (i : ℕ) (h : i < y.courses) (o : is_open (course_at y i) j ≡ true) where
    pub strike_3 : bound High q y j < fixed_of q y j + w i → Suffice y (basis_room q j) (strikes i j)
    unfolding load
    strike_3 c p into m = λ e.
        let r = room p into m in
        omega (
          arith,
          fixed_is y j q,
          at_least_with y.courses p w j (λ i. is_fixed (course_at y i) j) (met_fixed y p (own j) j (own_is j) l r.0) i h (open_facts (course_at y i) j o).1 e,
          r.1,
        )

    pub fix_3 : fixed_of q y j + open_of q y j < bound Low q y j + w i → Suffice y (basis_need q j) (fixes i j)
    unfolding load
    fix_3 c p into m = go (ℕ_discrete (p i) j)
      where
        go : Dec (p i ≡ j) → p i ≡ j
        go (yes e) = e
        go (no d) =
            let r = need p into m in
            absurd (omega (
              arith,
              fixed_is y j q,
              open_is y j q,
              halves y j w,
              at_most_without y.courses p w j (λ i. lists (course_at y i) j) (met_unlisted y p (own j) j (own_is j) into r.0) i h (open_facts (course_at y i) j o).0 d,
              r.1,
            ))
