-- Rule 12: the facts suffice, because where it fires no choice of the open courses weighs within the range.
use Prim.Native.Nat.{ℕ, ◌+◌, ◌-◌, ◌≤◌, ◌<◌}
use mathlib.Core.Bool.{Bool, true, false, not, ◌||◌}
use mathlib.Core.Logic.{◌⊎◌, inl, inr}
use mathlib.Core.Path.{◌≡◌, refl, sym, ap, ◌∙◌}
use native.Mathlib.Omega.{arith}
use native.Mathlib.Decide.{ℕ_discrete}
use lib.Dec.{eqb, ltb}
use borrow.Author.Tests.{ltb-true}
use Rattle.theory.specs.Others.{others}
use Rattle.theory.specs.Sum.{pick, sum, weigh}
use Rattle.theory.specs.Neighbours.{fires}
use Rattle.theory.proofs.SumLaws.{pick_eq, pick_ne, sum_cong}
use Rattle.theory.proofs.TestLaws.{or_true}
use Rattle.theory.proofs.LoadLaws.{load, others_split}
use Rattle.theory.proofs.Open.{load_split}
use Rattle.theory.proofs.OrderLaws.{weigh_keep, lighter_up, lighter_sum}
use Rattle.theory.proofs.NeighbourLaws.{chosen, up_keep, no_choice}
use Rattle.theory.proofs.WalkLaws.{Up}
use Rattle.year.specs.Year.{weight, low_credits, high_credits}
use Rattle.year.specs.Sums.{fixed_credits}
use Rattle.year.specs.Plans.{Placing}
use Rattle.year.specs.Sound.{Sound}
use Rattle.year.specs.declared.Quantity.TheVariants.{Credits}
use Rattle.year.specs.declared.Side.TheVariants.{Low, High}
use Rattle.year.specs.declared.Year.{Year}
use Rattle.rules.specs.Step.{strikes, fixes, fails}
use Rattle.rules.specs.Spares.{open_at, up}
use Rattle.rules.specs.Neighbours.{needs, takes, open_set, rest, cannot_be}
use Rattle.rules.specs.Facts.{Into, MeetsAll, Suffice, Basis, own, the_fixed, the_unlisted, the_bound, ◌with◌}
use Rattle.rules.specs.Reasons.{basis12}
use Rattle.rules.proofs.Reading.{lists_at, fixed_at}
use Rattle.rules.proofs.FactLaws.{met_left, met_right, own_is, met_fixed, met_unlisted, met_bound}

module _ (y : Year) (s : Sound y) (j : ℕ) where
  -- the open courses go from lightest to heaviest, and are each once among them
  set_up : Up (weight y) 0 (open_set y j)
  unfolding up
  set_up = lighter_up (weight y) y.courses s.courses_most (open_at y j)

  set_sum : (f : ℕ → ℕ) → weigh f (open_set y j) ≡ sum y.courses (λ i. pick (open_at y j i) (f i))
  unfolding up
  set_sum = lighter_sum (weight y) y.courses s.courses_most (open_at y j)

  rest_up : (i : ℕ) → Up (weight y) 0 (rest y j i)
  rest_up i = up_keep (weight y) (λ k. not (eqb k i)) (open_set y j) 0 set_up

pick_swap : (a b : Bool) (x : ℕ) → pick a (pick b x) ≡ pick b (pick a x)
pick_swap true b x = refl
pick_swap false true x = refl
pick_swap false false x = refl

module _ (y : Year) (s : Sound y) (j : ℕ) (l : j < y.terms) where
  module _ (p : Placing) (into : Into y p) (m : MeetsAll y p (basis12 j)) where
    -- what a placing chooses
    abbrev into_j : ℕ → Bool
    into_j i = eqb (p i) j

    abbrev part : ℕ → ℕ
    part i = pick (open_at y j i) (pick (into_j i) (weight y i))

    abbrev pairs : Basis
    pairs = the_unlisted (own j) with the_fixed (own j)

    abbrev bounds : Basis
    bounds = the_bound Low Credits (own j) with the_bound High Credits (own j)

    -- p and what it chooses of the open courses are within the credit bounds
    range : (low_credits y j ≤ fixed_credits y j + chosen into_j (weight y) (open_set y j)) × (fixed_credits y j + chosen into_j (weight y) (open_set y j) ≤ high_credits y j)
    unfolding load fixed_credits
    range =
        let a = met_left y p pairs bounds m in
        let b = met_right y p pairs bounds m in
        let e =
        load_split y.courses (lists_at y) (fixed_at y) p (weight y) j
        (met_unlisted y p (own j) j (own_is j) into (met_left y p (the_unlisted (own j)) (the_fixed (own j)) a))
        (met_fixed y p (own j) j (own_is j) l (met_right y p (the_unlisted (own j)) (the_fixed (own j)) a)) in
        let low = met_bound y p (own j) j (own_is j) Low Credits l (met_left y p (the_bound Low Credits (own j)) (the_bound High Credits (own j)) b) in
        let high = met_bound y p (own j) j (own_is j) High Credits l (met_right y p (the_bound Low Credits (own j)) (the_bound High Credits (own j)) b) in
        let c = set_sum y s j (λ i. pick (into_j i) (weight y i)) in
        (omega arith, omega arith)

    -- what it chooses of the rest
    others_chosen : (i : ℕ) → i < y.courses → chosen into_j (weight y) (open_set y j) ≡ part i + chosen into_j (weight y) (rest y j i)
    unfolding others
    others_chosen i h =
        set_sum y s j (λ k. pick (into_j k) (weight y k))
        ∙ others_split y.courses i part h
        ∙ ap (λ x. part i + x)
        (sum_cong y.courses (λ k. pick (not (eqb k i)) (part k)) (λ k. pick (open_at y j k) (pick (not (eqb k i)) (pick (into_j k) (weight y k))))
        (λ k q. pick_swap (not (eqb k i)) (open_at y j k) (pick (into_j k) (weight y k)))
        ∙ sym (set_sum y s j (λ k. pick (not (eqb k i)) (pick (into_j k) (weight y k))))
        ∙ sym (weigh_keep (λ k. pick (into_j k) (weight y k)) (λ k. not (eqb k i)) (open_set y j)))

  -- p exceeds high credits, or it fires on all open courses
  pub none_12 : cannot_be y j ≡ true → Suffice y (basis12 j) fails
  none_12 e p into m =
      let r = range p into m in
      go r (or_true (ltb (high_credits y j) (fixed_credits y j)) (fires (weight y) (open_set y j) (needs y j) (takes y j)) e)
    where
      go : (low_credits y j ≤ fixed_credits y j + chosen (into_j p into m) (weight y) (open_set y j)) × (fixed_credits y j + chosen (into_j p into m) (weight y) (open_set y j) ≤ high_credits y j)
          → (ltb (high_credits y j) (fixed_credits y j) ≡ true) ⊎ (fires (weight y) (open_set y j) (needs y j) (takes y j) ≡ true) → ⊥
      go r (inl b) = omega (arith, ltb-true (high_credits y j) (fixed_credits y j) b, r)
      go r (inr f) = no_choice (weight y) (into_j p into m) (open_set y j) (needs y j) (takes y j) (set_up y s j) f (omega (arith, r)) (omega (arith, r))

  module _ (i : ℕ) (h : i < y.courses) (o : open_at y j i ≡ true) where
    -- the course exceeds what the term still takes, or it fires on the rest with a and b less w
    pub strike_12 : ltb (takes y j) (weight y i) || fires (weight y) (rest y j i) (needs y j - weight y i) (takes y j - weight y i) ≡ true
        → Suffice y (basis12 j) (strikes i j)
    strike_12 e p into m = λ r.
        let own : part p into m i ≡ weight y i = rw o (pick_eq (p i) j (weight y i) r) in
        go own (range p into m) (others_chosen p into m i h)
        (or_true (ltb (takes y j) (weight y i)) (fires (weight y) (rest y j i) (needs y j - weight y i) (takes y j - weight y i)) e)
      where
        go : part p into m i ≡ weight y i
            → (low_credits y j ≤ fixed_credits y j + chosen (into_j p into m) (weight y) (open_set y j)) × (fixed_credits y j + chosen (into_j p into m) (weight y) (open_set y j) ≤ high_credits y j)
            → chosen (into_j p into m) (weight y) (open_set y j) ≡ part p into m i + chosen (into_j p into m) (weight y) (rest y j i)
            → (ltb (takes y j) (weight y i) ≡ true) ⊎ (fires (weight y) (rest y j i) (needs y j - weight y i) (takes y j - weight y i) ≡ true) → ⊥
        go own r c (inl b) = omega (arith, ltb-true (takes y j) (weight y i) b, r)
        go own r c (inr f) =
            no_choice (weight y) (into_j p into m) (rest y j i) (needs y j - weight y i) (takes y j - weight y i) (rest_up y s j i) f (omega (arith, r)) (omega (arith, r))

    pub fix_12 : fires (weight y) (rest y j i) (needs y j) (takes y j) ≡ true → Suffice y (basis12 j) (fixes i j)
    fix_12 f p into m = go (ℕ_discrete (p i) j)
      where
        go : Dec (p i ≡ j) → p i ≡ j
        go (yes r) = r
        go (no d) =
            let none : part p into m i ≡ 0 = rw o (pick_ne (p i) j (weight y i) d) in
            let r = range p into m in
            let c = others_chosen p into m i h in
            absurd (no_choice (weight y) (into_j p into m) (rest y j i) (needs y j) (takes y j) (rest_up y s j i) f (omega arith) (omega arith))
