-- A year in which every course has one term: where a round finds no fault and leaves it, its bounds are what stands in each term.
use Prim.Native.Nat.{ℕ, ◌+◌, ◌≤◌, ◌<◌}
use mathlib.Core.Path.{◌≡◌, sym, ap, ◌∙◌}
use native.Mathlib.Omega.{arith}
use borrow.Author.Tests.{eqb-true, ltb-false}
use Rattle.theory.specs.Bits.{has}
use Rattle.theory.proofs.BitLaws.{has_power, has_only}
use Rattle.year.specs.Year.{term_at, weight, list, low_credits, high_credits, low_count, high_count}
use Rattle.year.specs.Bound.{bound}
use Rattle.year.specs.Sums.{fixed_credits, open_credits, possible_credits, fixed_count, open_count, fixed_of, open_of}
use Rattle.year.specs.Plans.{Placing, put_in, credits_in, count_in, Plan, PlacedBy}
use Rattle.year.specs.Sound.{Sound}
use Rattle.year.specs.declared.Quantity.{Quantity}
use Rattle.year.specs.declared.Quantity.TheVariants.{Credits, Counts}
use Rattle.year.specs.declared.Side.TheVariants.{Low, High}
use Rattle.year.specs.declared.Year.{Year}
use Rattle.year.proofs.OnePlacing.{credits_fixed, count_fixed, listed_sum, placed_listed, placed_within}
use Rattle.rules.specs.Step.{live, raise_lower}
use Rattle.rules.specs.Bounds.{own_sums, rule1, rule4}
use Rattle.rules.specs.Round.{passes, round}
use Rattle.rules.specs.Narrower.{Narrower}
use Rattle.rules.proofs.Steps.{change_narrows}
use Rattle.rules.proofs.ReasonsGood.{good14}
use Rattle.rules.proofs.RulesHeld.{rule1_held, rule4_held}
use Rattle.rules.proofs.Passes.{Each}
use Rattle.rules.proofs.Rest.{Leaves, round_rest, terms_rest, both_rest, move_rest}
use Rattle.rules.proofs.DoorPlans.{KeepsAll, plan_of}
use Rattle.rules.proofs.PlanSums.{halves}

-- ---- the sums of such a year are what p puts into each term

module _ (y : Year) (p : Placing) (h : PlacedBy y p) (k : ℕ) where
  credits_are : (fixed_credits y k ≡ credits_in y p k) × (possible_credits y k ≡ credits_in y p k)
  unfolding fixed_credits open_credits
  credits_are = (credits_fixed y p h k, sym (halves y k (weight y)) ∙ listed_sum y p h k (weight y))

  counts_are : (fixed_count y k ≡ count_in y p k) × (fixed_count y k + open_count y k ≡ count_in y p k)
  unfolding fixed_count open_count
  counts_are = (count_fixed y p h k, sym (halves y k (λ i. 1)) ∙ listed_sum y p h k (λ i. 1))

-- ---- rules leave such a year such

module _ (y : Year) (p : Placing) (z : Year) (w : Narrower y z) where
  pub placed_stays : PlacedBy y p → PlacedBy z p
  placed_stays h i l =
      let c = w.sound.course_sound i l in
      has_only z.terms (list z i) (p i) c.list_some c.list_within
      (λ k e. eqb-true k (p i) (sym (has_power (p i) k) ∙ ap (λ x. has x k) (sym (h i (omega (arith, w)))) ∙ w.lists_less i k e))

-- ---- such a year at rest

module _ (y : Year) (p : Placing) (sound : Sound y) (placed : PlacedBy y p) (faultless : (round y).rule ≡ 0) (rest : (round y).year ≡ y) where
  leaves : Each (Leaves y) passes
  leaves = round_rest y sound faultless rest

  -- a rule that raises and lowers and leaves the year finds neither bound to tighten
  own_rest : (r : ℕ) (q : Quantity) → (r ≡ 0 → ⊥) → (k : ℕ) → k < y.terms → raise_lower r (own_sums q) y k ≡ live y
      → (fixed_of q y k ≤ bound Low q y k) × (bound High q y k ≤ fixed_of q y k + open_of q y k)
  own_rest r q d k l e =
      let n = change_narrows r y sound (own_sums q Low y k) (good14 y k sound l q Low).alters in
      let h = both_rest r (own_sums q) y k d n e in
      (ltb-false _ _ (move_rest r Low q y k _ d h.0), ltb-false _ _ (move_rest r High q y k _ d h.1))

  -- rules 1 and 4
  credits_rest : (k : ℕ) → k < y.terms → (fixed_credits y k ≤ low_credits y k) × (high_credits y k ≤ possible_credits y k)
  unfolding rule1
  credits_rest k l = own_rest 1 Credits (λ z. omega arith) k l (terms_rest rule1 y sound (λ z j s m. (rule1_held z j s m).0) leaves.0 k l)

  counts_rest : (k : ℕ) → k < y.terms → (fixed_count y k ≤ low_count y k) × (high_count y k ≤ fixed_count y k + open_count y k)
  unfolding rule4
  counts_rest k l = own_rest 4 Counts (λ z. omega arith) k l (terms_rest rule4 y sound (λ z j s m. (rule4_held z j s m).0) leaves.1.1.1.0 k l)

  -- so its bounds are what stands in each term: the placing is a plan
  pub rest_plan : Plan y p
  rest_plan = plan_of y p (placed_within y p placed sound) (placed_listed y p placed) bounds
    where
      bounds : (k : ℕ) → k < y.terms → KeepsAll (term_at y k) (λ q. put_in q y p k)
      bounds k l Low Credits = omega (arith, credits_rest k l, credits_are y p placed k, sound.term_sound k l)
      bounds k l High Credits = omega (arith, credits_rest k l, credits_are y p placed k, sound.term_sound k l)
      bounds k l Low Counts = omega (arith, counts_rest k l, counts_are y p placed k, sound.term_sound k l)
      bounds k l High Counts = omega (arith, counts_rest k l, counts_are y p placed k, sound.term_sound k l)
