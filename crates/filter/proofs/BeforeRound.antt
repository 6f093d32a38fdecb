-- What holds before each round of a filtering, and what one more round makes of it: it ends the filtering, or the narrower holds before the next.
use Prim.Native.Nat.{ℕ, ◌+◌, ◌≤◌, ◌<◌}
use mathlib.Core.Bool.{true, false}
use mathlib.Core.Path.{◌≡◌, sym, ap, subst, ◌∙◌}
use native.Mathlib.Omega.{arith}
use lib.Dec.{eqb}
use lib.ListN.{length}
use borrow.Author.Tests.{eq-eqb}
use Rattle.std.specs.Prelude.{Option, None, Some, Err, IfSome}
use Rattle.year.specs.Sums.{all_credits}
use Rattle.year.specs.Sound.{Sound}
use Rattle.year.specs.declared.Year.{Year}
use Rattle.rules.specs.Step.{live, Step}
use Rattle.rules.specs.RuleNumbers.{rule_named}
use Rattle.rules.specs.declared.Rule.{Rule}
use Rattle.rules.proofs.RuleNumberLaws.{named_number}
use Rattle.frame.specs.State.{year_in, step_in, step_of}
use Rattle.rules.specs.Round.{round}
use Rattle.frame.specs.declared.State.{State}
use Rattle.frame.proofs.StateLaws.{dead_of}
use Rattle.rules.proofs.Leeway.{leeway, leeway_most}
use Rattle.rules.specs.Narrower.{Narrower}
use Rattle.rules.proofs.Narrows.{narrower_self, narrower_then, credits_same}
use Rattle.rules.proofs.Passes.{narrows_round}
use Rattle.orders.specs.Orders.{orders_in, orders_of}
use Rattle.orders.specs.declared.Orders.{Orders}
use Rattle.orders.proofs.OrderLaws.{weights_of, cut_orders_are, orders_weights}
use Rattle.filter.specs.Filter.{filtered, at_rest, rounds_from}
use Rattle.filter.specs.declared.Answer.TheVariants.{NoPlan}
use Rattle.filter.proofs.RoundLaws.{rounds_left, round_no_plan, round_at_rest, round_alters, round_falls}

-- the orders, if they have been computed, are those of the year's courses
abbrev pub InOrder : Year → Option Orders → Type 0
InOrder y o = IfSome o (λ p. p ≡ orders_of y)

-- they stay those of a year of as many courses with the same weights
pub in_order_still : (y z : Year) (o : Option Orders) → z.courses ≡ y.courses → z.weight ≡ y.weight → InOrder y o → InOrder z o
in_order_still y z (Some p) c w e = e ∙ sym (orders_weights y z c w)
in_order_still y z None c w e = tt

pub in_order_at : (y : Year) → Sound y → (o : Option Orders) → InOrder y o → IfSome o (λ p. p ≡ orders_in (weights_of y) (length (weights_of y)))
in_order_at y s (Some p) e = e ∙ sym (cut_orders_are y s)
in_order_at y s None e = tt

-- after n rounds, each of which altered something: what is left to do from the year at hand gives what the whole filtering
-- gives, and the leeway of that year has fallen by at least one a round
pub record BeforeRound (y : Year) (o : Option Orders) (s : State) (n : ℕ) : Type 0 where
  pub from : rounds_from 1025985 y y 0 ≡ rounds_from (rounds_left n) y (year_in s) n
  pub few : leeway (year_in s) + n ≤ 1025984
  pub narrower : Narrower y (year_in s)
  pub is : step_in s ≡ live (year_in s)
  pub orders : InOrder (year_in s) o

module _ (y : Year) (sound : Sound y) where
  -- ---- before the first round

  pub before_first : (s : State) → step_in s ≡ live y → BeforeRound y None s 0
  before_first s e =
      let year : year_in s ≡ y = ap (λ (p : Step). p.year) e in
      record {
        from = ap (λ (x : Year). rounds_from 1025985 y x 0) (sym year);
        few = subst (λ (x : Year). leeway x + 0 ≤ 1025984) (sym year) (omega (arith, leeway_most y sound));
        narrower = subst (Narrower y) (sym year) (narrower_self y sound);
        is = e ∙ ap live (sym year);
        orders = tt;
      }

  -- ---- one round more

  module _ (o : Option Orders) (s : State) (n : ℕ) (g : BeforeRound y o s n) where
    abbrev z : Year
    z = year_in s

    pub round_few : n ≤ 1025984
    round_few = omega (arith, g.few)

    -- what a round asks
    pub credits : (a : ℕ) → a ≡ all_credits y → a ≡ all_credits z
    credits a q = q ∙ sym (credits_same y z g.narrower.courses_same g.narrower.weight_same)

    module _ (r : State) where
      -- the round finds no plan
      pub round_ended : (rule : Rule) → step_of r (Err rule) ≡ round z → filtered (NoPlan rule (n + 1)) y ≡ rounds_from 1025985 y y 0
      round_ended rule e =
          ap (λ (a : Rule). filtered (NoPlan a (n + 1)) y) (sym (named_number rule) ∙ ap (λ (p : Step). rule_named p.rule) e)
          ∙ sym (round_no_plan y z n round_few (dead_of r rule (round z) e))
          ∙ sym g.from

      -- or none
      module _ (e : step_in r ≡ round z) where
        lives : eqb (round z).rule 0 ≡ true
        lives = eq-eqb (round z).rule 0 (sym (ap (λ (p : Step). p.rule) e))

        altered_is : r.altered ≡ (round z).altered
        altered_is = ap (λ (p : Step). p.altered) e

        year_is : year_in r ≡ (round z).year
        year_is = ap (λ (p : Step). p.year) e

        pub still_narrower : Narrower y (year_in r)
        still_narrower = subst (Narrower y) (sym year_is) (narrower_then y z (round z).year g.narrower (narrows_round z g.narrower.sound).year)

        -- the year is at rest
        pub round_rests : r.altered ≡ false → filtered (at_rest (year_in r) (n + 1)) (year_in r) ≡ rounds_from 1025985 y y 0
        round_rests a =
            ap (λ (x : Year). filtered (at_rest x (n + 1)) x) year_is
            ∙ sym (round_at_rest y z n round_few lives (sym altered_is ∙ a))
            ∙ sym g.from

        -- or there is less to narrow, and the filtering goes on
        pub less_left : r.altered ≡ true → leeway (year_in r) < leeway z
        less_left a = subst (λ (x : Year). leeway x < leeway z) (sym year_is) (round_falls z g.narrower.sound (sym altered_is ∙ a))

        -- q is r with its mark cleared
        pub less_next : r.altered ≡ true → (q : State) → step_in q ≡ live (year_in r) → leeway (year_in q) < leeway z
        less_next a q f = subst (λ (x : Year). leeway x < leeway z) (sym (ap (λ (x : Step). x.year) f)) (less_left a)

        pub before_next : r.altered ≡ true → (q : State) → step_in q ≡ live (year_in r) → (p : Option Orders) → InOrder z p → BeforeRound y p q (n + 1)
        before_next a q f p i =
            let same : year_in q ≡ year_in r = ap (λ (x : Step). x.year) f in
            let w = narrows_round z g.narrower.sound in
            let at = same ∙ year_is in
            record {
              from = g.from ∙ round_alters y z n round_few lives (sym altered_is ∙ a) ∙ ap (λ (x : Year). rounds_from (rounds_left (n + 1)) y x (n + 1)) (sym at);
              few = let l = less_left a in subst (λ (x : Year). leeway x + (n + 1) ≤ 1025984) (sym same) (omega (arith, g.few, l));
              narrower = subst (Narrower y) (sym same) still_narrower;
              is = f ∙ ap live (sym same);
              orders = subst (λ (x : Year). InOrder x p) (sym at) (in_order_still z (round z).year p w.year.courses_same w.year.weight_same i);
            }
