-- Rules 1, 2, 4 and 5 over the terms of a state: what a turn at a term leaves. Callers cite `own_turn` and `other_turn` where the loop
-- goes on, `own_stop` and `other_stop` where it ends, and `all_kept` for what the terms share out behind rules 1 and 4.
use Prim.Native.Nat.{ℕ, ◌+◌, ◌≤◌, ◌<◌}
use mathlib.Core.Path.{◌≡◌, sym, ap, ap₂, subst, ◌∙◌}
use native.Mathlib.Omega.{arith}
use lib.ListN.{length, set}
use lib.Seq.{get_or-set_same}
use Rattle.std.specs.Prelude.{Option, Result, Ok, Err}
use Rattle.year.specs.Year.{zero_term}
use Rattle.year.specs.Sums.{all_of, sums_in}
use Rattle.year.specs.Sound.{TermSound}
use Rattle.year.specs.declared.Quantity.{Quantity}
use Rattle.year.specs.declared.Quantity.TheVariants.{Credits, Counts}
use Rattle.year.specs.declared.Term.{Term}
use Rattle.year.specs.declared.Year.{Year}
use Rattle.rules.specs.Step.{joined, over_to, over_terms}
use Rattle.rules.specs.Narrower.{Narrower}
use Rattle.rules.specs.declared.Rule.{Rule}
use Rattle.rules.proofs.KeptOver.{AtTerms}
use Rattle.rules.proofs.Narrows.{credits_same}
use Rattle.rules.proofs.Passes.{pass_terms}
use Rattle.rules.proofs.PlansKept.{Held}
use Rattle.rules.proofs.RulesHeld.{rule1_held, rule2_held, rule4_held, rule5_held}
use Rattle.frame.specs.State.{year_in, step_in, step_of}
use Rattle.frame.specs.Bounds.{put, put_told, term_in, told, Fits, Outcome}
use Rattle.frame.specs.declared.State.{State}
use Rattle.frame.proofs.StateLaws.{all_sound, sums_fit}
use Rattle.frame.proofs.TermsAt.{narrower_at, terms_at, sums_at_lem, turn, stop}
use Rattle.frame.proofs.ToldLaws.{told_fits, turn_told, turn_terms}
use Rattle.bounds.specs.AtTerm.{totals_to, totals_after, own_sums_of, other_terms_of, own_rule, other_rule}
use Rattle.bounds.specs.declared.Totals.{Totals}
use Rattle.bounds.proofs.AtTermLaws.{totals_fit, totals_set, own_sums_sound, other_terms_sound, own_faithful, other_faithful, own_sums_are, other_terms_are}

own_held : (q : Quantity) → AtTerms Held (own_rule q)
own_held Credits = rule1_held
own_held Counts = rule4_held

other_held : (q : Quantity) → AtTerms Held (other_rule q)
other_held Credits = rule2_held
other_held Counts = rule5_held

-- ---- what the terms share out

same_all : (q : Quantity) (y z : Year) → Narrower y z → all_of q z ≡ all_of q y
same_all Credits y z n = credits_same y z n.courses_same n.weight_same
same_all Counts y z n = n.courses_same

-- rule 1 or 4 left the state r
pub all_kept : (q : Quantity) (s r : State) → step_in r ≡ over_terms (own_rule q) (step_in s) → all_of q (year_in r) ≡ all_of q (year_in s)
all_kept q s r e =
    let p = pass_terms (own_rule q) (own_held q) in
    let n = (p.narrows (year_in s) s.sound).year in
    same_all q (year_in s) (year_in r) (subst (Narrower (year_in s)) (sym (λ i. ((e ∙ p.steps (step_in s)) i).year)) n)

-- ---- a turn: z is the state at term j, w what the code told of the term, and the state r and the answer v were left

module _ (q : Quantity) (s : State) (j : ℕ) (h : j < s.terms) (z : State) (inv : step_in z ≡ over_to (own_rule q) (step_in s) j) where
  pub own_here : j < z.terms
  own_here = terms_at (own_rule q) s j h z inv (λ y k a l. (own_held q y k a l).0)

  pub own_few : ((sums_in z.sums j).placed.0 ≤ 64) × ((sums_in z.sums j).free.0 ≤ 64)
  own_few = sums_fit (year_in z) z.sound j (omega (arith, own_here, z.sound))

  own_put : put (year_in z) j (own_sums_of q (term_in z.term j) (sums_in z.sums j)) ≡ own_rule q (year_in z) j
  own_put =
      ap (λ x. put (year_in z) j (own_sums_of q (term_in z.term j) x)) (sums_at_lem (own_rule q) s j h z inv (λ y k a l. (own_held q y k a l).0))
      ∙ own_sums_are (year_in z) j own_here (omega (arith, own_here, z.sound)) q

  module _ (w : Result (Option Term) Rule) (is : w ≡ told (own_sums_of q (term_in z.term j) (sums_in z.sums j))) (r : State) where
    pub own_fits : Fits w
    own_fits = told_fits _ w is (own_sums_sound q (term_in z.term j) (sums_in z.sums j) (all_sound (year_in z) z.sound j (omega (arith, own_here, z.sound))))

    pub own_turn : step_in r ≡ joined (step_in z) (put_told (year_in z) j w) → step_in r ≡ over_to (own_rule q) (step_in s) (j + 1)
    own_turn e =
        turn (own_rule q) s j h z inv r (Ok tt)
        (turn_told z j (own_sums_of q (term_in z.term j) (sums_in z.sums j)) (own_faithful q _ _) w is r (Ok tt) e (own_rule q) own_put)

    pub own_stop : (a : Rule) → step_of r (Err a) ≡ joined (step_in z) (put_told (year_in z) j w) → step_of r (Err a) ≡ over_terms (own_rule q) (step_in s)
    own_stop a e =
        stop (own_rule q) s j h z inv r a
        (turn_told z j (own_sums_of q (term_in z.term j) (sums_in z.sums j)) (own_faithful q _ _) w is r (Err a) e (own_rule q) own_put)

-- the totals are those of z
module _ (q : Quantity) (s : State) (j : ℕ) (h : j < s.terms) (z : State) (inv : step_in z ≡ over_to (other_rule q) (step_in s) j)
    (all : ℕ) (all_is : all ≡ all_of q (year_in s)) (x : Totals) (totals : x ≡ totals_to z.term s.terms) where
  narrower : Narrower (year_in s) (year_in z)
  narrower = narrower_at (other_rule q) s j h z inv (λ y k a l. (other_held q y k a l).0)

  pub other_here : j < z.terms
  other_here = omega (arith, narrower.terms_same)

  long : s.terms ≤ length z.term
  long = omega (arith, narrower.terms_same, z.sound)

  abbrev what : Outcome
  what = other_terms_of q (term_in z.term j) x all

  what_sound : TermSound what.term
  what_sound = other_terms_sound q (term_in z.term j) x all (all_sound (year_in z) z.sound j (omega (arith, other_here, z.sound)))

  -- no total is too large
  pub room : (x.low.0 ≤ 1024000) × (x.high.0 ≤ 1024000) × (x.least.0 ≤ 1024) × (x.most.0 ≤ 1024)
  room = totals_fit z.term s.terms x (λ k l. all_sound (year_in z) z.sound k (omega (arith, s.sound))) (omega (arith, s.sound)) totals

  other_put : put (year_in z) j what ≡ other_rule q (year_in z) j
  other_put =
      ap₂ (λ t a. put (year_in z) j (other_terms_of q (term_in z.term j) t a))
      (totals ∙ ap (totals_to z.term) (sym narrower.terms_same))
      (all_is ∙ sym (same_all q (year_in s) (year_in z) narrower))
      ∙ other_terms_are (year_in z) j other_here (omega (arith, other_here, z.sound)) q

  module _ (w : Result (Option Term) Rule) (is : w ≡ told what) (r : State) where
    pub other_fits : Fits w
    other_fits = told_fits what w is what_sound

    pub other_stop : (a : Rule) → step_of r (Err a) ≡ joined (step_in z) (put_told (year_in z) j w) → step_of r (Err a) ≡ over_terms (other_rule q) (step_in s)
    other_stop a e = stop (other_rule q) s j h z inv r a (turn_told z j what (other_faithful q _ _ _) w is r (Err a) e (other_rule q) other_put)

    module _ (e : step_in r ≡ joined (step_in z) (put_told (year_in z) j w)) where
      pub other_turn : step_in r ≡ over_to (other_rule q) (step_in s) (j + 1)
      other_turn = turn (other_rule q) s j h z inv r (Ok tt) (turn_told z j what (other_faithful q _ _ _) w is r (Ok tt) e (other_rule q) other_put)

      terms_left : r.term ≡ set z.term j what.term
      terms_left = turn_terms z j what (other_faithful q _ _ _) w is r (Ok tt) e

      here : term_in r.term j ≡ what.term
      here = ap (λ t. term_in t j) terms_left ∙ get_or-set_same z.term j what.term zero_term (omega (arith, long))

      pub totals_left : (v : Totals) → v ≡ totals_after x (term_in z.term j) (term_in r.term j) → v ≡ totals_to r.term s.terms
      totals_left v v_is =
          v_is
          ∙ ap (totals_after x (term_in z.term j)) here
          ∙ totals_set z.term s.terms j h long what.term x totals
          ∙ ap (λ t. totals_to t s.terms) (sym terms_left)
