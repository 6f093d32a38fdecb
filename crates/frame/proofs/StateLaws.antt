-- What a state and the answer of a call say of a step, and what a sound state has.
--
-- The recipe for a rule over the terms, `ensures { step_of s.new result ≡ over_terms rule (step_in s.old) }`, or `step_in s.new` where
-- the rule never finds a no plan (which is `step_of s.new (Ok tt)`):
-- * The loop's invariant is `step_in l.s ≡ over_to rule (step_in l.fn.s) l.j`. It begins by `refl`, unfolding `fold`.
-- * Within a turn the state z is sound, by `c.loop-j.s.sound`. `TermsAt` has what else is known: `terms_at` (j is one of its terms),
--   `narrower_at` (sizes and weights are those at the start), `sums_at_lem`; `all_sound` and `sums_fit` below are of any sound year.
-- * A turn's call leaves `e : step_of r v ≡ next rule (step_in z) j`, with v = `Ok tt` in the arm that goes on or where the call
--   answers nothing, and `Err _` in the other. After `s.tighten(j, w)?`, where w is told of the outcome o, `turn_told` of `ToldLaws`
--   makes it of `c.in_ok-tighten.ensures` and of `c.in_err-tighten.ensures`, and `turn_terms` has the bounds; `told_fits` is what
--   `tighten` asks of w.
-- * The turn is kept by `turn .. r (Ok tt) e`.
-- * In the `Err` arm `stop .. r _ e` is what is promised, behind `ap (step_of r) (p.1 ∙ ap Err p.2)`, where p is
--   `err_from_is_err_and c.from_residual.result c.from_residual.ensures.1`.
-- * Behind the loop the invariant is the promise: the check finds it.
--
-- Rules in a row, `ensures { step_of s.new result ≡ in_row (passes_of a b) (step_in s.old) }`: behind each `?` the step in hand is what
-- the rules so far leave, by `c.in_ok-f.ensures ∙ ap (over_terms rule) before`; the `Err` arm is as above, with `row_stop` in the place
-- of `stop`, for the rules that are left. Between them `behind` has the sizes and the weights, and `only_behind` of `BoundsOnly` the
-- lists and the sums where only bounds were altered.
use Prim.Native.Nat.{ℕ, ◌≤◌, ◌<◌}
use mathlib.Core.Bool.{false}
use mathlib.Core.Path.{◌≡◌, sym, ap, subst, ◌∙◌}
use native.Mathlib.Omega.{arith}
use native.Mathlib.Decide.{dec_lt}
use lib.Dec.{eqb}
use borrow.Author.Tests.{ne_eqb}
use Rattle.std.specs.Prelude.{Err}
use Rattle.year.specs.Year.{term_at}
use Rattle.year.specs.Sums.{sums_at, sums_in, fixed_count, open_count}
use Rattle.year.specs.Sound.{Sound, TermSound}
use Rattle.year.specs.declared.Year.{Year}
use Rattle.year.proofs.SumLaws.{counts_le, sums_read}
use Rattle.rules.specs.Step.{Step}
use Rattle.rules.specs.Narrower.{Narrower}
use Rattle.rules.proofs.Narrows.{narrower_self}
use Rattle.rules.specs.RuleNumbers.{rule_number}
use Rattle.rules.specs.Round.{in_row, passes_of}
use Rattle.rules.specs.declared.Rule.{Rule}
use Rattle.rules.proofs.Passes.{row_last, lawful_part, row_narrower}
use Rattle.rules.proofs.RuleNumberLaws.{number_within}
use Rattle.frame.specs.State.{year_in, step_in, step_of}
use Rattle.frame.specs.declared.State.{State}

-- ---- an error is a step that is the last

pub dead_of : (r : State) (a : Rule) (p : Step) → step_of r (Err a) ≡ p → eqb p.rule 0 ≡ false
dead_of r a p e = ap (λ (s : Step). eqb s.rule 0) (sym e) ∙ ne_eqb (rule_number a) 0 (omega (arith, number_within a))

-- the rules at places a to b of the round let it pass
pub row_stop : (from to : ℕ) (r : State) (a : Rule) (p : Step) → step_of r (Err a) ≡ p → step_of r (Err a) ≡ in_row (passes_of from to) p
row_stop from to r a p e = e ∙ sym (row_last (passes_of from to) (lawful_part from to) p (dead_of r a p e))

-- where they go on, the year is what it was, narrower: its sizes and weights stay, and so what they alone make
pub behind : (from to : ℕ) (s z : State) → step_in z ≡ in_row (passes_of from to) (step_in s) → Narrower (year_in s) (year_in z)
behind from to s z e =
    subst (Narrower (year_in s)) (sym (ap (λ (p : Step). p.year) e))
    (row_narrower (passes_of from to) (lawful_part from to) (year_in s) (step_in s) (narrower_self (year_in s) s.sound))

-- ---- what a sound year has at each of sixteen entries

-- bounds within the sizes
pub all_sound : (y : Year) → Sound y → (k : ℕ) → k < 16 → TermSound (term_at y k)
all_sound y s k h = go (dec_lt k y.terms)
  where
    go : Dec (k < y.terms) → TermSound (term_at y k)
    go (yes l) = s.term_sound k l
    go (no l) =
        rw (s.term_blank k (omega (arith, l)) h)
        (record { credits_ordered = omega arith; credits_most = omega arith; count_ordered = omega arith; count_most = omega arith })

-- counts of at most all courses
pub sums_fit : (y : Year) → Sound y → (k : ℕ) → k < 16 → ((sums_in y.sums k).placed.0 ≤ 64) × ((sums_in y.sums k).free.0 ≤ 64)
unfolding sums_at fixed_count open_count
sums_fit y s k h = rw (sums_read y y.sums s.sums_kept k h) (omega (arith, s, counts_le y k), omega (arith, s, counts_le y k))
