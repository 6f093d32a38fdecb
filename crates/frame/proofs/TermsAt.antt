-- A rule over the terms of a state, as a loop of code goes through them: what is known of the state z at term j, and what a turn
-- leaves. The recipe is at the head of `StateLaws`; callers cite `terms_at`, `narrower_at`, `sums_at_lem`, `turn` and `stop`.
use Prim.Native.Nat.{ℕ, ◌+◌, ◌<◌}
use mathlib.Core.Bool.{Bool, true, false}
use mathlib.Core.Path.{◌≡◌, refl, sym, ap, subst, ◌∙◌}
use native.Mathlib.Omega.{arith}
use lib.Dec.{eqb}
use lib.ListN.{get_or}
use borrow.Author.Tests.{eqb-true}
use Rattle.std.specs.Prelude.{Result, Err}
use Rattle.theory.proofs.FoldLaws.{fold_more, fold_stopped, fold_none}
use Rattle.year.specs.Sums.{sums_at, no_sums}
use Rattle.year.specs.declared.Year.{Year}
use Rattle.year.proofs.SumLaws.{sums_read}
use Rattle.rules.specs.Step.{Step, live, goes, then, next, over_to, over_terms}
use Rattle.rules.specs.Narrower.{Narrower}
use Rattle.rules.proofs.Narrows.{Narrows, narrows_rest, narrows_over}
use Rattle.rules.proofs.KeptOver.{AtTerms}
use Rattle.rules.proofs.Passes.{over_joined}
use Rattle.rules.specs.declared.Rule.{Rule}
use Rattle.frame.specs.State.{year_in, step_in, step_of}
use Rattle.frame.specs.declared.State.{State}
use Rattle.frame.proofs.StateLaws.{dead_of}

-- ---- where no plan was found

module _ (rule : Year → ℕ → Step) (s : Step) where
  -- where none is found up to term j, none was before the first
  pub went_on : (j : ℕ) → (over_to rule s j).rule ≡ 0 → s.rule ≡ 0
  went_on j e = go (eqb s.rule 0) refl
    where
      go : (b : Bool) → eqb s.rule 0 ≡ b → s.rule ≡ 0
      go true q = eqb-true s.rule 0 q
      go false q = ap (λ (x : Step). x.rule) (sym (fold_none goes (then rule) s q j)) ∙ e

-- ---- z is the state at term j, from s on

module _ (rule : Year → ℕ → Step) (s : State) (j : ℕ) (h : j < s.terms) (z : State) (inv : step_in z ≡ over_to rule (step_in s) j) where
  -- ---- what is known of it, of a rule that narrows

  module _ (narrows : AtTerms Narrows rule) where
    -- from s, with no mark from before: a mark then says that there is less to narrow
    pub narrows_at : Narrows (year_in s) (over_to rule (live (year_in s)) j)
    narrows_at = narrows_over rule s.terms (year_in s) (live (year_in s)) (λ y k a b c m. narrows y k a (omega arith)) (narrows_rest (year_in s) 0 s.sound) j (omega arith)

    pub year_at : year_in z ≡ (over_to rule (live (year_in s)) j).year
    year_at = ap (λ (x : Step). x.year) (inv ∙ over_joined rule (step_in s) refl j)

    -- the year is that of s, narrower
    pub narrower_at : Narrower (year_in s) (year_in z)
    narrower_at = subst (Narrower (year_in s)) (sym year_at) narrows_at.year

    pub terms_at : j < z.terms
    terms_at = omega (arith, narrower_at.terms_same)

    pub sums_at_lem : get_or z.sums j no_sums ≡ sums_at (year_in z) j
    sums_at_lem = sums_read (year_in z) z.sums z.sound.sums_kept j (omega (arith, s.sound))

  -- ---- one term more: a call left the state r, with the answer v

  more : next rule (step_in z) j ≡ over_to rule (step_in s) (j + 1)
  more = ap (λ x. next rule x j) inv ∙ sym (fold_more goes (then rule) (step_in s) j)

  pub turn : (r : State) (v : Result (Unit {0}) Rule) → step_of r v ≡ next rule (step_in z) j → step_of r v ≡ over_to rule (step_in s) (j + 1)
  turn r v e = e ∙ more

  -- it found no plan, and the loop is left with what all terms leave
  pub stop : (r : State) (a : Rule) → step_of r (Err a) ≡ next rule (step_in z) j → step_of r (Err a) ≡ over_terms rule (step_in s)
  stop r a e =
      let t = turn r (Err a) e in
      t ∙ sym (fold_stopped goes (then rule) (step_in s) (j + 1) (dead_of r a (over_to rule (step_in s) (j + 1)) t) s.terms (omega arith))
