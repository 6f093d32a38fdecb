-- What the code tells of an outcome, and a turn of a rule on bounds by it. Callers cite `told_fits` for what `State::tighten` asks,
-- `within_faithful` of their outcome, and `turn_told` and `turn_terms` for what it leaves.
use Prim.Native.Nat.{ℕ}
use mathlib.Core.Bool.{Bool, true, false, ◌||◌, true≢false}
use mathlib.Core.Path.{◌≡◌, refl, sym, ap, subst, ◌∙◌}
use native.Mathlib.Omega.{arith}
use lib.Dec.{eqb}
use lib.ListN.{set}
use borrow.Author.Tests.{ne_eqb, eqb-true}
use Rattle.std.specs.Prelude.{Option, Some, None, Result, Ok, Err, MatchResult, IsErrAnd}
use Rattle.std.proofs.lemmas.Result.{err_from_is_err_and}
use Rattle.theory.specs.Choice.{choose}
use Rattle.theory.proofs.ChoiceLaws.{choose_case}
use Rattle.theory.proofs.TestLaws.{or_false}
use Rattle.year.specs.Year.{term_at}
use Rattle.year.specs.Bound.{Tight, tightened, moved_of}
use Rattle.year.specs.Within.{within}
use Rattle.year.specs.Doors.{with_term}
use Rattle.year.specs.Sound.{TermSound}
use Rattle.year.specs.declared.Crossed.{Crossed}
use Rattle.year.specs.declared.Quantity.{Quantity}
use Rattle.year.specs.declared.Side.TheVariants.{Low, High}
use Rattle.year.specs.declared.Term.{Term}
use Rattle.year.specs.declared.Year.{Year}
use Rattle.year.proofs.BoundLaws.{tight_same}
use Rattle.rules.specs.Step.{Step, step, live, dead, joined, next}
use Rattle.rules.specs.RuleNumbers.{rule_number, rule_named}
use Rattle.rules.specs.declared.Rule.{Rule}
use Rattle.rules.proofs.RuleNumberLaws.{named_number, number_within}
use Rattle.frame.specs.State.{year_in, step_in, step_of}
use Rattle.frame.specs.Bounds.{Outcome, outcome_of, outcome, put, told, put_told, Fits}
use Rattle.frame.specs.declared.State.{State}
use Rattle.frame.proofs.Moves.{own_term}

-- ---- what is told of a term

-- no plan, by rule r
pub told_dead : (r : Rule) (t : Term) → Err r ≡ told (outcome_of t false (rule_number r))
told_dead r t = rw (ne_eqb (rule_number r) 0 (omega (arith, number_within r)), named_number r) refl

-- the rule r that the code tells of the bounds that w tells, unless it finds no plan itself
abbrev pub named_by : Rule → Result (Option Term) Crossed → Result (Option Term) Rule
named_by r (Ok m) = Ok m
named_by r (Err c) = Err r

-- it is w with its error under the rule
pub named_map : (r : Rule) (w : Result (Option Term) Crossed) (m : Result (Option Term) Rule) (P : Crossed → Rule → Type 0)
    → MatchResult w (λ x. m ≡ Ok x) (λ e. IsErrAnd m (P e)) → ((e : Crossed) (d : Rule) → P e d → d ≡ r) → m ≡ named_by r w
named_map r (Ok x) m P h k = h
named_map r (Err e) m P h k = let p = err_from_is_err_and m h in p.1 ∙ ap Err (k e p.0 p.2)

pub told_moved : (r : Rule) (t : Term) (x : Tight) → named_by r (moved_of x) ≡ told (outcome (rule_number r) false t x)
unfolding outcome
told_moved r t x = go x.crossed x.altered
  where
    go : (c a : Bool) → named_by r (choose c (Err (record {})) (Ok (choose a (Some x.term) None))) ≡ told (choose c (outcome_of t false (rule_number r)) (outcome_of x.term a 0))
    go true a = told_dead r t
    go false a = refl

-- bounds within the sizes
pub told_fits : (o : Outcome) (w : Result (Option Term) Rule) → w ≡ told o → TermSound o.term → Fits w
told_fits o w is s = subst Fits (sym is) (go (eqb o.rule 0) o.altered)
  where
    go : (b a : Bool) → Fits (choose b (Ok (choose a (Some o.term) None)) (Err (rule_named o.rule)))
    go true true = s
    go true false = tt
    go false a = tt

-- an outcome at term t: what was not altered is as it was, and a no plan alters nothing and has the number of a rule
pub record Faithful (t : Term) (o : Outcome) : Type 0 where
  pub same : o.altered ≡ false → o.term ≡ t
  pub dead_same : eqb o.rule 0 ≡ false → o.altered ≡ false
  pub numbered : eqb o.rule 0 ≡ false → rule_number (rule_named o.rule) ≡ o.rule

pub outcome_faithful : (r : ℕ) → rule_number (rule_named r) ≡ r → (f : Bool) (t : Term) (w : Tight) → (w.altered ≡ false → w.term ≡ t) → Faithful t (outcome r f t w)
unfolding outcome
outcome_faithful r n f t w same =
    choose_case (Faithful t) (f || w.crossed) (outcome_of t false r) (outcome_of w.term w.altered 0)
    (λ e. record { same = λ a. refl; dead_same = λ a. refl; numbered = λ a. n })
    (λ e. record { same = same; dead_same = λ a. absurd (true≢false a); numbered = λ a. absurd (true≢false a) })

-- so is what two moves make of it
within_same : (q : Quantity) (t : Term) (a b : ℕ) → (within q t a b).altered ≡ false → (within q t a b).term ≡ t
unfolding within
within_same q t a b h =
    let v = tightened Low q t a in
    let k = or_false v.altered (tightened High q v.term b).altered h in
    tight_same High q v.term b k.1 ∙ tight_same Low q t a k.0

-- r is the number of a rule: `refl` where it is written out
pub within_faithful : (r : ℕ) → rule_number (rule_named r) ≡ r → (f : Bool) (q : Quantity) (t : Term) (a b : ℕ) → Faithful t (outcome r f t (within q t a b))
within_faithful r n f q t a b = outcome_faithful r n f t (within q t a b) (within_same q t a b)

-- what is told makes the outcome's step
pub told_put : (y : Year) (j : ℕ) (o : Outcome) → Faithful (term_at y j) o → put_told y j (told o) ≡ put y j o
told_put y j o f = go (eqb o.rule 0) o.altered refl refl
  where
    rest : o.altered ≡ false → live y ≡ step (with_term y j o.term) o.altered 0
    rest a = sym (ap (λ z. step z false 0) (ap (with_term y j) (f.same a) ∙ own_term y j)) ∙ ap (λ b. step (with_term y j o.term) b 0) (sym a)

    go : (x a : Bool) → eqb o.rule 0 ≡ x → o.altered ≡ a → put_told y j (choose x (Ok (choose a (Some o.term) None)) (Err (rule_named o.rule))) ≡ put y j o
    go true true x a = λ i. step (with_term y j o.term) (sym a i) (sym (eqb-true o.rule 0 x) i)
    go true false x a = rest a ∙ ap (step (with_term y j o.term) o.altered) (sym (eqb-true o.rule 0 x))
    go false a x e =
        ap (λ n. dead n y) (f.numbered x)
        ∙ ap (λ (s : Step). step s.year s.altered o.rule) (rest (f.dead_same x))

-- ---- a turn: z tightened its term j by w, which is told of o, and the state r and the answer v were left

module _ (z : State) (j : ℕ) (o : Outcome) (f : Faithful (term_at (year_in z) j) o) (w : Result (Option Term) Rule) (is : w ≡ told o) (r : State) (v : Result (Unit {0}) Rule)
    (e : step_of r v ≡ joined (step_in z) (put_told (year_in z) j w)) where
  put_left : step_of r v ≡ joined (step_in z) (put (year_in z) j o)
  put_left = e ∙ ap (λ u. joined (step_in z) (put_told (year_in z) j u)) is ∙ ap (joined (step_in z)) (told_put (year_in z) j o f)

  -- one of the rule, if the outcome is what the rule makes of the term
  pub turn_told : (rule : Year → ℕ → Step) → put (year_in z) j o ≡ rule (year_in z) j → step_of r v ≡ next rule (step_in z) j
  turn_told rule same = put_left ∙ ap (joined (step_in z)) same

  -- the bounds that are left
  pub turn_terms : r.term ≡ set z.term j o.term
  turn_terms = year_of_left v ∙ ap (λ (s : Step). s.year.term) put_left
    where
      year_of_left : (v : Result (Unit {0}) Rule) → r.term ≡ (step_of r v).year.term
      year_of_left (Ok u) = refl
      year_of_left (Err a) = refl
