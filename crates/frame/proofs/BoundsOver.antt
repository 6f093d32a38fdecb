-- A rule on bounds over the terms, told of the bounds alone: what a loop on the terms' bounds would leave, turn by turn, how it goes on
-- and ends, and that the definition over years leaves the same bounds (`bounds_over_lem`). The code goes without such a loop: it alters
-- the bounds of a state. What ties it to the definition over years is the contract of each function that runs a rule on bounds over
-- the terms, `step_of s.new result ≡ over_terms rule (step_in s.old)`: of `over_own_sums` and `over_other_terms` (`bounds`) and of
-- `walk_rule` (`walks`). It is proved turn by turn, by `turn_told` of `ToldLaws` and by `turn` and `stop` of `TermsAt`.
use Prim.Native.Nat.{ℕ, ◌+◌, ◌≤◌, ◌<◌}
use mathlib.Core.Bool.{Bool, true, false, ◌&&◌, ◌||◌}
use mathlib.Core.List.{List}
use mathlib.Core.Path.{◌≡◌, refl, sym, ap, ◌∙◌}
use native.Mathlib.Omega.{arith}
use native.Mathlib.Nat.{le_refl}
use lib.Dec.{eqb, ltb}
use lib.ListN.{length, set, length-set}
use borrow.Author.Tests.{ltb-true}
use Rattle.theory.specs.Choice.{choose}
use Rattle.theory.specs.Fold.{fold}
use Rattle.theory.proofs.TestLaws.{and_true}
use Rattle.theory.proofs.FoldLaws.{fold_more, fold_finish, fold_keeps, fold_told}
use Rattle.year.specs.Sound.{Sound}
use Rattle.year.specs.declared.Term.{Term}
use Rattle.year.specs.declared.Year.{Year}
use Rattle.rules.specs.Step.{Step, goes, joined, then, over_to}
use Rattle.rules.proofs.Narrows.{Narrows}
use Rattle.rules.proofs.KeptOver.{AtTerms}
use Rattle.frame.specs.Bounds.{Outcome, put}
use Rattle.frame.proofs.BoundsOnly.{BoundsOnly, only_self, only_next}

-- ---- a rule on the terms' bounds alone

-- the bounds, whether one was altered, and the rule that found no plan
pub record Bounds : Type 0 where
  pub term : List Term
  pub altered : Bool
  pub rule : ℕ

-- those of a step
abbrev pub bounds_of : Step → Bounds
bounds_of p = record { term = p.year.term; altered = p.altered; rule = p.rule }

-- an outcome put at term j
abbrev pub put_at : Bounds → ℕ → Outcome → Bounds
put_at b j o = record { term = set b.term j o.term; altered = b.altered || o.altered; rule = o.rule }

-- no plan has been found so far
abbrev pub going : Bounds → Bool
going b = eqb b.rule 0

-- the rule f at term j
abbrev pub turned : (List Term → ℕ → Outcome) → Bounds → ℕ → Bounds
turned f b j = put_at b j (f b.term j)

-- and over the first n terms
abbrev pub bounds_over : (List Term → ℕ → Outcome) → Bounds → ℕ → Bounds
bounds_over f b n = fold going (turned f) b n

-- ---- the loop

pub goes_on : (j m r : ℕ) → ltb j m && eqb r 0 ≡ true → (j < m) × (eqb r 0 ≡ true)
goes_on j m r e = let p = and_true (ltb j m) (eqb r 0) e in (ltb-true j m p.0, p.1)

module _ (f : List Term → ℕ → Outcome) (b : Bounds) where
  pub over_long : (j : ℕ) → length (bounds_over f b j).term ≡ length b.term
  over_long j =
      fold_keeps going (turned f) b (λ z. length z.term ≡ length b.term) j
      (λ z k l e q. length-set z.term k (f z.term k).term ∙ q)
      refl

  -- the outcome at j is stored
  pub term_turn : (j : ℕ) (z : Bounds) (o : Outcome) → z ≡ bounds_over f b j → eqb z.rule 0 ≡ true → o ≡ f z.term j → put_at z j o ≡ bounds_over f b (j + 1)
  term_turn j z o e live q =
      let is : choose (going z) (turned f z j) z ≡ turned f z j = rw live in
      ap (put_at z j) q ∙ sym is ∙ ap (λ (x : Bounds). choose (going x) (turned f x j) x) e ∙ sym (fold_more going (turned f) b j)

  -- where the loop ends, all terms are done
  pub over_finish : (j m : ℕ) (z : Bounds) → j ≤ m → z ≡ bounds_over f b j → ltb j m && eqb z.rule 0 ≡ false → z ≡ bounds_over f b m
  over_finish j m z h e q = e ∙ fold_finish going (turned f) b j m h (ap (λ (x : Bounds). ltb j m && going x) (sym e) ∙ q)

-- ---- against the definition over years

-- f makes of the bounds what the rule makes at a term, where only bounds have been altered
module _ (f : List Term → ℕ → Outcome) (rule : Year → ℕ → Step) (narrows : AtTerms Narrows rule) (s : Step) (a : Sound s.year)
    (same : (y : Year) (j : ℕ) → BoundsOnly s.year y → j < y.terms → put y j (f y.term j) ≡ rule y j) where
  within : (z : Year) (k : ℕ) → k < s.year.terms → BoundsOnly s.year z → k < z.terms
  within z k l b = omega (arith, b.narrower.terms_same)

  further : (z : Year) (k : ℕ) → k < s.year.terms → BoundsOnly s.year z → BoundsOnly s.year (rule z k).year
  further z k l b = only_next rule narrows s.year z k (f z.term k) (same z k b (within z k l b)) b (within z k l b)

  -- only bounds are altered over the first n terms
  pub only_over : (n : ℕ) → n ≤ s.year.terms → BoundsOnly s.year (over_to rule s n).year
  only_over n h =
      fold_keeps goes (then rule) s (λ z. BoundsOnly s.year z.year) n (λ z k l e b. further z.year k (omega arith) b) (only_self s.year a)

  pub bounds_over_lem : (n : ℕ) → n ≤ s.year.terms → bounds_over f (bounds_of s) n ≡ bounds_of (over_to rule s n)
  bounds_over_lem n h =
      sym (fold_told goes (then rule) going (turned f) bounds_of (λ z. BoundsOnly s.year z.year) n
      (λ z. refl)
      (λ z k l e b. further z.year k (omega arith) b)
      (λ z k l e b. ap (λ (t : Step). bounds_of (joined z t)) (sym (same z.year k b (within z.year k (omega arith) b))))
      s (only_self s.year a) n (le_refl n))
