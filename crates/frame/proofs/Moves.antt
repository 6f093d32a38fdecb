-- The outcome at a term, from the values that the code reads, is the definition's: one move of the year, or raise and then lower.
use Prim.Native.Nat.{ℕ, ◌≤◌, ◌<◌, max, min}
use mathlib.Core.Bool.{Bool, true, false, ◌&&◌, ◌||◌}
use mathlib.Core.List.{List}
use mathlib.Core.Path.{◌≡◌, refl, sym, ap, subst, ◌∙◌}
use native.Mathlib.Omega.{arith}
use lib.ListN.{length}
use lib.Seq.{set-get_or, set-set}
use borrow.Author.Tests.{ne_eqb, ltb-false}
use Rattle.theory.specs.Choice.{choose}
use Rattle.theory.proofs.ChoiceLaws.{choose_case}
use Rattle.theory.proofs.TestLaws.{or_false}
use Rattle.year.specs.Year.{zero_term, term_at}
use Rattle.year.specs.Bound.{Tight, bound_of, tightened}
use Rattle.year.specs.Within.{within}
use Rattle.year.specs.Doors.{with_term}
use Rattle.year.specs.Sound.{TermSound}
use Rattle.year.specs.declared.Quantity.{Quantity}
use Rattle.year.specs.declared.Quantity.TheVariants.{Credits, Counts}
use Rattle.year.specs.declared.Side.{Side}
use Rattle.year.specs.declared.Side.TheVariants.{Low, High}
use Rattle.year.specs.declared.Term.{Term}
use Rattle.year.specs.declared.Year.{Year}
use Rattle.year.proofs.BoundLaws.{tight_same, at_once, at_once_lem, within_raise, within_lower}
use Rattle.year.proofs.DoorLaws.{term_same}
use Rattle.rules.specs.Step.{Change, rests, moves, crosses, fails, applied, move, raise_lower, step, dead, goes, joined, Step}
use Rattle.frame.specs.Bounds.{outcome_of, outcome, put, Outcome}

-- ---- a year with its own term, and with a term put twice

abbrev with_terms : Year → List Term → Year
with_terms y l = record { terms = y.terms; courses = y.courses; term = l; weight = y.weight; list = y.list; sums = y.sums }

pub own_term : (y : Year) (j : ℕ) → with_term y j (term_at y j) ≡ y
own_term y j = ap (with_terms y) (set-get_or y.term j zero_term)

twice : (y : Year) (j : ℕ) (t u : Term) → with_term (with_term y j t) j u ≡ with_term y j u
twice y j t u = ap (with_terms y) (set-set y.term j t u)

module _ (r : ℕ) where
  put_dead : (y : Year) (j : ℕ) → put y j (outcome_of (term_at y j) false r) ≡ dead r y
  put_dead y j = ap (λ z. step z false r) (own_term y j)

  -- ---- one move; f is what the rule itself calls no plan

  one_move : (y : Year) (j : ℕ) (s : Side) (q : Quantity) (n : ℕ) (f : Bool)
      → put y j (outcome r f (term_at y j) (tightened s q (term_at y j) n)) ≡ applied r y (choose f fails (move s q y j n))
  unfolding move outcome
  one_move y j s q n true = put_dead y j
  one_move y j s q n false = go w.crossed w.altered refl
    where
      w : Tight
      w = tightened s q (term_at y j) n

      go : (c a : Bool) → w.altered ≡ a
          → put y j (choose c (outcome_of (term_at y j) false r) (outcome_of w.term a 0)) ≡ applied r y (choose c (crosses s q j) (choose a (moves s q j n) rests))
      go true a e = put_dead y j
      go false true e = refl
      go false false e = ap (λ u. step (with_term y j u) false 0) (tight_same s q (term_at y j) n e) ∙ ap (λ z. step z false 0) (own_term y j)

  -- the code brings both bounds within the new one and the other that is there
  pub raise_move : (y : Year) (j : ℕ) (q : Quantity) (n : ℕ) (f : Bool)
      → put y j (outcome r f (term_at y j) (within q (term_at y j) n (bound_of High q (term_at y j)))) ≡ applied r y (choose f fails (move Low q y j n))
  raise_move y j q n f = ap (λ w. put y j (outcome r f (term_at y j) w)) (within_raise q (term_at y j) n) ∙ one_move y j Low q n f

  pub lower_move : (y : Year) (j : ℕ) (q : Quantity) (n : ℕ) (f : Bool)
      → put y j (outcome r f (term_at y j) (within q (term_at y j) (bound_of Low q (term_at y j)) n)) ≡ applied r y (choose f fails (move High q y j n))
  lower_move y j q n f = ap (λ w. put y j (outcome r f (term_at y j) w)) (within_lower q (term_at y j) n) ∙ one_move y j High q n f

  -- ---- raise, then lower: what is asked of the year for the second move is the same before the first and after it

  module _ (d : r ≡ 0 → ⊥) (y : Year) (j : ℕ) (l : j < length y.term) (q : Quantity) (a b : ℕ) (f : Bool) (g : Side → Year → ℕ → Change)
      (low : g Low y j ≡ move Low q y j a) (high : (t : Term) → g High (with_term y j t) j ≡ choose f fails (move High q (with_term y j t) j b)) where
    abbrev t : Term
    t = term_at y j

    abbrev v : Tight
    v = tightened Low q t a

    abbrev w : Tight
    w = tightened High q v.term b

    -- the second move
    abbrev second : Year → Step
    second z = applied r z (g High z j)

    second_is : second (with_term y j v.term) ≡ put y j (outcome r f v.term w)
    second_is =
        let z = with_term y j v.term in
        ap (applied r z) (high v.term)
        ∙ sym (one_move z j High q b f)
        ∙ ap (λ u. put z j (outcome r f u (tightened High q u b))) (term_same y j v.term l)
        ∙ ap (λ x. step x (outcome r f v.term w).altered (outcome r f v.term w).rule) (twice y j v.term (outcome r f v.term w).term)

    -- both, from what the first left
    abbrev both : Step → Step → Step
    both s u = choose (goes s && goes u) (joined s u) (dead r y)

    -- the second finds no plan, or it does not
    ended : (e : Bool) (s : Step) → goes s ≡ true
        → put y j (choose e (outcome_of t false r) (outcome_of w.term (s.altered || w.altered) 0)) ≡ both s (put y j (choose e (outcome_of v.term false r) (outcome_of w.term w.altered 0)))
    ended true s h = rw (h, ne_eqb r 0 d) (put_dead y j)
    ended false s h = rw h refl

    pub two_moves : put y j (outcome r f t (within q t a b)) ≡ raise_lower r g y j
    unfolding within outcome
    two_moves =
        go v.crossed refl
        ∙ ap (λ (s : Step). both s (second s.year)) (one_move y j Low q a false ∙ ap (applied r y) (sym low))
      where
        or_true : (x : Bool) → x || true ≡ true
        or_true true = refl
        or_true false = refl

        go : (c : Bool) → v.crossed ≡ c
            → let s = put y j (choose c (outcome_of t false r) (outcome_of v.term v.altered 0)) in
            put y j (choose (f || (c || w.crossed)) (outcome_of t false r) (outcome_of w.term (v.altered || w.altered) 0)) ≡ both s (second s.year)
        go true e = rw (or_true f, ne_eqb r 0 d) (put_dead y j)
        go false e =
            ended (f || w.crossed) (step (with_term y j v.term) v.altered 0) refl
            ∙ ap (both (step (with_term y j v.term) v.altered 0)) (sym second_is)

-- ---- the sizes

-- two moves that have not crossed leave a term within the sizes
within_sound : (q : Quantity) (t : Term) (a b : ℕ) → TermSound t → (within q t a b).crossed ≡ false → TermSound (within q t a b).term
within_sound q t a b s c = subst (λ (w : Tight). w.crossed ≡ false → TermSound w.term) (at_once_lem q t a b) (go q) c
  where
    go : (q : Quantity) → (at_once q t a b).crossed ≡ false → TermSound (at_once q t a b).term
    go Credits e = let o : max t.low.0 a ≤ min t.high.0 b = ltb-false _ _ e in omega (arith, s)
    go Counts e = let o : max t.least.0 a ≤ min t.most.0 b = ltb-false _ _ e in omega (arith, s)

pub outcome_sound : (r : ℕ) (f : Bool) (t : Term) (q : Quantity) (a b : ℕ) → TermSound t → TermSound (outcome r f t (within q t a b)).term
unfolding outcome
outcome_sound r f t q a b s =
    choose_case (λ (o : Outcome). TermSound o.term) (f || (within q t a b).crossed) (outcome_of t false r) _ (λ e. s)
    (λ e. within_sound q t a b s (or_false f (within q t a b).crossed e).1)
