-- A round that finds no fault and leaves the year it was given: every pass leaves that year, and so does every rule at every term.
use Prim.Native.Nat.{ℕ, zero, suc, ◌≤◌, ◌<◌}
use mathlib.Core.Bool.{Bool, true, false, ◌&&◌}
use mathlib.Core.List.{List, [], ◌∷◌}
use mathlib.Core.Path.{◌≡◌, refl, sym, ap, ◌∙◌}
use native.Mathlib.Omega.{arith}
use native.Mathlib.Nat.{le_refl}
use native.Mathlib.Decide.{ℕ_discrete}
use lib.Dec.{eqb}
use borrow.Author.Tests.{eqb-true}
use Rattle.theory.specs.Fold.{fold}
use Rattle.theory.specs.Choice.{choose}
use Rattle.theory.proofs.TestLaws.{or_false}
use Rattle.year.specs.Year.{term_at}
use Rattle.year.specs.Bound.{bound, beyond, tightened}
use Rattle.year.specs.Sound.{Sound}
use Rattle.year.specs.declared.Quantity.{Quantity}
use Rattle.year.specs.declared.Side.{Side}
use Rattle.year.specs.declared.Side.TheVariants.{Low, High}
use Rattle.year.specs.declared.Year.{Year}
use Rattle.rules.specs.Step.{Change, rests, moves, crosses, applied, move, raise_lower, step, live, dead, goes, next, over_to, over_terms, Step, joined}
use Rattle.rules.specs.Round.{passes, in_row, round}
use Rattle.rules.proofs.Narrows.{Narrows, narrows_rest, narrows_over, next_dead}
use Rattle.rules.proofs.KeptOver.{AtTerms}
use Rattle.rules.proofs.Passes.{Pass, Each, lawful, pass_narrows, round_quiet}

-- ---- steps that leave the year

-- a step that did nothing
live_of : (y : Year) (s : Step) → s.year ≡ y → s.altered ≡ false → s.rule ≡ 0 → s ≡ live y
live_of y s p q r = λ i. step (p i) (q i) (r i)

-- if one step more has done nothing, it and those before it have done nothing
next_rest : (f : Year → ℕ → Step) (y : Year) (s : Step) (k : ℕ) → Narrows y s → next f s k ≡ live y → (s ≡ live y) × (f y k ≡ live y)
next_rest f y s k w h = let q = go (eqb s.rule 0) refl in (q, sym (ap (λ t. next f t k) q) ∙ h)
  where
    go : (b : Bool) → eqb s.rule 0 ≡ b → s ≡ live y
    go true e =
        let is : next f s k ≡ joined s (f s.year k) = rw e refl in
        let a = (or_false s.altered (f s.year k).altered (ap (λ (t : Step). t.altered) (sym is ∙ h))).0 in
        live_of y s (w.still a) a (eqb-true s.rule 0 e)
    go false e = sym (next_dead f s k e) ∙ h

over_rest : (f : Year → ℕ → Step) (y : Year) → Sound y → AtTerms Narrows f → (n : ℕ) → n ≤ y.terms → over_to f (live y) n ≡ live y → (k : ℕ) → k < n → f y k ≡ live y
unfolding fold
over_rest f y s law zero m h k l = absurd (omega arith)
over_rest f y s law (suc n) m h k l =
    let w = narrows_over f y.terms y (live y) (λ z j a b c l. law z j a (omega arith)) (narrows_rest y 0 s) n (omega arith) in
    let r = next_rest f y (over_to f (live y) n) n w h in
    go (ℕ_discrete k n) r.1 (λ l. over_rest f y s law n (omega arith) r.0 k l)
  where
    go : Dec (k ≡ n) → f y n ≡ live y → (k < n → f y k ≡ live y) → f y k ≡ live y
    go (yes q) e ih = ap (f y) q ∙ e
    go (no d) e ih = ih (omega arith)

-- a rule over the terms
pub terms_rest : (f : Year → ℕ → Step) (y : Year) → Sound y → AtTerms Narrows f → over_terms f (live y) ≡ live y → (k : ℕ) → k < y.terms → f y k ≡ live y
terms_rest f y s law = over_rest f y s law y.terms (le_refl y.terms)

-- ---- passes in a row

abbrev pub Leaves : Year → (Step → Step) → Type 0
Leaves y p = p (live y) ≡ live y

row_rest : (ps : List (Step → Step)) → Each Pass ps → (y : Year) (s : Step) → Narrows y s → in_row ps s ≡ live y → (s ≡ live y) × Each (Leaves y) ps
row_rest [] l y s w h = (h, tt)
row_rest (p ∷ ps) l y s w h =
    let r = row_rest ps l.1 y (p s) (pass_narrows p l.0 s y w) h in
    let q = next_rest (λ z k. p (live z)) y s 0 w (sym (l.0.steps s) ∙ r.0) in
    (q.0, (q.1, r.1))

pub round_rest : (y : Year) → Sound y → (round y).rule ≡ 0 → (round y).year ≡ y → Each (Leaves y) passes
unfolding round
round_rest y s r q = (row_rest passes lawful y (live y) (narrows_rest y 0 s) (live_of y (round y) q ((round_quiet y s).1 q) r)).1

-- ---- a rule that raises and lowers and leaves the year: each of its changes does nothing

rest_both : (r : ℕ) (y : Year) (s t : Step) → (r ≡ 0 → ⊥) → Narrows y s → (a b : Bool) → goes s ≡ a → goes t ≡ b → choose (a && b) (joined s t) (dead r y) ≡ live y
    → (s ≡ live y) × (t ≡ live y)
rest_both r y s t d w true true e g h =
    let m = or_false s.altered t.altered (ap (λ (z : Step). z.altered) h) in (
      live_of y s (w.still m.0) m.0 (eqb-true s.rule 0 e),
      live_of y t (ap (λ (z : Step). z.year) h) m.1 (eqb-true t.rule 0 g),
    )
rest_both r y s t d w true false e g h = absurd (d (ap (λ (z : Step). z.rule) h))
rest_both r y s t d w false b e g h = absurd (d (ap (λ (z : Step). z.rule) h))

pub both_rest : (r : ℕ) (f : Side → Year → ℕ → Change) (y : Year) (j : ℕ) → (r ≡ 0 → ⊥) → Narrows y (applied r y (f Low y j)) → raise_lower r f y j ≡ live y
    → (applied r y (f Low y j) ≡ live y) × (applied r y (f High y j) ≡ live y)
both_rest r f y j d w h =
    let s : Step = applied r y (f Low y j) in
    let q = rest_both r y s (applied r s.year (f High s.year j)) d w _ _ refl refl h in
    (q.0, sym (ap (λ (z : Step). applied r z.year (f High z.year j)) q.0) ∙ q.1)

-- a move that does nothing finds no looser bound
pub move_rest : (r : ℕ) (s : Side) (q : Quantity) (y : Year) (j n : ℕ) → (r ≡ 0 → ⊥) → applied r y (move s q y j n) ≡ live y → beyond s n (bound s q y j) ≡ false
unfolding move tightened
move_rest r s q y j n d = go (tightened s q (term_at y j) n).crossed (beyond s n (bound s q y j))
  where
    go : (a b : Bool) → applied r y (choose a (crosses s q j) (choose b (moves s q j n) rests)) ≡ live y → b ≡ false
    go true b h = absurd (d (ap (λ (z : Step). z.rule) h))
    go false true h = ap (λ (z : Step). z.altered) h
    go false false h = refl
