-- What a move leaves: the lists, every other bound, and, where it finds no plan, neither; and the bound that it tightens, at least as tight as asked.
use Prim.Native.Nat.{ℕ, ◌<◌}
use mathlib.Core.Bool.{Bool, true, false, ◌&&◌}
use mathlib.Core.Path.{◌≡◌, refl, sym, ap, subst, ◌∙◌}
use native.Mathlib.Omega.{arith}
use borrow.Author.Tests.{eqb-true}
use Rattle.theory.specs.Choice.{choose}
use Rattle.theory.proofs.ChoiceLaws.{choose_case, choose_any}
use Rattle.year.specs.Year.{term_at}
use Rattle.year.specs.Bound.{bound_of, bound, Keeps, beyond, inner, tightened}
use Rattle.year.specs.Doors.{with_term}
use Rattle.year.specs.Sound.{Sound}
use Rattle.year.specs.declared.Quantity.{Quantity}
use Rattle.year.specs.declared.Side.{Side}
use Rattle.year.specs.declared.Side.TheVariants.{Low, High}
use Rattle.year.specs.declared.Year.{Year}
use Rattle.year.proofs.BoundLaws.{own_bound}
use Rattle.year.proofs.DoorLaws.{term_same}
use Rattle.rules.specs.Step.{Change, rests, moves, crosses, applied, move, step, live, dead, goes, joined, raise_lower, Step}
use Rattle.rules.proofs.Narrows.{keeps_then, not_beyond, Narrows}

-- what holds of a no plan and of the year with the tighter bound holds of what the move does
pub move_case : (P : Step → Type 0) (r : ℕ) (y : Year) (s : Side) (q : Quantity) (j n : ℕ) → P (dead r y) → P (live y)
    → P (step (with_term y j (tightened s q (term_at y j) n).term) true 0) → P (applied r y (move s q y j n))
unfolding move
move_case P r y s q j n d l m =
    let w = tightened s q (term_at y j) n in
    choose_case (λ c. P (applied r y c)) w.crossed (crosses s q j) (choose w.altered (moves s q j n) rests) (λ e. d)
    (λ e. choose_case (λ c. P (applied r y c)) w.altered (moves s q j n) rests (λ f. m) (λ f. l))

-- ---- the lists

pub move_lists : (r : ℕ) (y : Year) (s : Side) (q : Quantity) (j n : ℕ) → (applied r y (move s q y j n)).year.list ≡ y.list
move_lists r y s q j n = move_case (λ (t : Step). t.year.list ≡ y.list) r y s q j n refl refl refl

pub both_lists : (r : ℕ) (g : Side → Year → ℕ → Change) (y : Year) (j : ℕ) → ((s : Side) (z : Year) → (applied r z (g s z j)).year.list ≡ z.list)
    → (raise_lower r g y j).year.list ≡ y.list
both_lists r g y j h =
    let s : Step = applied r y (g Low y j) in
    let t : Step = applied r s.year (g High s.year j) in
    choose_any (λ (u : Step). u.year.list ≡ y.list) (goes s && goes t) (joined s t) (dead r y) (h High s.year ∙ h Low y) refl

-- ---- the bound

inner_keeps : (s : Side) (n x : ℕ) → Keeps s n (inner s n x)
inner_keeps Low n x = omega arith
inner_keeps High n x = omega arith

pub move_keeps : (r : ℕ) (y : Year) (s : Side) (q : Quantity) (j n : ℕ) → Sound y → j < y.terms → (r ≡ 0 → ⊥)
    → (applied r y (move s q y j n)).rule ≡ 0 → Keeps s n (bound s q (applied r y (move s q y j n)).year j)
unfolding move tightened
move_keeps r y s q j n sound l d = go (tightened s q (term_at y j) n).crossed (beyond s n (bound s q y j)) refl
  where
    go : (a b : Bool) → beyond s n (bound s q y j) ≡ b → let c = choose a (crosses s q j) (choose b (moves s q j n) rests) in
        (applied r y c).rule ≡ 0 → Keeps s n (bound s q (applied r y c).year j)
    go true b e z = absurd (d z)
    go false true e z =
        subst (Keeps s n) (sym (ap (bound_of s q) (term_same y j _ (omega (arith, sound))) ∙ own_bound s q (term_at y j) _)) (inner_keeps s n (bound s q y j))
    go false false e z = not_beyond s n (bound s q y j) e

-- ---- raise, then lower

both_go : (r : ℕ) (y : Year) (s t : Step) → (r ≡ 0 → ⊥) → (a b : Bool) → goes s ≡ a → goes t ≡ b → (choose (a && b) (joined s t) (dead r y)).rule ≡ 0
    → (s.rule ≡ 0) × (t.rule ≡ 0) × ((choose (a && b) (joined s t) (dead r y)).year ≡ t.year)
both_go r y s t d true true e f z = (eqb-true s.rule 0 e, eqb-true t.rule 0 f, refl)
both_go r y s t d true false e f z = absurd (d z)
both_go r y s t d false b e f z = absurd (d z)

-- both bounds are then as tight as asked
pub both_keep : (r : ℕ) (g : Side → Year → ℕ → Change) (y : Year) (j : ℕ) (q : Quantity) (a : ℕ) (b : Year → ℕ) → (r ≡ 0 → ⊥) → Sound y → j < y.terms
    → g Low y j ≡ move Low q y j a → ((z : Year) → g High z j ≡ move High q z j (b z)) → Narrows y (applied r y (g Low y j))
    → ((z : Year) → Sound z → j < z.terms → Narrows z (applied r z (g High z j))) → (raise_lower r g y j).rule ≡ 0
    → let z = (raise_lower r g y j).year in Keeps Low a (bound Low q z j) × Keeps High (b (applied r y (g Low y j)).year) (bound High q z j)
both_keep r g y j q a b d sound l low high first second z =
    let s : Step = applied r y (g Low y j) in
    let t : Step = applied r s.year (g High s.year j) in
    let e = both_go r y s t d _ _ refl refl z in
    let k = first.year in
    let m : j < s.year.terms = omega (arith, k.terms_same) in
    let raised = subst (λ c. (applied r y c).rule ≡ 0 → Keeps Low a (bound Low q (applied r y c).year j)) (sym low) (move_keeps r y Low q j a sound l d) e.0 in
    let lowered =
    subst (λ c. (applied r s.year c).rule ≡ 0 → Keeps High (b s.year) (bound High q (applied r s.year c).year j)) (sym (high s.year))
    (move_keeps r s.year High q j (b s.year) k.sound m d) e.1 in
    let kept = (second s.year k.sound m).year.bounds Low q j in (
      subst (λ (x : Year). Keeps Low a (bound Low q x j)) (sym e.2) (keeps_then Low _ _ _ raised kept),
      subst (λ (x : Year). Keeps High (b s.year) (bound High q x j)) (sym e.2) lowered,
    )
