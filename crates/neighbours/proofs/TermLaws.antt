-- What is said of a whole term: out of what is said of its open courses, and where none of these is heavy.
use Prim.Native.Nat.{ℕ, ◌+◌, ◌-◌, ◌≤◌, ◌<◌}
use mathlib.Core.Bool.{Bool, true, false, true≢false}
use mathlib.Core.List.{List}
use mathlib.Core.Path.{◌≡◌, sym, ap, ap₂, ◌∙◌}
use native.Mathlib.Decide.{dec_lt}
use native.Mathlib.Omega.{arith}
use borrow.Author.Tests.{le-ltb, ne_eqb}
use Rattle.std.specs.Prelude.{Result, Ok, Err}
use Rattle.theory.specs.Neighbours.{fires}
use Rattle.theory.proofs.OrderLaws.{lighter_rises}
use Rattle.year.specs.declared.Term.{Term}
use Rattle.year.specs.declared.Year.{Year}
use Rattle.rules.specs.declared.Rule.{Rule}
use Rattle.orders.specs.Orders.{last_weight}
use Rattle.neighbours.specs.Opened.{at, open_in}
use Rattle.neighbours.specs.Verdicts.{rising_in, set_in, verdict_in, cannot_in, Columns, RightIn, Right}
use Rattle.neighbours.specs.declared.Says.{Says}
use Rattle.neighbours.specs.declared.Says.TheVariants.{Nothing, Courses}
use Rattle.neighbours.proofs.ColumnLaws.{stands, calm_says, light_calm}

module _ (y : Year) (c : Columns y.weight y.list y.courses) (j : ℕ) where
  abbrev weight : List ℕ
  weight = y.weight

  abbrev list : List ℕ
  list = y.list

  abbrev n : ℕ
  n = y.courses

  -- with no open course from a place on, none is heavier than the course before that place, as the order rises
  pub last_heaviest : (order : List ℕ) → order ≡ rising_in weight n
      → (last : ℕ) → last ≤ n → ((t : ℕ) → last ≤ t → t < n → open_in weight list j (at order t) ≡ false)
      → (i : ℕ) → i < n → open_in weight list j i ≡ true → at weight i ≤ last_weight weight order last
  last_heaviest order rises last few none i l e =
      let a = stands weight list n c i l in
      go a.0 a.1 (ap (λ o. at o a.0) rises ∙ a.2) (dec_lt a.0 last)
    where
      go : (r : ℕ) → r < n → at order r ≡ i → Dec (r < last) → at weight i ≤ last_weight weight order last
      go r m is (yes d) =
          rw (ne_eqb last 0 (λ z. omega arith))
          (omega (
            arith,
            ap (at weight) is,
            ap (λ o. at weight (at o r)) rises,
            ap (λ o. at weight (at o (last - 1))) rises,
            lighter_rises (at weight) n c.few r (last - 1) (omega arith) (omega arith),
          ))
      go r m is (no d) = absurd (true≢false (sym e ∙ ap (open_in weight list j) (sym is) ∙ none r (omega (arith, d)) m))

  -- the range is what the term still needs and takes, as it takes what is fixed
  module _ (t : Term) (p a b : ℕ) (fits : p ≤ t.high.0) (least : a ≡ t.low.0 - p) (most : b ≡ t.high.0 - p) where
    cannot_is : (v : Bool) → fires (at weight) (set_in weight list n j) a b ≡ v → cannot_in weight list n j t p ≡ v
    cannot_is v e =
        rw (le-ltb t.high.0 p fits) (ap₂ (fires (at weight) (set_in weight list n j)) (sym least) (sym most) ∙ e)

    pub right_of : (r : Result Says Rule) → RightIn y j a b r → Right y j t p r
    right_of (Ok Nothing) h =
        (cannot_is false h.0, λ i l. ap₂ (λ p q. verdict_in weight list n j p q i) (sym least) (sym most) ∙ h.1 i l)
    right_of (Ok Courses) h = cannot_is false h
    right_of (Err r) h = (cannot_is true h.0, h.1)

    -- no open course is heavier than what the term still takes, nor than the range is wide
    pub light_says : (top : ℕ) → ((i : ℕ) → i < n → open_in weight list j i ≡ true → at weight i ≤ top) → a ≤ b → top ≤ b → top ≤ b - a + 1
        → Right y j t p (Ok Nothing)
    light_says top light range taken narrow =
        right_of (Ok Nothing)
        (calm_says weight list n c j (b - a + 1) a b (light_calm weight list n c j top (b - a + 1) b light narrow taken) (omega arith) (omega arith))
