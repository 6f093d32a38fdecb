-- The facts found by place are the facts of the basis, each at its own place.
use Prim.Native.Nat.{ℕ, ◌<◌}
use mathlib.Core.Bool.{Bool, true, false, ◌&&◌, not, true≢false}
use mathlib.Core.Path.{◌≡◌, refl, sym, ap, ◌∙◌}
use Rattle.theory.specs.Choice.{choose}
use Rattle.theory.proofs.ChoiceLaws.{choose_case}
use Rattle.theory.proofs.TestLaws.{and_true, and_of}
use Rattle.year.specs.Year.{course_at, lists, is_fixed}
use Rattle.year.specs.Bound.{bound}
use Rattle.year.specs.declared.Quantity.{Quantity}
use Rattle.year.specs.declared.Side.{Side}
use Rattle.year.specs.declared.Year.{Year}
use Rattle.rules.specs.Facts.{Fact, inside, outside, keeps, Basis, Rests}
use Rattle.rules.specs.FactAt.{nothing, just, pair_at, bound_at, found_at, Right}
use Rattle.rules.proofs.PlanSums.{fixed_listed}

pub not_true : (x : Bool) → not x ≡ true → x ≡ false
not_true true e = absurd (true≢false (sym e))
not_true false e = refl

module _ (y : Year) (b : Basis) where
  pub pair_right : (i k : ℕ) → i < y.courses → k < y.terms → Right y b (pair_at y b i k)
  pair_right i k h l =
      choose_case (Right y b) (b.fixed k && is_fixed (course_at y i) k) (just (inside i k)) (choose (b.unlisted k && not (lists (course_at y i) k)) (just (outside i k)) nothing)
      (λ e. let a = and_true (b.fixed k) (is_fixed (course_at y i) k) e in (a.0, (h, l, a.1)))
      (λ e.
      choose_case (Right y b) (b.unlisted k && not (lists (course_at y i) k)) (just (outside i k)) nothing
      (λ f. let a = and_true (b.unlisted k) (not (lists (course_at y i) k)) f in (a.0, (h, l, not_true (lists (course_at y i) k) a.1)))
      (λ f. tt))

  pub bound_right : (k : ℕ) (s : Side) (q : Quantity) → k < y.terms → Right y b (bound_at y b k s q)
  bound_right k s q l = choose_case (Right y b) (b.bounds s q k) (just (keeps s q k (bound s q y k))) nothing (λ e. (e, (l, refl))) (λ e. tt)

  -- and every fact of the basis is found at its place
  inside_found : (i k : ℕ) → Rests y b (inside i k) → pair_at y b i k ≡ just (inside i k)
  inside_found i k h = rw (and_of (b.fixed k) (is_fixed (course_at y i) k) h.0 h.1.2) refl

  outside_found : (i k : ℕ) → Rests y b (outside i k) → pair_at y b i k ≡ just (outside i k)
  outside_found i k h = rw (free (is_fixed (course_at y i) k) refl, h.0, h.1.2) (none (b.fixed k))
    where
      free : (f : Bool) → is_fixed (course_at y i) k ≡ f → is_fixed (course_at y i) k ≡ false
      free true e = absurd (true≢false (sym (fixed_listed (course_at y i) k e) ∙ h.1.2))
      free false e = e

      none : (f : Bool) → choose (f && false) (just (inside i k)) (just (outside i k)) ≡ just (outside i k)
      none true = refl
      none false = refl

  bound_found : (k : ℕ) (s : Side) (q : Quantity) (n : ℕ) → Rests y b (keeps s q k n) → bound_at y b k s q ≡ just (keeps s q k n)
  bound_found k s q n h = rw h.0 (ap (λ (m : ℕ). just (keeps s q k m)) h.1.1)

  pub all_found : (f : Fact) → Rests y b f → found_at y b f ≡ just f
  all_found (inside i k) h = inside_found i k h
  all_found (outside i k) h = outside_found i k h
  all_found (keeps s q k n) h = bound_found k s q n h
