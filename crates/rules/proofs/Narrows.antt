-- What every step of a rule leaves: a sound year of the same terms, courses and weights, no bound looser and no list longer,
-- and less to narrow where it altered something. What holds of each step holds of steps in a row.
use Prim.Native.Nat.{ℕ, ◌+◌, ◌≤◌, ◌<◌}
use mathlib.Core.Bool.{Bool, true, false, ◌||◌}
use mathlib.Core.Logic.{◌↔◌}
use mathlib.Core.List.{List}
use mathlib.Core.Path.{◌≡◌, refl, ap, ap₂, ◌∙◌}
use native.Mathlib.Omega.{arith}
use native.Mathlib.Nat.{le_refl, le_trans}
use lib.Dec.{eqb}
use lib.ListN.{get_or}
use borrow.Author.Tests.{ltb-false}
use Rattle.theory.proofs.ChoiceLaws.{choose_case}
use Rattle.theory.specs.Sum.{pick, sum}
use Rattle.theory.proofs.TestLaws.{or_false}
use Rattle.theory.proofs.FoldLaws.{fold_keeps}
use Rattle.theory.specs.Order.{heavier, lighter, order}
use Rattle.year.specs.Bound.{bound, Keeps, beyond}
use Rattle.year.specs.Sums.{all_credits}
use Rattle.year.specs.Plans.{Placing, amount, put_in}
use Rattle.year.specs.Sound.{Sound}
use Rattle.year.specs.declared.Quantity.{Quantity}
use Rattle.year.specs.declared.Side.{Side}
use Rattle.year.specs.declared.Side.TheVariants.{Low, High}
use Rattle.year.specs.declared.Year.{Year}
use Rattle.rules.specs.Narrower.{Narrower}
use Rattle.rules.specs.Step.{Step, dead, goes, joined, then, next, over_to}
use Rattle.rules.specs.Spares.{down, up}
use Rattle.rules.proofs.Leeway.{leeway}

pub keeps_self : (s : Side) (n : ℕ) → Keeps s n n
keeps_self Low n = le_refl n
keeps_self High n = le_refl n

pub keeps_then : (s : Side) (a b c : ℕ) → Keeps s a b → Keeps s b c → Keeps s a c
keeps_then Low a b c h k = le_trans h k
keeps_then High a b c h k = le_trans k h

pub not_beyond : (s : Side) (n x : ℕ) → beyond s n x ≡ false → Keeps s n x
not_beyond Low n x e = ltb-false x n e
not_beyond High n x e = ltb-false n x e

pub narrower_self : (y : Year) → Sound y → Narrower y y
narrower_self y s = record {
  sound = s;
  terms_same = refl;
  courses_same = refl;
  weight_same = refl;
  bounds = λ r q k. keeps_self r (bound r q y k);
  lists_less = λ i k e. e;
}

pub narrower_then : (x y z : Year) → Narrower x y → Narrower y z → Narrower x z
narrower_then x y z a b = record {
  sound = b.sound;
  terms_same = b.terms_same ∙ a.terms_same;
  courses_same = b.courses_same ∙ a.courses_same;
  weight_same = b.weight_same ∙ a.weight_same;
  bounds = λ r q k. keeps_then r _ _ _ (a.bounds r q k) (b.bounds r q k);
  lists_less = λ i k e. a.lists_less i k (b.lists_less i k e);
}

-- a step from y: there is less to narrow where something is marked as altered, and where nothing is the year is the same
pub record Narrows (y : Year) (s : Step) : Type 0 where
  pub year : Narrower y s.year
  pub falls : leeway s.year + pick s.altered 1 ≤ leeway y
  pub still : s.altered ≡ false → s.year ≡ y

-- nothing done, whether or not a no plan was found
pub narrows_rest : (y : Year) (r : ℕ) → Sound y → Narrows y (dead r y)
narrows_rest y r s = record { year = narrower_self y s; falls = omega arith; still = λ e. refl }

-- a step is marked unaltered exactly if it leaves the year it was given
pub quiet : (y : Year) (s : Step) → Narrows y s → (s.altered ≡ false) ↔ (s.year ≡ y)
quiet y s w = (w.still, go s.altered refl)
  where
    go : (b : Bool) → s.altered ≡ b → s.year ≡ y → s.altered ≡ false
    go false e q = e
    go true e q = let f = rw e at w.falls in absurd (omega (arith, ap leeway q))

or_le : (a b : Bool) → pick (a || b) 1 ≤ pick a 1 + pick b 1
or_le true b = omega arith
or_le false b = omega arith

-- one step after another
pub narrows_then : (y : Year) (s t : Step) → Narrows y s → Narrows s.year t → Narrows y (joined s t)
narrows_then y s t a b = record {
  year = narrower_then y s.year t.year a.year b.year;
  falls = omega (arith, a.falls, b.falls, or_le s.altered t.altered);
  still = λ e. let q = or_false s.altered t.altered e in b.still q.1 ∙ a.still q.0;
}

-- f leaves such a year at each k below n, on years of these many terms and courses
abbrev pub Lawful : ℕ → ℕ → (Year → ℕ → Step) → ℕ → Type 0
Lawful terms courses f n = (z : Year) (k : ℕ) → Sound z → z.terms ≡ terms → z.courses ≡ courses → k < n → Narrows z (f z k)

pub narrows_next : (f : Year → ℕ → Step) (y : Year) (s : Step) (k : ℕ) → Narrows y s → Narrows s.year (f s.year k) → Narrows y (next f s k)
narrows_next f y s k a b = choose_case (Narrows y) (eqb s.rule 0) _ s (λ e. narrows_then y s (f s.year k) a b) (λ e. a)

pub narrows_over : (f : Year → ℕ → Step) (n : ℕ) (y : Year) (s : Step) → Lawful y.terms y.courses f n → Narrows y s → (m : ℕ) → m ≤ n → Narrows y (over_to f s m)
narrows_over f n y s law a m h =
    fold_keeps goes (then f) s (Narrows y) m
    (λ z k l e b. narrows_then y z (f z.year k) b (law z.year k b.year.sound b.year.terms_same b.year.courses_same (omega arith)))
    a

-- a step that found no plan is the last
pub next_dead : (f : Year → ℕ → Step) (s : Step) (k : ℕ) → eqb s.rule 0 ≡ false → next f s k ≡ s
next_dead f s k e = rw e

-- ---- what depends on weights alone stays

pub down_same : (y z : Year) → z.courses ≡ y.courses → z.weight ≡ y.weight → down z ≡ down y
unfolding down
down_same y z c w = ap₂ (λ (v : List ℕ) (n : ℕ). order (heavier (λ i. get_or v i 0)) n) w c

pub up_same : (y z : Year) → z.courses ≡ y.courses → z.weight ≡ y.weight → up z ≡ up y
unfolding up
up_same y z c w = ap₂ (λ (v : List ℕ) (n : ℕ). order (lighter (λ i. get_or v i 0)) n) w c

pub credits_same : (y z : Year) → z.courses ≡ y.courses → z.weight ≡ y.weight → all_credits z ≡ all_credits y
unfolding all_credits
credits_same y z c w = ap₂ (λ (v : List ℕ) (n : ℕ). sum n (λ i. get_or v i 0)) w c

-- and so does what a placing puts into a term
pub put_same : (y z : Year) → Narrower y z → (q : Quantity) (p : Placing) (k : ℕ) → put_in q z p k ≡ put_in q y p k
put_same y z w q p k =
    ap₂ (λ (v : List ℕ) (n : ℕ). sum n (λ i. pick (eqb (p i) k) (amount q v i))) w.weight_same w.courses_same
