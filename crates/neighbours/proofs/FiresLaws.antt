-- Laws of rule 12's test: which k and which k' need not be tried.
use Prim.Native.Nat.{ℕ, zero, suc, ◌+◌, ◌-◌, ◌≤◌, ◌<◌}
use mathlib.Core.Bool.{Bool, true, false, ◌&&◌, ◌||◌}
use mathlib.Core.List.{List}
use mathlib.Core.Logic.{◌⊎◌, ⊎_elim}
use mathlib.Core.Path.{◌≡◌, refl, ap, ap₂, ◌∙◌}
use native.Mathlib.Nat.{add-zero}
use native.Mathlib.Decide.{dec_lt}
use native.Mathlib.Omega.{arith}
use lib.Dec.{leb, ltb, eqb}
use lib.ListN.{length, get_or}
use borrow.Author.Tests.{leb-true, ltb-true, eqb-false, le-leb, lt-ltb}
use Rattle.theory.specs.Tests.{any}
use Rattle.theory.proofs.TestLaws.{and_true, and_of, or_false, any_more, any_false, any_none}
use Rattle.neighbours.specs.Lightest.{Rising, neighbours_by, fires_by, left_out, Lent}

-- ---- tests

pub fails : (t : Bool) → (t ≡ true → ⊥) → t ≡ false
fails true h = absurd (h refl)
fails false h = refl

-- none below k, and none from k on
pub none_from : (n k : ℕ) (f : ℕ → Bool) → any k f ≡ false → ((i : ℕ) → k ≤ i → i < n → f i ≡ false) → any n f ≡ false
none_from n k f e h = any_none n f (λ i l. go i l (dec_lt i k))
  where
    go : (i : ℕ) → i < n → Dec (i < k) → f i ≡ false
    go i l (yes q) = any_false k f e i q
    go i l (no q) = h i (omega (arith, q)) l

pub none_more : (n : ℕ) (f : ℕ → Bool) → any n f ≡ false → f n ≡ false → any (n + 1) f ≡ false
none_more n f e h = any_more n f ∙ ap₂ ◌||◌ e h

-- ---- what the lightest weigh

module _ {n : ℕ} {q : ℕ → ℕ} (r : Rising n q) where
  rises_by : (s d : ℕ) → s + d ≤ n → q s ≤ q (s + d)
  rises_by s zero h = rw add-zero (omega arith)
  rises_by s (suc d) h =
      let is : s + suc d ≡ s + d + 1 = omega arith in
      rw is (omega (arith, rises_by s d (omega arith), r.grows (s + d) (omega arith)))

  pub rises : (s t : ℕ) → s ≤ t → t ≤ n → q s ≤ q t
  rises s t l h =
      let is : s + (t - s) ≡ t = omega arith in
      rw is at (rises_by s (t - s) (omega arith))

  -- d of them further up weigh no less
  further_up : (s t d : ℕ) → s ≤ t → t + d ≤ n → q (s + d) + q t ≤ q (t + d) + q s
  further_up s t zero l h = omega (arith, ap q (add-zero s), ap q (add-zero t))
  further_up s t (suc d) l h =
      let low : s + suc d ≡ s + d + 1 = omega arith in
      let high : t + suc d ≡ t + d + 1 = omega arith in
      rw (low, high) (omega (arith, further_up s t d l (omega arith), r.heavier (s + d) (t + d) (omega arith) (omega arith)))

  -- none weighs more than the last
  one_is_most : (t : ℕ) → t < n → q (t + 1) + q (n - 1) ≤ q n + q t
  one_is_most t h =
      let is : n - 1 + 1 ≡ n = omega arith in
      rw is at (r.heavier t (n - 1) (omega arith) (omega arith))

-- ---- out of an array

module _ {u : List ℕ} {n out w : ℕ} (r : Lent u n out w) where
  pub readable : (t : ℕ) → t ≤ n → (t < length u) × (out < t → (t + 1 < length u) × (w ≤ get_or u (t + 1) 0))
  readable t h = (omega (arith, r.long), λ m. (omega (arith, r.longer (omega arith)), r.covers t m h))

  pub within : (s t : ℕ) → s ≤ t → t ≤ n → (left_out u out w s ≤ left_out u out w t) × (left_out u out w t ≤ 64000)
  within s t l h = (rises r.rising s t l h, omega (arith, rises r.rising t n h (omega arith), r.small))

-- ---- one k and one k'

pub parts :
    (n : ℕ) (q : ℕ → ℕ) (a b k' k : ℕ)
    → neighbours_by q n a b k' k ≡ true
    → (k + k' + 1 ≤ n) × (q n - q (n - k) + q k' < a) × (b < q (k' + (k + 1)) - q k')
parts n q a b k' k e =
    let few = leb (k + k' + 1) n in
    let light = ltb (q n - q (n - k) + q k') a in
    let heavy = ltb b (q (k' + (k + 1)) - q k') in
    let p = and_true (few && light) heavy e in
    let o = and_true few light p.0 in
    (leb-true (k + k' + 1) n o.0, ltb-true (q n - q (n - k) + q k') a o.1, ltb-true b (q (k' + (k + 1)) - q k') p.1)

pub with_parts :
    (n : ℕ) (q : ℕ → ℕ) (a b k' k : ℕ)
    → k + k' < n
    → q n - q (n - k) + q k' < a
    → b < q (k' + (k + 1)) - q k'
    → neighbours_by q n a b k' k ≡ true
with_parts n q a b k' k m light heavy =
    and_of (leb (k + k' + 1) n && ltb (q n - q (n - k) + q k') a) (ltb b (q (k' + (k + 1)) - q k'))
    (and_of (leb (k + k' + 1) n) (ltb (q n - q (n - k) + q k') a) (le-leb (k + k' + 1) n (omega arith)) (lt-ltb (q n - q (n - k) + q k') a light))
    (lt-ltb b (q (k' + (k + 1)) - q k') heavy)

pub too_light : (n : ℕ) (q : ℕ → ℕ) (a b k' k : ℕ) → q (k' + (k + 1)) - q k' ≤ b → neighbours_by q n a b k' k ≡ false
too_light n q a b k' k h = fails (neighbours_by q n a b k' k) (λ e. omega (arith, parts n q a b k' k e))

-- a k' with which it fires is followed by one that exceeds the lightest before it by more than the range is wide: the others of
-- the k + 1 weigh no more than the k heaviest, place by place
pub gap :
    {n : ℕ} {q : ℕ → ℕ} (r : Rising n q) (a b k' k : ℕ)
    → neighbours_by q n a b k' k ≡ true
    → q k' + q k' + b + 2 ≤ q (k' + 1) + a
gap {n} {q} r a b k' k e =
    let p = parts n q a b k' k e in
    let same : k' + 1 + k ≡ k' + (k + 1) = omega arith in
    let all : n - k + k ≡ n = omega arith in
    let up : q (k' + (k + 1)) + q (n - k) ≤ q n + q (k' + 1) =
    rw (same, all) at (further_up r (k' + 1) (n - k) k (omega arith) (omega arith)) in
    omega (arith, rises r (n - k) n (omega arith) (omega arith))

-- ---- where nothing is left to try

-- the k heaviest reach the range, and more of them do
pub heaviest_reach :
    {n : ℕ} {q : ℕ → ℕ} (r : Rising n q) (a b k' k : ℕ)
    → a ≤ q n - q (n - k) + q k'
    → (i : ℕ)
    → k ≤ i
    → neighbours_by q n a b k' i ≡ false
heaviest_reach {n} {q} r a b k' k h i l =
    fails (neighbours_by q n a b k' i) (λ e. omega (arith, parts n q a b k' i e, rises r (n - i) (n - k) (omega arith) (omega arith)))

-- there are not so many
pub too_many : (n : ℕ) (q : ℕ → ℕ) (a b k' k : ℕ) → n ≤ k + k' → (i : ℕ) → k ≤ i → neighbours_by q n a b k' i ≡ false
too_many n q a b k' k h i l = fails (neighbours_by q n a b k' i) (λ e. omega (arith, parts n q a b k' i e))

-- no k goes with a k' that no such gap follows
pub no_gap :
    {n : ℕ} {q : ℕ → ℕ} (r : Rising n q) (a b k' : ℕ)
    → a ≤ b
    → q (k' + 1) - q k' ≤ q k' + (b - a + 1)
    → any n (neighbours_by q n a b k') ≡ false
no_gap {n} {q} r a b k' l h =
    any_none n (neighbours_by q n a b k') (λ k m. fails (neighbours_by q n a b k' k) (λ e. omega (arith, gap r a b k' k e)))

-- the lightest reach the range, or come near to the heaviest: nor does any k go with a later k'
pub lightest_reach :
    {n : ℕ} {q : ℕ → ℕ} (r : Rising n q) (a b k' : ℕ)
    → a ≤ q k'
    → (i : ℕ)
    → k' ≤ i
    → i < n
    → any n (neighbours_by q n a b i) ≡ false
lightest_reach {n} {q} r a b k' h i l m =
    any_none n (neighbours_by q n a b i)
    (λ k o. fails (neighbours_by q n a b i k) (λ e. omega (arith, parts n q a b i k e, rises r k' i l (omega arith))))

pub near_heaviest :
    {n : ℕ} {q : ℕ → ℕ} (r : Rising n q) (a b k' : ℕ)
    → a ≤ b
    → q n - q (n - 1) ≤ q k' + (b - a + 1)
    → (i : ℕ)
    → k' ≤ i
    → i < n
    → any n (neighbours_by q n a b i) ≡ false
near_heaviest {n} {q} r a b k' l h i m o = no_gap r a b i l (omega (arith, one_is_most r i o, rises r k' i m (omega arith)))

-- ---- the tests of the code

pub some_are : (n a : ℕ) → eqb n 0 || eqb a 0 ≡ false → 0 < n
some_are n a e = omega (arith, eqb-false n 0 (or_false (eqb n 0) (eqb a 0) e).0)

-- nothing is lighter than 0
pub none_below_0 : (n : ℕ) (q : ℕ → ℕ) (a b : ℕ) → (n ≡ 0) ⊎ (a ≡ 0) → fires_by q n a b ≡ false
unfolding fires_by
none_below_0 n q a b none =
    any_none n (λ k'. any n (neighbours_by q n a b k'))
    (λ k' l. any_none n (neighbours_by q n a b k')
    (λ k m. fails (neighbours_by q n a b k' k) (λ t. ⊎_elim (λ p. omega arith) (λ p. omega (arith, p, parts n q a b k' k t)) none)))

-- none is behind a k' whose lightest reach the range, or come near to the heaviest
pub none_behind :
    {n : ℕ} {q : ℕ → ℕ} (r : Rising n q) (a b k' : ℕ)
    → a ≤ b
    → (a ≤ q k') ⊎ (q n - q (n - 1) ≤ q k' + (b - a + 1))
    → (i : ℕ)
    → k' ≤ i
    → i < n
    → any n (neighbours_by q n a b i) ≡ false
none_behind {n} {q} r a b k' l t i m o = ⊎_elim (λ p. lightest_reach r a b k' p i m o) (λ p. near_heaviest r a b k' l p i m o) t
