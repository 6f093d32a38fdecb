-- Laws of sums, and of a number under a test.
use mathlib.Core.Path.{◌≡◌, refl, sym, ap, ap₂, ◌∙◌}
use mathlib.Core.Bool.{Bool, true, false, not}
use Prim.Native.Nat.{ℕ, zero, suc, ◌+◌, ◌*◌, ◌≤◌, ◌<◌}
use native.Mathlib.Nat.{le_refl}
use native.Mathlib.Decide.{ℕ_discrete}
use native.Mathlib.Numerals.{add-one}
use native.Mathlib.Omega.{arith}
use lib.Dec.{eqb, ltb}
use borrow.Author.Tests.{lt-ltb, le-ltb, eq-eqb, ne_eqb}
use Rattle.theory.specs.Sum.{pick, sum}

pub pick_le : (b : Bool) (x : ℕ) → pick b x ≤ x
pick_le true x = omega arith
pick_le false x = omega arith

pub pick_split : (b : Bool) (x : ℕ) → x ≡ pick b x + pick (not b) x
pick_split true x = omega arith
pick_split false x = omega arith

pub pick_mono : (b : Bool) {x y : ℕ} → x ≤ y → pick b x ≤ pick b y
pick_mono true h = h
pick_mono false h = omega arith

pub pick_eq : (a b x : ℕ) → a ≡ b → pick (eqb a b) x ≡ x
pick_eq a b x e = ap (λ t. pick t x) (eq-eqb a b e)

pub pick_ne : (a b x : ℕ) → (a ≡ b → ⊥) → pick (eqb a b) x ≡ 0
pick_ne a b x h = ap (λ t. pick t x) (ne_eqb a b h)

-- one turn of a loop that adds
pub sum_more : (n : ℕ) (f : ℕ → ℕ) → sum (n + 1) f ≡ sum n f + f n
unfolding sum
sum_more n f = rw add-one

pub sum_cong : (n : ℕ) (f g : ℕ → ℕ) → ((i : ℕ) → i < n → f i ≡ g i) → sum n f ≡ sum n g
unfolding sum
sum_cong zero f g h = refl
sum_cong (suc n) f g h = ap₂ ◌+◌ (sum_cong n f g (λ i k. h i (omega arith))) (h n (le_refl (suc n)))

pub sum_mono : (n : ℕ) (f g : ℕ → ℕ) → ((i : ℕ) → i < n → f i ≤ g i) → sum n f ≤ sum n g
unfolding sum
sum_mono zero f g h = omega arith
sum_mono (suc n) f g h = omega (arith, sum_mono n f g (λ i k. h i (omega arith)), h n (le_refl (suc n)))

pub sum_add : (n : ℕ) (f g : ℕ → ℕ) → sum n (λ i. f i + g i) ≡ sum n f + sum n g
unfolding sum
sum_add zero f g = refl
sum_add (suc n) f g = omega (arith, sum_add n f g)

-- f is at most g and h together, term by term
pub sum_mono_add : (n : ℕ) (f g h : ℕ → ℕ) → ((i : ℕ) → i < n → f i ≤ g i + h i) → sum n f ≤ sum n g + sum n h
sum_mono_add n f g h k = omega (arith, sum_mono n f (λ i. g i + h i) k, sum_add n g h)

pub sum_zero : (n : ℕ) (f : ℕ → ℕ) → ((i : ℕ) → i < n → f i ≡ 0) → sum n f ≡ 0
unfolding sum
sum_zero zero f h = refl
sum_zero (suc n) f h = omega (arith, sum_zero n f (λ i k. h i (omega arith)), h n (le_refl (suc n)))

pub sum_le_mul : (n c : ℕ) (f : ℕ → ℕ) → ((i : ℕ) → i < n → f i ≤ c) → sum n f ≤ n * c
unfolding sum
sum_le_mul zero c f h = omega arith
sum_le_mul (suc n) c f h = omega (arith, sum_le_mul n c f (λ i k. h i (omega arith)), h n (le_refl (suc n)))

-- two functions that differ at k alone
pub sum_change : (n k : ℕ) (f g : ℕ → ℕ) → k < n → ((i : ℕ) → i < n → (i ≡ k → ⊥) → f i ≡ g i) → sum n f + g k ≡ sum n g + f k
unfolding sum
sum_change zero k f g l h = omega arith
sum_change (suc n) k f g l h = go (ℕ_discrete n k) (λ q. sum_change n k f g q (λ i a r. h i (omega arith) r))
  where
    go : Dec (n ≡ k) → (k < n → sum n f + g k ≡ sum n g + f k) → sum n f + f n + g k ≡ sum n g + g n + f k
    go (yes e) ih = omega (arith, sum_cong n f g (λ i q. h i (omega arith) (λ r. omega arith)), ap f e, ap g e)
    go (no d) ih = omega (arith, ih (omega arith), h n (le_refl (suc n)) d)

-- all terms but the k-th are 0
pub sum_single : (n k : ℕ) (f : ℕ → ℕ) → k < n → ((i : ℕ) → i < n → (i ≡ k → ⊥) → f i ≡ 0) → sum n f ≡ f k
sum_single n k f l h = omega (arith, sum_change n k f (λ i. 0) l h, sum_zero n (λ i. 0) (λ i q. refl))

-- f is at most g, and less at k
pub sum_strict : (n k : ℕ) (f g : ℕ → ℕ) → k < n → ((i : ℕ) → i < n → f i ≤ g i) → f k < g k → sum n f < sum n g
unfolding sum
sum_strict zero k f g l h q = omega arith
sum_strict (suc n) k f g l h q = go (ℕ_discrete n k) (λ b. sum_strict n k f g b (λ i a. h i (omega arith)) q)
  where
    go : Dec (n ≡ k) → (k < n → sum n f < sum n g) → sum n f + f n < sum n g + g n
    go (yes e) ih = omega (arith, sum_mono n f g (λ i a. h i (omega arith)), ap f e, ap g e)
    go (no d) ih = omega (arith, ih (omega arith), h n (le_refl (suc n)))

pub sum_term_le : (n k : ℕ) (f : ℕ → ℕ) → k < n → f k ≤ sum n f
unfolding sum
sum_term_le zero k f l = omega arith
sum_term_le (suc n) k f l = go (ℕ_discrete n k) (λ b. sum_term_le n k f b)
  where
    go : Dec (n ≡ k) → (k < n → f k ≤ sum n f) → f k ≤ sum n f + f n
    go (yes e) ih = omega (arith, ap f e)
    go (no d) ih = omega (arith, ih (omega arith))

-- double counting
pub sum_swap : (n m : ℕ) (f : ℕ → ℕ → ℕ) → sum n (λ i. sum m (λ j. f i j)) ≡ sum m (λ j. sum n (λ i. f i j))
unfolding sum
sum_swap zero m f = sym (sum_zero m (λ j. 0) (λ j q. refl))
sum_swap (suc n) m f = ap (λ x. x + sum m (λ j. f n j)) (sum_swap n m f) ∙ sym (sum_add m (λ j. sum n (λ i. f i j)) (λ j. f n j))

-- the terms that pass a test, and those that fail
pub sum_split : (n : ℕ) (b : ℕ → Bool) (f : ℕ → ℕ) → sum n f ≡ sum n (λ i. pick (b i) (f i)) + sum n (λ i. pick (not (b i)) (f i))
sum_split n b f = sum_cong n f (λ i. pick (b i) (f i) + pick (not (b i)) (f i)) (λ i q. pick_split (b i) (f i)) ∙ sum_add n (λ i. pick (b i) (f i)) (λ i. pick (not (b i)) (f i))

-- x, once, at the place k
pub sum_point : (n k x : ℕ) → k < n → sum n (λ i. pick (eqb k i) x) ≡ x
sum_point n k x l = sum_single n k (λ i. pick (eqb k i) x) l (λ i q d. pick_ne k i x (λ e. d (sym e))) ∙ pick_eq k k x refl

pub sum_point_le : (n k x : ℕ) → sum n (λ i. pick (eqb k i) x) ≤ x
unfolding sum
sum_point_le zero k x = omega arith
sum_point_le (suc n) k x = go (ℕ_discrete k n) (sum_point_le n k x)
  where
    go : Dec (k ≡ n) → sum n (λ i. pick (eqb k i) x) ≤ x → sum n (λ i. pick (eqb k i) x) + pick (eqb k n) x ≤ x
    go (yes e) ih = omega (arith, sum_zero n (λ i. pick (eqb k i) x) (λ i q. pick_ne k i x (λ r. omega arith)), pick_eq k n x e)
    go (no d) ih = omega (arith, pick_ne k n x d)

-- a sum of which the first r are left out
pub sum_behind : (n r : ℕ) (f g : ℕ → ℕ) → r ≤ n → ((q : ℕ) → q < r → g q ≡ 0) → ((q : ℕ) → r ≤ q → q < n → g q ≡ f q) → sum n g + sum r f ≡ sum n f
unfolding sum
sum_behind zero r f g l none same = let e : r ≡ 0 = omega arith in omega (arith, ap (λ k. sum k f) e)
sum_behind (suc n) r f g l none same = go (ℕ_discrete r (suc n)) (λ h. sum_behind n r f g h none (λ q k m. same q k (omega arith)))
  where
    go : Dec (r ≡ suc n) → (r ≤ n → sum n g + sum r f ≡ sum n f) → sum n g + g n + sum r f ≡ sum n f + f n
    go (yes e) ih = omega (arith, sum_zero n g (λ q h. none q (omega arith)), none n (omega arith), ap (λ k. sum k f) e)
    go (no d) ih = omega (arith, ih (omega (arith, d)), same n (omega (arith, d)) (omega arith))

pub sum_front : (n r : ℕ) (f : ℕ → ℕ) → r ≤ n → sum r f ≤ sum n f
sum_front n r f l =
    omega (
      arith,
      sum_behind n r f (λ q. pick (not (ltb q r)) (f q)) l
          (λ q h. ap (λ t. pick (not t) (f q)) (lt-ltb q r h))
          (λ q h m. ap (λ t. pick (not t) (f q)) (le-ltb q r h)),
    )
