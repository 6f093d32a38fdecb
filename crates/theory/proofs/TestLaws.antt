-- Laws of tests: of two, of all below n, of some below n.
use Prim.Native.Nat.{ℕ, zero, suc, ◌+◌, ◌<◌}
use mathlib.Core.Bool.{Bool, true, false, ◌&&◌, ◌||◌, true≢false}
use mathlib.Core.Logic.{◌⊎◌, inl, inr}
use mathlib.Core.Path.{◌≡◌, refl, ap, ap₂, sym, ◌∙◌}
use native.Mathlib.Numerals.{add-one}
use native.Mathlib.Nat.{le_refl}
use native.Mathlib.Decide.{ℕ_discrete}
use native.Mathlib.Omega.{arith}
use lib.Dec.{ltb}
use borrow.Author.Tests.{lt-ltb, ltb-true}
use Rattle.theory.specs.Tests.{all, any}

-- ---- two tests

pub and_true : (a b : Bool) → a && b ≡ true → (a ≡ true) × (b ≡ true)
and_true true b e = (refl, e)
and_true false b e = absurd (true≢false (sym e))

pub and_of : (a b : Bool) → a ≡ true → b ≡ true → a && b ≡ true
and_of true b p q = q
and_of false b p q = p

pub or_false : (a b : Bool) → a || b ≡ false → (a ≡ false) × (b ≡ false)
or_false true b e = absurd (true≢false e)
or_false false b e = (refl, e)

pub or_true : (a b : Bool) → a || b ≡ true → (a ≡ true) ⊎ (b ≡ true)
or_true true b e = inl refl
or_true false b e = inr e

pub or_left : (a b : Bool) → a ≡ true → a || b ≡ true
or_left true b e = refl
or_left false b e = absurd (true≢false (sym e))

pub or_right : (a b : Bool) → b ≡ true → a || b ≡ true
or_right true b e = refl
or_right false b e = e

-- two tests that pass together are the same
pub same_tests : (a b : Bool) → (a ≡ true → b ≡ true) → (b ≡ true → a ≡ true) → a ≡ b
same_tests true b p q = sym (p refl)
same_tests false true p q = q refl
same_tests false false p q = refl

pub same_less : (a b c d : ℕ) → (a < b → c < d) → (c < d → a < b) → ltb a b ≡ ltb c d
same_less a b c d f g = same_tests (ltb a b) (ltb c d) (λ e. lt-ltb c d (f (ltb-true a b e))) (λ e. lt-ltb a b (g (ltb-true c d e)))

-- ---- all below n

pub all_more : (n : ℕ) (f : ℕ → Bool) → all (n + 1) f ≡ all n f && f n
unfolding all
all_more n f = rw add-one

pub all_at : (n : ℕ) (f : ℕ → Bool) → all n f ≡ true → (i : ℕ) → i < n → f i ≡ true
unfolding all
all_at zero f e i h = absurd (omega arith)
all_at (suc n) f e i h = go (ℕ_discrete i n) (λ l. all_at n f (and_true (all n f) (f n) e).0 i l)
  where
    go : Dec (i ≡ n) → (i < n → f i ≡ true) → f i ≡ true
    go (yes q) ih = ap f q ∙ (and_true (all n f) (f n) e).1
    go (no d) ih = ih (omega arith)

pub all_of : (n : ℕ) (f : ℕ → Bool) → ((i : ℕ) → i < n → f i ≡ true) → all n f ≡ true
unfolding all
all_of zero f h = refl
all_of (suc n) f h = and_of (all n f) (f n) (all_of n f (λ i l. h i (omega arith))) (h n (le_refl (suc n)))

pub all_same : (n : ℕ) (f g : ℕ → Bool) → ((i : ℕ) → i < n → f i ≡ g i) → all n f ≡ all n g
unfolding all
all_same zero f g h = refl
all_same (suc n) f g h = ap₂ ◌&&◌ (all_same n f g (λ i l. h i (omega arith))) (h n (omega arith))

-- where not all pass, one fails
pub all_false : (n : ℕ) (f : ℕ → Bool) → all n f ≡ false → (k : ℕ) × (k < n) × (f k ≡ false)
unfolding all
all_false zero f e = absurd (true≢false e)
all_false (suc n) f e = go (all n f) refl e (λ q. all_false n f q)
  where
    go : (b : Bool) → all n f ≡ b → b && f n ≡ false → (all n f ≡ false → (k : ℕ) × (k < n) × (f k ≡ false)) → (k : ℕ) × (k < suc n) × (f k ≡ false)
    go true a q ih = (n, le_refl (suc n), q)
    go false a q ih = let r = ih a in (r.0, omega (arith, r.1), r.2)

-- ---- some below n

pub any_more : (n : ℕ) (f : ℕ → Bool) → any (n + 1) f ≡ any n f || f n
unfolding any
any_more n f = rw add-one

pub any_true : (n : ℕ) (f : ℕ → Bool) → any n f ≡ true → (k : ℕ) × (k < n) × (f k ≡ true)
unfolding any
any_true zero f e = absurd (true≢false (sym e))
any_true (suc n) f e = go (any n f) refl e (λ q. any_true n f q)
  where
    go : (b : Bool) → any n f ≡ b → b || f n ≡ true → (any n f ≡ true → (k : ℕ) × (k < n) × (f k ≡ true)) → (k : ℕ) × (k < suc n) × (f k ≡ true)
    go true a q ih = let r = ih a in (r.0, omega (arith, r.1), r.2)
    go false a q ih = (n, le_refl (suc n), q)

pub any_false : (n : ℕ) (f : ℕ → Bool) → any n f ≡ false → (k : ℕ) → k < n → f k ≡ false
unfolding any
any_false zero f e k l = absurd (omega arith)
any_false (suc n) f e k l = go (ℕ_discrete k n) (λ q. any_false n f (or_false (any n f) (f n) e).0 k q)
  where
    go : Dec (k ≡ n) → (k < n → f k ≡ false) → f k ≡ false
    go (yes q) ih = ap f q ∙ (or_false (any n f) (f n) e).1
    go (no d) ih = ih (omega arith)

pub any_of : (n : ℕ) (f : ℕ → Bool) (k : ℕ) → k < n → f k ≡ true → any n f ≡ true
any_of n f k l e = go (any n f) refl
  where
    go : (b : Bool) → any n f ≡ b → any n f ≡ true
    go true q = q
    go false q = absurd (true≢false (sym e ∙ any_false n f q k l))

pub any_none : (n : ℕ) (f : ℕ → Bool) → ((i : ℕ) → i < n → f i ≡ false) → any n f ≡ false
unfolding any
any_none zero f h = refl
any_none (suc n) f h = ap₂ ◌||◌ (any_none n f (λ i l. h i (omega arith))) (h n (omega arith))

pub any_same : (n : ℕ) (f g : ℕ → Bool) → ((i : ℕ) → i < n → f i ≡ g i) → any n f ≡ any n g
unfolding any
any_same zero f g h = refl
any_same (suc n) f g h = ap₂ ◌||◌ (any_same n f g (λ i l. h i (omega arith))) (h n (omega arith))
