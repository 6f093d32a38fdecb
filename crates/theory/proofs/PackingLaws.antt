-- Laws of rule 11: no bin of size c counts for more than c.
use mathlib.Core.Path.{◌≡◌, refl, sym, ap, ◌∙◌}
use mathlib.Core.Bool.{Bool, true, false}
use mathlib.Core.Logic.{◌↔◌}
use native.Mathlib.Nat.{le-div_iff_mul-le}
use Prim.Native.Nat.{ℕ, zero, suc, ◌+◌, ◌-◌, ◌*◌, ◌/◌, ◌≤◌, ◌<◌}
use native.Mathlib.Omega.{arith}
use native.Mathlib.Decide.{dec_lt}
use lib.Dec.{eqb, ltb}
use borrow.Author.Tests.{lt-ltb, le-ltb}
use Rattle.theory.specs.Sum.{pick, sum}
use Rattle.theory.proofs.TestLaws.{same_less}
use Rattle.theory.proofs.SumLaws.{sum_cong, sum_add, sum_swap, sum_point, sum_le_mul}
use Rattle.theory.proofs.LoadLaws.{load}
use Rattle.theory.specs.Packing.{share}

module _ (c t : ℕ) where
  pub share_big : (x : ℕ) → c - t < x → share c t x ≡ c
  unfolding share
  share_big x h = rw (lt-ltb (c - t) x h, share)

  pub share_small : (x : ℕ) → x ≤ c - t → x < t → share c t x ≡ 0
  unfolding share
  share_small x h l = rw (le-ltb (c - t) x h, lt-ltb x t l, share)

  pub share_mid : (x : ℕ) → x ≤ c - t → t ≤ x → share c t x ≡ x
  unfolding share
  share_mid x h l = rw (le-ltb (c - t) x h, le-ltb x t l, share)

  pub share_le : (x : ℕ) → x ≤ c - t → share c t x ≤ x
  share_le x h = go (dec_lt x t)
    where
      go : Dec (x < t) → share c t x ≤ x
      go (yes l) = omega (arith, share_small x h l)
      go (no l) = omega (arith, share_mid x h (omega arith))

  pub share_ge : (x : ℕ) → x ≤ c → t ≤ x → x ≤ share c t x
  share_ge x h l = go (dec_lt (c - t) x)
    where
      go : Dec (c - t < x) → x ≤ share c t x
      go (yes k) = omega (arith, share_big x k)
      go (no k) = omega (arith, share_mid x (omega arith) l)

  pub share_top : (x : ℕ) → x ≤ c → share c t x ≤ c
  share_top x h = go (dec_lt (c - t) x)
    where
      go : Dec (c - t < x) → share c t x ≤ c
      go (yes k) = omega (arith, share_big x k)
      go (no k) = omega (arith, share_le x (omega arith))

-- a size that is not t counts for no less at the next t
pub share_next : (c t x : ℕ) → (x ≡ t → ⊥) → share c t x ≤ share c (suc t) x
share_next c t x d = go (dec_lt (c - t) x) (dec_lt x t)
  where
    go : Dec (c - t < x) → Dec (x < t) → share c t x ≤ share c (suc t) x
    go (yes k) q = omega (arith, share_big c t x k, share_big c (suc t) x (omega arith))
    go (no k) (yes q) = omega (arith, share_small c t x (omega arith) q)
    go (no k) (no q) = omega (arith, share_mid c t x (omega arith) (omega arith), share_ge c (suc t) x (omega arith) (omega (arith, d, q)))

module _ (c t : ℕ) (half : t + t ≤ c) where
  -- two sizes that fit a bin together count for no more than their sum does
  pub share_super : (a b : ℕ) → a + b ≤ c → share c t a + share c t b ≤ share c t (a + b)
  share_super a b h = go (dec_lt (c - t) a) (dec_lt (c - t) b) (dec_lt (a + b) t)
    where
      go : Dec (c - t < a) → Dec (c - t < b) → Dec (a + b < t) → share c t a + share c t b ≤ share c t (a + b)
      go (yes k) q r = omega (arith, share_big c t a k, share_small c t b (omega arith) (omega arith), share_big c t (a + b) (omega arith))
      go (no k) (yes l) r = omega (arith, share_big c t b l, share_small c t a (omega arith) (omega arith), share_big c t (a + b) (omega arith))
      go (no k) (no l) (yes r) = omega (arith, share_small c t a (omega arith) (omega arith), share_small c t b (omega arith) (omega arith))
      go (no k) (no l) (no r) = omega (arith, share_le c t a (omega arith), share_le c t b (omega arith), share_ge c t (a + b) h (omega arith))

  share_zero : share c t 0 ≡ 0
  share_zero = omega (arith, share_le c t 0 (omega arith))

  pub share_sum : (n : ℕ) (x : ℕ → ℕ) → sum n x ≤ c → sum n (λ i. share c t (x i)) ≤ share c t (sum n x)
  unfolding sum
  share_sum zero x h = omega arith
  share_sum (suc n) x h = omega (arith, share_sum n x (omega arith), share_super (sum n x) (x n) h)

  share_pick : (b : Bool) (x : ℕ) → pick b (share c t x) ≡ share c t (pick b x)
  share_pick true x = refl
  share_pick false x = sym share_zero

  -- the rule: m bins, n courses, those with `many` are open; y k is the size that stands for what is fixed in the bin k
  pub rule_11 : (n m : ℕ) (w p y : ℕ → ℕ) (many : ℕ → Bool) → ((i : ℕ) → i < n → p i < m)
      → ((k : ℕ) → k < m → load n (λ i. pick (many i) (w i)) p k + y k ≤ c)
      → sum n (λ i. pick (many i) (share c t (w i))) + sum m (λ k. share c t (y k)) ≤ m * c
  unfolding load
  rule_11 n m w p y many within fits =
      omega (
        arith,
        sum_cong n (λ i. pick (many i) (share c t (w i))) (λ i. sum m (λ k. pick (eqb (p i) k) (pick (many i) (share c t (w i)))))
            (λ i h. sym (sum_point m (p i) (pick (many i) (share c t (w i))) (within i h))),
        sum_swap n m (λ i k. pick (eqb (p i) k) (pick (many i) (share c t (w i)))),
        sum_add m (λ k. sum n (λ i. pick (eqb (p i) k) (pick (many i) (share c t (w i))))) (λ k. share c t (y k)),
        sum_le_mul m c (λ k. sum n (λ i. pick (eqb (p i) k) (pick (many i) (share c t (w i)))) + share c t (y k)) each,
      )
    where
      each : (k : ℕ) → k < m → sum n (λ i. pick (eqb (p i) k) (pick (many i) (share c t (w i)))) + share c t (y k) ≤ c
      each k l =
          omega (
            arith,
            fits k l,
            sum_cong n (λ i. pick (eqb (p i) k) (pick (many i) (share c t (w i)))) (λ i. share c t (pick (eqb (p i) k) (pick (many i) (w i))))
                (λ i h. ap (pick (eqb (p i) k)) (share_pick (many i) (w i)) ∙ share_pick (eqb (p i) k) (pick (many i) (w i))),
            share_sum n (λ i. pick (eqb (p i) k) (pick (many i) (w i))) (omega (arith, fits k l)),
            share_super (sum n (λ i. pick (eqb (p i) k) (pick (many i) (w i)))) (y k) (fits k l),
            share_top c t (sum n (λ i. pick (eqb (p i) k) (pick (many i) (w i))) + y k) (fits k l),
          )

-- ---- the test without a division

-- the quotient rounded up passes m exactly if the sum passes m * c
pub ceiling : (c m x : ℕ) → 0 < c → (m < (x + (c - 1)) / c) ↔ (m * c < x)
ceiling c m x h =
    (λ q. let r : suc m * c ≤ x + (c - 1) = (le-div_iff_mul-le h).0 q in omega arith, λ q. (le-div_iff_mul-le h).1 (omega arith))

pub ceiling_test : (c m x : ℕ) → 0 < c → ltb m ((x + (c - 1)) / c) ≡ ltb (m * c) x
ceiling_test c m x h = same_less m ((x + (c - 1)) / c) (m * c) x (ceiling c m x h).0 (ceiling c m x h).1
