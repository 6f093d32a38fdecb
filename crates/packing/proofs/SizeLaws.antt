-- Sums over arrays of sizes; the bound for all t.
use Prim.Native.Nat.{ℕ, ◌+◌, ◌-◌, ◌/◌, ◌≤◌, ◌<◌}
use mathlib.Core.Bool.{Bool, true, false, ◌||◌}
use mathlib.Core.List.{List}
use mathlib.Core.Path.{◌≡◌, refl, ap, ap₂, ◌∙◌}
use native.Mathlib.Decide.{dec_lt}
use native.Mathlib.Omega.{arith}
use lib.Dec.{ltb}
use lib.ListN.{length, get_or}
use borrow.Author.Tests.{le-ltb, ltb-false}
use Rattle.theory.proofs.ChoiceLaws.{choose_case}
use Rattle.theory.specs.Sum.{pick, sum}
use Rattle.theory.proofs.SumLaws.{sum_cong, sum_mono}
use Rattle.theory.specs.Tab.{tab}
use Rattle.theory.proofs.TabLaws.{length_tab, get_or_tab}
use Rattle.theory.specs.Tests.{any}
use Rattle.theory.proofs.TestLaws.{any_more, any_none}
use Rattle.theory.specs.Packing.{share}
use Rattle.theory.proofs.PackingLaws.{share_le, share_big}
use Rattle.packing.specs.Sizes.{share_at, share_sum, capped, capped_at, cap_sum, over}

-- ---- the sums

share_none : (c t : ℕ) → share c t 0 ≡ 0
share_none c t = omega (arith, share_le c t 0 (omega arith))

pub share_pick : (c t : ℕ) (b : Bool) (x : ℕ) → share c t (pick b x) ≡ pick b (share c t x)
share_pick c t true x = refl
share_pick c t false x = share_none c t

pub share_tab : (n : ℕ) (f : ℕ → ℕ) (c t : ℕ) → share_sum (tab n f) c t ≡ sum n (λ k. share c t (f k))
unfolding share_sum
share_tab n f c t =
    ap (λ k. sum k (share_at (tab n f) c t)) (length_tab n f)
    ∙ sum_cong n (share_at (tab n f) c t) (λ k. share c t (f k)) (λ k l. ap (share c t) (get_or_tab n f 0 k l))

-- ---- the bound for all t

share_capped : (c t x : ℕ) → t + t ≤ c → share c t x ≤ capped c x
share_capped c t x h =
    choose_case (λ m. share c t x ≤ m) (ltb (c / 2) x) c x
    (λ e. go (dec_lt (c - t) x))
    (λ e. share_le c t x (omega (arith, ltb-false (c / 2) x e)))
  where
    go : Dec (c - t < x) → share c t x ≤ c
    go (yes q) = omega (arith, share_big c t x q)
    go (no q) = omega (arith, share_le c t x (omega (arith, q)))

share_bound : (x : List ℕ) (c t : ℕ) → t + t ≤ c → share_sum x c t ≤ cap_sum x c
unfolding share_sum cap_sum
share_bound x c t h = sum_mono (length x) (share_at x c t) (capped_at x c) (λ i l. share_capped c t (get_or x i 0) h)

pub none_over : (a b : List ℕ) (c limit : ℕ) → cap_sum a c + cap_sum b c ≤ limit → any (c / 2 + 1) (over a b c limit) ≡ false
none_over a b c limit h =
    any_none (c / 2 + 1) (over a b c limit)
    (λ t l. le-ltb limit (share_sum a c t + share_sum b c t) (omega (arith, share_bound a c t (omega arith), share_bound b c t (omega arith))))

-- ---- the loop over t

pub none_more : (n : ℕ) (f : ℕ → Bool) → any n f ≡ false → f n ≡ false → any (n + 1) f ≡ false
none_more n f e z = any_more n f ∙ ap₂ ◌||◌ e z
