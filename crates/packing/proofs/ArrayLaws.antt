-- Arrays of which the first entries are filled, and what is lent of them.
use Prim.Native.Nat.{ℕ, zero, suc, ◌≤◌, ◌<◌}
use mathlib.Core.List.{◌∷◌}
use mathlib.Core.Path.{◌≡◌, refl, sym, ap, ◌∙◌}
use native.Mathlib.Omega.{arith}
use lib.ListN.{replicate, length-replicate, get_or-replicate, take}
use borrow.Author.Tests.{lt-ltb, le-ltb}
use Rattle.theory.specs.Sum.{pick}
use Rattle.theory.specs.Tab.{tab}
use Rattle.theory.proofs.TabLaws.{tab_cong, fill, fill_front}
use Rattle.packing.specs.Sizes.{first_of}

pub first_is : (n k : ℕ) (f : ℕ → ℕ) → k < n → f k ≡ first_of n f k
first_is n k f h = ap (λ b. pick b (f k)) (sym (lt-ltb k n h))

first_none : (n k : ℕ) (f : ℕ → ℕ) → n ≤ k → first_of n f k ≡ 0
first_none n k f h = ap (λ b. pick b (f k)) (le-ltb k n h)

-- zeros, filled as far as the first n go
pub fill_first : (m n : ℕ) (f : ℕ → ℕ) → n ≤ m → fill (first_of n f) (replicate m 0) n ≡ tab m (first_of n f)
fill_first m n f h = fill_front (first_of n f) (replicate m 0) 0 m n (length-replicate {A = ℕ} m 0) h (λ k a b. get_or-replicate m k 0 0 b ∙ sym (first_none n k f a))

take_tab : (m n : ℕ) (f : ℕ → ℕ) → n ≤ m → take n (tab m f) ≡ tab n f
unfolding tab
take_tab m zero f h = refl
take_tab zero (suc n) f h = absurd (omega arith)
take_tab (suc m) (suc n) f h = ap (λ l. f 0 ∷ l) (take_tab m n (λ k. f (suc k)) (omega arith))

-- the first n of them, without the zeros
pub take_first : (m n : ℕ) (f : ℕ → ℕ) → n ≤ m → take n (tab m (first_of n f)) ≡ tab n f
take_first m n f h = take_tab m n (first_of n f) h ∙ tab_cong n (first_of n f) f (λ k l. sym (first_is n k f l))
