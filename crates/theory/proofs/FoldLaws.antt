-- Laws of steps in a row: one more, what stays once the row has stopped, where it may end early, what every step keeps,
-- the row split at a place, and the same row told of other states.
use Prim.Native.Nat.{ℕ, zero, suc, ◌+◌, ◌≤◌, ◌<◌}
use mathlib.Core.Bool.{Bool, true, false, ◌&&◌}
use mathlib.Core.Path.{◌≡◌, refl, sym, ap, ◌∙◌}
use native.Mathlib.Decide.{ℕ_discrete}
use native.Mathlib.Numerals.{add-one}
use native.Mathlib.Omega.{arith}
use lib.Dec.{ltb}
use borrow.Author.Tests.{ltb-false}
use Rattle.theory.specs.Choice.{choose}
use Rattle.theory.specs.Fold.{fold}
use Rattle.theory.proofs.ChoiceLaws.{choose_case}

module _ {S : Type 0} (goes : S → Bool) (f : S → ℕ → S) (s : S) where
  -- one step more
  pub fold_more : (n : ℕ) → fold goes f s (n + 1) ≡ choose (goes (fold goes f s n)) (f (fold goes f s n) n) (fold goes f s n)
  unfolding fold
  fold_more n = rw add-one

  -- a row that has stopped stays
  pub fold_stopped : (m : ℕ) → goes (fold goes f s m) ≡ false → (n : ℕ) → m ≤ n → fold goes f s n ≡ fold goes f s m
  unfolding fold
  fold_stopped m e zero h = let q : 0 ≡ m = omega arith in ap (fold goes f s) q
  fold_stopped m e (suc n) h = go (ℕ_discrete m (suc n)) (λ q. fold_stopped m e n q)
    where
      go : Dec (m ≡ suc n) → (m ≤ n → fold goes f s n ≡ fold goes f s m) → fold goes f s (suc n) ≡ fold goes f s m
      go (yes q) ih = ap (fold goes f s) (sym q)
      go (no d) ih =
          let i = ih (omega (arith, d)) in
          let same : choose (goes (fold goes f s m)) (f (fold goes f s m) n) (fold goes f s m) ≡ fold goes f s m = rw e in
          ap (λ (x : S). choose (goes x) (f x n) x) i ∙ same

  -- a loop that ends at m, or where the row stops, has run all of it
  pub fold_finish : (j m : ℕ) → j ≤ m → ltb j m && goes (fold goes f s j) ≡ false → fold goes f s j ≡ fold goes f s m
  fold_finish j m h e = go (goes (fold goes f s j)) refl e
    where
      last : (b : Bool) → b && true ≡ false → b ≡ false
      last true p = p
      last false p = refl

      go : (b : Bool) → goes (fold goes f s j) ≡ b → ltb j m && b ≡ false → fold goes f s j ≡ fold goes f s m
      go true p r =
          let l : m ≤ j = ltb-false j m (last (ltb j m) r) in
          let is : j ≡ m = omega arith in
          ap (fold goes f s) is
      go false p r = sym (fold_stopped j p m h)

  -- what every step that is taken keeps
  pub fold_keeps : (P : S → Type 0) (n : ℕ) → ((z : S) (k : ℕ) → k < n → goes z ≡ true → P z → P (f z k)) → P s → P (fold goes f s n)
  unfolding fold
  fold_keeps P zero h a = a
  fold_keeps P (suc n) h a =
      let z = fold goes f s n in
      let b = fold_keeps P n (λ x k l. h x k (omega arith)) a in
      choose_case P (goes z) (f z n) z (λ e. h z n (omega arith) e b) (λ e. b)

-- a row that has stopped before its first step
pub fold_none : {S : Type 0} (goes : S → Bool) (f : S → ℕ → S) (s : S) → goes s ≡ false → (n : ℕ) → fold goes f s n ≡ s
unfolding fold
fold_none goes f s e n = fold_stopped goes f s 0 e n (omega arith)

-- the first m steps, and then the others
pub fold_split : {S : Type 0} (goes : S → Bool) (f : S → ℕ → S) (s : S) (m n : ℕ)
    → fold goes f s (m + n) ≡ fold goes (λ z k. f z (m + k)) (fold goes f s m) n
unfolding fold
fold_split goes f s m zero = let e : m + 0 ≡ m = omega arith in ap (fold goes f s) e
fold_split goes f s m (suc n) =
    let e : m + suc n ≡ suc (m + n) = omega arith in
    ap (fold goes f s) e ∙ ap (λ x. choose (goes x) (f x (m + n)) x) (fold_split goes f s m n)

-- two rows whose steps agree, told of states by way of h, where P holds
module _ {S T : Type 0} (goes : S → Bool) (f : S → ℕ → S) (stays : T → Bool) (g : T → ℕ → T) (h : S → T) (P : S → Type 0) (n : ℕ)
    (same : (z : S) → stays (h z) ≡ goes z) (keeps : (z : S) (k : ℕ) → k < n → goes z ≡ true → P z → P (f z k))
    (agree : (z : S) (k : ℕ) → k < n → goes z ≡ true → P z → h (f z k) ≡ g (h z) k) where
  pub fold_told : (s : S) → P s → (m : ℕ) → m ≤ n → h (fold goes f s m) ≡ fold stays g (h s) m
  unfolding fold
  fold_told s a zero l = refl
  fold_told s a (suc m) l =
      let z = fold goes f s m in
      let b = fold_keeps goes f s P m (λ x k q. keeps x k (omega arith)) a in
      one z (goes z) refl b ∙ ap (λ x. choose (stays x) (g x m) x) (fold_told s a m (omega arith))
    where
      one : (z : S) (b : Bool) → goes z ≡ b → P z → h (choose (goes z) (f z m) z) ≡ choose (stays (h z)) (g (h z) m) (h z)
      one z true e p = rw (e, same z ∙ e) (agree z m (omega arith) e p)
      one z false e p = rw (e, same z ∙ e) refl
