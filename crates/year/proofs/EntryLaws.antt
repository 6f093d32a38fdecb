-- Lists tested, or compared, entry by entry.
use Prim.Native.Nat.{ℕ, zero, suc, ◌≤◌, ◌<◌}
use mathlib.Core.Bool.{Bool, true, true≢false}
use mathlib.Core.List.{List, [], ◌∷◌}
use mathlib.Core.Path.{◌≡◌, refl, sym, ap, ◌∙◌}
use native.Mathlib.Omega.{arith}
use lib.ListN.{length, get_or, take}
use Rattle.std.specs.List.{list_all}
use Rattle.std.proofs.lemmas.List.{get_or-take, length-take-le}
use lib.Pointwise.{pointwise}
use Rattle.theory.specs.Tests.{all}
use Rattle.theory.proofs.TestLaws.{and_true, and_of, all_of, all_at, same_tests}

module _ {A : Type 0} (passes : A → Bool) (d : A) where
  each_passes : (xs : List A) → list_all passes xs ≡ true → (k : ℕ) → k < length xs → passes (get_or xs k d) ≡ true
  each_passes [] e k h = absurd (omega arith)
  each_passes (x ∷ xs) e zero h = (and_true (passes x) (list_all passes xs) e).0
  each_passes (x ∷ xs) e (suc k) h = each_passes xs (and_true (passes x) (list_all passes xs) e).1 k (omega arith)

  all_pass : (xs : List A) → ((k : ℕ) → k < length xs → passes (get_or xs k d) ≡ true) → list_all passes xs ≡ true
  all_pass [] f = refl
  all_pass (x ∷ xs) f =
      and_of (passes x) (list_all passes xs) (f 0 (omega arith)) (all_pass xs (λ k h. f (suc k) (omega arith)))

  -- the first n entries all pass where each does
  pub first_pass : (n : ℕ) (xs : List A) → n ≤ length xs → list_all passes (take n xs) ≡ all n (λ k. passes (get_or xs k d))
  first_pass n xs p =
      let f : ℕ → Bool = λ k. passes (get_or xs k d) in
      let long : length (take n xs) ≡ n = length-take-le n xs p in
      same_tests (list_all passes (take n xs)) (all n f)
      (λ e. all_of n f (λ k h. ap passes (sym (get_or-take n xs k d h)) ∙ each_passes (take n xs) e k (omega (arith, long))))
      (λ e. all_pass (take n xs) (λ k h. ap passes (get_or-take n xs k d (omega (arith, long))) ∙ all_at n f e k (omega (arith, long))))

module _ {A : Type 0} (same : A → A → Bool) (d : A) where
  each : (xs ys : List A) → pointwise same xs ys ≡ true → (k : ℕ) → k < length xs → same (get_or xs k d) (get_or ys k d) ≡ true
  each [] ys e k h = absurd (omega arith)
  each (x ∷ xs) [] e k h = absurd (true≢false (sym e))
  each (x ∷ xs) (y ∷ ys) e zero h = (and_true (same x y) (pointwise same xs ys) e).0
  each (x ∷ xs) (y ∷ ys) e (suc k) h = each xs ys (and_true (same x y) (pointwise same xs ys) e).1 k (omega arith)

  whole : (xs ys : List A) → length xs ≡ length ys → ((k : ℕ) → k < length xs → same (get_or xs k d) (get_or ys k d) ≡ true) → pointwise same xs ys ≡ true
  whole [] [] e f = refl
  whole [] (y ∷ ys) e f = absurd (omega (arith, e))
  whole (x ∷ xs) [] e f = absurd (omega (arith, e))
  whole (x ∷ xs) (y ∷ ys) e f =
      and_of (same x y) (pointwise same xs ys) (f 0 (omega arith)) (whole xs ys (omega (arith, e)) (λ k h. f (suc k) (omega arith)))

  -- two of n entries are the same where each entry is
  pub by_entries : (n : ℕ) (xs ys : List A) → length xs ≡ n → length ys ≡ n → pointwise same xs ys ≡ all n (λ k. same (get_or xs k d) (get_or ys k d))
  by_entries n xs ys p q =
      let f : ℕ → Bool = λ k. same (get_or xs k d) (get_or ys k d) in
      same_tests (pointwise same xs ys) (all n f)
      (λ e. all_of n f (λ k h. each xs ys e k (omega (arith, p))))
      (λ e. whole xs ys (p ∙ sym q) (λ k h. all_at n f e k (omega (arith, p))))
