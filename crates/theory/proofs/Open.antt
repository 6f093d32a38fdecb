-- A plan against the lists: the courses fixed in a term and those open there. What the walks of rules 6 to 9 begin with.
use mathlib.Core.Path.{◌≡◌, refl, sym, subst, ◌∙◌}
use mathlib.Core.Bool.{Bool, true, false, not, ◌&&◌, true≢false}
use mathlib.Core.List.{List}
use Prim.Native.Nat.{ℕ, ◌+◌, ◌-◌, ◌≤◌, ◌<◌}
use native.Mathlib.Omega.{arith}
use native.Mathlib.Decide.{ℕ_discrete}
use lib.Dec.{eqb}
use borrow.Author.Tests.{eqb-true, eq-eqb}
use Rattle.theory.specs.Sum.{pick, sum, weigh}
use Rattle.theory.proofs.SumLaws.{sum_cong, sum_mono, sum_add, sum_zero}
use Rattle.theory.proofs.LoadLaws.{load}
use Rattle.theory.proofs.WalkLaws.{one}
use Rattle.theory.proofs.Spare.{need}

-- course i lists j and is not fixed there
abbrev pub open_at : (lists fixed : ℕ → ℕ → Bool) → ℕ → ℕ → Bool
open_at lists fixed i j = lists i j && not (fixed i j)

-- k is another term than j, and course i lists it
abbrev pub other : (lists : ℕ → ℕ → Bool) → ℕ → ℕ → ℕ → Bool
other lists j i k = lists i k && not (eqb k j)

pub other_apart : (lists : ℕ → ℕ → Bool) (j i k : ℕ) → other lists j i k ≡ true → k ≡ j → ⊥
other_apart lists j i k h e = go (lists i k) (eqb k j) h (eq-eqb k j e)
  where
    go : (a b : Bool) → a && not b ≡ true → b ≡ true → ⊥
    go true true x y = true≢false (sym x)
    go true false x y = true≢false (sym y)
    go false b x y = true≢false (sym x)

-- ---- the sums of a term, and its spare

abbrev pub fixed_sum : (n : ℕ) (fixed : ℕ → ℕ → Bool) (w : ℕ → ℕ) → ℕ → ℕ
fixed_sum n fixed w j = sum n (λ i. pick (fixed i j) (w i))

abbrev pub open_sum : (n : ℕ) (lists fixed : ℕ → ℕ → Bool) (w : ℕ → ℕ) → ℕ → ℕ
open_sum n lists fixed w j = sum n (λ i. pick (open_at lists fixed i j) (w i))

abbrev pub spare_of : (n : ℕ) (lists fixed : ℕ → ℕ → Bool) (low : ℕ → ℕ) → ℕ → ℕ
spare_of n lists fixed low k = open_sum n lists fixed one k - (low k - fixed_sum n fixed one k)

-- ---- one course

split_point : (l f e : Bool) (x : ℕ) → (e ≡ true → l ≡ true) → (f ≡ true → e ≡ true) → pick e x ≡ pick f x + pick (l && not f) (pick e x)
split_point true true true x a b = omega arith
split_point true true false x a b = absurd (true≢false (sym (b refl)))
split_point true false e x a b = omega arith
split_point false true true x a b = omega arith
split_point false true false x a b = absurd (true≢false (sym (b refl)))
split_point false false true x a b = absurd (true≢false (sym (a refl)))
split_point false false false x a b = omega arith

need_point : (lj fj lk fk q e : Bool) → (fk ≡ true → lj ≡ true → q ≡ true)
    → pick (lj && not fj) (pick ((lk && not q) && not e) 1) ≤ pick (lk && not fk) (pick (not e) 1)
need_point true true lk fk q e h = omega arith
need_point true false true true true e h = omega arith
need_point true false true true false e h = absurd (true≢false (sym (h refl refl)))
need_point true false true false true e h = omega arith
need_point true false true false false e h = omega arith
need_point true false false fk q e h = omega arith
need_point false fj lk fk q e h = omega arith

halves_point : (b e : Bool) → pick b 1 ≡ pick b (pick e 1) + pick b (pick (not e) 1)
halves_point true true = omega arith
halves_point true false = omega arith
halves_point false e = omega arith

-- ---- what is asked of the lists and of a placing

-- what is fixed in k lists no other term
abbrev pub Alone : (n : ℕ) (lists fixed : ℕ → ℕ → Bool) → Type 0
Alone n lists fixed = (i k l : ℕ) → i < n → fixed i k ≡ true → lists i l ≡ true → l ≡ k

-- p keeps out of j what does not list it; p has in j what is fixed there
abbrev pub Ins : (n : ℕ) (lists : ℕ → ℕ → Bool) (p : ℕ → ℕ) → ℕ → Type 0
Ins n lists p j = (i : ℕ) → i < n → p i ≡ j → lists i j ≡ true

abbrev pub Fix : (n : ℕ) (fixed : ℕ → ℕ → Bool) (p : ℕ → ℕ) → ℕ → Type 0
Fix n fixed p j = (i : ℕ) → i < n → fixed i j ≡ true → p i ≡ j

-- a placing within the lists does both, at every term
module _ (n : ℕ) (lists : ℕ → ℕ → Bool) (p : ℕ → ℕ) (listed : (i : ℕ) → i < n → lists i (p i) ≡ true) where
  pub ins_of : (j : ℕ) → Ins n lists p j
  ins_of j i h e = subst (λ k. lists i k ≡ true) e (listed i h)

  pub fix_of : (fixed : ℕ → ℕ → Bool) → Alone n lists fixed → (j : ℕ) → Fix n fixed p j
  fix_of fixed alone j i h a = alone i j (p i) h a (listed i h)

-- ---- the laws

module _ (n : ℕ) (lists fixed : ℕ → ℕ → Bool) (p : ℕ → ℕ) where
  -- the credits of j (w = 1: its count) are those of the fixed courses, and those of the open courses that p puts there
  pub load_split : (w : ℕ → ℕ) (j : ℕ) → Ins n lists p j → Fix n fixed p j
      → load n w p j ≡ fixed_sum n fixed w j + sum n (λ i. pick (open_at lists fixed i j) (pick (eqb (p i) j) (w i)))
  unfolding load
  load_split w j ins fix =
      sum_cong n (λ i. pick (eqb (p i) j) (w i)) (λ i. pick (fixed i j) (w i) + pick (open_at lists fixed i j) (pick (eqb (p i) j) (w i)))
      (λ i h. split_point (lists i j) (fixed i j) (eqb (p i) j) (w i) (λ e. ins i h (eqb-true (p i) j e)) (λ a. eq-eqb (p i) j (fix i h a)))
      ∙ sum_add n (λ i. pick (fixed i j) (w i)) (λ i. pick (open_at lists fixed i j) (pick (eqb (p i) j) (w i)))

  -- the open courses of k that the plan leaves out of k are at most its spare
  pub spare_holds : (low : ℕ → ℕ) (k : ℕ) → Ins n lists p k → Fix n fixed p k → low k ≤ load n one p k
      → sum n (λ i. pick (open_at lists fixed i k) (pick (not (eqb (p i) k)) 1)) ≤ spare_of n lists fixed low k
  spare_holds low k ins fix h =
      omega (
        arith,
        load_split one k ins fix,
        sum_cong n (λ i. pick (open_at lists fixed i k) 1) (λ i. pick (open_at lists fixed i k) (pick (eqb (p i) k) 1) + pick (open_at lists fixed i k) (pick (not (eqb (p i) k)) 1))
            (λ i q. halves_point (open_at lists fixed i k) (eqb (p i) k)),
        sum_add n (λ i. pick (open_at lists fixed i k) (pick (eqb (p i) k) 1)) (λ i. pick (open_at lists fixed i k) (pick (not (eqb (p i) k)) 1)),
      )

  -- L goes through the open courses of j, each once, in some order
  module _ (alone : Alone n lists fixed) (j : ℕ) (L : List ℕ) (same : (f : ℕ → ℕ) → weigh f L ≡ sum n (λ i. pick (open_at lists fixed i j) (f i))) where
    need_other : (low : ℕ → ℕ) (k : ℕ) → Ins n lists p k → Fix n fixed p k → low k ≤ load n one p k → need (other lists j) p k L ≤ spare_of n lists fixed low k
    need_other low k ins fix h =
        omega (
          arith,
          spare_holds low k ins fix h,
          same (λ g. pick (other lists j g k && not (eqb (p g) k)) 1),
          sum_mono n (λ i. pick (open_at lists fixed i j) (pick (other lists j i k && not (eqb (p i) k)) 1))
              (λ i. pick (open_at lists fixed i k) (pick (not (eqb (p i) k)) 1))
              (λ i q. need_point (lists i j) (fixed i j) (lists i k) (fixed i k) (eqb k j) (eqb (p i) k) (λ a b. eq-eqb k j (sym (alone i k j q a b)))),
        )

    -- j itself is no other term
    need_own : need (other lists j) p j L ≡ 0
    need_own =
        same (λ g. pick (other lists j g j && not (eqb (p g) j)) 1)
        ∙ sum_zero n (λ i. pick (open_at lists fixed i j) (pick (other lists j i j && not (eqb (p i) j)) 1))
        (λ i q. own (open_at lists fixed i j) (lists i j) (eqb j j) (eqb (p i) j) (eq-eqb j j refl))
      where
        own : (a l q e : Bool) → q ≡ true → pick a (pick ((l && not q) && not e) 1) ≡ 0
        own true true true e h = refl
        own true true false e h = absurd (true≢false (sym h))
        own true false q e h = refl
        own false l q e h = refl

    -- what the plan needs of a term is at most its spare; of j nothing is asked
    pub need_holds : (low : ℕ → ℕ) (k : ℕ) → Ins n lists p k → Fix n fixed p k → ((k ≡ j → ⊥) → low k ≤ load n one p k)
        → need (other lists j) p k L ≤ spare_of n lists fixed low k
    need_holds low k ins fix h = go (ℕ_discrete k j)
      where
        go : Dec (k ≡ j) → need (other lists j) p k L ≤ spare_of n lists fixed low k
        go (yes e) = rw e (omega (arith, need_own))
        go (no d) = need_other low k ins fix (h d)
