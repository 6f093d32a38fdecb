-- Neighbouring sums: where they fire, no choice of the set weighs from a to b.
use Prim.Native.Nat.{ℕ, zero, suc, ◌+◌, ◌-◌, ◌≤◌, ◌<◌}
use mathlib.Core.Bool.{Bool, true, false, ◌&&◌}
use mathlib.Core.List.{List, [], ◌∷◌}
use mathlib.Core.Path.{◌≡◌, refl, sym, ap, ◌∙◌}
use native.Mathlib.Omega.{arith}
use native.Mathlib.Decide.{dec_lt}
use lib.Dec.{leb, ltb}
use lib.ListN.{length, take, drop, length-drop}
use lib.Seq.{drop-drop}
use borrow.Author.Tests.{leb-true, ltb-true}
use Rattle.theory.specs.Choice.{choose}
use Rattle.theory.specs.Order.{keep}
use Rattle.theory.specs.Sum.{pick, weigh}
use Rattle.theory.specs.Tests.{any}
use Rattle.theory.specs.Neighbours.{lightest, heaviest, outside, neighbours, fires}
use Rattle.theory.proofs.SumLaws.{pick_le}
use Rattle.theory.proofs.TestLaws.{and_true, any_true}
use Rattle.theory.proofs.WalkLaws.{Up}

-- ---- what lists weigh

-- what is chosen of a list
abbrev pub chosen : (ℕ → Bool) → (ℕ → ℕ) → List ℕ → ℕ
chosen c w L = weigh (λ g. pick (c g) (w g)) L

pub weigh_parts : (w : ℕ → ℕ) (k : ℕ) (L : List ℕ) → weigh w L ≡ weigh w (take k L) + weigh w (drop k L)
weigh_parts w zero L = omega arith
weigh_parts w (suc k) [] = refl
weigh_parts w (suc k) (g ∷ L) = omega (arith, weigh_parts w k L)

chosen_le : (c : ℕ → Bool) (w : ℕ → ℕ) (L : List ℕ) → chosen c w L ≤ weigh w L
chosen_le c w [] = omega arith
chosen_le c w (g ∷ L) = omega (arith, pick_le (c g) (w g), chosen_le c w L)

-- how many are chosen
abbrev number : (ℕ → Bool) → List ℕ → ℕ
number c L = chosen c (λ g. 1) L

number_le : (c : ℕ → Bool) (L : List ℕ) → number c L ≤ length L
number_le c [] = omega arith
number_le c (g ∷ L) = omega (arith, pick_le (c g) 1, number_le c L)

-- ---- from lightest to heaviest

pub up_from : (w : ℕ → ℕ) (L : List ℕ) (a b : ℕ) → a ≤ b → Up w b L → Up w a L
up_from w [] a b l h = tt
up_from w (g ∷ L) a b l h = (omega (arith, h.0), h.1)

pub up_drop : (w : ℕ → ℕ) (k : ℕ) (L : List ℕ) (a : ℕ) → Up w a L → Up w a (drop k L)
up_drop w zero L a h = h
up_drop w (suc k) [] a h = tt
up_drop w (suc k) (g ∷ L) a h = up_drop w k L a (up_from w L a (w g) h.0 h.1)

pub up_keep : (w : ℕ → ℕ) (test : ℕ → Bool) (L : List ℕ) (a : ℕ) → Up w a L → Up w a (keep test L)
unfolding keep
up_keep w test [] a h = tt
up_keep w test (g ∷ L) a h = go (test g) (up_keep w test L (w g) h.1)
  where
    go : (b : Bool) → Up w (w g) (keep test L) → Up w a (choose b (g ∷ keep test L) (keep test L))
    go true k = (h.0, k)
    go false k = up_from w (keep test L) a (w g) h.0 k

-- a place behind x in the list weighs at least x
one_more : (w : ℕ → ℕ) (x k : ℕ) (L : List ℕ) → Up w x L → k < length L → x + weigh w (take k L) ≤ weigh w (take (suc k) L)
one_more w x k [] h l = absurd (omega arith)
one_more w x zero (g ∷ L) h l = omega (arith, h.0)
one_more w x (suc k) (g ∷ L) h l = omega (arith, one_more w x k L (up_from w L x (w g) h.0 h.1) (omega arith))

one_less : (w : ℕ → ℕ) (x k : ℕ) (L : List ℕ) → Up w x L → k < length L → x + weigh w (drop (suc k) L) ≤ weigh w (drop k L)
one_less w x k [] h l = absurd (omega arith)
one_less w x zero (g ∷ L) h l = omega (arith, h.0)
one_less w x (suc k) (g ∷ L) h l = one_less w x k L (up_from w L x (w g) h.0 h.1) (omega arith)

module _ (w : ℕ → ℕ) (c : ℕ → Bool) where
  -- at least k of them weigh no less than the k lightest
  many : (k : ℕ) (L : List ℕ) (a : ℕ) → Up w a L → k ≤ number c L → weigh w (lightest k L) ≤ chosen c w L
  many zero L a h l = omega arith
  many (suc k) [] a h l = absurd (omega arith)
  many (suc k) (g ∷ L) a h l = go (c g) l (many k L (w g) h.1) (many (suc k) L (w g) h.1)
    where
      go : (b : Bool) → suc k ≤ pick b 1 + number c L → (k ≤ number c L → weigh w (take k L) ≤ chosen c w L)
          → (suc k ≤ number c L → weigh w (take (suc k) L) ≤ chosen c w L) → w g + weigh w (take k L) ≤ pick b (w g) + chosen c w L
      go true l p q = omega (arith, p (omega arith))
      go false l p q = omega (arith, q (omega arith), one_more w (w g) k L h.1 (omega (arith, number_le c L)))

  -- at most k of them weigh no more than the k heaviest
  few : (k : ℕ) (L : List ℕ) (a : ℕ) → Up w a L → number c L ≤ k → chosen c w L ≤ weigh w (heaviest k L)
  few k [] a h l = omega arith
  few k (g ∷ L) a h l = go (dec_lt (length L) k) (λ k m. few k L (w g) h.1 m)
    where
      with_it : (b : Bool) (k : ℕ) → k ≤ length L → pick b 1 + number c L ≤ k → ((k : ℕ) → number c L ≤ k → chosen c w L ≤ weigh w (heaviest k L))
          → pick b (w g) + chosen c w L ≤ weigh w (heaviest k L)
      with_it false k m l ih = omega (arith, ih k (omega arith))
      with_it true zero m l ih = absurd (omega arith)
      with_it true (suc k) m l ih =
          let next : length L - k ≡ suc (length L - suc k) = omega arith in
          let rest : weigh w (drop (suc (length L - suc k)) L) ≡ weigh w (drop (length L - k) L) = ap (λ t. weigh w (drop t L)) (sym next) in
          omega (arith, rest, ih k (omega arith), one_less w (w g) (length L - suc k) L h.1 (omega arith))

      go : Dec (length L < k) → ((k : ℕ) → number c L ≤ k → chosen c w L ≤ weigh w (heaviest k L)) → pick (c g) (w g) + chosen c w L ≤ weigh w (drop (suc (length L) - k) (g ∷ L))
      go (yes m) ih =
          let none : suc (length L) - k ≡ 0 = omega arith in
          rw none (omega (arith, pick_le (c g) (w g), chosen_le c w L))
      go (no m) ih =
          let some : suc (length L) - k ≡ suc (length L - k) = omega (arith, m) in
          rw some (with_it (c g) k (omega (arith, m)) l ih)

  -- the k heaviest of what is left without the k' lightest are the k heaviest of all
  heaviest_outside : (k k' : ℕ) (L : List ℕ) → k + k' + 1 ≤ length L → weigh w (heaviest k (outside k' L)) ≡ weigh w (heaviest k L)
  heaviest_outside k k' L l =
      ap (λ t. weigh w (drop (t - k) (drop k' L))) (length-drop k' L)
      ∙ ap (weigh w) (drop-drop (length L - k' - k) k' L)
      ∙ ap (λ t. weigh w (drop t L)) (let e : k' + (length L - k' - k) ≡ length L - k = omega arith in e)

  -- those outside the k' lightest are more than k, and weigh more than b, or they are at most k, and all weigh less than a
  between : (set : List ℕ) (a b k k' : ℕ) → Up w 0 set → neighbours w set a b k k' ≡ true → a ≤ chosen c w set → chosen c w set ≤ b → ⊥
  unfolding neighbours
  between set a b k k' h e lo hi = go (dec_lt k (number c (outside k' set)))
    where
      x : ℕ
      x = weigh w (heaviest k set) + weigh w (lightest k' set)

      z : ℕ
      z = weigh w (lightest (k + 1) (outside k' set))

      all : (leb (k + k' + 1) (length set) && ltb x a ≡ true) × (ltb b z ≡ true)
      all = and_true (leb (k + k' + 1) (length set) && ltb x a) (ltb b z) e

      fit : (leb (k + k' + 1) (length set) ≡ true) × (ltb x a ≡ true)
      fit = and_true (leb (k + k' + 1) (length set)) (ltb x a) all.0

      go : Dec (k < number c (outside k' set)) → ⊥
      go (yes m) =
          omega (
            arith,
            ltb-true b z all.1,
            weigh_parts (λ g. pick (c g) (w g)) k' set,
            many (k + 1) (outside k' set) 0 (up_drop w k' set 0 h) (omega arith),
          )
      go (no m) =
          omega (
            arith,
            ltb-true x a fit.1,
            weigh_parts (λ g. pick (c g) (w g)) k' set,
            chosen_le c w (lightest k' set),
            heaviest_outside k k' set (leb-true (k + k' + 1) (length set) fit.0),
            few k (outside k' set) 0 (up_drop w k' set 0 h) (omega (arith, m)),
          )

  pub no_choice : (set : List ℕ) (a b : ℕ) → Up w 0 set → fires w set a b ≡ true → a ≤ chosen c w set → chosen c w set ≤ b → ⊥
  unfolding fires
  no_choice set a b h e =
      let k = any_true (length set) (λ k. any (length set) (λ k'. neighbours w set a b k k')) e in
      let k' = any_true (length set) (λ k'. neighbours w set a b k.0 k') k.2 in
      between set a b k.0 k'.0 h k'.2
