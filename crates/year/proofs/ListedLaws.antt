-- A course that lists a term is fixed there or open: what is summed over the courses that list it, against the sums of both.
use Prim.Native.Nat.{ℕ, ◌+◌, ◌-◌, ◌*◌, ◌^◌, ◌≤◌, ◌<◌}
use mathlib.Core.Bool.{Bool, true, false, not, ◌&&◌, true≢false}
use mathlib.Core.List.{List}
use mathlib.Core.Path.{◌≡◌, refl, sym, ap, ap₂, ◌∙◌}
use native.Mathlib.Omega.{arith}
use lib.Dec.{eqb}
use lib.ListN.{get_or}
use borrow.Author.Tests.{eq-eqb, eqb-true, ne_eqb}
use Rattle.std.specs.Int.{from_bool}
use Rattle.theory.specs.Bits.{has}
use Rattle.theory.specs.Choice.{choose}
use Rattle.theory.specs.Sum.{pick, sum}
use Rattle.theory.proofs.BitLaws.{has_power, has_below}
use Rattle.theory.proofs.SumLaws.{sum_more, sum_cong, sum_add, sum_zero}
use Rattle.year.specs.Year.{course_in, lists, is_fixed, is_open}
use Rattle.year.specs.Sums.{fixed_weight, open_weight, fixed_one, open_one, sums_of, no_sums}
use Rattle.year.specs.SumsOf.{sums_to}
use Rattle.year.proofs.SumLaws.{weights_to, possible_to, counts_to}

pub listed : (l j x : ℕ) → pick (has l j) x ≡ pick (eqb l (2 ^ j)) x + pick (has l j && not (eqb l (2 ^ j))) x
listed l j x = go (eqb l (2 ^ j)) (has l j) refl refl
  where
    go : (f h : Bool) → eqb l (2 ^ j) ≡ f → has l j ≡ h → pick h x ≡ pick f x + pick (h && not f) x
    go true true e q = omega arith
    go true false e q = absurd (true≢false (sym (eq-eqb j j refl) ∙ sym (has_power j j) ∙ ap (λ z. has z j) (sym (eqb-true l (2 ^ j) e)) ∙ q))
    go false true e q = omega arith
    go false false e q = refl

-- what course i adds to term j where it lists it
abbrev pub listed_weight : List ℕ → List ℕ → ℕ → ℕ → ℕ
listed_weight w l j i = pick (lists (course_in w l i) j) (get_or w i 0)

abbrev pub listed_one : List ℕ → List ℕ → ℕ → ℕ → ℕ
listed_one w l j i = pick (lists (course_in w l i) j) 1

module _ (w l : List ℕ) (j n : ℕ) where
  pub listed_weights : sum n (listed_weight w l j) ≡ sum n (fixed_weight w l j) + sum n (open_weight w l j)
  listed_weights =
      sum_cong n (listed_weight w l j) (λ i. fixed_weight w l j i + open_weight w l j i) (λ i h. listed (get_or l i 0) j (get_or w i 0))
      ∙ sum_add n (fixed_weight w l j) (open_weight w l j)

  pub listed_ones : sum n (listed_one w l j) ≡ sum n (fixed_one w l j) + sum n (open_one w l j)
  listed_ones =
      sum_cong n (listed_one w l j) (λ i. fixed_one w l j i + open_one w l j i) (λ i h. listed (get_or l i 0) j 1)
      ∙ sum_add n (fixed_one w l j) (open_one w l j)

-- a number under a test, and a test as a number, by the code's words
pub chosen : (b : Bool) (x r : ℕ) → r ≡ choose b x 0 → (r ≡ pick b x) × (r ≤ x)
chosen true x r e = (e, omega (arith, e))
chosen false x r e = (e, omega (arith, e))

pub counted : (b : Bool) (r : ℕ) → r ≡ from_bool b → (r ≡ pick b 1) × (r ≤ 1)
counted true r e = (e, omega (arith, e))
counted false r e = (e, omega (arith, e))

-- ---- the sums of term j as the code counts them over the first n courses: of those fixed there, and of those that list it

pub record SoFar (w l : List ℕ) (j n fixed possible placed listed : ℕ) : Type 0 where
  pub fixed_is : fixed ≡ sum n (fixed_weight w l j)
  pub possible_is : possible ≡ sum n (listed_weight w l j)
  pub placed_is : placed ≡ sum n (fixed_one w l j)
  pub listed_is : listed ≡ sum n (listed_one w l j)

module _ (w l : List ℕ) (j n fixed possible placed count : ℕ) (s : SoFar w l j n fixed possible placed count) where
  pub so_far_small : ((i : ℕ) → i < n → get_or w i 0 ≤ 1000) → (fixed ≤ possible) × (possible ≤ 1000 * n) × (placed ≤ count) × (count ≤ n)
  so_far_small light =
      let c = listed_weights w l j n in
      let o = listed_ones w l j n in (
        omega (arith, s, c),
        omega (arith, s, c, possible_to w l j n, weights_to w l n light),
        omega (arith, s, o),
        omega (arith, s, o, counts_to w l j n),
      )

  pub so_far_sums : sums_of fixed possible placed (count - placed) ≡ sums_to w l n j
  so_far_sums =
      let p = s.possible_is ∙ listed_weights w l j n in
      let o : count - placed ≡ sum n (open_one w l j) = omega (arith, s, listed_ones w l j n) in
      λ t. record { fixed = record { 0 = s.fixed_is t }; possible = record { 0 = p t }; placed = record { 0 = s.placed_is t }; free = record { 0 = o t } }

  -- one course more
  pub so_far_more : (a b : ℕ) (c d : ℕ) → a ≡ fixed_weight w l j n → b ≡ listed_weight w l j n → c ≡ fixed_one w l j n → d ≡ listed_one w l j n
      → SoFar w l j (n + 1) (fixed + a) (possible + b) (placed + c) (count + d)
  so_far_more a b c d p q r t = record {
    fixed_is = ap₂ ◌+◌ s.fixed_is p ∙ sym (sum_more n (fixed_weight w l j));
    possible_is = ap₂ ◌+◌ s.possible_is q ∙ sym (sum_more n (listed_weight w l j));
    placed_is = ap₂ ◌+◌ s.placed_is r ∙ sym (sum_more n (fixed_one w l j));
    listed_is = ap₂ ◌+◌ s.listed_is t ∙ sym (sum_more n (listed_one w l j));
  }

-- ---- past the last term

-- a term past the last of every list: no course is fixed there, and none is open
nowhere : (x m j : ℕ) → x < 2 ^ m → m ≤ j → (has x j ≡ false) × (eqb x (2 ^ j) ≡ false)
nowhere x m j h l = (go (has x j) refl, ne_eqb x (2 ^ j) (λ e. let b = has_below m x j h (rw e (has_power j j ∙ eq-eqb j j refl)) in absurd (omega arith)))
  where
    go : (b : Bool) → has x j ≡ b → has x j ≡ false
    go false e = e
    go true e = let b = has_below m x j h e in absurd (omega arith)

module _ (w l : List ℕ) (m n j : ℕ) (past : m ≤ j) (within : (i : ℕ) → i < n → get_or l i 0 < 2 ^ m) where
  none : (i : ℕ) → i < n → (is_fixed (course_in w l i) j ≡ false) × (is_open (course_in w l i) j ≡ false)
  none i h = let q = nowhere (get_or l i 0) m j (within i h) past in (q.1, rw q.0 refl)

  pub sums_past : sums_to w l n j ≡ no_sums
  sums_past =
      let f = sum_zero n (fixed_weight w l j) (λ i h. rw (none i h).0 refl) in
      let o = sum_zero n (open_weight w l j) (λ i h. rw (none i h).1 refl) in
      let c = sum_zero n (fixed_one w l j) (λ i h. rw (none i h).0 refl) in
      let d = sum_zero n (open_one w l j) (λ i h. rw (none i h).1 refl) in
      rw (f, o, c, d) refl
