-- Rule 11 on the state that the code carries: its tests over the columns are the year's, and its answer is the step's.
use Prim.Native.Nat.{ℕ, ◌+◌, ◌-◌, ◌*◌, ◌/◌, ◌≤◌, ◌<◌}
use mathlib.Core.Bool.{Bool, true, false, not, ◌||◌, or-false}
use mathlib.Core.Path.{◌≡◌, refl, sym, ap, ap₂, ◌∙◌}
use native.Mathlib.Omega.{arith}
use lib.Dec.{eqb, ltb}
use lib.ListN.{get_or}
use native.Mathlib.Decide.{ℕ_discrete}
use borrow.Author.Tests.{eq-eqb, ne_eqb, le-ltb}
use Rattle.std.specs.Prelude.{Err}
use Rattle.theory.specs.Choice.{choose}
use Rattle.theory.specs.Sum.{sum}
use Rattle.theory.proofs.SumLaws.{sum_cong, sum_zero, sum_le_mul}
use Rattle.theory.specs.Packing.{share}
use Rattle.theory.specs.Tab.{tab}
use Rattle.theory.specs.Tests.{any}
use Rattle.theory.proofs.TestLaws.{all_at, any_same, any_none}
use Rattle.theory.proofs.PackingLaws.{share_top, ceiling_test}
use Rattle.year.specs.Sums.{is_placed, placed_at, all_placed, fixed_credits}
use Rattle.year.specs.Year.{course_in}
use Rattle.frame.specs.Bounds.{high_in}
use Rattle.year.specs.SumsOf.{fixed_in, none_open}
use Rattle.year.specs.declared.Year.{Year}
use Rattle.year.proofs.SumLaws.{fixed_read}
use Rattle.year.proofs.OnePlacing.{none_open_is}
use Rattle.rules.specs.Step.{step, live, dead, joined}
use Rattle.rules.specs.declared.Rule.TheVariants.{Packing}
use Rattle.frame.specs.State.{year_in, step_in, step_of}
use Rattle.rules.specs.Packing.{burst, room, course_share, term_share, shares, bursts, rule11}
use Rattle.rules.specs.Round.{once}
use Rattle.frame.specs.declared.State.{State}
use Rattle.packing.specs.Bins.{burst_in, room_in}
use Rattle.packing.specs.Sizes.{size_in, used_in, share_sum, over, unpackable}
use Rattle.theory.proofs.LargestLaws.{largest_most}
use Rattle.packing.proofs.SizeLaws.{share_pick, share_tab}

rule11_is : (y : Year) → rule11 y ≡ choose (unpackable y) (dead 11 y) (live y)
unfolding rule11 unpackable
rule11_is y = go (any y.terms (burst y)) (eqb (room y) 0)
  where
    go : (a b : Bool)
        → choose a (dead 11 y) (choose b (live y) (choose (any (room y / 2 + 1) (bursts y (room y))) (dead 11 y) (live y)))
        ≡ choose (choose a true (choose b false (any (room y / 2 + 1) (bursts y (room y))))) (dead 11 y) (live y)
    go true b = refl
    go false true = refl
    go false false = refl

pub room_most : (s : State) → room_in s.term s.terms ≤ 64000
room_most s = largest_most s.terms 64000 (high_in s.term) (s.sound.term_sound 0 s.sound.terms_least).credits_most (λ k l. (s.sound.term_sound k l).credits_most)

module _ (s : State) where
  -- ---- the tests

  fixed_is : (k : ℕ) → k < 16 → fixed_in s.sums k ≡ fixed_credits (year_in s) k
  fixed_is k h = fixed_read (year_in s) s.sums s.sound.sums_kept k h

  courses_are : (c t : ℕ) → sum s.courses (course_share (year_in s) c t) ≡ share_sum (tab s.courses (size_in s.weight.now s.list)) c t
  courses_are c t =
      sum_cong s.courses (course_share (year_in s) c t) (λ i. share c t (size_in s.weight.now s.list i))
      (λ i l. sym (share_pick c t (not (is_placed (course_in s.weight.now s.list i))) (get_or s.weight.now i 0)))
      ∙ sym (share_tab s.courses (size_in s.weight.now s.list) c t)

  terms_are : (c t : ℕ) → s.terms ≤ 16 → sum s.terms (term_share (year_in s) c t) ≡ share_sum (tab s.terms (used_in s.term s.sums c)) c t
  terms_are c t h =
      sum_cong s.terms (term_share (year_in s) c t) (λ k. share c t (used_in s.term s.sums c k))
      (λ k l. ap (λ x. share c t (c - (high_in s.term k - x))) (sym (fixed_is k (omega arith))))
      ∙ sym (share_tab s.terms (used_in s.term s.sums c) c t)

  shares_are : (c t : ℕ)
      → shares (year_in s) c t ≡ share_sum (tab s.courses (size_in s.weight.now s.list)) c t + share_sum (tab s.terms (used_in s.term s.sums c)) c t
  unfolding shares
  shares_are c t = ap₂ ◌+◌ (courses_are c t) (terms_are c t s.sound.terms_most)

  abbrev over_in : ℕ → ℕ → Bool
  over_in c = over (tab s.courses (size_in s.weight.now s.list)) (tab s.terms (used_in s.term s.sums c)) c (s.terms * c)

  bursting_are : any s.terms (burst_in s.term s.sums) ≡ any s.terms (burst (year_in s))
  bursting_are =
      any_same s.terms (burst_in s.term s.sums) (burst (year_in s))
      (λ k l. ap (ltb (high_in s.term k)) (fixed_is k (omega (arith, s.sound))))

  bursts_are : (c : ℕ) → 0 < c → any (c / 2 + 1) (over_in c) ≡ any (c / 2 + 1) (bursts (year_in s) c)
  bursts_are c h =
      sym
      (any_same (c / 2 + 1) (bursts (year_in s) c) (over_in c)
      (λ t l. ceiling_test c s.terms (shares (year_in s) c t) h ∙ ap (ltb (s.terms * c)) (shares_are c t)))

  pub bursting_is : any s.terms (burst_in s.term s.sums) ≡ true → true ≡ unpackable (year_in s)
  unfolding unpackable
  bursting_is b = rw (sym bursting_are ∙ b)

  -- where every course has one term, each term counts for c at most, and there is nothing else
  settled_fits : all_placed (year_in s) ≡ true → (c t : ℕ) → shares (year_in s) c t ≤ s.terms * c
  unfolding shares all_placed
  settled_fits p c t =
      let none = sum_zero s.courses (course_share (year_in s) c t) (λ i h. rw (all_at s.courses (placed_at (year_in s)) p i h) refl) in
      let terms = sum_le_mul s.terms c (term_share (year_in s) c t) (λ k h. share_top c t _ (omega arith)) in
      omega (arith, none, terms)

  module _ (b : any s.terms (burst_in s.term s.sums) ≡ false) where
    pub settled_is : none_open s.terms s.sums ≡ true → false ≡ unpackable (year_in s)
    unfolding unpackable
    settled_is n = rw (sym bursting_are ∙ b) (go (ℕ_discrete (room (year_in s)) 0))
      where
        placed : all_placed (year_in s) ≡ true
        placed = sym (none_open_is (year_in s) s.sound) ∙ n

        go : Dec (room (year_in s) ≡ 0) → false ≡ choose (eqb (room (year_in s)) 0) false (any (room (year_in s) / 2 + 1) (bursts (year_in s) (room (year_in s))))
        go (yes z) = rw (eq-eqb _ _ z)
        go (no d) =
            let c = room (year_in s) in
            rw (ne_eqb c 0 d)
            (sym
            (any_none (c / 2 + 1) (bursts (year_in s) c)
            (λ t l. ceiling_test c s.terms (shares (year_in s) c t) (omega (arith, d)) ∙ le-ltb (s.terms * c) (shares (year_in s) c t) (settled_fits placed c t))))

    pub empty_is : room_in s.term s.terms ≡ 0 → false ≡ unpackable (year_in s)
    unfolding unpackable
    empty_is z = rw (sym bursting_are ∙ b, z)

    pub over_is : (c : ℕ) → c ≡ room_in s.term s.terms → (c ≡ 0 → ⊥)
        → any (c / 2 + 1) (over (tab s.courses (size_in s.weight.now s.list)) (tab s.terms (used_in s.term s.sums c)) c (s.terms * c)) ≡ unpackable (year_in s)
    unfolding unpackable
    over_is c r z =
        bursts_are c (omega (arith, z))
        ∙ ap (λ x. any (x / 2 + 1) (bursts (year_in s) x)) r
        ∙ rw (sym bursting_are ∙ b, ne_eqb (room (year_in s)) 0 (λ q. z (r ∙ q))) refl

  -- ---- the answer

  -- the step that rule 11 leaves goes on or not, and nothing else is altered
  once_is : (b : Bool) → unpackable (year_in s) ≡ b → once rule11 (step_in s) ≡ choose b (step (year_in s) s.altered 11) (step_in s)
  once_is b u = ap (λ t. joined (step_in s) t) (rule11_is (year_in s)) ∙ go b u
    where
      altered_is : s.altered || false ≡ s.altered
      altered_is = or-false s.altered

      go : (b : Bool) → unpackable (year_in s) ≡ b
          → joined (step_in s) (choose (unpackable (year_in s)) (dead 11 (year_in s)) (live (year_in s))) ≡ choose b (step (year_in s) s.altered 11) (step_in s)
      go true e = rw e (λ i. step (year_in s) (altered_is i) 11)
      go false e = rw e (λ i. step (year_in s) (altered_is i) 0)

  pub finds_no_plan : unpackable (year_in s) ≡ true → step_of s (Err Packing) ≡ once rule11 (step_in s)
  finds_no_plan u = sym (once_is true u)

  pub finds_nothing : unpackable (year_in s) ≡ false → step_in s ≡ once rule11 (step_in s)
  finds_nothing u = sym (once_is false u)
