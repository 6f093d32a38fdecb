-- The walk course by course: what is left to walk gives what the whole walk gives. What it begins with, and what its rule leaves.
use Prim.Native.Nat.{ℕ, suc, ◌+◌, ◌≤◌, ◌<◌}
use mathlib.Core.Bool.{Bool, true, false, true≢false}
use mathlib.Core.List.{List, [], ◌∷◌}
use mathlib.Core.Path.{◌≡◌, refl, sym, ap, subst, ◌∙◌}
use native.Mathlib.Numerals.{add-one}
use native.Mathlib.Nat.{le_refl}
use native.Mathlib.Omega.{arith}
use lib.ListN.{length, get_or, take, drop, length-take, drop_of_length-le}
use lib.Seq.{drop-cons, get_or-take}
use Rattle.std.proofs.Common.{ControlFlow, Break, Continue}
use Rattle.theory.specs.Sum.{sum}
use Rattle.theory.specs.Choice.{choose}
use Rattle.theory.proofs.ChoiceLaws.{choose_case}
use Rattle.theory.specs.Order.{keep}
use Rattle.theory.specs.Walk.{Reached, walk}
use Rattle.rules.specs.RuleNumbers.{rule_named}
use Rattle.rules.specs.Spares.{blocked, stops}
use Rattle.rules.specs.declared.Until.{Until}
use Rattle.frame.proofs.ToldLaws.{Faithful, within_faithful}
use Rattle.frame.proofs.Moves.{outcome_sound}
use Rattle.year.specs.declared.Quantity.TheVariants.{Credits, Counts}
use Rattle.year.specs.Year.{course_in, is_open}
use Rattle.year.specs.declared.Course.{Course}
use Rattle.year.specs.Sound.{TermSound}
use Rattle.year.specs.Sums.{fixed_weight, fixed_one}
use Rattle.year.specs.SumsOf.{sums_to}
use Rattle.year.specs.declared.Sums.{Sums}
use Rattle.year.specs.declared.Term.{Term}
use Rattle.year.proofs.SumLaws.{weights_to, possible_to, counts_to, none_open_lem}
use Rattle.walks.specs.Walking.{taken, open_in, walk_over, reached, ended_of}
use Rattle.walks.specs.declared.Walk.{Walk}
use Rattle.walks.specs.declared.WalkRule.{WalkRule}
use Rattle.walks.specs.declared.WalkRule.TheVariants.{LeastCount, MostCount, LeastLoad, MostLoad}

-- ---- a step of the walk a: it breaks off as it is, or goes on as the walk n

walk_in : ControlFlow Walk Walk → Walk
walk_in (Break w) = w
walk_in (Continue w) = w

breaks : ControlFlow Walk Walk → Bool
breaks (Break w) = true
breaks (Continue w) = false

broke : (x : Bool) (a n b : Walk) → Break b ≡ choose x (Break a) (Continue n) → (x ≡ true) × (b ≡ a)
unfolding walk_in breaks
broke true a n b e = (refl, ap walk_in e)
broke false a n b e = absurd (true≢false (ap breaks e))

went : (x : Bool) (a n b : Walk) → Continue b ≡ choose x (Break a) (Continue n) → (x ≡ false) × (b ≡ n)
unfolding walk_in breaks
went true a n b e = absurd (true≢false (sym (ap breaks e)))
went false a n b e = (refl, ap walk_in e)

-- ---- over an order

module _ (w l : List ℕ) (j : ℕ) (u : Until) where
  -- a course that is not open is passed over; at an open one the walk stops, or it goes on with the course skipped or taken
  module _ (g : ℕ) (o : List ℕ) (a : Walk) where
    passed : open_in w l j g ≡ false → walk_over w l j u (g ∷ o) a ≡ walk_over w l j u o a
    unfolding keep
    passed e = rw e refl

    ended : open_in w l j g ≡ true → stops u a.credits.0 a.count.0 (get_or w g 0) ≡ true → walk_over w l j u (g ∷ o) a ≡ reached a
    unfolding keep walk
    ended e q = rw (e, q, walk)

    went_on : open_in w l j g ≡ true → stops u a.credits.0 a.count.0 (get_or w g 0) ≡ false
        → walk_over w l j u (g ∷ o) a ≡ walk_over w l j u o (taken a (course_in w l g) j)
    unfolding keep walk taken
    went_on e q = go (blocked j a.spare (course_in w l g)) refl
      where
        go : (z : Bool) → blocked j a.spare (course_in w l g) ≡ z → walk_over w l j u (g ∷ o) a ≡ walk_over w l j u o (taken a (course_in w l g) j)
        go true r = rw (e, q, r, walk)
        go false r = rw (e, q, r, add-one, walk)

  -- d is the course at place k of L, and b what a step of the walk a makes of it
  module _ (L : List ℕ) (k : ℕ) (h : k < length L) (a : Walk) (d : Course) (is : d ≡ course_in w l (get_or L k 0)) where
    abbrev at_stop : Bool
    at_stop = stops u a.credits.0 a.count.0 d.weight.0

    first : walk_over w l j u (drop k L) a ≡ walk_over w l j u (get_or L k 0 ∷ drop (k + 1) L) a
    first = ap (λ o. walk_over w l j u o a) (rw (drop-cons L k 0 h, add-one) refl)

    open_is : open_in w l j (get_or L k 0) ≡ is_open d j
    open_is = ap (λ x. is_open x j) (sym is)

    stop_is : stops u a.credits.0 a.count.0 (get_or w (get_or L k 0) 0) ≡ at_stop
    stop_is = ap (λ (x : Course). stops u a.credits.0 a.count.0 x.weight.0) (sym is)

    pub pass_at : is_open d j ≡ false → walk_over w l j u (drop (k + 1) L) a ≡ walk_over w l j u (drop k L) a
    pass_at e = sym (first ∙ passed (get_or L k 0) (drop (k + 1) L) a (open_is ∙ e))

    module _ (opened : is_open d j ≡ true) (b : Walk) where
      abbrev stepped : ControlFlow Walk Walk
      stepped = choose at_stop (Break a) (Continue (taken a d j))

      pub stop_at : Break b ≡ stepped → reached b ≡ walk_over w l j u (drop k L) a
      stop_at e =
          let q = broke at_stop a (taken a d j) b e in
          ap reached q.1 ∙ sym (first ∙ ended (get_or L k 0) (drop (k + 1) L) a (open_is ∙ opened) (stop_is ∙ q.0))

      pub turn_at : Continue b ≡ stepped → walk_over w l j u (drop (k + 1) L) b ≡ walk_over w l j u (drop k L) a
      turn_at e =
          let q = went at_stop a (taken a d j) b e in
          ap (walk_over w l j u (drop (k + 1) L)) (q.1 ∙ ap (λ x. taken a x j) is)
          ∙ sym (first ∙ went_on (get_or L k 0) (drop (k + 1) L) a (open_is ∙ opened) (stop_is ∙ q.0))

      -- one course adds its weight at most
      abbrev Risen : Walk → Type 0
      Risen z = (z.credits.0 ≤ a.credits.0 + d.weight.0) × (z.count.0 ≤ a.count.0 + 1)

      taken_risen : Risen (taken a d j)
      unfolding taken
      taken_risen = choose_case Risen (blocked j a.spare d) a _ (λ q. (omega arith, omega arith)) (λ q. (omega arith, omega arith))

      pub rise_at : Continue b ≡ stepped → Risen b
      rise_at e = subst Risen (sym (went at_stop a (taken a d j) b e).1) taken_risen

  -- at the end nothing is left to walk
  pub none_left : (L : List ℕ) (a : Walk) → walk_over w l j u (drop (length L) L) a ≡ reached a
  unfolding keep walk
  none_left L a = rw (drop_of_length-le L (le_refl (length L))) refl

-- ---- from the sums of the term

keep_none : (test : ℕ → Bool) (L : List ℕ) → ((k : ℕ) → k < length L → test (get_or L k 0) ≡ false) → keep test L ≡ []
unfolding keep
keep_none test [] h = refl
keep_none test (g ∷ L) h = rw (h 0 (omega arith)) (keep_none test L (λ k l. h (suc k) (omega arith)))

module _ (w l : List ℕ) (j n : ℕ) (s : Sums) (e : s ≡ sums_to w l n j) where
  -- a walk that begins with them is far from the largest number
  pub sums_small : n ≤ 64 → ((i : ℕ) → i < n → get_or w i 0 ≤ 1000) → (s.fixed.0 ≤ 64000) × (s.placed.0 ≤ 64)
  sums_small few light =
      let f : s.fixed.0 ≡ sum n (fixed_weight w l j) = ap (λ (z : Sums). z.fixed.0) e in
      let c : s.placed.0 ≡ sum n (fixed_one w l j) = ap (λ (z : Sums). z.placed.0) e in
      (omega (arith, weights_to w l n light, possible_to w l j n), omega (arith, counts_to w l j n))

  -- where none is open, the walk ends as it began
  pub none_walked : (u : Until) (o : List ℕ) (a : Walk) → n ≤ length o → ((k : ℕ) → k < n → get_or o k 0 < n) → s.free.0 ≡ 0
      → walk_over w l j u (take n o) a ≡ reached a
  unfolding walk
  none_walked u o a long within z =
      let none = keep_none (open_in w l j) (take n o)
      (λ k h. let q = simp length-take at h in let b : k < n = omega (arith, q) in rw (get_or-take n o k 0 b) (none_open_lem w l j n (sym (ap (λ (x : Sums). x.free.0) e) ∙ z) (get_or o k 0) (within k b))) in
      rw none refl

-- ---- what a rule leaves at a term is within the sizes

pub ended_sound : (r : WalkRule) (t : Term) (w : Reached) → TermSound t → TermSound (ended_of r t w).term
ended_sound LeastCount t w s = outcome_sound 6 _ t Counts w.count t.most.0 s
ended_sound MostCount t w s = outcome_sound 7 _ t Counts t.least.0 w.count s
ended_sound LeastLoad t w s = outcome_sound 8 _ t Credits w.credits t.high.0 s
ended_sound MostLoad t w s = outcome_sound 9 _ t Credits t.low.0 w.credits s

-- and what it does not alter is as it was
pub ended_faithful : (r : WalkRule) (t : Term) (w : Reached) → Faithful t (ended_of r t w)
unfolding rule_named
ended_faithful LeastCount t w = within_faithful 6 refl _ Counts t _ _
ended_faithful MostCount t w = within_faithful 7 refl _ Counts t _ _
ended_faithful LeastLoad t w = within_faithful 8 refl _ Credits t _ _
ended_faithful MostLoad t w = within_faithful 9 refl _ Credits t _ _
