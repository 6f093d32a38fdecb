-- Rules 6 to 9 over the terms of a state: what each walk begins with, what a turn at a term leaves, and what stays behind a rule.
-- `walk_rule` cites `set_up`, `weight_at` and `order_at` for what `by_walk` asks, `walk_turn` where the loop goes on and `walk_stop` where it ends;
-- rules in a row cite `after` and `asked`.
use Prim.Native.Nat.{ℕ, ◌+◌, ◌≤◌, ◌<◌}
use mathlib.Core.Bool.{false}
use mathlib.Core.List.{List}
use mathlib.Core.Path.{◌≡◌, refl, sym, ap, ap₂, subst, ◌∙◌}
use native.Mathlib.Nat.{le_refl}
use native.Mathlib.Omega.{arith}
use lib.ListN.{length, get_or, set, take}
use lib.Seq.{get_or-set_same}
use Rattle.std.specs.Prelude.{Option, Some, None, Result, Ok, Err}
use Rattle.theory.specs.Tab.{tab}
use Rattle.year.specs.Year.{term_at, zero_term}
use Rattle.year.specs.Sums.{fixed_credits, open_credits, fixed_count, open_count, sums_at, sums_in}
use Rattle.year.specs.SumsOf.{sums_to}
use Rattle.year.specs.Sound.{Sound}
use Rattle.year.specs.declared.Quantity.TheVariants.{Credits, Counts}
use Rattle.year.specs.declared.Term.{Term}
use Rattle.year.specs.declared.Year.{Year}
use Rattle.year.proofs.SumLaws.{sums_read}
use Rattle.rules.specs.Step.{Step, joined, over_to, over_terms}
use Rattle.rules.specs.Narrower.{Narrower}
use Rattle.rules.specs.Spares.{spares, walk_of, least_count, most_count, least_load, most_load}
use Rattle.rules.specs.declared.Rule.{Rule}
use Rattle.rules.proofs.PlansKept.{Held}
use Rattle.rules.proofs.KeptOver.{AtTerms}
use Rattle.rules.proofs.Narrows.{Narrows}
use Rattle.rules.proofs.RulesHeld.{rule6_held, rule7_held, rule8_held, rule9_held}
use Rattle.frame.specs.State.{year_in, step_in, step_of}
use Rattle.frame.specs.Bounds.{Outcome, put, put_told, term_in, least_in, told, Fits}
use Rattle.frame.specs.declared.State.{State}
use Rattle.frame.proofs.BoundsOnly.{BoundsOnly, only_over}
use Rattle.frame.proofs.Moves.{raise_move, lower_move}
use Rattle.frame.proofs.StateLaws.{all_sound}
use Rattle.frame.proofs.TermsAt.{narrower_at, turn, stop}
use Rattle.frame.proofs.ToldLaws.{told_fits, turn_told, turn_terms}
use Rattle.orders.specs.Orders.{orders_of}
use Rattle.orders.specs.declared.Orders.{Orders}
use Rattle.orders.proofs.OrderLaws.{OrderFits, down_fits, up_fits, orders_weights}
use Rattle.walks.specs.Sparing.{tallies_of, spare_from}
use Rattle.walks.specs.Walking.{walk_over, reached, begun_of, until_of, ended_of, rule_of, order_of, walked_at}
use Rattle.walks.specs.declared.Tallies.{Tallies}
use Rattle.walks.specs.declared.Walk.{Walk}
use Rattle.walks.specs.declared.WalkRule.{WalkRule}
use Rattle.walks.specs.declared.WalkRule.TheVariants.{LeastCount, MostCount, LeastLoad, MostLoad}
use Rattle.walks.proofs.SparingLaws.{spares_from, spares_are, low_counts_set}
use Rattle.walks.proofs.WalkLaws.{ended_faithful, ended_sound, none_walked}

-- ---- the paper's rules, and the orders that they walk in

held_by : (r : WalkRule) → AtTerms Held (rule_of r)
held_by LeastCount = rule6_held
held_by MostCount = rule7_held
held_by LeastLoad = rule8_held
held_by MostLoad = rule9_held

narrows_by : (r : WalkRule) → AtTerms Narrows (rule_of r)
narrows_by r y k a l = (held_by r y k a l).0

pub order_fits : (r : WalkRule) (y : Year) → Sound y → OrderFits (order_of r y) y.courses
order_fits LeastCount = down_fits
order_fits MostCount = up_fits
order_fits LeastLoad = up_fits
order_fits MostLoad = down_fits

order_same : (r : WalkRule) (y z : Year) → Narrower y z → order_of r z ≡ order_of r y
order_same r y z n = go r
  where
    same : orders_of z ≡ orders_of y
    same = orders_weights y z n.courses_same n.weight_same

    go : (r : WalkRule) → order_of r z ≡ order_of r y
    go LeastCount = ap (λ (o : Orders). o.down) same
    go MostCount = ap (λ (o : Orders). o.up) same
    go LeastLoad = ap (λ (o : Orders). o.up) same
    go MostLoad = ap (λ (o : Orders). o.down) same

-- ---- the outcome at a term is the rule's

module _ (y : Year) (s : Sound y) (j : ℕ) (h : j < 16) where
  pub sums_over : sums_in y.sums j ≡ sums_to y.weight y.list y.courses j
  unfolding sums_at fixed_credits open_credits fixed_count open_count
  sums_over = sums_read y y.sums s.sums_kept j h

  -- a walk starts with the definition's sums
  begins : (r : WalkRule)
      → walked_at r y j
      ≡ ended_of r (term_at y j) (walk_over y.weight y.list j (until_of r (term_at y j)) (take y.courses (order_of r y)) (begun_of (spares y) (sums_at y j)))
  begins r =
      ap (λ x. ended_of r (term_at y j) (walk_over y.weight y.list j (until_of r (term_at y j)) (take y.courses (order_of r y)) (begun_of (spares y) x)))
      (sums_read y y.sums s.sums_kept j h)

  -- and ends in the definition's one move
  walk_is : (r : WalkRule) → put y j (walked_at r y j) ≡ rule_of r y j
  unfolding least_count most_count least_load most_load walk_of sums_at fixed_credits fixed_count
  walk_is LeastCount = ap (put y j) (begins LeastCount) ∙ raise_move 6 y j Counts _ _
  walk_is MostCount = ap (put y j) (begins MostCount) ∙ lower_move 7 y j Counts _ false
  walk_is LeastLoad = ap (put y j) (begins LeastLoad) ∙ raise_move 8 y j Credits _ _
  walk_is MostLoad = ap (put y j) (begins MostLoad) ∙ lower_move 9 y j Credits _ false

-- ---- behind a rule over the terms, from s to t: the bounds alone are others

pub after : (r : WalkRule) (s t : State) → step_in t ≡ over_terms (rule_of r) (step_in s) → BoundsOnly (year_in s) (year_in t)
after r s t e =
    subst (BoundsOnly (year_in s)) (sym (ap (λ (x : Step). x.year) e))
    (only_over (rule_of r) (narrows_by r) (λ y j a l. (walked_at r y j, walk_is y a j (omega (arith, a)) r)) (step_in s) s.sound s.terms (le_refl s.terms))

-- so the next one walks in the same order, and its tallies are the same
pub asked : (r : WalkRule) (s t : State) → BoundsOnly (year_in s) (year_in t) → (o : List ℕ) → o ≡ order_of r (year_in s) → (x : Tallies) → x ≡ tallies_of s.sums
    → (o ≡ order_of r (year_in t)) × (x ≡ tallies_of t.sums)
asked r s t k o o_is x x_is = (o_is ∙ sym (order_same r (year_in s) (year_in t) k.narrower), x_is ∙ ap tallies_of (sym k.sums_same))

-- ---- a turn: z is the state at term j, w what the code told of the term, and the state t and the answer v were left

module _ (r : WalkRule) (s : State) (j : ℕ) (h : j < s.terms) (z : State) (inv : step_in z ≡ over_to (rule_of r) (step_in s) j) where
  narrower : Narrower (year_in s) (year_in z)
  narrower = narrower_at (rule_of r) s j h z inv (narrows_by r)

  pub walk_here : j < z.terms
  walk_here = omega (arith, narrower.terms_same)

  small : j < 16
  small = omega (arith, s.sound)

  pub weight_at : s.weight.now ≡ z.weight.now
  weight_at = sym narrower.weight_same

  pub order_at : (o : List ℕ) → o ≡ order_of r (year_in s) → o ≡ order_of r (year_in z)
  order_at o is = is ∙ sym (order_same r (year_in s) (year_in z) narrower)

  abbrev what : Outcome
  what = walked_at r (year_in z) j

  what_is : put (year_in z) j what ≡ rule_of r (year_in z) j
  what_is = walk_is (year_in z) z.sound j small r

  module _ (w : Result (Option Term) Rule) (is : w ≡ told what) where
    pub walk_fits : Fits w
    walk_fits = told_fits what w is (ended_sound r (term_in z.term j) _ (all_sound (year_in z) z.sound j small))

    module _ (t : State) where
      pub walk_stop : (a : Rule) → step_of t (Err a) ≡ joined (step_in z) (put_told (year_in z) j w) → step_of t (Err a) ≡ over_terms (rule_of r) (step_in s)
      walk_stop a e = stop (rule_of r) s j h z inv t a (turn_told z j what (ended_faithful r _ _) w is t (Err a) e (rule_of r) what_is)

      module _ (e : step_in t ≡ joined (step_in z) (put_told (year_in z) j w)) where
        pub walk_turn : step_in t ≡ over_to (rule_of r) (step_in s) (j + 1)
        walk_turn = turn (rule_of r) s j h z inv t (Ok tt) (turn_told z j what (ended_faithful r _ _) w is t (Ok tt) e (rule_of r) what_is)

        -- the low counts are kept up to date
        pub least_left : (l : List ℕ) → l ≡ tab 16 (least_in z.term) → set l j (least_in t.term j) ≡ tab 16 (least_in t.term)
        least_left l l_is =
            let left : t.term ≡ set z.term j what.term = turn_terms z j what (ended_faithful r _ _) w is t (Ok tt) e in
            let long : j < length z.term = omega (arith, z.sound, small) in
            let here : least_in t.term j ≡ what.term.least.0 = ap (λ u. least_in u j) left ∙ ap (λ (u : Term). u.least.0) (get_or-set_same z.term j what.term zero_term long) in
            ap (set l j) here ∙ low_counts_set z.term l j what.term long l_is ∙ ap (λ u. tab 16 (least_in u)) (sym left)

        -- and the sums are as they were
        pub sums_left : t.sums ≡ z.sums
        sums_left = ap (λ (x : Step). x.year.sums) e ∙ go w
          where
            go : (w : Result (Option Term) Rule) → (put_told (year_in z) j w).year.sums ≡ z.sums
            go (Ok (Some u)) = refl
            go (Ok None) = refl
            go (Err a) = refl

-- ---- what a walk begins with

-- the spares set up are the definition's
pub set_up : (z : State) (x : Tallies) → x ≡ tallies_of z.sums → (l : List ℕ) → l ≡ tab 16 (least_in z.term) → tab 16 (spare_from x l) ≡ spares (year_in z)
set_up z x x_is l l_is =
    ap₂ (λ a b. tab 16 (spare_from a b)) x_is l_is
    ∙ spares_from z.term z.sums
    ∙ spares_are (year_in z) z.sums z.sound.sums_kept

-- its order is one of the courses
pub walk_order : (r : WalkRule) (z : State) (o : List ℕ) → o ≡ order_of r (year_in z) → (z.courses ≤ length o) × ((k : ℕ) → k < z.courses → get_or o k 0 < z.courses)
walk_order r z o is =
    let f = subst (λ d. OrderFits d z.courses) (sym is) (order_fits r (year_in z) z.sound) in
    (omega (arith, f.long, z.sound), f.small)

-- where no course is open, it ends as it began
pub walk_none : (r : WalkRule) (z : State) (j : ℕ) → j < z.terms → (p : List ℕ) → p ≡ spares (year_in z) → (w : Walk) → w ≡ begun_of p (sums_in z.sums j)
    → (sums_in z.sums j).free.0 ≡ 0 → ended_of r (term_in z.term j) (reached w) ≡ walked_at r (year_in z) j
walk_none r z j h p p_is w w_is none =
    let y = year_in z in
    let t = term_in z.term j in
    let f = order_fits r y z.sound in
    let o = take z.courses (order_of r y) in
    ap (ended_of r t) (sym (none_walked y.weight y.list j y.courses (sums_in z.sums j) (sums_over y z.sound j (omega (arith, z.sound))) (until_of r t) (order_of r y) w (omega (arith, f.long, z.sound)) f.small none))
    ∙ ap (λ x. ended_of r t (walk_over y.weight y.list j (until_of r t) o x)) (w_is ∙ ap (λ x. begun_of x (sums_in z.sums j)) p_is)
