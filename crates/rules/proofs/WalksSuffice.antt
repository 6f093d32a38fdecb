-- Rules 6 to 9: the facts suffice, by the spare lemma.
use Prim.Native.Nat.{ℕ, zero, suc, ◌+◌, ◌-◌, ◌≤◌, ◌<◌}
use mathlib.Core.Bool.{Bool, true, false, ◌&&◌}
use mathlib.Core.List.{List}
use mathlib.Core.Path.{◌≡◌, refl, sym, ap, ◌∙◌}
use native.Mathlib.Omega.{arith}
use native.Mathlib.Decide.{dec_lt}
use lib.Dec.{eqb}
use lib.ListN.{get_or}
use borrow.Author.Tests.{eqb-true, eqb-false}
use Rattle.theory.specs.Sum.{pick, sum, weigh}
use Rattle.theory.proofs.TestLaws.{and_true, any_true, any_false}
use Rattle.theory.proofs.TabLaws.{get_or_tab}
use Rattle.theory.proofs.LoadLaws.{load}
use Rattle.theory.proofs.WalkLaws.{Against, Falling, Rising, one, rule_6, rule_7, rule_8, rule_9}
use Rattle.theory.proofs.Spare.{Spares, against_plan}
use Rattle.theory.proofs.Open.{other, other_apart, spare_of}
use Rattle.theory.proofs.Start.{Begins, begun, falling, rising}
use Rattle.theory.proofs.OrderLaws.{heavier_sum, heavier_down, lighter_sum, lighter_up}
use Rattle.year.specs.Year.{term_at, course_at, weight, low_credits, high_credits, low_count, high_count}
use Rattle.year.specs.Bound.{bound, Keeps}
use Rattle.year.specs.Sums.{fixed_credits, fixed_count, open_count}
use Rattle.year.specs.Plans.{Placing, put_in, credits_in, count_in}
use Rattle.year.specs.Sound.{Sound}
use Rattle.year.specs.declared.Quantity.{Quantity}
use Rattle.year.specs.declared.Quantity.TheVariants.{Credits, Counts}
use Rattle.year.specs.declared.Side.{Side}
use Rattle.year.specs.declared.Side.TheVariants.{Low, High}
use Rattle.year.specs.declared.Term.{Term}
use Rattle.year.specs.declared.Year.{Year}
use Rattle.rules.specs.Step.{moves, fails}
use Rattle.rules.specs.Spares.{spare, spares, blocks, blocked, less, charged, table, open_at, open_of, down, up, walk_of}
use Rattle.rules.specs.Facts.{Basis, Into, MeetsAll, Suffice, own, besides, every, the_unlisted, the_bound, ◌with◌}
use Rattle.rules.specs.Reasons.{basis_walk}
use Rattle.rules.specs.declared.Until.TheVariants as until
use Rattle.rules.proofs.Reading.{lists_at, fixed_at, alone}
use Rattle.rules.proofs.FactLaws.{met_left, met_right, own_is, besides_is, met_ins, met_fix, met_bound}

-- ---- the table of spares is one that the theory asks for

one_less : (o : Bool) (x : ℕ) → o && eqb x 0 ≡ false → x ≡ x - pick o 1 + pick o 1
one_less true zero e = absurd (eqb-false 0 0 e refl)
one_less true (suc x) e = omega arith
one_less false x e = omega arith

module _ (y : Year) (j : ℕ) where
  blocked_by : (s : List ℕ) (g : ℕ) → blocked j s (course_at y g) ≡ true → (k : ℕ) × (k < 16) × (other (lists_at y) j g k ≡ true) × (get_or s k 0 ≡ 0)
  unfolding blocked
  blocked_by s g e =
      let r = any_true 16 (blocks j s (course_at y g)) e in
      let a = and_true (other (lists_at y) j g r.0) (eqb (get_or s r.0 0) 0) r.2 in
      (r.0, r.1, a.0, eqb-true (get_or s r.0 0) 0 a.1)

  charged_by : (s : List ℕ) (g : ℕ) → blocked j s (course_at y g) ≡ false → (k : ℕ) → k < 16
      → get_or s k 0 ≡ get_or (charged j s (course_at y g)) k 0 + pick (other (lists_at y) j g k) 1
  unfolding blocked charged
  charged_by s g e k l =
      one_less (other (lists_at y) j g k) (get_or s k 0) (any_false 16 (blocks j s (course_at y g)) e k l)
      ∙ ap (λ x. x + pick (other (lists_at y) j g k) 1) (sym (get_or_tab 16 (less j s (course_at y g)) 0 k l))

  abbrev ledger : Spares (table y j) 16 j (other (lists_at y) j)
  ledger = record { look = λ s k. get_or s k 0; apart = other_apart (lists_at y) j; blocked_by = blocked_by; charged = charged_by }

-- ---- where the walk of term j begins, against a placing that meets the facts

module _ (y : Year) (j : ℕ) (s : Sound y) (side : Side) (q : Quantity) (p : Placing) (into : Into y p) (m : MeetsAll y p (basis_walk side q j)) where
  -- the three parts of the basis
  abbrev low_counts : Basis
  low_counts = the_bound Low Counts (besides j)

  abbrev own_bound : Basis
  own_bound = the_bound side q (own j)

  pairs : MeetsAll y p (the_unlisted every)
  pairs = met_left y p (the_unlisted every) (low_counts with own_bound) m

  bounds : MeetsAll y p (low_counts with own_bound)
  bounds = met_right y p (the_unlisted every) (low_counts with own_bound) m

  -- the own bound used
  used : j < y.terms → Keeps side (bound side q y j) (put_in q y p j)
  used l = met_bound y p (own j) j (own_is j) side q l (met_right y p low_counts own_bound bounds)

  -- a term that the year has not got asks for no course
  lows : (k : ℕ) → k < 16 → (k ≡ j → ⊥) → low_count y k ≤ load y.courses one p k
  unfolding load
  lows k l d = go (dec_lt k y.terms)
    where
      go : Dec (k < y.terms) → low_count y k ≤ count_in y p k
      go (yes h) = met_bound y p (besides j) k (besides_is j k d) Low Counts h (met_left y p low_counts own_bound bounds)
      go (no n) = omega (arith, ap (λ (t : Term). t.least.0) (s.term_blank k (omega (arith, n)) l))

  fresh : (k : ℕ) → k < 16 → get_or (spares y) k 0 ≡ spare_of y.courses (lists_at y) (fixed_at y) (low_count y) k
  unfolding spares open_count fixed_count
  fresh k l = get_or_tab 16 (spare y) 0 k l

  -- the open courses of j in an order o that holds each course once
  abbrev Begun : List ℕ → Type 0
  Begun o = Begins (table y j) y.courses 16 j (lists_at y) (fixed_at y) (ledger y j) p (open_of y j o) (spares y)

  begins : (o : List ℕ) → ((f : ℕ → ℕ) → weigh f (open_of y j o) ≡ sum y.courses (λ i. pick (open_at y j i) (f i))) → Begun o
  begins o same = record { alone = alone y; ins = met_ins y p into pairs; fix = met_fix y p into pairs; low = low_count y; lows = lows; fresh = fresh; same = same }

  begins_down : Begun (down y)
  unfolding down
  begins_down = begins (down y) (heavier_sum (weight y) y.courses s.courses_most (open_at y j))

  begins_up : Begun (up y)
  unfolding up
  begins_up = begins (up y) (lighter_sum (weight y) y.courses s.courses_most (open_at y j))

  abbrev against : Against (table y j)
  against = against_plan (table y j) 16 j (other (lists_at y) j) (ledger y j) p

  falls : Falling (table y j) against (weight y) (count_in y p j) (credits_in y p j) (open_of y j (down y)) (spares y) (fixed_credits y j) (fixed_count y j)
  unfolding load fixed_credits fixed_count down
  falls =
      falling begins_down (weight y) 1000 (heavier_down (weight y) y.courses s.courses_most (open_at y j) 1000 (λ i l. (s.course_sound i l).weight_most))

  rises : Rising (table y j) against (weight y) (count_in y p j) (credits_in y p j) (open_of y j (up y)) (spares y) (fixed_credits y j) (fixed_count y j)
  unfolding load fixed_credits fixed_count up
  rises = rising begins_up (weight y) 0 (lighter_up (weight y) y.courses s.courses_most (open_at y j))

  -- the placing has what is fixed
  fixed_le : fixed_count y j ≤ count_in y p j
  unfolding load fixed_count
  fixed_le = omega (arith, begun begins_up one)

-- ---- the four rules

module _ (y : Year) (j : ℕ) (s : Sound y) (l : j < y.terms) where
  -- rule 6: least count
  walk_6 : (p : Placing) → Into y p → MeetsAll y p (basis_walk Low Credits j)
      → let w = walk_of y j (until.Credits (term_at y j).low) (down y) in (w.count ≤ count_in y p j) × (low_credits y j ≤ w.credits)
  unfolding walk_of
  walk_6 p into m =
      rule_6 _ _ _ _ _ (low_credits y j) _ _ _ _ (used y j s Low Credits p into m l) (fixed_le y j s Low Credits p into m) (falls y j s Low Credits p into m)

  pub raise_6 : Suffice y (basis_walk Low Credits j) (moves Low Counts j (walk_of y j (until.Credits (term_at y j).low) (down y)).count)
  raise_6 p into m = (walk_6 p into m).0

  pub short_6 : (walk_of y j (until.Credits (term_at y j).low) (down y)).credits < low_credits y j → Suffice y (basis_walk Low Credits j) fails
  short_6 c p into m = omega (arith, (walk_6 p into m).1)

  -- rule 7: most count
  pub lower_7 : Suffice y (basis_walk High Credits j) (moves High Counts j (walk_of y j (until.Past (term_at y j).high) (up y)).count)
  unfolding walk_of
  lower_7 p into m = rule_7 _ _ _ _ _ (high_credits y j) _ _ _ _ (used y j s High Credits p into m l) (rises y j s High Credits p into m)

  -- rule 8: least load
  walk_8 : (p : Placing) → Into y p → MeetsAll y p (basis_walk Low Counts j)
      → let w = walk_of y j (until.Count (term_at y j).least) (up y) in (w.credits ≤ credits_in y p j) × (low_count y j ≤ w.count)
  unfolding walk_of
  walk_8 p into m =
      rule_8 _ _ _ _ _ (low_count y j) _ _ _ _ (used y j s Low Counts p into m l) (fixed_le y j s Low Counts p into m) (rises y j s Low Counts p into m)

  pub raise_8 : Suffice y (basis_walk Low Counts j) (moves Low Credits j (walk_of y j (until.Count (term_at y j).least) (up y)).credits)
  raise_8 p into m = (walk_8 p into m).0

  pub short_8 : (walk_of y j (until.Count (term_at y j).least) (up y)).count < low_count y j → Suffice y (basis_walk Low Counts j) fails
  short_8 c p into m = omega (arith, (walk_8 p into m).1)

  -- rule 9: most load
  pub lower_9 : Suffice y (basis_walk High Counts j) (moves High Credits j (walk_of y j (until.Count (term_at y j).most) (down y)).credits)
  unfolding walk_of
  lower_9 p into m = rule_9 _ _ _ _ _ (high_count y j) _ _ _ _ (used y j s High Counts p into m l) (falls y j s High Counts p into m)
