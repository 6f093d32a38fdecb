-- Every reason of every rule is good.
use Prim.Native.Nat.{ℕ, ◌+◌, ◌-◌, ◌/◌, ◌<◌}
use mathlib.Core.Bool.{Bool, true, ◌||◌}
use mathlib.Core.Path.{◌≡◌}
use native.Mathlib.Omega.{arith}
use lib.Dec.{eqb, ltb}
use borrow.Author.Tests.{ltb-true, eqb-true, eqb-false}
use Rattle.theory.specs.Choice.{choose}
use Rattle.theory.specs.Tests.{any}
use Rattle.theory.specs.Neighbours.{fires}
use Rattle.theory.proofs.ChoiceLaws.{choose_case}
use Rattle.year.specs.Year.{term_at, course_at, weight, is_open, low_credits, high_credits, low_count, high_count}
use Rattle.year.specs.Bound.{tightened}
use Rattle.year.specs.Sums.{fixed_credits, possible_credits, fixed_count, open_count, fixed_of, open_of, all_of}
use Rattle.year.specs.Sound.{Sound}
use Rattle.year.specs.declared.Quantity.{Quantity}
use Rattle.year.specs.declared.Quantity.TheVariants.{Credits, Counts}
use Rattle.year.specs.declared.Side.{Side}
use Rattle.year.specs.declared.Side.TheVariants.{Low, High}
use Rattle.year.specs.declared.Year.{Year}
use Rattle.year.proofs.BoundLaws.{tight_beyond, tight_crossed}
use Rattle.rules.specs.Step.{rests, moves, strikes, fixes, crosses, fails, move, ruled}
use Rattle.rules.specs.Bounds.{others_of}
use Rattle.rules.specs.Lists.{verdict3, overfull, short, full, needed, verdict10}
use Rattle.rules.specs.Spares.{walk_of, down, up, least_count, most_count, least_load, most_load}
use Rattle.rules.specs.Packing.{burst, room, bursts}
use Rattle.rules.specs.Neighbours.{needs, takes, rest, cannot_be, verdict12}
use Rattle.rules.specs.Facts.{Basis, Suffice, never, the_fixed}
use Rattle.rules.specs.Reasons.{reason, because, Good, basis14, reason14, basis25, reason25, basis_room, basis_need, basis_on, reason3, reason10_course, reason10, basis_walk, reason6, reason7, reason8, reason9, basis11, reason11, basis12, reason12, reason12_course}
use Rattle.rules.specs.declared.Until.TheVariants as until
use Rattle.rules.specs.declared.Verdict.{Verdict}
use Rattle.rules.specs.declared.Verdict.TheVariants.{Stays, Struck, Fixed}
use Rattle.rules.proofs.FactLaws.{crossing_suffices}
use Rattle.rules.proofs.SumsSuffice.{raise_14, lower_14, raise_25, lower_25, negative_25, overfull_10, short_10, strike_3, fix_3}
use Rattle.rules.proofs.WalksSuffice.{raise_6, short_6, lower_7, raise_8, short_8, lower_9}
use Rattle.rules.proofs.PackingSuffices.{burst_11, sizes_11}
use Rattle.rules.proofs.NeighboursSuffice.{none_12, strike_12, fix_12}

-- ---- nothing, and no plan

pub good_rest : (y : Year) (b : Basis) → Good y (reason rests b)
good_rest y b = record { alters = tt; suffices = λ p into m. tt }

good_fails : (y : Year) (b : Basis) → Suffice y b fails → Good y (reason fails b)
good_fails y b h = record { alters = tt; suffices = h }

-- ---- a move: where it crosses, the bound crossed is a fact more

module _ (y : Year) (j : ℕ) (sound : Sound y) (l : j < y.terms) where
  move_good : (b : Basis) (s : Side) (q : Quantity) (n : ℕ) → Suffice y b (moves s q j n) → Good y (because (move s q y j n) b)
  unfolding move
  move_good b s q n h =
      let w = tightened s q (term_at y j) n in
      choose_case (λ c. Good y (because c b)) w.crossed (crosses s q j) (choose w.altered (moves s q j n) rests)
      (λ e. record { alters = tt; suffices = crossing_suffices y b s q j n l h (tight_crossed s q (term_at y j) n (sound.term_sound j l) e) })
      (λ e.
      choose_case (λ c. Good y (because c b)) w.altered (moves s q j n) rests
      (λ f. let t = tight_beyond s q (term_at y j) n f e in record { alters = (l, t.0, t.1); suffices = h })
      (λ f. good_rest y b))

  -- a no plan of the rule's own, or a move
  fails_or_moves : (b : Basis) (s : Side) (q : Quantity) (n : ℕ) (x m : ℕ) → (x < m → Suffice y b fails) → Suffice y b (moves s q j n)
      → Good y (because (choose (ltb x m) fails (move s q y j n)) b)
  fails_or_moves b s q n x m f h =
      choose_case (λ c. Good y (because c b)) (ltb x m) fails (move s q y j n) (λ e. good_fails y b (f (ltb-true x m e))) (λ e. move_good b s q n h)

  -- ---- rules 1, 2, 4 and 5

  pub good14 : (q : Quantity) (s : Side) → Good y (reason14 q s y j)
  good14 q Low = move_good (basis14 Low j) Low q (fixed_of q y j) (raise_14 q y j l)
  good14 q High = move_good (basis14 High j) High q (fixed_of q y j + open_of q y j) (lower_14 q y j l)

  pub good25 : (q : Quantity) (s : Side) → Good y (reason25 q s y j)
  good25 q Low = move_good (basis25 q Low j) Low q (all_of q y - others_of High q y j) (raise_25 q y j l)
  good25 q High =
      fails_or_moves (basis25 q High j) High q (all_of q y - others_of Low q y j) (all_of q y) (others_of Low q y j) (negative_25 q y j l) (lower_25 q y j l)

  -- ---- rules 6 to 9

  pub good6 : Good y (reason6 y j)
  unfolding least_count
  good6 =
      let w = walk_of y j (until.Credits (term_at y j).low) (down y) in
      fails_or_moves (basis_walk Low Credits j) Low Counts w.count w.credits (low_credits y j) (short_6 y j sound l) (raise_6 y j sound l)

  pub good7 : Good y (reason7 y j)
  unfolding most_count
  good7 = move_good (basis_walk High Credits j) High Counts (walk_of y j (until.Past (term_at y j).high) (up y)).count (lower_7 y j sound l)

  pub good8 : Good y (reason8 y j)
  unfolding least_load
  good8 =
      let w = walk_of y j (until.Count (term_at y j).least) (up y) in
      fails_or_moves (basis_walk Low Counts j) Low Credits w.credits w.count (low_count y j) (short_8 y j sound l) (raise_8 y j sound l)

  pub good9 : Good y (reason9 y j)
  unfolding most_load
  good9 = move_good (basis_walk High Counts j) High Credits (walk_of y j (until.Count (term_at y j).most) (down y)).credits (lower_9 y j sound l)

-- ---- rules 3, 10 and 12

module _ (y : Year) (j : ℕ) (l : j < y.terms) where
  -- of two tests, the first strikes and the second fixes; each verdict has its basis
  on_good : (basis : Verdict → Basis) (i : ℕ) → i < y.courses → (a b : Bool) → (is_open (course_at y i) j ≡ true → a ≡ true → Suffice y (basis Struck) (strikes i j))
      → (is_open (course_at y i) j ≡ true → b ≡ true → Suffice y (basis Fixed) (fixes i j))
      → let v = choose (is_open (course_at y i) j) (choose a Struck (choose b Fixed Stays)) Stays in Good y (reason (ruled i j v) (basis v))
  on_good basis i h a b strike fix =
      choose_case good (is_open (course_at y i) j) (choose a Struck (choose b Fixed Stays)) Stays
      (λ o.
      choose_case good a Struck (choose b Fixed Stays) (λ e. record { alters = (h, l, o); suffices = strike o e })
      (λ e. choose_case good b Fixed Stays (λ f. record { alters = (h, l, o); suffices = fix o f }) (λ f. good_rest y (basis Stays))))
      (λ o. good_rest y (basis Stays))
    where
      good : Verdict → Type 0
      good v = Good y (reason (ruled i j v) (basis v))

  pub good3 : (i : ℕ) → i < y.courses → Good y (reason3 y j i)
  unfolding verdict3
  good3 i h =
      on_good (basis_on Credits j) i h (ltb (high_credits y j) (fixed_credits y j + weight y i)) (ltb (possible_credits y j - weight y i) (low_credits y j))
      (λ o e. strike_3 Credits y j l i h o (ltb-true (high_credits y j) (fixed_credits y j + weight y i) e))
      (λ o e. fix_3 Credits y j l i h o (omega (arith, ltb-true (possible_credits y j - weight y i) (low_credits y j) e)))

  pub good10_course : (i : ℕ) → i < y.courses → Good y (reason10_course y j i)
  unfolding verdict10
  good10_course i h =
      on_good (basis_on Counts j) i h (full y j) (needed y j)
      (λ o e. strike_3 Counts y j l i h o (omega (arith, eqb-true (fixed_count y j) (high_count y j) e)))
      (λ o e. fix_3 Counts y j l i h o (omega (arith, eqb-true (fixed_count y j + open_count y j) (low_count y j) e)))

  pub good10 : Good y (reason10 y j)
  good10 =
      choose_case (Good y) (overfull y j) (reason fails (basis_room Counts j)) (choose (short y j) (reason fails (basis_need Counts j)) (reason rests (the_fixed never)))
      (λ e. good_fails y (basis_room Counts j) (overfull_10 Counts y j l (ltb-true (high_count y j) (fixed_count y j) e)))
      (λ e.
      choose_case (Good y) (short y j) (reason fails (basis_need Counts j)) (reason rests (the_fixed never))
      (λ f. good_fails y (basis_need Counts j) (short_10 Counts y j l (ltb-true (fixed_count y j + open_count y j) (low_count y j) f)))
      (λ f. good_rest y (the_fixed never)))

-- ---- rule 12

module _ (y : Year) (j : ℕ) (s : Sound y) (l : j < y.terms) where
  pub good12 : Good y (reason12 y j)
  good12 =
      choose_case (λ c. Good y (reason c (basis12 j))) (cannot_be y j) fails rests
      (λ e. good_fails y (basis12 j) (none_12 y s j l e)) (λ e. good_rest y (basis12 j))

  pub good12_course : (i : ℕ) → i < y.courses → Good y (reason12_course y j i)
  unfolding verdict12
  good12_course i h =
      on_good y j l (λ v. basis12 j) i h
      (ltb (takes y j) (weight y i) || fires (weight y) (rest y j i) (needs y j - weight y i) (takes y j - weight y i))
      (fires (weight y) (rest y j i) (needs y j) (takes y j)) (strike_12 y s j l i h) (fix_12 y s j l i h)

-- ---- rule 11

pub good11 : (y : Year) → Sound y → Good y (reason11 y)
unfolding reason11
good11 y s =
    let stay = reason rests basis11 in
    let none = reason fails basis11 in
    let sizes : Bool = any (room y / 2 + 1) (bursts y (room y)) in
    choose_case (Good y) (any y.terms (burst y)) none (choose (eqb (room y) 0) stay (choose sizes none stay))
    (λ e. good_fails y basis11 (burst_11 y s e))
    (λ e.
    choose_case (Good y) (eqb (room y) 0) stay (choose sizes none stay) (λ c. good_rest y basis11)
    (λ c.
    choose_case (Good y) sizes none stay (λ b. good_fails y basis11 (sizes_11 y s (eqb-false (room y) 0 c) b))
    (λ b. good_rest y basis11)))
