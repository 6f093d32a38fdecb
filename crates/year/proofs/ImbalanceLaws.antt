-- The imbalance, case by case; and where the credits of the terms are all credits: nothing is cut off, what it is pair by pair, when
-- it is 0, how large it is.
use Prim.Native.Nat.{ℕ, ◌*◌, ◌≤◌, ◌<◌}
use mathlib.Core.Bool.{Bool, true, false, ◌&&◌}
use Rattle.std.specs.Prelude.{Ok, Err}
use mathlib.Core.Logic.{◌↔◌}
use mathlib.Core.Path.{◌≡◌, refl, sym, ap, ◌∙◌}
use native.Mathlib.Nat.{mul-le-mul}
use native.Mathlib.Omega.{arith}
use Rattle.theory.specs.Choice.{choose}
use Rattle.theory.specs.Sum.{sum}
use Rattle.theory.specs.Tests.{all}
use Rattle.theory.specs.Pairs.{square, distance, over_pairs}
use Rattle.theory.proofs.SumLaws.{sum_le_mul}
use Rattle.theory.proofs.PairLaws.{square_least, left_over, all_equal, left_most}
use Rattle.year.specs.Imbalance.{fits_at, one_plan, imbalance_by, imbalance_of}
use Rattle.year.specs.Numbers.{imbalance_value}
use Rattle.year.specs.Sound.{Sound, is_sound}
use Rattle.year.specs.Sums.{fixed_credits, all_credits, all_placed}
use Rattle.year.specs.declared.Year.{Year}
use Rattle.year.specs.declared.ImbalanceRefusal.TheVariants.{Unsound, Unsettled}
use Rattle.year.proofs.SoundLaws.{sound_of, sound_to}
use Rattle.year.proofs.OnePlacing.{placed_total}
use Rattle.year.proofs.SumLaws.{all_credits_le, possible_le}

-- ---- case by case

pub imbalance_unsound : (y : Year) → is_sound y ≡ false → imbalance_of y ≡ Err Unsound
unfolding imbalance_of
imbalance_unsound y e = rw e refl

module _ (y : Year) (s : Sound y) where
  -- a course has several terms
  pub imbalance_open : all_placed y ≡ false → imbalance_of y ≡ Err Unsettled
  unfolding imbalance_of one_plan
  imbalance_open e = rw (sound_to y s, e) refl

  -- a term's credits or count are outside its bounds
  pub imbalance_unfit : all_placed y ≡ true → all y.terms (fits_at y) ≡ false → imbalance_of y ≡ Err Unsettled
  unfolding imbalance_of one_plan
  imbalance_unfit e d = rw (sound_to y s, e, d) refl

  pub imbalance_given : all_placed y ≡ true → all y.terms (fits_at y) ≡ true → imbalance_of y ≡ Ok (imbalance_by y (fixed_credits y))
  unfolding imbalance_of one_plan
  imbalance_given e d = rw (sound_to y s, e, d) refl

-- ---- the number

module _ (y : Year) (credits : ℕ → ℕ) (total : sum y.terms credits ≡ all_credits y) where
  pub imbalance_whole : square (all_credits y) ≤ y.terms * sum y.terms (λ k. square (credits k))
  imbalance_whole = rw total at (square_least y.terms credits)

  pub imbalance_pairs : imbalance_by y credits ≡ over_pairs y.terms (λ j k. square (distance (credits j) (credits k)))
  imbalance_pairs = rw total at (left_over y.terms credits)

  pub imbalance_zero : (imbalance_by y credits ≡ 0) ↔ ((j k : ℕ) → j < y.terms → k < y.terms → credits j ≡ credits k)
  imbalance_zero = let e = all_equal y.terms credits in (λ z. e.0 (sym imbalance_pairs ∙ z), λ h. imbalance_pairs ∙ e.1 h)

  -- most where one of 16 terms has all of 64,000 credits
  pub imbalance_most : Sound y → imbalance_by y credits ≤ 15 * square 64000
  imbalance_most s = rw total at (left_most y.terms credits 15 64000 s.terms_most (omega (arith, total, all_credits_le y s, s.courses_most)))

-- the largest imbalance: of 64 courses of 1,000 credits in one of 16 terms
pub imbalance_small : (y : Year) (v : ℕ) → imbalance_of y ≡ Ok v → v ≤ 15 * square 64000
unfolding imbalance_of one_plan
imbalance_small y v e = go (is_sound y) refl (all_placed y) refl (all y.terms (fits_at y)) e
  where
    go : (a : Bool) → is_sound y ≡ a → (b : Bool) → all_placed y ≡ b → (c : Bool)
        → choose a (choose (b && c) (Ok (imbalance_by y (fixed_credits y))) (Err Unsettled)) (Err Unsound) ≡ Ok v → v ≤ 15 * square 64000
    go true p true q true e =
        let s = sound_of y p in
        let is : imbalance_by y (fixed_credits y) ≡ v = ap imbalance_value e in
        omega (arith, is, imbalance_most y (fixed_credits y) (placed_total y s q) s)
    go true p true q false e = let is : 0 ≡ v = ap imbalance_value e in omega arith
    go true p false q c e = let is : 0 ≡ v = ap imbalance_value e in omega arith
    go false p b q c e = let is : 0 ≡ v = ap imbalance_value e in omega arith

-- ---- on the way to it

module _ (y : Year) (s : Sound y) where
  pub term_most : (k : ℕ) → fixed_credits y k ≤ 64000
  term_most k = omega (arith, possible_le y k, all_credits_le y s, s.courses_most)

  pub square_most : (k : ℕ) → square (fixed_credits y k) ≤ square 64000
  square_most k = mul-le-mul (term_most k) (term_most k)

  pub credits_to : (k : ℕ) → sum k (fixed_credits y) ≤ k * 64000
  credits_to k = sum_le_mul k 64000 (fixed_credits y) (λ j l. term_most j)

  pub squares_to : (k : ℕ) → sum k (λ j. square (fixed_credits y j)) ≤ k * square 64000
  squares_to k = sum_le_mul k (square 64000) (λ j. square (fixed_credits y j)) (λ j l. square_most j)
