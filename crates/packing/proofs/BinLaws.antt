-- The largest high credits of some terms, as a chain finds them.
use Prim.Native.Nat.{ℕ, zero, suc, ◌≤◌, ◌<◌, max}
use mathlib.Core.List.{List}
use mathlib.Core.Path.{◌≡◌}
use native.Mathlib.Numerals.{add-one}
use native.Mathlib.Omega.{arith}
use lib.ListN.{length, take}
use Rattle.std.specs.List.{fold}
use Rattle.std.proofs.lemmas.List.Sums.{fold_more}
use Rattle.theory.specs.Largest.{largest}
use Rattle.year.specs.Year.{zero_term}
use Rattle.year.specs.declared.Term.{Term}
use Rattle.frame.specs.Bounds.{high_in}
use Rattle.packing.specs.Bins.{room_in}

-- the larger of the number at hand and a term's high credits
abbrev larger : ℕ → Term → ℕ
larger most t = max t.high.0 most

module _ (term : List Term) where
  first : (n : ℕ) → suc n ≤ length term → fold larger 0 (take (suc n) term) ≡ largest (suc n) (high_in term)
  unfolding largest
  first zero h = omega (arith, fold_more larger 0 term 0 zero_term (omega arith))
  first (suc n) h = rw (← add-one) (omega (arith, fold_more larger 0 term (suc n) zero_term (omega arith), first n (omega arith)))

  pub room_found : (m : ℕ) → 0 < m → m ≤ length term → fold (λ most (t : Term). max t.high.0 most) 0 (take m term) ≡ room_in term m
  room_found zero p h = absurd (omega arith)
  room_found (suc n) p h = first n h
