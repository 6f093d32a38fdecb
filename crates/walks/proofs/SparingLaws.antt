-- Spares in arrays of sixteen: how they stand against the list of a course without the walk's own term, and how they are set up.
use Prim.Native.Nat.{ℕ, ◌-◌, ◌/◌, ◌%◌, ◌^◌, ◌<◌}
use mathlib.Core.Bool.{Bool, true, false, ◌&&◌}
use mathlib.Core.List.{List}
use mathlib.Core.Path.{◌≡◌, refl, sym, ap, ap₂, fun_ext, ◌∙◌}
use native.Mathlib.Omega.{arith}
use lib.Dec.{eqb}
use lib.ListN.{length, get_or, set}
use lib.Seq.{get_or-set_same, get_or-set_other}
use borrow.Author.Tests.{eqb-true, eqb-false}
use Rattle.theory.specs.Sum.{pick}
use Rattle.theory.specs.Tests.{any}
use Rattle.theory.specs.Tab.{tab}
use Rattle.theory.proofs.TabLaws.{get_or_tab, tab_cong, set_tab}
use Rattle.theory.proofs.BitLaws.{has_struck}
use Rattle.year.specs.Year.{zero_term, lists, low_count}
use Rattle.frame.specs.Bounds.{least_in}
use Rattle.year.specs.Sums.{fixed_count, open_count, sums_at}
use Rattle.year.specs.declared.Course.{Course}
use Rattle.year.specs.declared.Sums.{Sums}
use Rattle.year.specs.declared.Term.{Term}
use Rattle.year.specs.declared.Year.{Year}
use Rattle.year.proofs.SumLaws.{sums_read}
use Rattle.rules.specs.Spares.{spare, spares, blocked, charged}
use Rattle.walks.specs.Sparing.{free_in, placed_in, tallies_of, spare_from, spare_in, stuck, charged_at}

-- a bit is what its test counts for
bit_is : (b : ℕ) → b < 2 → b ≡ pick (eqb b 1) 1
bit_is b h = go (eqb b 1) refl
  where
    go : (t : Bool) → eqb b 1 ≡ t → b ≡ pick t 1
    go true e = eqb-true b 1 e
    go false e = omega (arith, eqb-false b 1 e)

pub charged_entry : (s : List ℕ) (l k : ℕ) → get_or s k 0 - l / 2 ^ k % 2 ≡ charged_at s l k
charged_entry s l k = ap (λ x. get_or s k 0 - x) (bit_is (l / 2 ^ k % 2) (omega arith))

-- the terms on the list without j are the other terms that it names
module _ (s : List ℕ) (c : Course) (j : ℕ) (e : lists c j ≡ true) where
  pub blocked_is : any 16 (stuck s (c.list - 2 ^ j)) ≡ blocked j s c
  unfolding blocked
  blocked_is = ap (any 16) (fun_ext (λ k. ap (λ b. b && eqb (get_or s k 0) 0) (has_struck c.list j k e)))

  pub charged_is : tab 16 (charged_at s (c.list - 2 ^ j)) ≡ charged j s c
  unfolding charged
  charged_is = ap (tab 16) (fun_ext (λ k. ap (λ b. get_or s k 0 - pick b 1) (has_struck c.list j k e)))

-- ---- spares set up

-- from the tallies of the sums and the low counts of the bounds
pub spares_from : (t : List Term) (u : List Sums) → tab 16 (spare_from (tallies_of u) (tab 16 (least_in t))) ≡ tab 16 (spare_in t u)
spares_from t u =
    tab_cong 16 _ (spare_in t u) (λ k h. rw (get_or_tab 16 (free_in u) 0 k h, get_or_tab 16 (placed_in u) 0 k h, get_or_tab 16 (least_in t) 0 k h))

-- those of a year
pub spares_are : (y : Year) (u : List Sums) → u ≡ tab 16 (sums_at y) → tab 16 (spare_in y.term u) ≡ spares y
unfolding spares sums_at fixed_count open_count
spares_are y u e = tab_cong 16 (spare_in y.term u) (spare y) (λ k h. ap (λ (z : Sums). z.free.0 - (low_count y k - z.placed.0)) (sums_read y u e k h))

-- ---- the low counts after the bounds of term j were altered to v

pub low_counts_set : (t : List Term) (s : List ℕ) (j : ℕ) (v : Term) → j < length t → s ≡ tab 16 (least_in t) → set s j v.least.0 ≡ tab 16 (least_in (set t j v))
low_counts_set t s j v h e =
    let own : v.least.0 ≡ least_in (set t j v) j = ap (λ (x : Term). x.least.0) (sym (get_or-set_same t j v zero_term h)) in
    ap₂ (λ r x. set r j x) e own
    ∙ set_tab 16 (least_in t) (least_in (set t j v)) 0 j (λ k l ne. ap (λ (x : Term). x.least.0) (sym (get_or-set_other t j k v zero_term ne)))
