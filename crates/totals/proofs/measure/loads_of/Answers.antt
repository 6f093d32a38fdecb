-- The loop's invariant: the sum of the credits that are fixed in the first k terms, as the year carries them, and the sum of their squares.
use Prim.Native.Nat.{ℕ, ◌+◌, ◌≤◌, ◌<◌}
use mathlib.Core.Path.{◌≡◌, sym, ap, ap₂, ◌∙◌}
use native.Mathlib.Nat.{mul-le-mul}
use native.Mathlib.Omega.{arith}
use borrow.Author.Rules.{rules}
use Rattle.theory.specs.Sum.{sum}
use Rattle.theory.specs.Pairs.{square}
use Rattle.theory.proofs.SumLaws.{sum_more}
use Rattle.year.specs.Sound.{Sound}
use Rattle.year.specs.Sums.{fixed_credits}
use Rattle.year.specs.SumsOf.{fixed_in}
use Rattle.year.specs.declared.Year.{Year}
use Rattle.year.proofs.SumLaws.{fixed_read, sums_long}
use Rattle.year.proofs.ImbalanceLaws.{term_most, credits_to, squares_to}
use Rattle.totals.proofs.measure.loads_of.Goals as goal
use Rattle.totals.proofs.measure.loads_of.Goals.{In-loop-k}

-- ---- one term more, whose credits are x: neither sum is past its number
module _ (y : Year) (sound : Sound y) (k x : ℕ) (h : k < 16) (e : x ≡ fixed_credits y k) where
  entry-small : x ≤ 64000
  entry-small = omega (arith, e, term_most y sound k)

  credits-small : sum k (fixed_credits y) + x < 4294967296
  credits-small = omega (arith, credits_to y sound k, entry-small)

  squares-small : sum k (λ j. square (fixed_credits y j)) + square x < 18446744073709551616
  squares-small = omega (arith, squares_to y sound k, mul-le-mul entry-small entry-small)

pub loop-k-init : goal.loop-k-init
unfolding sum
loop-k-init c = search rules

-- k is a term's
few : (c : In-loop-k) → c.loop-k.k < 16
few c = omega (arith, c.loop-k-test.true, c.args.y.now.sound)

pub bounds-y-k : goal.bounds-y-k
bounds-y-k c =
    omega (arith, c.loop-k-test.true, sums_long c.args.y.now.year c.args.y.now.sound, c.args.y.now.sound)

-- what the year carries for it
carried : (c : In-loop-k) → fixed_in c.args.y.now.year.sums c.loop-k.k ≡ fixed_credits c.args.y.now.year c.loop-k.k
carried c =
    let y = c.args.y.now.year in
    fixed_read y y.sums c.args.y.now.sound.sums_kept c.loop-k.k (few c)

entry : (c : In-loop-k) → fixed_in c.args.y.now.year.sums c.loop-k.k ≤ 64000
entry c = entry-small c.args.y.now.year c.args.y.now.sound c.loop-k.k _ (few c) (carried c)

pub overflow_add-all : goal.overflow_add-all
overflow_add-all c =
    let i = (goal.at.overflow_add-all c).In-loop-k in
    omega (arith, c.loop-k.invariant.1, credits-small c.args.y.now.year c.args.y.now.sound c.loop-k.k (fixed_in c.args.y.now.year.sums c.loop-k.k) (few i) (carried i))

-- the same in 64 bits
wide : (c : In-loop-k) (x : ℕ) → x ≡ fixed_in c.args.y.now.year.sums c.loop-k.k → x ≡ fixed_credits c.args.y.now.year c.loop-k.k
wide c x e = e ∙ carried c

pub overflow_mul-squares : goal.overflow_mul-squares
overflow_mul-squares c =
    let i = (goal.at.overflow_mul-squares c).In-loop-k in
    let small = entry-small c.args.y.now.year c.args.y.now.sound c.loop-k.k _ (few i) (wide i _ c.from-wide.ensures) in
    omega (arith, mul-le-mul small small)

pub overflow_add-squares : goal.overflow_add-squares
overflow_add-squares c =
    let i = (goal.at.overflow_add-squares c).In-loop-k in
    omega (arith, c.loop-k.invariant.2, squares-small c.args.y.now.year c.args.y.now.sound c.loop-k.k c.from-wide.result (few i) (wide i _ c.from-wide.ensures))

pub loop-k-preserved : goal.loop-k-preserved
loop-k-preserved c =
    let y = c.args.y.now.year in
    let i = (goal.at.loop-k-preserved c).In-loop-k in (
      search rules,
      ap₂ ◌+◌ c.loop-k.invariant.1 (carried i) ∙ sym (sum_more c.loop-k.k (fixed_credits y)),
      ap₂ (λ n x. n + square x) c.loop-k.invariant.2 (wide i _ c.from-wide.ensures) ∙ sym (sum_more c.loop-k.k (λ j. square (fixed_credits y j))),
    )

pub returns : goal.returns
returns c =
    let y = c.args.y.now.year in
    let last : c.loop-k.k ≡ y.terms = omega (arith, c.loop-k.invariant.0, c.loop-k-test.false) in
    record {
      all = c.loop-k.invariant.1 ∙ ap (λ n. sum n (fixed_credits y)) last;
      squares = c.loop-k.invariant.2 ∙ ap (λ n. sum n (λ j. square (fixed_credits y j))) last;
    }
