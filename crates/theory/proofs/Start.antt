-- Where the walk of a term begins, for a year that is given by functions: with fresh spares it stands against every plan, from heaviest to lightest
-- and from lightest to heaviest. Rules 6 to 9 of `Walk` go on from here.
use mathlib.Core.Path.{◌≡◌, refl}
use mathlib.Core.Bool.{Bool}
use mathlib.Core.List.{List}
use Prim.Native.Nat.{ℕ, ◌+◌, ◌-◌, ◌≤◌, ◌<◌}
use native.Mathlib.Omega.{arith}
use native.Mathlib.Nat.{le_of_eq}
use lib.Dec.{eqb}
use Rattle.theory.specs.Sum.{pick, sum, weigh}
use Rattle.theory.proofs.SumLaws.{sum_zero}
use Rattle.theory.proofs.LoadLaws.{load}
use Rattle.theory.specs.Walk.{Table}
use Rattle.theory.proofs.WalkLaws.{Against, dot, one, Down, Up, Falling, Rising}
use Rattle.theory.proofs.Spare.{need, over, Spares, marks, dot_marks, against_plan}
use Rattle.theory.proofs.Open.{open_at, other, fixed_sum, spare_of, Alone, Ins, Fix, load_split, need_holds}

-- What a plan p has to keep, and no more: the lists at every term, and the low counts of the terms other than j.
-- L goes through the open courses of j, each once, and the state s holds the spares
pub record Begins {S : Type 0} (T : Table S) (n m j : ℕ) (lists fixed : ℕ → ℕ → Bool) (R : Spares T m j (other lists j)) (p : ℕ → ℕ) (L : List ℕ) (s : S) : Type 0 where
  pub alone : Alone n lists fixed
  pub ins : (k : ℕ) → Ins n lists p k
  pub fix : (k : ℕ) → Fix n fixed p k
  pub low : ℕ → ℕ
  pub lows : (k : ℕ) → k < m → (k ≡ j → ⊥) → low k ≤ load n one p k
  pub fresh : (k : ℕ) → k < m → R.look s k ≡ spare_of n lists fixed low k
  pub same : (f : ℕ → ℕ) → weigh f L ≡ sum n (λ i. pick (open_at lists fixed i j) (f i))

module _ {S : Type 0} {T : Table S} {n m j : ℕ} {lists fixed : ℕ → ℕ → Bool} {R : Spares T m j (other lists j)} {p : ℕ → ℕ} {L : List ℕ} {s : S}
    (b : Begins T n m j lists fixed R p L s) where
  -- the plan needs nothing beyond the spares
  over_none : over m (other lists j) p (R.look s) L ≤ 0
  unfolding over
  over_none =
      le_of_eq (sum_zero m (λ k. need (other lists j) p k L - R.look s k)
      (λ k l. omega (arith, b.fresh k l, need_holds n lists fixed p b.alone j L b.same b.low k (b.ins k) (b.fix k) (b.lows k l))))

  -- the plan's credits, or its count, from what is fixed and what is marked
  pub begun : (w : ℕ → ℕ) → fixed_sum n fixed w j + dot w L (marks p j L) ≡ load n w p j
  begun w = omega (arith, load_split n lists fixed p w j (b.ins j) (b.fix j), b.same (λ g. pick (eqb (p g) j) (w g)), dot_marks w p j L)

  abbrev against : Against T
  against = against_plan T m j (other lists j) R p

  pub falling : (w : ℕ → ℕ) (U : ℕ) → Down w U L → Falling T against w (load n one p j) (load n w p j) L s (fixed_sum n fixed w j) (fixed_sum n fixed one j)
  unfolding against_plan
  falling w U h = record { ms = marks p j L; d = 0; U = U; keeps = (refl, over_none); counts = omega (arith, begun one); order = h; loads = omega (arith, begun w) }

  pub rising : (w : ℕ → ℕ) (U : ℕ) → Up w U L → Rising T against w (load n one p j) (load n w p j) L s (fixed_sum n fixed w j) (fixed_sum n fixed one j)
  unfolding against_plan
  rising w U h = record { ms = marks p j L; d = 0; U = U; keeps = (refl, over_none); counts = omega (arith, begun one); order = h; loads = omega (arith, begun w) }
