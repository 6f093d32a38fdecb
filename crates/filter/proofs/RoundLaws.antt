-- How rounds go on after n of them. The number that makes the recursion end never runs out: every altering round lowers the leeway.
use Prim.Native.Nat.{ℕ, zero, suc, ◌+◌, ◌-◌, ◌≤◌, ◌<◌}
use mathlib.Core.Bool.{Bool, true, false}
use mathlib.Core.Path.{◌≡◌, refl}
use native.Mathlib.Omega.{arith}
use lib.Dec.{eqb}
use Rattle.theory.specs.Choice.{choose}
use Rattle.theory.proofs.ChoiceLaws.{choose_case}
use Rattle.year.specs.Sound.{Sound, is_sound}
use Rattle.year.specs.Sums.{all_placed}
use Rattle.year.specs.declared.Year.{Year}
use Rattle.year.proofs.SoundLaws.{sound_to}
use Rattle.rules.specs.Round.{round}
use Rattle.rules.specs.RuleNumbers.{rule_named}
use Rattle.rules.proofs.RuleNumberLaws.{number_within}
use Rattle.rules.proofs.Leeway.{leeway}
use Rattle.rules.specs.Narrower.{Narrower}
use Rattle.rules.proofs.Narrows.{narrower_self, narrower_then}
use Rattle.rules.proofs.Passes.{narrows_round}
use Rattle.filter.specs.Halves.{first_half, second_half}
use Rattle.filter.specs.Filter.{filtered, at_rest, rounds_from, filter_of}
use Rattle.filter.specs.Numbers.{filter_rule, filter_rounds}
use Rattle.filter.specs.declared.Answer.{Answer}
use Rattle.filter.specs.declared.Answer.TheVariants.{Settled, Open, NoPlan, Unsound}
use Rattle.filter.specs.declared.Filtered.{Filtered}

-- the halves are a split of the list of passes
pub halves : (y : Year) → round y ≡ second_half (first_half y)
unfolding round first_half second_half
halves y = refl

-- what n rounds leave of the paper's 1,025,985
abbrev pub rounds_left : ℕ → ℕ
rounds_left n = 1025985 - n

module _ (y z : Year) (n : ℕ) (few : n ≤ 1025984) where
  is : rounds_left n ≡ suc (1025984 - n)
  is = omega arith

  next : rounds_left (n + 1) ≡ 1025984 - n
  next = omega arith

  pub round_no_plan : eqb (round z).rule 0 ≡ false → rounds_from (rounds_left n) y z n ≡ filtered (NoPlan (rule_named (round z).rule) (n + 1)) y
  unfolding rounds_from
  round_no_plan d = rw (is, d, rounds_from)

  pub round_at_rest : eqb (round z).rule 0 ≡ true → (round z).altered ≡ false → rounds_from (rounds_left n) y z n ≡ filtered (at_rest (round z).year (n + 1)) (round z).year
  unfolding rounds_from
  round_at_rest d a = rw (is, d, a, rounds_from)

  pub round_alters : eqb (round z).rule 0 ≡ true → (round z).altered ≡ true → rounds_from (rounds_left n) y z n ≡ rounds_from (rounds_left (n + 1)) y (round z).year (n + 1)
  unfolding rounds_from
  round_alters d a = rw (is, next, d, a, rounds_from)

-- an altering round leaves less to narrow
pub round_falls : (z : Year) → Sound z → (round z).altered ≡ true → leeway (round z).year < leeway z
round_falls z s a = let w = rw a at (narrows_round z s).falls in omega arith

-- ---- how a filtering ends

-- whatever holds of each way to end, where Q is kept from round to round, with k rounds left to run
rounds_by : (P : Filtered → Type 0) (Q : ℕ → Year → ℕ → Type 0) (y : Year)
    → ((z : Year) (n : ℕ) → Q 0 z n → P (filtered (Open n) z))
    → ((k : ℕ) (z : Year) (n : ℕ) → Q (suc k) z n → P (filtered (NoPlan (rule_named (round z).rule) (n + 1)) y))
    → ((k : ℕ) (z : Year) (n : ℕ) → Q (suc k) z n → P (filtered (at_rest (round z).year (n + 1)) (round z).year))
    → ((k : ℕ) (z : Year) (n : ℕ) → Q (suc k) z n → Q k (round z).year (n + 1))
    → (k : ℕ) (z : Year) (n : ℕ) → Q k z n → P (rounds_from k y z n)
unfolding rounds_from
rounds_by P Q y out none rest on zero z n q = out z n q
rounds_by P Q y out none rest on (suc k) z n q =
    go (eqb (round z).rule 0) (round z).altered (rounds_by P Q y out none rest on k (round z).year (n + 1) (on k z n q))
  where
    go : (d b : Bool) → P (rounds_from k y (round z).year (n + 1))
        → P (elim d [
          | false ↦ filtered (NoPlan (rule_named (round z).rule) (n + 1)) y
          | true ↦
              elim b [
                | true ↦ rounds_from k y (round z).year (n + 1)
                | false ↦ filtered (at_rest (round z).year (n + 1)) (round z).year
              ]
        ])
    go false b p = none k z n q
    go true true p = p
    go true false p = rest k z n q

-- a filtering leaves a sound year of as many terms and courses
pub filter_narrower : (y : Year) → Sound y → Narrower y (filter_of y).year
unfolding filter_of
filter_narrower y s =
    rw (sound_to y s)
    (rounds_by (λ f. Narrower y f.year) (λ k z n. Narrower y z) y (λ z n a. a) (λ k z n a. narrower_self y s) (λ k z n. after z) (λ k z n. after z)
    1025985 y 0 (narrower_self y s))
  where
    after : (z : Year) → Narrower y z → Narrower y (round z).year
    after z a = narrower_then y z (round z).year a (narrows_round z a.sound).year

-- the rule that its answer names is one of the twelve, or none; its rounds are no more than it may run
abbrev Few : Answer → Type 0
Few a = (filter_rule a ≤ 12) × (filter_rounds a ≤ 1025985)

pub answer_few : (y : Year) → (filter_rule (filter_of y).answer ≤ 12) × (filter_rounds (filter_of y).answer ≤ 1025985)
unfolding filter_of
answer_few y = go (is_sound y)
  where
    rest : (k : ℕ) (z : Year) (n : ℕ) → n + suc k ≤ 1025985 → Few (at_rest (round z).year (n + 1))
    rest k z n q =
        choose_case Few (all_placed (round z).year) (Settled (n + 1)) (Open (n + 1)) (λ e. omega arith) (λ e. omega arith)

    go : (b : Bool) → Few (choose b (rounds_from 1025985 y y 0) (filtered Unsound y)).answer
    go true =
        rounds_by (λ f. Few f.answer) (λ k z n. n + k ≤ 1025985) y (λ z n q. omega arith) (λ k z n q. omega (arith, number_within (rule_named (round z).rule))) rest
        (λ k z n q. omega arith) 1025985 y 0 (omega arith)
    go false = omega arith
