-- Filtering is a chain of rounds, each but the last leaving another year, at most 1,025,985 of them; and no other answer has such a chain.
use Prim.Native.Nat.{ℕ, zero, suc, ◌+◌, ◌-◌, ◌≤◌}
use mathlib.Core.Bool.{Bool, true, false, ◌||◌, true≢false}
use mathlib.Core.List.{List, [], ◌∷◌}
use mathlib.Core.Logic.{◌↔◌}
use mathlib.Core.Path.{◌≡◌, refl, sym, ap, ◌∙◌}
use native.Mathlib.Omega.{arith}
use lib.Dec.{eqb}
use lib.ListN.{length, drop, length-take}
use borrow.Author.Tests.{eqb-true, eqb-false, eq-eqb, ne_eqb}
use Rattle.year.specs.Sound.{Sound}
use Rattle.year.specs.declared.Year.{Year}
use Rattle.year.proofs.SoundLaws.{sound_to}
use Rattle.rules.specs.Step.{Step}
use Rattle.rules.specs.Round.{passes, in_row, passes_of, round}
use Rattle.rules.specs.RuleNumbers.{rule_number, rule_named}
use Rattle.rules.specs.declared.Rule.{Rule}
use Rattle.rules.proofs.Leeway.{leeway, leeway_most}
use Rattle.rules.proofs.Named.{round_named}
use Rattle.rules.proofs.RuleNumberLaws.{named_number, number_within, number_named}
use Rattle.rules.specs.Narrower.{Narrower}
use Rattle.rules.proofs.Narrows.{narrower_self, narrower_then}
use Rattle.rules.proofs.Passes.{Pass, Each, or_none, lawful_part, narrows_round, round_quiet, pass_quiet}
use Rattle.filter.specs.Filter.{filtered, at_rest, rounds_from, filter_of}
use Rattle.filter.specs.Numbers.{filter_number, filter_rounds}
use Rattle.filter.specs.declared.Answer.TheVariants.{NoPlan, Settled, Open}
use Rattle.filter.specs.declared.Filtered.{Filtered}
use Rattle.filter.proofs.RoundLaws.{rounds_left, round_no_plan, round_at_rest, round_alters, round_falls, filter_narrower}
use Rattle.theory.proofs.ChoiceLaws.{choose_case}
use Rattle.year.specs.Sums.{all_placed}
use Rattle.promises.specs.Rounds.{Altering, none, one_more, Ends, finds_no_plan, comes_to_rest, Filtering, MarksTell, Rested, FilteringNarrows}

-- ---- marks and years

altered_where_another : (z : Year) → Sound z → ((round z).year ≡ z → ⊥) → (round z).altered ≡ true
altered_where_another z s d = go (round z).altered refl
  where
    go : (b : Bool) → (round z).altered ≡ b → (round z).altered ≡ true
    go true e = e
    go false e = absurd (d ((round_quiet z s).0 e))

another_where_altered : (z : Year) → Sound z → (round z).altered ≡ true → (round z).year ≡ z → ⊥
another_where_altered z s e q = true≢false (sym e ∙ (round_quiet z s).1 q)

-- the pass at place k of the round, by itself
pass_marks : (ps : List (Step → Step)) → Each Pass ps → length ps ≤ 1 → (s : Step) → Sound s.year
    → (m : Bool) × ((in_row ps s).altered ≡ s.altered || m) × ((m ≡ false) ↔ ((in_row ps s).year ≡ s.year))
pass_marks [] laws one s a = (false, sym (or_none s.altered), (λ z. refl, λ z. refl))
pass_marks (p ∷ []) laws one s a = pass_quiet p laws.0 s a
pass_marks (p ∷ (q ∷ ps)) laws one s a = absurd (omega arith)

one_pass : (k : ℕ) → length (passes_of k k) ≤ 1
one_pass k = omega (arith, length-take (k + 1 - k) (drop (k - 1) passes))

pub marks_tell : MarksTell
marks_tell = record { of_a_round = round_quiet; of_a_pass = λ k s a. pass_marks (passes_of k k) (lawful_part k k) (one_pass k) s a }

-- ---- the chain

-- what a chain of altering rounds leaves of the year
pub altering_narrower : {y z : Year} {n : ℕ} → Sound y → Altering y n z → Narrower y z
altering_narrower {y} s none = narrower_self y s
altering_narrower {y} s (one_more {n} {z} a r d) =
    let w = altering_narrower s a in
    narrower_then y z (round z).year w (narrows_round z w.sound).year

-- it gets narrower by one a round at least
altering_falls : {y z : Year} {n : ℕ} → Sound y → Altering y n z → leeway z + n ≤ leeway y
altering_falls s none = omega arith
altering_falls s (one_more {n} {z} a r d) =
    let t = (altering_narrower s a).sound in
    omega (arith, altering_falls s a, round_falls z t (altered_where_another z t d))

pub few_rounds : {y z : Year} {n : ℕ} → Sound y → Altering y n z → suc n ≤ 1025985
few_rounds {y} {z} s a = omega (arith, altering_falls s a, leeway_most y s)

-- ---- the rule of a no plan

-- the number in a round that finds no plan is that of the rule it names, and of no other rule
named_by : (z : Year) → ((round z).rule ≡ 0 → ⊥) → (round z).rule ≡ rule_number (rule_named (round z).rule)
named_by z some = sym (number_named (round z).rule (omega (arith, some)) (round_named z))

only_name : (z : Year) (r : Rule) → (round z).rule ≡ rule_number r → rule_named (round z).rule ≡ r
only_name z r e = ap rule_named e ∙ named_number r

-- no rule has the number 0
pub some_rule : (n : ℕ) (r : Rule) → n ≡ rule_number r → n ≡ 0 → ⊥
some_rule n r e z = omega (arith, (number_within r).0)

-- ---- filtering is such a chain

-- one round: it ends the filtering, or what follows it is the rest
one_round : (y z : Year) (n : ℕ) → Sound z → Altering y n z → n ≤ 1025984
    → ((round z).rule ≡ 0 → (round z).altered ≡ true → Filtering y (rounds_from (rounds_left (suc n)) y (round z).year (suc n)))
    → Filtering y (rounds_from (rounds_left n) y z n)
one_round y z n t a few rest = go (eqb (round z).rule 0) (round z).altered refl refl
  where
    plus : n + 1 ≡ suc n
    plus = omega arith

    go : (b c : Bool) → eqb (round z).rule 0 ≡ b → (round z).altered ≡ c → Filtering y (rounds_from (rounds_left n) y z n)
    go false c e g = rw (round_no_plan y z n few e, plus) (record { rounds_before_last = n; reached = z; altering = a; ends = finds_no_plan (rule_named (round z).rule) (named_by z (eqb-false (round z).rule 0 e)) })
    go true false e g =
        let q = (round_quiet z t).0 g in
        rw (round_at_rest y z n few e g, plus, q) (record { rounds_before_last = n; reached = z; altering = a; ends = comes_to_rest (eqb-true (round z).rule 0 e) q })
    go true true e g = rw (round_alters y z n few e g, plus) (rest (eqb-true (round z).rule 0 e) g)

-- the rest of a filtering; d is at least the leeway, so it outlasts the altering rounds
rounds_on : (y z : Year) (n d : ℕ) → Sound z → Altering y n z → leeway z ≤ d → d + n ≤ 1025984 → Filtering y (rounds_from (rounds_left n) y z n)
rounds_on y z n zero t a m f = one_round y z n t a (omega arith) (λ e g. absurd (omega (arith, round_falls z t g)))
rounds_on y z n (suc d) t a m f =
    one_round y z n t a (omega arith)
    (λ e g. rounds_on y (round z).year (suc n) d (narrows_round z t).year.sound (one_more a e (another_where_altered z t g)) (omega (arith, round_falls z t g)) (omega arith))

pub filter_runs : (y : Year) → Sound y → Filtering y (filter_of y)
unfolding filter_of
filter_runs y s = rw (sound_to y s) (rounds_on y y 0 1025984 s none (leeway_most y s) (omega arith))

-- ---- and no other answer has such a chain

module _ {y : Year} (s : Sound y) where
  chain_from : {z : Year} {n : ℕ} → Altering y n z → rounds_from 1025985 y y 0 ≡ rounds_from (rounds_left n) y z n
  chain_from none = refl
  chain_from (one_more {n} {z} a r d) =
      let t = (altering_narrower s a).sound in
      let plus : n + 1 ≡ suc n = omega arith in
      chain_from a
      ∙ round_alters y z n (omega (arith, few_rounds s a)) (eq-eqb (round z).rule 0 r) (altered_where_another z t d)
      ∙ ap (λ k. rounds_from (rounds_left k) y (round z).year k) plus

  end_from : {z : Year} {n : ℕ} {r : Filtered} → Altering y n z → Ends y n z r → rounds_from (rounds_left n) y z n ≡ r
  end_from {z} {n} a (finds_no_plan r e) =
      let plus : n + 1 ≡ suc n = omega arith in
      round_no_plan y z n (omega (arith, few_rounds s a)) (ne_eqb (round z).rule 0 (some_rule (round z).rule r e))
      ∙ ap (λ k. filtered (NoPlan (rule_named (round z).rule) k) y) plus
      ∙ ap (λ q. filtered (NoPlan q (suc n)) y) (only_name z r e)
  end_from {z} {n} a (comes_to_rest e q) =
      let plus : n + 1 ≡ suc n = omega arith in
      round_at_rest y z n (omega (arith, few_rounds s a)) (eq-eqb (round z).rule 0 e) ((round_quiet z (altering_narrower s a).sound).1 q)
      ∙ ap (λ k. filtered (at_rest (round z).year k) (round z).year) plus
      ∙ ap (λ x. filtered (at_rest x (suc n)) x) q

  filter_is : filter_of y ≡ rounds_from 1025985 y y 0
  unfolding filter_of
  filter_is = rw (sound_to y s) refl

  pub no_other : (r : Filtered) → Filtering y r → r ≡ filter_of y
  no_other r f = sym (filter_is ∙ chain_from f.altering ∙ end_from f.altering f.ends)

-- ---- what is handed back

pub filtering_narrows : FilteringNarrows
filtering_narrows y s = filter_narrower y s

pub rest_rounds : (z : Year) (n : ℕ) → filter_rounds (at_rest z n) ≡ n
rest_rounds z n = choose_case (λ a. filter_rounds a ≡ n) (all_placed z) (Settled n) (Open n) (λ e. refl) (λ e. refl)

ends_rested : {y z : Year} {n : ℕ} {r : Filtered} → Sound z → Ends y n z r → filter_number r.answer ≡ 0 → Rested r
ends_rested s (finds_no_plan r e) q = absurd (omega arith)
ends_rested {y} {z} {n} s (comes_to_rest e q) d = record {
  answer_stands = ap (at_rest z) (sym (rest_rounds z (suc n)));
  filtered_again = sym (no_other s (filtered (at_rest z 1) z) (record { rounds_before_last = 0; reached = z; altering = none; ends = comes_to_rest e q }));
}

pub filter_rested : (y : Year) → Sound y → filter_number (filter_of y).answer ≡ 0 → Rested (filter_of y)
filter_rested y s = let f = filter_runs y s in ends_rested (altering_narrower s f.altering).sound f.ends
