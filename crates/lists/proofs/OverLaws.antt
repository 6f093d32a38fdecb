-- Rules 3 and 10 over the terms of a year: a turn of the code's loop, where z is the state at term j, from s on.
use Prim.Native.Nat.{ℕ, ◌+◌, ◌≤◌, ◌<◌}
use mathlib.Core.Bool.{false, or-false}
use mathlib.Core.List.{List}
use mathlib.Core.Path.{◌≡◌, refl, sym, ap, ◌∙◌}
use native.Mathlib.Nat.{le_refl}
use native.Mathlib.Omega.{arith}
use lib.ListN.{get_or}
use Rattle.std.specs.Prelude.{Option, Some, None, Result, Ok, Err}
use Rattle.theory.specs.Tab.{tab}
use Rattle.theory.proofs.TabLaws.{get_or_tab}
use Rattle.year.specs.Year.{term_at, low_credits}
use Rattle.year.specs.Sums.{open_weight, fixed_credits, fixed_count, open_count, sums_at, no_sums}
use Rattle.year.specs.declared.Credits.{Credits}
use Rattle.year.specs.declared.Sums.{Sums}
use Rattle.year.specs.declared.Year.{Year}
use Rattle.year.proofs.SumLaws.{possible_le, all_credits_le, counts_le}
use Rattle.rules.specs.Step.{step, joined, next, over_to, over_courses, Step}
use Rattle.rules.specs.RuleNumbers.{rule_number}
use Rattle.rules.specs.declared.Rule.{Rule}
use Rattle.rules.specs.Lists.{rule3, rule10}
use Rattle.rules.proofs.Narrows.{Narrows}
use Rattle.rules.proofs.KeptOver.{AtTerms}
use Rattle.rules.proofs.Passes.{over_joined}
use Rattle.rules.proofs.ListsKept.{rule3_held, rule10_held}
use Rattle.frame.specs.State.{year_in, step_in, step_of}
use Rattle.frame.specs.declared.State.{State}
use Rattle.frame.proofs.TermsAt.{narrows_at, year_at, terms_at, sums_at_lem}
use Rattle.lists.specs.TermVerdict.{term_verdict3, term_verdict10, course_judged, term_judged}
use Rattle.lists.specs.Heaviest.{heaviest_at}
use Rattle.lists.specs.declared.TermVerdict.{TermVerdict}
use Rattle.lists.proofs.HeaviestLaws.{heaviest_most, heaviest_bounds, open_less}
use Rattle.lists.proofs.TermLaws.{rule_3_is, rule_10_is}

pub lists_3 : AtTerms Narrows rule3
lists_3 y j s h = (rule3_held y j s h).0

pub lists_10 : AtTerms Narrows rule10
lists_10 y j s h = (rule10_held y j s h).0

-- ---- what a turn leaves, by what the rule says of the term: the step of the state that it leaves and of its answer

module _ (rule : Year → ℕ → Step) (z : State) (j : ℕ) (said : Result (Option TermVerdict) Rule) (is : rule (year_in z) j ≡ term_judged said (year_in z) j) where
  turned_is : (w : Result (Option TermVerdict) Rule) → said ≡ w → next rule (step_in z) j ≡ joined (step_in z) (term_judged w (year_in z) j)
  turned_is w e = ap (joined (step_in z)) (is ∙ ap (λ w. term_judged w (year_in z) j) e)

  still : (r : ℕ) → step (year_in z) z.altered r ≡ joined (step_in z) (step (year_in z) false r)
  still r = let m = sym (or-false z.altered) in λ n. step (year_in z) (m n) r

  -- nothing
  pub says_nothing : said ≡ Ok None → step_in z ≡ next rule (step_in z) j
  says_nothing e = still 0 ∙ sym (turned_is (Ok None) e)

  -- its courses have verdicts
  pub says_courses : (w : TermVerdict) → said ≡ Ok (Some w) → over_courses (course_judged w j) (step_in z) ≡ next rule (step_in z) j
  says_courses w e = over_joined (course_judged w j) (step_in z) refl z.courses ∙ sym (turned_is (Ok (Some w)) e)

  -- no plan
  pub says_dead : (a : Rule) → said ≡ Err a → step_of z (Err a) ≡ next rule (step_in z) j
  says_dead a e = still (rule_number a) ∙ sym (turned_is (Err a) e)

-- ---- rule 3

module _ (s : State) (j : ℕ) (h : j < s.terms) (z : State) (inv : step_in z ≡ over_to rule3 (step_in s) j)
    (heaviest : List Credits) (e : heaviest ≡ tab 16 (heaviest_at (year_in s))) where
  heaviest_at_lem : (get_or heaviest j (record { 0 = 0 })).0 ≡ (heaviest_at (year_in s) j).0
  heaviest_at_lem = ap (λ (x : Credits). x.0) (ap (λ h. get_or h j (record { 0 = 0 })) e ∙ get_or_tab 16 (heaviest_at (year_in s)) (record { 0 = 0 }) j (omega (arith, s.sound)))

  pub fits_3 : ((get_or z.sums j no_sums).fixed.0 + (get_or heaviest j (record { 0 = 0 })).0 < 100000) × (low_credits (year_in z) j + (get_or heaviest j (record { 0 = 0 })).0 < 100000)
  unfolding sums_at fixed_credits
  fits_3 =
      let y = year_in z in
      let p : (get_or z.sums j no_sums).fixed.0 ≡ fixed_credits y j = ap (λ (u : Sums). u.fixed.0) (sums_at_lem rule3 s j h z inv lists_3) in
      let heaviest-small = heaviest_most (year_in s) s.courses j s.sound (le_refl s.courses) in
      (omega (arith, heaviest_at_lem, possible_le y j, all_credits_le y z.sound, z.sound.courses_most), omega (arith, heaviest_at_lem, z.sound.term_sound j (terms_at rule3 s j h z inv lists_3)))

  pub says_3 : (w : Option TermVerdict) → w ≡ term_verdict3 (term_at (year_in z) j) (get_or z.sums j no_sums) (get_or heaviest j (record { 0 = 0 })).0
      → rule3 (year_in z) j ≡ term_judged (Ok w) (year_in z) j
  says_3 w q =
      let v = narrows_at rule3 s j h z inv lists_3 in
      let y = year_at rule3 s j h z inv lists_3 in
      let bound : (i : ℕ) → i < z.courses → open_weight z.weight.now z.list j i ≤ (get_or heaviest j (record { 0 = 0 })).0 = λ i m.
      let n : i < s.courses = omega (arith, v.year.courses_same, ap (λ (x : Year). x.courses) y) in
      omega (arith, ap (λ (x : Year). open_weight x.weight x.list j i) y, heaviest_at_lem, open_less (year_in s) _ v i j n, heaviest_bounds s.weight.now s.list s.courses j i n) in
      let read = q ∙ ap (λ u. term_verdict3 (term_at (year_in z) j) u (get_or heaviest j (record { 0 = 0 })).0) (sums_at_lem rule3 s j h z inv lists_3) in
      rule_3_is (year_in z) j (get_or heaviest j (record { 0 = 0 })).0 bound ∙ ap (λ x. term_judged (Ok x) (year_in z) j) (sym read)

-- ---- rule 10

module _ (s : State) (j : ℕ) (h : j < s.terms) (z : State) (inv : step_in z ≡ over_to rule10 (step_in s) j) where
  pub fits_10 : (get_or z.sums j no_sums).placed.0 + (get_or z.sums j no_sums).free.0 < 100
  unfolding sums_at fixed_count open_count
  fits_10 =
      let y = year_in z in
      let u = sums_at_lem rule10 s j h z inv lists_10 in
      let p : (get_or z.sums j no_sums).placed.0 ≡ fixed_count y j = ap (λ (u : Sums). u.placed.0) u in
      let f : (get_or z.sums j no_sums).free.0 ≡ open_count y j = ap (λ (u : Sums). u.free.0) u in
      omega (arith, counts_le y j, z.sound.courses_most)

  pub says_10 : (w : Result (Option TermVerdict) Rule) → w ≡ term_verdict10 (term_at (year_in z) j) (get_or z.sums j no_sums)
      → rule10 (year_in z) j ≡ term_judged w (year_in z) j
  says_10 w q =
      let read = q ∙ ap (term_verdict10 (term_at (year_in z) j)) (sums_at_lem rule10 s j h z inv lists_10) in
      rule_10_is (year_in z) j ∙ ap (λ x. term_judged x (year_in z) j) (sym read)
