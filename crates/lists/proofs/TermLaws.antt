-- A term of rules 3 and 10: what the rule does there is what it says of the term, made of its courses.
use Prim.Native.Nat.{ℕ, zero, suc, ◌+◌, ◌-◌, ◌≤◌, ◌<◌}
use mathlib.Core.Bool.{Bool, true, false, ◌&&◌, ◌||◌}
use mathlib.Core.Path.{◌≡◌, refl, ap, ◌∙◌}
use native.Mathlib.Omega.{arith}
use lib.Dec.{eqb, leb, ltb}
use borrow.Author.Tests.{le-ltb, leb-true, eqb-true}
use Rattle.std.specs.Prelude.{Some, None, Ok, Err}
use Rattle.theory.specs.Fold.{fold}
use Rattle.theory.specs.Choice.{choose}
use Rattle.theory.proofs.ChoiceLaws.{choose_any}
use Rattle.year.specs.Year.{term_at, course_at, weight, is_open, low_credits, high_credits, low_count, high_count}
use Rattle.year.specs.Sums.{open_weight, fixed_credits, open_credits, possible_credits, fixed_count, open_count, sums_at}
use Rattle.year.specs.declared.Year.{Year}
use Rattle.year.proofs.SumLaws.{none_open_lem}
use Rattle.rules.specs.Step.{live, dead, judged, next, over_to, over_courses, Step}
use Rattle.rules.specs.Lists.{verdict3, rule3_course, rule3, full, needed, verdict10, rule10_course, rule10}
use Rattle.rules.specs.declared.Rule.TheVariants.{CourseCounts}
use Rattle.rules.specs.declared.Verdict.TheVariants.{Stays}
use Rattle.lists.specs.TermVerdict.{course_judged, term_verdict3, term_verdict10, term_judged}
use Rattle.lists.specs.declared.TermVerdict.TheVariants.{ByCredits, Full, NeedsAll}

-- a step is its parts
pub step_is : {s t : Step} → s.year ≡ t.year → s.altered ≡ t.altered → s.rule ≡ t.rule → s ≡ t
step_is p q r = λ i. record { year = p i; altered = q i; rule = r i }

-- ---- rules 3 and 10 at a term, under its verdict

-- where no course has a verdict nothing is done
over_still : (f : Year → ℕ → Step) (y : Year) (n : ℕ) → ((i : ℕ) → i < n → f y i ≡ live y) → over_to f (live y) n ≡ live y
unfolding fold
over_still f y zero h = refl
over_still f y (suc n) h = ap (λ s. next f s n) (over_still f y n (λ i l. h i (omega arith))) ∙ rw (h n (omega arith))

pub credits_is : (y : Year) (j : ℕ) → rule3 y j ≡ term_judged (Ok (Some ByCredits)) y j
unfolding rule3 rule3_course course_judged
credits_is y j = refl

-- no open course weighs more than heaviest: with room for heaviest, and enough without it, none has a verdict
credits_nothing : (y : Year) (j heaviest : ℕ) → ((i : ℕ) → i < y.courses → open_weight y.weight y.list j i ≤ heaviest) → fixed_credits y j + heaviest ≤ high_credits y j → low_credits y j + heaviest ≤ possible_credits y j
    → rule3 y j ≡ live y
unfolding rule3 rule3_course verdict3
credits_nothing y j heaviest b h l = over_still (rule3_course j) y y.courses (λ i m. at i (b i m) (is_open (course_at y i) j) refl)
  where
    at : (i : ℕ) → open_weight y.weight y.list j i ≤ heaviest → (o : Bool) → is_open (course_at y i) j ≡ o → rule3_course j y i ≡ live y
    at i w true e =
        let light : weight y i ≤ heaviest = rw e at w in
        rw (e, le-ltb (high_credits y j) (fixed_credits y j + weight y i) (omega arith), le-ltb (possible_credits y j - weight y i) (low_credits y j) (omega arith))
    at i w false e = rw e

pub rule_3_is : (y : Year) (j heaviest : ℕ) → ((i : ℕ) → i < y.courses → open_weight y.weight y.list j i ≤ heaviest) → rule3 y j ≡ term_judged (Ok (term_verdict3 (term_at y j) (sums_at y j) heaviest)) y j
unfolding sums_at fixed_credits open_credits
rule_3_is y j heaviest b = go (leb (fixed_credits y j + heaviest) (high_credits y j)) (leb (low_credits y j + heaviest) (possible_credits y j)) refl refl
  where
    go : (p q : Bool) → leb (fixed_credits y j + heaviest) (high_credits y j) ≡ p → leb (low_credits y j + heaviest) (possible_credits y j) ≡ q
        → rule3 y j ≡ term_judged (Ok (choose (p && q) None (Some ByCredits))) y j
    go true true e f = credits_nothing y j heaviest b (leb-true _ _ e) (leb-true _ _ f)
    go true false e f = credits_is y j
    go false q e f = credits_is y j

-- ---- rule 10: a term that is neither full nor needs all leaves every course, and so does one where none is open

counts_nothing : (y : Year) (j : ℕ) → over_courses (rule10_course false false j) (live y) ≡ live y
unfolding rule10_course verdict10
counts_nothing y j = over_still (rule10_course false false j) y y.courses (λ i m. ap (judged y i j) (choose_any (λ v. v ≡ Stays) (is_open (course_at y i) j) Stays Stays refl refl))

none_open_nothing : (y : Year) (j : ℕ) (p q : Bool) → open_count y j ≡ 0 → over_courses (rule10_course p q j) (live y) ≡ live y
unfolding rule10_course verdict10 open_count
none_open_nothing y j p q e = over_still (rule10_course p q j) y y.courses (λ i m. rw (none_open_lem y.weight y.list j y.courses e i m))

counts_are : (y : Year) (j : ℕ) (fails p q : Bool)
    → choose fails (dead 10 y) (over_courses (rule10_course p q j) (live y))
    ≡ term_judged (choose fails (Err CourseCounts) (choose (eqb (open_count y j) 0) (Ok None) (choose p (Ok (Some Full)) (Ok (choose q (Some NeedsAll) None))))) y j
unfolding rule10_course course_judged verdict10
counts_are y j fails p q = go fails (eqb (open_count y j) 0) p q refl
  where
    go : (fails none p q : Bool) → eqb (open_count y j) 0 ≡ none
        → choose fails (dead 10 y) (over_courses (rule10_course p q j) (live y))
        ≡ term_judged (choose fails (Err CourseCounts) (choose none (Ok None) (choose p (Ok (Some Full)) (Ok (choose q (Some NeedsAll) None))))) y j
    go true none p q e = refl
    go false true p q e = none_open_nothing y j p q (eqb-true _ _ e)
    go false false true q e = refl
    go false false false true e = refl
    go false false false false e = counts_nothing y j

pub rule_10_is : (y : Year) (j : ℕ) → rule10 y j ≡ term_judged (term_verdict10 (term_at y j) (sums_at y j)) y j
unfolding rule10 sums_at fixed_count open_count
rule_10_is y j = counts_are y j (ltb (high_count y j) (fixed_count y j) || ltb (fixed_count y j + open_count y j) (low_count y j)) (full y j) (needed y j)
