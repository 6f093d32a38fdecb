-- The rule that a no plan names is the one that found it: each pass of a round names its own rule alone, so a round names none past
-- the last.
use Prim.Native.Nat.{ℕ, ◌+◌, ◌/◌, ◌≤◌}
use mathlib.Core.Bool.{Bool, ◌&&◌, ◌||◌}
use mathlib.Core.List.{List, [], ◌∷◌}
use mathlib.Core.Logic.{◌⊎◌, inl, inr}
use mathlib.Core.Path.{◌≡◌, refl, sym, subst}
use native.Mathlib.Omega.{arith}
use lib.Dec.{eqb}
use Rattle.theory.specs.Choice.{choose}
use Rattle.theory.specs.Tests.{any}
use Rattle.theory.proofs.ChoiceLaws.{choose_case}
use Rattle.theory.proofs.FoldLaws.{fold_keeps}
use Rattle.year.specs.Year.{course_at}
use Rattle.year.specs.declared.Quantity.TheVariants.{Credits, Counts}
use Rattle.year.specs.declared.Side.{Side}
use Rattle.year.specs.declared.Side.TheVariants.{Low, High}
use Rattle.year.specs.declared.Year.{Year}
use Rattle.rules.specs.declared.Verdict.{Verdict}
use Rattle.rules.specs.declared.Verdict.TheVariants.{Stays, Struck, Fixed}
use Rattle.rules.specs.Step.{Change, rests, moves, strikes, fixes, crosses, fails, applied, goes, then, live, dead, judged, raise_lower, over_to, over_terms, joined, Step}
use Rattle.rules.specs.Bounds.{own_sums, rule1, rule4, other_terms, rule2, rule5}
use Rattle.rules.specs.Lists.{verdict_at3, rule3, rule3_course, overfull, short, full, needed, verdict10, rule10, rule10_course}
use Rattle.rules.specs.Spares.{least_count, most_count, least_load, most_load, rule6, rule7, rule8, rule9}
use Rattle.rules.specs.Packing.{burst, room, bursts, rule11}
use Rattle.rules.specs.Neighbours.{cannot_be, verdict12, rule12_course, rule12}
use Rattle.rules.specs.Round.{passes, in_row, round}
use Rattle.rules.proofs.Passes.{Pass, Each, ◌also◌, lawful}

-- ---- at a term

-- no plan, if any, is by rule r
abbrev pub By : ℕ → ℕ → Type 0
By r named = (named ≡ 0) ⊎ (named ≡ r)

applied_by : (r : ℕ) (y : Year) (c : Change) → By r (applied r y c).rule
applied_by r y rests = inl refl
applied_by r y (moves s q j n) = inl refl
applied_by r y (strikes i j) = inl refl
applied_by r y (fixes i j) = inl refl
applied_by r y (crosses s q j) = inr refl
applied_by r y fails = inr refl

judged_by : (r : ℕ) (y : Year) (i j : ℕ) (v : Verdict) → By r (judged y i j v).rule
judged_by r y i j Stays = inl refl
judged_by r y i j Struck = inl refl
judged_by r y i j Fixed = inl refl

choose_by : (r : ℕ) (b : Bool) (s t : Step) → By r s.rule → By r t.rule → By r (choose b s t).rule
choose_by r b s t x z = choose_case (λ (u : Step). By r u.rule) b s t (λ e. x) (λ e. z)

-- raise, then lower
both_by : (r : ℕ) (f : Side → Year → ℕ → Change) (y : Year) (j : ℕ) → By r (raise_lower r f y j).rule
both_by r f y j =
    let s : Step = applied r y (f Low y j) in
    choose_by r (goes s && goes (applied r s.year (f High s.year j))) _ (dead r y) (applied_by r s.year (f High s.year j)) (inr refl)

over_by : (r : ℕ) (f : Year → ℕ → Step) → ((y : Year) (k : ℕ) → By r (f y k).rule) → (y : Year) (n : ℕ) → By r (over_to f (live y) n).rule
over_by r f h y n = fold_keeps goes (then f) (live y) (λ (s : Step). By r s.rule) n (λ z k l g b. h z.year k) (inl refl)

-- ---- each pass

abbrev pub Names : ℕ → (Step → Step) → Type 0
Names r p = (y : Year) → By r (p (live y)).rule

by_1 : (y : Year) (j : ℕ) → By 1 (rule1 y j).rule
unfolding rule1
by_1 = both_by 1 (own_sums Credits)

by_2 : (y : Year) (j : ℕ) → By 2 (rule2 y j).rule
unfolding rule2
by_2 = both_by 2 (other_terms Credits)

by_4 : (y : Year) (j : ℕ) → By 4 (rule4 y j).rule
unfolding rule4
by_4 = both_by 4 (own_sums Counts)

by_5 : (y : Year) (j : ℕ) → By 5 (rule5 y j).rule
unfolding rule5
by_5 = both_by 5 (other_terms Counts)

course_3 : (j : ℕ) (y : Year) (i : ℕ) → By 3 (rule3_course j y i).rule
unfolding rule3_course
course_3 j y i = judged_by 3 y i j (verdict_at3 y j i)

by_3 : (y : Year) (j : ℕ) → By 3 (rule3 y j).rule
unfolding rule3
by_3 y j = over_by 3 (rule3_course j) (course_3 j) y y.courses

course_10 : (isFull isNeeded : Bool) (j : ℕ) (y : Year) (i : ℕ) → By 10 (rule10_course isFull isNeeded j y i).rule
unfolding rule10_course
course_10 isFull isNeeded j y i = judged_by 10 y i j (verdict10 isFull isNeeded (course_at y i) j)

by_10 : (y : Year) (j : ℕ) → By 10 (rule10 y j).rule
unfolding rule10
by_10 y j =
    choose_by 10 (overfull y j || short y j) (dead 10 y) _ (inr refl)
    (over_by 10 (rule10_course (full y j) (needed y j) j) (course_10 (full y j) (needed y j) j) y y.courses)

course_12 : (j : ℕ) (y : Year) (i : ℕ) → By 12 (rule12_course j y i).rule
unfolding rule12_course
course_12 j y i = judged_by 12 y i j (verdict12 y j i)

by_12 : (y : Year) (j : ℕ) → By 12 (rule12 y j).rule
unfolding rule12
by_12 y j = choose_by 12 (cannot_be y j) (dead 12 y) _ (inr refl) (over_by 12 (rule12_course j) (course_12 j) y y.courses)

by_11 : (y : Year) → By 11 (rule11 y).rule
unfolding rule11
by_11 y =
    choose_by 11 (any y.terms (burst y)) (dead 11 y) _ (inr refl)
    (choose_by 11 (eqb (room y) 0) (live y) _ (inl refl)
    (choose_by 11 (any (room y / 2 + 1) (bursts y (room y))) (dead 11 y) (live y) (inr refl) (inl refl)))

-- each pass of a list names a rule of its own, none of them past rule n
abbrev pub Numbered : ℕ → List (Step → Step) → Type 0
Numbered n [] = Unit {0}
Numbered n (p ∷ ps) = ((r : ℕ) × (r ≤ n) × Names r p) × Numbered n ps

over_terms_lem : (r : ℕ) (f : Year → ℕ → Step) → r ≤ 12 → ((y : Year) (k : ℕ) → By r (f y k).rule) → (r : ℕ) × (r ≤ 12) × Names r (over_terms f)
over_terms_lem r f l h = (r, l, λ y. over_by r f h y y.terms)

pub numbered : Numbered 12 passes
numbered =
    over_terms_lem 1 rule1 (omega arith) by_1
    also over_terms_lem 2 rule2 (omega arith) by_2
    also over_terms_lem 3 rule3 (omega arith) by_3
    also over_terms_lem 4 rule4 (omega arith) by_4
    also over_terms_lem 5 rule5 (omega arith) by_5
    also over_terms_lem 6 rule6 (omega arith) (λ y j. applied_by 6 y (least_count y j))
    also over_terms_lem 7 rule7 (omega arith) (λ y j. applied_by 7 y (most_count y j))
    also over_terms_lem 8 rule8 (omega arith) (λ y j. applied_by 8 y (least_load y j))
    also over_terms_lem 9 rule9 (omega arith) (λ y j. applied_by 9 y (most_load y j))
    also over_terms_lem 10 rule10 (omega arith) by_10
    also over_terms_lem 12 rule12 (omega arith) by_12
    also (11, omega arith, by_11)
    also tt

-- ---- a round

by_most : (r n named : ℕ) → r ≤ n → By r named → named ≤ n
by_most r n named h (inl e) = omega arith
by_most r n named h (inr e) = omega arith

pass_most : (p : Step → Step) → Pass p → (r n : ℕ) → Names r p → r ≤ n → (s : Step) → s.rule ≤ n → (p s).rule ≤ n
pass_most p law r n h k s a =
    subst (λ (t : Step). t.rule ≤ n) (sym (law.steps s))
    (choose_case (λ (t : Step). t.rule ≤ n) (eqb s.rule 0) (joined s (p (live s.year))) s
    (λ e. by_most r n (p (live s.year)).rule k (h s.year)) (λ e. a))

row_most : (n : ℕ) (ps : List (Step → Step)) → Each Pass ps → Numbered n ps → (s : Step) → s.rule ≤ n → (in_row ps s).rule ≤ n
row_most n [] laws h s a = a
row_most n (p ∷ ps) laws h s a = row_most n ps laws.1 h.1 (p s) (pass_most p laws.0 h.0.0 n h.0.2 h.0.1 s a)

pub round_named : (y : Year) → (round y).rule ≤ 12
unfolding round
round_named y = row_most 12 passes lawful numbered (live y) (omega arith)
