-- The courses of a term, one after the other: what the steps leave alone, and what the code makes of a course.
use Prim.Native.Nat.{ℕ, zero, suc, ◌+◌, ◌≤◌, ◌<◌}
use mathlib.Core.Bool.{Bool, true, false, ◌||◌}
use mathlib.Core.Path.{◌≡◌, refl, sym, ap, ◌∙◌, subst}
use native.Mathlib.Omega.{arith}
use lib.ListN.{get_or}
use Rattle.theory.specs.Fold.{fold}
use Rattle.year.specs.Year.{zero_term, course_of, term_at, course_at, weight, is_open}
use Rattle.year.specs.Doors.{with_list}
use Rattle.year.specs.Sums.{fixed_credits, possible_credits, sums_in, sums_at}
use Rattle.year.specs.Sound.{Sound}
use Rattle.year.specs.declared.Course.{Course}
use Rattle.year.specs.declared.Sums.{Sums}
use Rattle.year.specs.declared.Term.{Term}
use Rattle.year.specs.declared.Year.{Year}
use Rattle.year.proofs.DoorLaws.{list_other}
use Rattle.year.proofs.SumLaws.{possible_le, all_credits_le, sums_read}
use Rattle.rules.specs.Step.{goes, then, step, live, judged, next, over_to, Step, joined}
use Rattle.theory.proofs.FoldLaws.{fold_more}
use Rattle.rules.specs.Lists.{verdict3, verdict10}
use Rattle.rules.specs.declared.Verdict.{Verdict}
use Rattle.rules.specs.declared.Verdict.TheVariants.{Stays, Struck, Fixed}
use Rattle.rules.proofs.Narrows.{Narrows, narrows_rest, narrows_over, Lawful}
use Rattle.rules.proofs.Steps.{judged_narrows}
use Rattle.rules.proofs.Passes.{over_joined}
use Rattle.frame.specs.State.{year_in, step_in}
use Rattle.frame.specs.declared.State.{State}
use Rattle.lists.specs.TermVerdict.{course_verdict, course_judged}
use Rattle.lists.specs.declared.TermVerdict.{TermVerdict}
use Rattle.lists.specs.declared.TermVerdict.TheVariants.{ByCredits, Full, NeedsAll}

-- with one course more, p stays within its size
pub small : (y : Year) (i j : ℕ) → Sound y → i < y.courses → fixed_credits y j + weight y i ≤ 65000
small y i j s h = omega (arith, s, possible_le y j, all_credits_le y s, (s.course_sound i h).weight_most)

-- ---- one step

abbrev verdict_at : TermVerdict → ℕ → Year → ℕ → Verdict
verdict_at w j y i = course_verdict w (course_at y i) (term_at y j) (fixed_credits y j) (possible_credits y j) j

-- only an open course has a verdict
pub verdict_stays : (w : TermVerdict) (c : Course) (t : Term) (p P j : ℕ) → is_open c j ≡ false → course_verdict w c t p P j ≡ Stays
unfolding verdict3 verdict10
verdict_stays ByCredits c t p P j e = rw e
verdict_stays Full c t p P j e = rw e
verdict_stays NeedsAll c t p P j e = rw e

verdict_open : (w : TermVerdict) (c : Course) (t : Term) (p P j : ℕ) → (course_verdict w c t p P j ≡ Stays → ⊥) → is_open c j ≡ true
verdict_open w c t p P j d = go (is_open c j) refl
  where
    go : (b : Bool) → is_open c j ≡ b → is_open c j ≡ true
    go true q = q
    go false q = absurd (d (verdict_stays w c t p P j q))

pub lawful : (w : TermVerdict) (terms courses j : ℕ) → j < terms → Lawful terms courses (course_judged w j) courses
unfolding course_judged
lawful w terms courses j l z i s t c h =
    judged_narrows z i j _ s (omega arith) (omega arith) (verdict_stays w (course_at z i) (term_at z j) (fixed_credits z j) (possible_credits z j) j)

-- ---- the first n courses

judged_turn : (w : TermVerdict) (j : ℕ) (s : Step) (i : ℕ) (v : Verdict) → s.rule ≡ 0 → verdict_at w j s.year i ≡ v
    → next (course_judged w j) s i ≡ joined s (judged s.year i j v)
unfolding course_judged
judged_turn w j s i v r e = rw (r, e)

-- no plan is never found, no term is altered, nor a course from n on
pub record Onward (y : Year) (n : ℕ) (s : Step) : Type 0 where
  pub goes_on : s.rule ≡ 0
  pub term_same : s.year.term ≡ y.term
  pub course_same : (i : ℕ) → n ≤ i → course_at s.year i ≡ course_at y i

-- course n with another list
onward_listed : (y : Year) (n l : ℕ) (s : Step) → Onward y n s → Onward y (suc n) (step (with_list s.year n l) (s.altered || true) 0)
onward_listed y n l s o = record {
  goes_on = refl;
  term_same = o.term_same;
  course_same = λ i h. ap (course_of (weight s.year i)) (list_other s.year n l i (λ q. absurd (omega arith))) ∙ o.course_same i (omega arith);
}

onward_judged : (y : Year) (n j : ℕ) (s : Step) (v : Verdict) → Onward y n s → Onward y (suc n) (joined s (judged s.year n j v))
onward_judged y n j s Stays o = record { goes_on = refl; term_same = o.term_same; course_same = λ i h. o.course_same i (omega arith) }
onward_judged y n j s Struck o = onward_listed y n _ s o
onward_judged y n j s Fixed o = onward_listed y n _ s o

pub onward : (w : TermVerdict) (j : ℕ) (y : Year) (n : ℕ) → Onward y n (over_to (course_judged w j) (live y) n)
unfolding fold
onward w j y zero = record { goes_on = refl; term_same = refl; course_same = λ i h. refl }
onward w j y (suc n) =
    let s = over_to (course_judged w j) (live y) n in
    let o = onward w j y n in
    subst (Onward y (suc n)) (sym (judged_turn w j s n _ o.goes_on refl)) (onward_judged y n j s (verdict_at w j s.year n) o)

-- ---- a turn of the code's loop: z is the state when course i is come to, from s on, and it has the bounds of s

pub judged_term : (y : Year) (i j : ℕ) (v : Verdict) → (judged y i j v).year.term ≡ y.term
judged_term y i j Stays = refl
judged_term y i j Struck = refl
judged_term y i j Fixed = refl

module _ (w : TermVerdict) (s : State) (j i : ℕ) (j-in : j < s.terms) (i-in : i < s.courses) (z : State)
    (inv : step_in z ≡ over_to (course_judged w j) (step_in s) i) where
  narrows : Narrows (year_in s) (over_to (course_judged w j) (live (year_in s)) i)
  narrows =
      narrows_over (course_judged w j) s.courses (year_in s) (live (year_in s)) (lawful w s.terms s.courses j j-in) (narrows_rest (year_in s) 0 s.sound) i (omega arith)

  year_now : year_in z ≡ (over_to (course_judged w j) (live (year_in s)) i).year
  year_now = ap (λ (x : Step). x.year) (inv ∙ over_joined (course_judged w j) (step_in s) refl i)

  pub inside : (i < z.courses) × (j < z.terms)
  inside =
      (omega (arith, ap (λ (q : Year). q.courses) year_now, narrows.year.courses_same), omega (arith, ap (λ (q : Year). q.terms) year_now, narrows.year.terms_same))

  sums_now : sums_in z.sums j ≡ sums_at (year_in z) j
  sums_now = sums_read (year_in z) z.sums z.sound.sums_kept j (omega (arith, s.sound))

  fixed_is : (sums_in z.sums j).fixed.0 ≡ fixed_credits (year_in z) j
  unfolding sums_at
  fixed_is = ap (λ (u : Sums). u.fixed.0) sums_now

  possible_is : (sums_in z.sums j).possible.0 ≡ possible_credits (year_in z) j
  unfolding sums_at
  possible_is = ap (λ (u : Sums). u.possible.0) sums_now

  pub p_small : (c : Course) → c ≡ course_at (year_in z) i → (sums_in z.sums j).fixed.0 + c.weight.0 ≤ 65000
  p_small c e = rw (e, fixed_is) (small (year_in z) i j z.sound inside.0)

  -- v is the verdict, by the sums at hand
  module _ (term : z.term ≡ s.term) (c : Course) (c-is : c ≡ course_at (year_in z) i) (v : Verdict)
      (v-is : v ≡ course_verdict w c (term_at (year_in s) j) (sums_in z.sums j).fixed.0 (sums_in z.sums j).possible.0 j) where
    -- it is that by the sums read anew
    anew : v ≡ verdict_at w j (year_in z) i
    anew =
        let t : term_at (year_in s) j ≡ term_at (year_in z) j = ap (λ ts. get_or ts j zero_term) (sym term) in
        v-is ∙ rw (c-is, fixed_is, possible_is, t) refl

    pub only_open : (v ≡ Stays → ⊥) → is_open (course_at (year_in z) i) j ≡ true
    only_open d = verdict_open w (course_at (year_in z) i) (term_at (year_in z) j) (fixed_credits (year_in z) j) (possible_credits (year_in z) j) j (λ q. d (anew ∙ q))

    module _ (r : State) (left : step_in r ≡ joined (step_in z) (judged (year_in z) i j v)) where
      pub course_turn : step_in r ≡ over_to (course_judged w j) (step_in s) (i + 1)
      unfolding course_judged
      course_turn =
          left
          ∙ ap (λ x. joined (step_in z) (judged (year_in z) i j x)) anew
          ∙ ap (λ x. next (course_judged w j) x i) inv
          ∙ sym (fold_more goes (then (course_judged w j)) (step_in s) i)

      pub course_term : r.term ≡ s.term
      course_term = ap (λ (x : Step). x.year.term) left ∙ judged_term (year_in z) i j v ∙ term
