-- Rules 3, 10 and 12 narrow and keep exactly the plans, course by course and so at a term.
use Prim.Native.Nat.{ℕ, ◌+◌, ◌-◌, ◌^◌, ◌≤◌, ◌<◌}
use mathlib.Core.Bool.{Bool, true, false, ◌||◌, true≢false}
use mathlib.Core.Path.{◌≡◌, refl, sym, ap, subst, ◌∙◌}
use native.Mathlib.Omega.{arith}
use native.Mathlib.Nat.{le_refl}
use native.Mathlib.Decide.{ℕ_discrete}
use lib.Dec.{eqb}
use borrow.Author.Tests.{eqb-true, eq-eqb, ne_eqb}
use Rattle.theory.specs.Choice.{choose}
use Rattle.theory.proofs.ChoiceLaws.{choose_case}
use Rattle.theory.proofs.FoldLaws.{fold_keeps}
use Rattle.theory.specs.Sum.{pick}
use Rattle.theory.proofs.SumLaws.{sum_cong, sum_term_le}
use Rattle.theory.specs.Bits.{has}
use Rattle.theory.proofs.BitLaws.{has_power, has_struck}
use Rattle.year.specs.Year.{course_at, list, lists, is_fixed, is_open, low_count, high_count}
use Rattle.year.specs.Doors.{placed, struck}
use Rattle.year.specs.Sums.{fixed_count, open_count}
use Rattle.year.specs.Sound.{Sound}
use Rattle.year.specs.declared.Quantity.TheVariants.{Counts}
use Rattle.year.specs.declared.Year.{Year}
use Rattle.year.proofs.DoorLaws.{list_same, list_other}
use Rattle.rules.specs.Step.{rests, fails, live, dead, applied, ruled, judged, goes, then, over_to, over_courses, Step}
use Rattle.rules.specs.Lists.{verdict_at3, rule3_course, rule3, overfull, short, full, needed, verdict10, rule10_course, rule10}
use Rattle.rules.specs.Neighbours.{cannot_be, verdict12, rule12_course, rule12}
use Rattle.rules.specs.Facts.{never, the_fixed}
use Rattle.rules.specs.Reasons.{reason, basis_room, basis_need, reason3, reason10, reason10_course, reason12, reason12_course}
use Rattle.rules.specs.declared.Verdict.{Verdict}
use Rattle.rules.specs.declared.Verdict.TheVariants.{Stays, Struck, Fixed}
use Rattle.rules.proofs.PlanSums.{open_facts, count_halves}
use Rattle.rules.proofs.Narrows.{narrows_rest, narrows_then}
use Rattle.rules.proofs.PlansKept.{Held}
use Rattle.rules.proofs.KeptOver.{kept_rest, kept_then, AtTerms}
use Rattle.rules.proofs.ReasonsGood.{good3, good10, good10_course, good12, good12_course}
use Rattle.rules.proofs.ReasonsKept.{good_held}

-- ---- a verdict is a change under any rule

pub judged_is : (r : ℕ) (y : Year) (i j : ℕ) (v : Verdict) → judged y i j v ≡ applied r y (ruled i j v)
judged_is r y i j Stays = refl
judged_is r y i j Struck = refl
judged_is r y i j Fixed = refl

-- ---- over the courses

-- each step is held to it on years of these sizes that meet a condition, which it leaves true
module _ (y : Year) (f : Year → ℕ → Step) (If : Year → Type 0)
    (step : (z : Year) (i : ℕ) → Sound z → z.terms ≡ y.terms → z.courses ≡ y.courses → If z → i < y.courses → Held z (f z i) × If (f z i).year) where
  -- so it is before course n
  over_to_lem : Sound y → If y → (n : ℕ) → n ≤ y.courses → Held y (over_to f (live y) n) × If (over_to f (live y) n).year
  over_to_lem s a n m =
      fold_keeps goes (then f) (live y) (λ t. Held y t × If t.year) n
      (λ t i l e b.
      let w = b.0.0.year in
      let h = step t.year i w.sound w.terms_same w.courses_same b.1 (omega arith) in (
        (narrows_then y t (f t.year i) b.0.0 h.0.0, kept_then y t (f t.year i) (eqb-true t.rule 0 e) b.0.1 h.0.1),
        h.1,
      ))
      ((narrows_rest y 0 s, kept_rest y), a)

  over_held : Sound y → If y → Held y (over_courses f (live y))
  over_held s a = (over_to_lem s a y.courses (le_refl y.courses)).0

-- ---- rule 3

pub rule3_held : AtTerms Held rule3
unfolding rule3 rule3_course
rule3_held y j s l =
    over_held y (rule3_course j) (λ z. Unit {0})
    (λ z i a t c u h. (
      subst (Held z) (sym (judged_is 3 z i j (verdict_at3 z j i)))
          (good_held 3 z a (λ e. omega arith) (reason3 z j i) (good3 z j (omega arith) i (omega arith))),
      tt,
    )) s tt

-- ---- rule 10

-- what was read of the term before its courses were altered is true while they are
abbrev Asked : Bool → Bool → ℕ → Year → Type 0
Asked true n j z = fixed_count z j ≡ high_count z j
Asked false true j z = fixed_count z j + open_count z j ≡ low_count z j
Asked false false j z = (full z j ≡ false) × (needed z j ≡ false)

module _ (z : Year) (i j : ℕ) (s : Sound z) (l : i < z.courses) (o : is_open (course_at z i) j ≡ true) where
  -- a course struck from j was not fixed there and is not
  fixed_struck : fixed_count (struck z i j) j ≡ fixed_count z j
  unfolding fixed_count
  fixed_struck =
      sum_cong z.courses (λ a. pick (is_fixed (course_at (struck z i j) a) j) 1) (λ a. pick (is_fixed (course_at z a) j) 1)
      (λ a h. ap (λ b. pick b 1) (go a (ℕ_discrete a i)))
    where
      e : lists (course_at z i) j ≡ true
      e = (open_facts (course_at z i) j o).0

      never : (b : Bool) → eqb (list z i - 2 ^ j) (2 ^ j) ≡ b → b ≡ false
      never true q =
          sym (ap (λ x. has x j) (eqb-true (list z i - 2 ^ j) (2 ^ j) q) ∙ has_power j j ∙ eq-eqb j j refl)
          ∙ has_struck (list z i) j j e ∙ rw (eq-eqb j j refl, e) refl
      never false q = refl

      go : (a : ℕ) → Dec (a ≡ i) → is_fixed (course_at (struck z i j) a) j ≡ is_fixed (course_at z a) j
      go a (yes q) =
          rw (q, list_same z i (list z i - 2 ^ j) (omega (arith, s)), (open_facts (course_at z i) j o).1)
          (never (eqb (list z i - 2 ^ j) (2 ^ j)) refl)
      go a (no d) = ap (λ x. eqb x (2 ^ j)) (list_other z i (list z i - 2 ^ j) a d)

  -- a course placed in j lists it as before
  both_placed : fixed_count (placed z i j) j + open_count (placed z i j) j ≡ fixed_count z j + open_count z j
  both_placed =
      sym (count_halves (placed z i j) j)
      ∙ sum_cong z.courses (λ a. pick (lists (course_at (placed z i j) a) j) 1) (λ a. pick (lists (course_at z a) j) 1)
      (λ a h. ap (λ b. pick b 1) (go a (ℕ_discrete a i)))
      ∙ count_halves z j
    where
      go : (a : ℕ) → Dec (a ≡ i) → lists (course_at (placed z i j) a) j ≡ lists (course_at z a) j
      go a (yes q) =
          rw (q, list_same z i (2 ^ j) (omega (arith, s)), (open_facts (course_at z i) j o).0)
          (has_power j j ∙ eq-eqb j j refl)
      go a (no d) = ap (λ x. has x j) (list_other z i (2 ^ j) a d)

module _ (z : Year) (i j : ℕ) (s : Sound z) (l : i < z.courses) (m : j < z.terms) where
  -- so what was read then would be read now
  read_again : (f n : Bool) → Asked f n j z → verdict10 f n (course_at z i) j ≡ verdict10 (full z j) (needed z j) (course_at z i) j
  unfolding verdict10 open_count
  read_again f n a = go (is_open (course_at z i) j) refl f n a
    where
      go : (o : Bool) → is_open (course_at z i) j ≡ o → (f n : Bool) → Asked f n j z
          → choose o (choose f Struck (choose n Fixed Stays)) Stays ≡ choose o (choose (full z j) Struck (choose (needed z j) Fixed Stays)) Stays
      go false o f n a = refl
      go true o true n a = rw (eq-eqb (fixed_count z j) (high_count z j) a) refl
      go true o false true a =
          let some = sum_term_le z.courses i (λ k. pick (is_open (course_at z k) j) 1) l in
          let one : pick (is_open (course_at z i) j) 1 ≡ 1 = ap (λ b. pick b 1) o in
          let b = (s.term_sound j m).count_ordered in
          rw (ne_eqb (fixed_count z j) (high_count z j) (λ e. omega arith), eq-eqb (fixed_count z j + open_count z j) (low_count z j) a) refl
      go true o false false a = rw (a.0, a.1) refl

  asked_stays : (f n : Bool) → Asked f n j z → Asked f n j (judged z i j (verdict10 f n (course_at z i) j)).year
  unfolding verdict10
  asked_stays f n a = choose_case (λ v. Asked f n j (judged z i j v).year) (is_open (course_at z i) j) (choose f Struck (choose n Fixed Stays)) Stays (λ o. go f n a o) (λ o. a)
    where
      go : (f n : Bool) → Asked f n j z → is_open (course_at z i) j ≡ true → Asked f n j (judged z i j (choose f Struck (choose n Fixed Stays))).year
      go true n a o = fixed_struck z i j s l o ∙ a
      go false true a o = both_placed z i j s l o ∙ a
      go false false a o = a

  course10 : (f n : Bool) → Asked f n j z → Held z (rule10_course f n j z i) × Asked f n j (rule10_course f n j z i).year
  unfolding rule10_course
  course10 f n a = (
    subst (Held z) (sym (ap (judged z i j) (read_again f n a) ∙ judged_is 10 z i j (verdict10 (full z j) (needed z j) (course_at z i) j)))
        (good_held 10 z s (λ e. omega arith) (reason10_course z j i) (good10_course z j m i l)),
    asked_stays f n a,
  )

asked_first : (y : Year) (j : ℕ) (f n : Bool) → full y j ≡ f → needed y j ≡ n → Asked f n j y
asked_first y j true n a b = eqb-true (fixed_count y j) (high_count y j) a
asked_first y j false true a b = eqb-true (fixed_count y j + open_count y j) (low_count y j) b
asked_first y j false false a b = (a, b)

-- an overfull term, or a short one, has no plan
none_10 : (y : Year) (j : ℕ) → Sound y → j < y.terms → overfull y j || short y j ≡ true → Held y (dead 10 y)
none_10 y j s l = go (overfull y j) (short y j) (good_held 10 y s (λ e. omega arith) (reason10 y j) (good10 y j l))
  where
    go : (a b : Bool) → Held y (applied 10 y (choose a (reason fails (basis_room Counts j)) (choose b (reason fails (basis_need Counts j)) (reason rests (the_fixed never)))).change)
        → a || b ≡ true → Held y (dead 10 y)
    go true b h e = h
    go false true h e = h
    go false false h e = absurd (true≢false (sym e))

-- what was read holds before each course
over_10 : (y : Year) (j : ℕ) → Sound y → j < y.terms → (n : ℕ) → n ≤ y.courses
    → let t = over_to (rule10_course (full y j) (needed y j) j) (live y) n in
    Held y t × Asked (full y j) (needed y j) j t.year
over_10 y j s l =
    over_to_lem y (rule10_course (full y j) (needed y j) j) (Asked (full y j) (needed y j) j)
    (λ z i a t c u h. course10 z i j a (omega arith) (omega arith) (full y j) (needed y j) u)
    s (asked_first y j (full y j) (needed y j) refl refl)

-- what rule 10 reads once for the term is what it would read anew for each course
pub rule10_again : (y : Year) (j : ℕ) → Sound y → j < y.terms → (i : ℕ) → i < y.courses
    → let f = rule10_course (full y j) (needed y j) j in
    let z = (over_to f (live y) i).year in
    f z i ≡ applied 10 z (reason10_course z j i).change
unfolding rule10_course
rule10_again y j s l i h =
    let at = over_10 y j s l i (omega arith) in
    let z = (over_to (rule10_course (full y j) (needed y j) j) (live y) i).year in
    let w = at.0.0.year in
    ap (judged z i j) (read_again z i j w.sound (omega (arith, w.courses_same)) (omega (arith, w.terms_same)) (full y j) (needed y j) at.1)
    ∙ judged_is 10 z i j (verdict10 (full z j) (needed z j) (course_at z i) j)

pub rule10_held : AtTerms Held rule10
unfolding rule10
rule10_held y j s l =
    choose_case (Held y) (overfull y j || short y j) (dead 10 y) (over_courses (rule10_course (full y j) (needed y j) j) (live y)) (none_10 y j s l)
    (λ e. (over_10 y j s l y.courses (le_refl y.courses)).0)

-- ---- rule 12

none_12 : (y : Year) (j : ℕ) → Sound y → j < y.terms → cannot_be y j ≡ true → Held y (dead 12 y)
none_12 y j s l e = subst (λ b. Held y (applied 12 y (choose b fails rests))) e (good_held 12 y s (λ e. omega arith) (reason12 y j) (good12 y j s l))

pub rule12_held : AtTerms Held rule12
unfolding rule12 rule12_course
rule12_held y j s l =
    choose_case (Held y) (cannot_be y j) (dead 12 y) (over_courses (rule12_course j) (live y)) (none_12 y j s l)
    (λ e.
    over_held y (rule12_course j) (λ z. Unit {0})
    (λ z i a t c u h. (
      subst (Held z) (sym (judged_is 12 z i j (verdict12 z j i)))
          (good_held 12 z a (λ e. omega arith) (reason12_course z j i) (good12_course z j a (omega arith) i (omega arith))),
      tt,
    )) s tt)
