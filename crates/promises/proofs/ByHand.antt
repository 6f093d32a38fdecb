-- A column of courses has the courses' weights, or their lists, entry by entry; the sums are filled in where the rest is sound.
use Prim.Native.Nat.{ℕ}
use mathlib.Core.Bool.{true, false}
use mathlib.Core.List.{List}
use mathlib.Core.Path.{◌≡◌, refl, ap₂, sym, ap, subst, ◌∙◌}
use lib.ListN.{length, get_or-map}
use Rattle.theory.specs.Tab.{tab}
use Rattle.theory.proofs.ChoiceLaws.{choose_any}
use Rattle.theory.proofs.TabLaws.{map_tab, tab_get_or}
use Rattle.year.specs.Year.{course_of, zero_course, course_at}
use Rattle.year.specs.Doors.{with_sums}
use Rattle.year.specs.Sums.{fixed_credits, open_credits, fixed_count, open_count, sums_at}
use Rattle.year.specs.Sound.{sound_but_sums, Sound}
use Rattle.year.specs.ByHand.{summed_of, unsummed, by_hand}
use Rattle.year.specs.declared.Course.{Course}
use Rattle.year.specs.declared.Term.{Term}
use Rattle.year.specs.declared.Year.{Year}
use Rattle.year.proofs.SoundLaws.{but_sums_to, summed_sound, with_sums_same}
use Rattle.promises.specs.ByHand.{MadeByHand}

abbrev weight_of : Course → ℕ
weight_of c = c.weight.0

abbrev list_of : Course → ℕ
list_of c = c.list

-- ---- the courses

as_given : (m n : ℕ) (ts : List Term) (cs : List Course) (i : ℕ) → course_at (by_hand m n ts cs) i ≡ course_at (unsummed m n ts cs) i
unfolding summed_of
as_given m n ts cs i =
    let u = unsummed m n ts cs in
    choose_any (λ (z : Year). course_at z i ≡ course_at u i) (sound_but_sums u) (with_sums u) u refl refl

-- a year of its own courses, its sums set aside
own : (y : Year) → length y.weight ≡ 64 → length y.list ≡ 64 → with_sums (unsummed y.terms y.courses y.term (tab 64 (course_at y))) ≡ with_sums y
unfolding sums_at fixed_credits open_credits fixed_count open_count
own y w l =
    let p = map_tab 64 weight_of (course_at y) ∙ tab_get_or y.weight 0 64 w in
    let q = map_tab 64 list_of (course_at y) ∙ tab_get_or y.list 0 64 l in
    λ i. with_sums (record { terms = y.terms; courses = y.courses; term = y.term; weight = p i; list = q i; sums = y.sums })

-- ---- the sums

-- sums are filled in from the rest alone
summed_again : (y : Year) → with_sums (summed_of y) ≡ with_sums y
unfolding summed_of sums_at fixed_credits open_credits fixed_count open_count
summed_again y = choose_any (λ (z : Year). with_sums z ≡ with_sums y) (sound_but_sums y) (with_sums y) y refl refl

every_value : (y : Year) → length y.weight ≡ 64 → length y.list ≡ 64 → with_sums (by_hand y.terms y.courses y.term (tab 64 (course_at y))) ≡ with_sums y
every_value y w l = summed_again (unsummed y.terms y.courses y.term (tab 64 (course_at y))) ∙ own y w l

filled_in : (y : Year) → sound_but_sums y ≡ true → summed_of y ≡ with_sums y
unfolding summed_of
filled_in y e = rw e

left_alone : (y : Year) → sound_but_sums y ≡ false → summed_of y ≡ y
unfolding summed_of
left_alone y e = rw e

-- whether a value is sound but for its sums does not depend on them
passes : (y : Year) → Sound y → sound_but_sums (unsummed y.terms y.courses y.term (tab 64 (course_at y))) ≡ true
unfolding sound_but_sums
passes y s = ap (λ (z : Year). sound_but_sums z) (own y s.weight_length s.list_length) ∙ but_sums_to y s

pub made_by_hand : MadeByHand
made_by_hand = record {
  as_given = λ m n ts cs i. as_given m n ts cs i ∙ ap₂ course_of (get_or-map weight_of cs i zero_course) (get_or-map list_of cs i zero_course);
  every_year = λ y s.
      filled_in (unsummed y.terms y.courses y.term (tab 64 (course_at y))) (passes y s)
      ∙ own y s.weight_length s.list_length
      ∙ with_sums_same y s.sums_kept;
  every_value = every_value;
  filled_in = λ y e. (subst Sound (sym (filled_in y e)) (summed_sound y e), filled_in y e);
  left_alone = left_alone;
}
