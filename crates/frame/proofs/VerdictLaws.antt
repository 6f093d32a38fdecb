-- A course under a verdict: what the code has to know before it stores the course's new list and the sums, and what it has then
-- (`under_verdict`); with j a term, that this is a sound year (`stored_sound`). `State::judge` goes by both; its callers cite nothing here.
use Prim.Native.Nat.{ℕ, ◌^◌, ◌≤◌, ◌<◌}
use mathlib.Core.Bool.{Bool, true, false, not, or-true, or-false, true≢false}
use mathlib.Core.List.{List}
use mathlib.Core.Path.{◌≡◌, refl, sym, ap, ◌∙◌, subst}
use lib.ListN.{set}
use Rattle.theory.specs.Tab.{tab}
use Rattle.theory.proofs.BitLaws.{has_le}
use Rattle.theory.proofs.TestLaws.{and_true}
use Rattle.year.specs.Year.{course_at, list, lists, is_fixed, is_open}
use Rattle.year.specs.Doors.{with_list}
use Rattle.year.specs.Sums.{sums_in}
use Rattle.year.specs.SumsOf.{part_of, Within, changed_at}
use Rattle.year.specs.Sound.{Sound}
use Rattle.year.specs.declared.Course.{Course}
use Rattle.year.specs.declared.Sums.{Sums}
use Rattle.year.specs.declared.Year.{Year}
use Rattle.year.proofs.ChangeLaws.{change_asks, change_gives}
use Rattle.rules.specs.Step.{Step, step, judged, joined}
use Rattle.rules.specs.declared.Verdict.{Verdict}
use Rattle.rules.specs.declared.Verdict.TheVariants.{Stays, Struck, Fixed}
use Rattle.rules.proofs.Steps.{judged_narrows}
use Rattle.frame.specs.Verdicts.{list_after}

-- a verdict other than to stay gives the course another list
judged_alters : (y : Year) (i j : ℕ) (v : Verdict) → (v ≡ Stays → ⊥) → judged y i j v ≡ step (with_list y i (list_after v (list y i) j)) true 0
judged_alters y i j Stays d = absurd (d refl)
judged_alters y i j Struck d = refl
judged_alters y i j Fixed d = refl

not_struck : (v : Verdict) → v ≡ Struck → v ≡ Stays → ⊥
not_struck v e q = let x : Struck ≡ Stays = sym e ∙ q in cc

-- the year with the list x of course i and the sums u
abbrev pub stored : Year → ℕ → ℕ → List Sums → Year
stored y i x u = record { terms = y.terms; courses = y.courses; term = y.term; weight = y.weight; list = set y.list i x; sums = u }

-- c, which is course i, under verdict v in term j: of step z it makes step r
pub record UnderVerdict (v : Verdict) (i j : ℕ) (c : Course) (z r : Step) : Type 0 where
  pub is_listed : v ≡ Struck → 2 ^ j ≤ c.list
  pub asks : (c.weight.0 ≤ 1000) × ((k : ℕ) → k < 16 → Within (sums_in z.year.sums k) (part_of c k))
  pub stays : v ≡ Stays → z ≡ r
  pub alters : (v ≡ Stays → ⊥) → (x : ℕ) → x ≡ list_after v c.list j → (u : List Sums) → u ≡ tab 16 (changed_at z.year.sums c x)
      → step (stored z.year i x u) true z.rule ≡ r

-- only an open course has a verdict
module _ (y : Year) (sound : Sound y) (i j : ℕ) (inside : i < y.courses) (v : Verdict)
    (only-open : (v ≡ Stays → ⊥) → is_open (course_at y i) j ≡ true) (c : Course) (is : c ≡ course_at y i) where
  struck_lists : v ≡ Struck → lists (course_at y i) j ≡ true
  struck_lists e = (and_true (lists (course_at y i) j) (not (is_fixed (course_at y i) j)) (only-open (not_struck v e))).0

  pub under_verdict : (a : Bool) → UnderVerdict v i j c (step y a 0) (joined (step y a 0) (judged y i j v))
  under_verdict a = record {
    is_listed = λ e. rw is (has_le (list y i) j (struck_lists e));
    asks = change_asks y sound i inside c is;
    stays = λ e. ap (λ m. step y m 0) (sym (or-false a)) ∙ ap (λ u. joined (step y a 0) (judged y i j u)) (sym e);
    alters = λ d x new u sums.
        let to = list_after v (list y i) j in
        let at : x ≡ to = new ∙ ap (λ (b : Course). list_after v b.list j) is in
        let are = sums ∙ ap (λ b. tab 16 (changed_at y.sums c b)) at ∙ change_gives y sound i inside c is to in
        let m = sym (or-true a) in
        (λ n. step (stored y i (at n) (are n)) (m n) 0)
        ∙ ap (joined (step y a 0)) (sym (judged_alters y i j v d));
  }

  stays_else : (u : Verdict) → ((u ≡ Stays → ⊥) → is_open (course_at y i) j ≡ true) → is_open (course_at y i) j ≡ false → u ≡ Stays
  stays_else Stays o e = refl
  stays_else Struck o e = absurd (true≢false (sym (o (not_struck Struck refl)) ∙ e))
  stays_else Fixed o e = absurd (true≢false (sym (o (λ q. let x : Fixed ≡ Stays = q in cc)) ∙ e))

  -- what is stored is a sound year, j being one of its terms
  pub stored_sound : j < y.terms → (v ≡ Stays → ⊥) → (x : ℕ) → x ≡ list_after v c.list j → (u : List Sums) → u ≡ tab 16 (changed_at y.sums c x)
      → Sound (stored y i x u)
  stored_sound below d x new u sums =
      subst Sound (sym (ap (λ (s : Step). s.year) ((under_verdict true).alters d x new u sums)))
      (judged_narrows y i j v sound inside below (stays_else v only-open)).year.sound
