-- Calls one after another: each leaves a year no looser, whose plans are those that meet it; and so do all of them together.
use Prim.Native.Nat.{ℕ, ◌<◌}
use mathlib.Core.Bool.{Bool, true, false}
use mathlib.Core.List.{List, [], ◌∷◌}
use mathlib.Core.Logic.{◌↔◌}
use mathlib.Core.Path.{◌≡◌, refl, sym, ap, subst, ◌∙◌}
use native.Mathlib.Omega.{arith}
use native.Mathlib.Decide.{ℕ_discrete}
use lib.Dec.{eqb}
use lib.ListN.{length, take}
use borrow.Author.Tests.{eqb-true}
use Rattle.theory.specs.Choice.{choose}
use Rattle.theory.proofs.ChoiceLaws.{choose_case}
use Rattle.year.specs.Numbers.{narrowing_number}
use Rattle.year.specs.Bound.{Keeps}
use Rattle.year.specs.Plans.{Placing, Plan, the_placing}
use Rattle.year.specs.Sound.{is_sound, Sound}
use Rattle.year.proofs.SoundLaws.{sound_of}
use Rattle.year.specs.declared.Year.{Year}
use Rattle.records.specs.Numbers.{writing_number}
use Rattle.records.specs.Reading.{read_list, year_read}
use Rattle.records.specs.Writing.{records_of, write_answer, written}
use Rattle.filter.specs.Filter.{filter_of}
use Rattle.filter.specs.Numbers.{is_settled}
use Rattle.records.proofs.GatherLaws.{is_done}
use Rattle.records.proofs.ListLaws.{read_sound}
use Rattle.records.proofs.WriteRead.{write_read}
use Rattle.filter.proofs.RoundLaws.{filter_narrower}
use Rattle.rules.specs.Narrower.{Narrower}
use Rattle.rules.proofs.Narrows.{narrower_self, narrower_then, put_same}
use Rattle.promises.specs.Narrowings.{Narrow, place, bar, tighten, narrow, Meets}
use Rattle.promises.specs.Sequence.{Origin, value, records, hours, start, Call, narrow_by, filter, write_and_read, result, read_back, after, Asks, MeetsAll, PlanThatMeets}
use Rattle.promises.proofs.Narrowings.{each_narrowing, narrow_narrower}
use Rattle.promises.proofs.RoundsKept.{filter_kept}
use Rattle.promises.proofs.SettledPlan.{settled_one}
use Rattle.promises.proofs.RoundTrip.{wrote}
use Rattle.promises.proofs.JoinedYear.{joined_sound}

-- ---- one call

meets_same : (first y : Year) (n : Narrow) (p : Placing) → Narrower first y → Meets y n p ↔ Meets first n p
meets_same first y (place i j) p a = (λ h. h, λ h. h)
meets_same first y (bar i j) p a = (λ h. h, λ h. h)
meets_same first y (tighten s q j v) p a =
    let e = put_same first y a q p j in
    (λ h. subst (Keeps s v) e h, λ h. subst (Keeps s v) (sym e) h)

-- what was written reads back to the same year
read_back_lem : (y : Year) (b : List ℕ) → Sound y → read_back y b ≡ y
read_back_lem y b s =
    choose_case (λ z. z ≡ y) (eqb (writing_number (write_answer y (length b))) 0) (year_read (read_list (take (length (records_of y)) (written y b)))) y
    (λ e. ap (λ l. year_read (read_list l)) ((wrote y b).front (eqb-true (writing_number (write_answer y (length b))) 0 e)) ∙ ap year_read (write_read y s))
    (λ e. refl)

-- what is shown of a call on a year y that is the first or narrower
record CallKeeps (first : Year) (c : Call) (y : Year) : Type 0 where
  narrower : Narrower y (result c y).year
  plans : (p : Placing) → Plan (result c y).year p ↔ (Plan y p × Asks first c (result c y).number p)

call_keeps : (first : Year) (c : Call) (y : Year) → Narrower first y → CallKeeps first c y
call_keeps first (narrow_by n) y w =
    record { narrower = narrow_narrower n y w.sound; plans = λ p. go p (ℕ_discrete (narrowing_number (narrow n y).answer) 0) }
  where
    go : (p : Placing) → Dec (narrowing_number (narrow n y).answer ≡ 0) → Plan (narrow n y).year p ↔ (Plan y p × (narrowing_number (narrow n y).answer ≡ 0 → Meets first n p))
    go p (yes e) =
        let q = (each_narrowing n y).plans e p in
        let m = meets_same first y n p w in
        (λ h. ((q.0 h).0, λ z. m.0 (q.0 h).1), λ h. q.1 (h.0, m.1 (h.1 e)))
    go p (no d) = let e = (each_narrowing n y).refused d in (λ h. (subst (λ z. Plan z p) e h, λ z. absurd (d z)), λ h. subst (λ z. Plan z p) (sym e) h.0)
call_keeps first filter y w = record {
  narrower = filter_narrower y w.sound;
  plans = λ p. (λ h. (((filter_kept y).plans p).0 h, tt), λ h. ((filter_kept y).plans p).1 h.0);
}
call_keeps first (write_and_read b) y w =
    let e = read_back_lem y b w.sound in
    record {
      narrower = subst (Narrower y) (sym e) (narrower_self y w.sound);
      plans = λ p. (λ h. (subst (λ z. Plan z p) e h, tt), λ h. subst (λ z. Plan z p) (sym e) h.0);
    }

-- ---- all calls

narrower_after : (first : Year) (cs : List Call) (y : Year) → Narrower first y → Narrower first (after cs y)
narrower_after first [] y w = w
narrower_after first (c ∷ cs) y w = narrower_after first cs (result c y).year (narrower_then first y (result c y).year w (call_keeps first c y w).narrower)

plans_after : (first : Year) (cs : List Call) (y : Year) → Narrower first y → (p : Placing) → Plan (after cs y) p ↔ (Plan y p × MeetsAll first cs y p)
plans_after first [] y w p = (λ h. (h, tt), λ h. h.0)
plans_after first (c ∷ cs) y w p =
    let one = call_keeps first c y w in
    let rest = plans_after first cs (result c y).year (narrower_then first y (result c y).year w one.narrower) p in (
      λ h. let q = rest.0 h in let r = (one.plans p).0 q.0 in (r.0, (r.1, q.1)),
      λ h. rest.1 ((one.plans p).1 (h.0, h.1.0), h.1.1),
    )

-- every first year is sound
pub start_sound : (o : Origin) → (start o).number ≡ 0 → Sound (start o).year
start_sound (value y) e = go (is_sound y) refl e
  where
    go : (b : Bool) → is_sound y ≡ b → ◌≡◌ {A = ℕ} (choose b 0 8) 0 → Sound y
    go true p z = sound_of y p
    go false p z = absurd (omega arith)
start_sound (records s) e = read_sound s (year_read (read_list s)) (is_done (read_list s) e)
start_sound (hours t h) e = joined_sound t h e

module _ (first : Year) (calls : List Call) (s : Sound first) where
  pub sequence_narrower : Narrower first (after calls first)
  sequence_narrower = narrower_after first calls first (narrower_self first s)

  -- for any calls, so also for those made up to any point of a longer sequence
  pub sequence_plans : (p : Placing) → Plan (after calls first) p ↔ PlanThatMeets first calls p
  sequence_plans = plans_after first calls first (narrower_self first s)

  -- a filtering after the calls that says no plan (13): no plan of the first year meets them
  pub sequence_no_plan : (result filter (after calls first)).number ≡ 13 → (p : Placing) → PlanThatMeets first calls p → ⊥
  sequence_no_plan e p h = (filter_kept (after calls first)).no_plan e p ((sequence_plans p).1 h)

  -- a filtering after the calls that says settled: its year's placing is the one plan of the first year that meets them
  pub sequence_settled : is_settled (filter_of (after calls first)).answer ≡ true
      → let p = the_placing (filter_of (after calls first)).year in
      PlanThatMeets first calls p × ((q : Placing) → PlanThatMeets first calls q → (i : ℕ) → i < first.courses → q i ≡ p i)
  sequence_settled e =
      let y = after calls first in
      let one = settled_one y sequence_narrower.sound e in (
        (sequence_plans (the_placing (filter_of y).year)).0 one.plan,
        λ q h i l. one.only q ((sequence_plans q).1 h) i (omega (arith, sequence_narrower.courses_same)),
      )
