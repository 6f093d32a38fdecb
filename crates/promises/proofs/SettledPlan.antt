-- Settled means one plan: the placing that the filtered year leaves. Where every course had a single term before, filtering says
-- settled exactly if that placing is a plan.
use Prim.Native.Nat.{ℕ, suc, ◌<◌}
use mathlib.Core.Bool.{true, true≢false}
use mathlib.Core.Logic.{◌↔◌}
use mathlib.Core.Path.{◌≡◌, refl, sym}
use native.Mathlib.Omega.{arith}
use Rattle.theory.proofs.ChoiceLaws.{choose_case}
use Rattle.year.specs.Sums.{all_placed}
use Rattle.year.specs.Plans.{Placing, Plan, PlacedBy, the_placing}
use Rattle.year.specs.Sound.{Sound}
use Rattle.year.specs.declared.Year.{Year}
use Rattle.year.proofs.OnePlacing.{placed_only, placed_by, all_placed_lem}
use Rattle.filter.specs.Filter.{at_rest, filter_of}
use Rattle.filter.specs.Numbers.{filter_number, is_settled}
use Rattle.filter.specs.declared.Answer.TheVariants.{Settled, Open}
use Rattle.filter.specs.declared.Filtered.{Filtered}
use Rattle.filter.proofs.RoundLaws.{filter_narrower}
use Rattle.promises.specs.Rounds.{Altering, Ends, finds_no_plan, comes_to_rest}
use Rattle.promises.specs.OnePlacing.{OnePlacing}
use Rattle.promises.proofs.Rounds.{altering_narrower, filter_runs}
use Rattle.promises.proofs.RoundsKept.{filter_kept}
use Rattle.promises.proofs.OnePlacing.{placed_stays, rest_plan}

-- ---- that placing

pub one_placing : OnePlacing
one_placing = record { placed_there = placed_by; all_placed_lem = all_placed_lem }

-- ---- filtering

module _ {y z : Year} {n : ℕ} (s : Sound y) (a : Altering y n z) where
  sound_last : Sound z
  sound_last = (altering_narrower s a).sound

  ends_settled : (p : Placing) → PlacedBy y p → {r : Filtered} → Ends y n z r → (filter_number r.answer ≡ 13 → ⊥) → is_settled r.answer ≡ true
  ends_settled p h (finds_no_plan r e) d = absurd (d refl)
  ends_settled p h (comes_to_rest e g) d = rw (all_placed_lem z p sound_last (placed_stays y p z (altering_narrower s a) h))

  settled_placed : (k : ℕ) → is_settled (at_rest z k) ≡ true → all_placed z ≡ true
  settled_placed k = choose_case (λ b. is_settled b ≡ true → all_placed z ≡ true) (all_placed z) (Settled k) (Open k) (λ e q. e) (λ e q. absurd (true≢false (sym q)))

  ends_placed : {r : Filtered} → Ends y n z r → is_settled r.answer ≡ true → all_placed r.year ≡ true
  ends_placed (finds_no_plan r e) q = absurd (true≢false (sym q))
  ends_placed (comes_to_rest e g) q = settled_placed (suc n) q

  -- a year at rest in which every course has one term: that placing is a plan
  ends_plan : (p : Placing) {r : Filtered} → Ends y n z r → is_settled r.answer ≡ true → PlacedBy r.year p → Plan r.year p
  ends_plan p (finds_no_plan r e) q h = absurd (true≢false (sym q))
  ends_plan p (comes_to_rest e g) q h = rest_plan z p sound_last h e g

-- settled: the placing that the filtered year leaves is a plan, and every plan is that placing
pub record OnePlan (y : Year) (p : Placing) : Type 0 where
  pub plan : Plan y p
  pub only : (q : Placing) → Plan y q → (i : ℕ) → i < y.courses → q i ≡ p i

pub settled_one : (y : Year) → Sound y → is_settled (filter_of y).answer ≡ true → OnePlan y (the_placing (filter_of y).year)
settled_one y s e =
    let f = filter_runs y s in
    let k = filter_kept y in
    let z = (filter_of y).year in
    let h = placed_by z (ends_placed s f.altering f.ends e) in
    record {
      plan = (k.plans (the_placing z)).0 (ends_plan s f.altering (the_placing z) f.ends e h);
      only = λ q l i m. placed_only z (the_placing z) h q ((k.plans q).1 l) i (omega (arith, (filter_narrower y s).courses_same));
    }

-- where every course had one term before
pub settled_exactly : (y : Year) (p : Placing) → Sound y → PlacedBy y p → (is_settled (filter_of y).answer ≡ true) ↔ Plan y p
settled_exactly y p s h =
    let f = filter_runs y s in
    let k = filter_kept y in
    let there = placed_stays y p (filter_of y).year (filter_narrower y s) h in (
      λ e. (k.plans p).0 (ends_plan s f.altering p f.ends e there),
      λ q. ends_settled s f.altering p h f.ends (λ e. k.no_plan e p q),
    )

pub settled_plan : (y : Year) → Sound y → all_placed y ≡ true → (is_settled (filter_of y).answer ≡ true) ↔ Plan y (the_placing y)
settled_plan y s e = settled_exactly y (the_placing y) s (placed_by y e)
