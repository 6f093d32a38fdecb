-- Filtering keeps exactly the plans, as each round does: it says no plan only where there is none.
use Prim.Native.Nat.{ℕ, suc}
use mathlib.Core.Bool.{Bool, true, false}
use mathlib.Core.Logic.{◌↔◌}
use mathlib.Core.Path.{◌≡◌, refl}
use native.Mathlib.Omega.{arith}
use Rattle.theory.proofs.ChoiceLaws.{choose_case}
use Rattle.year.specs.Plans.{Placing, Plan}
use Rattle.year.specs.Sound.{is_sound, Sound}
use Rattle.year.specs.Sums.{all_placed}
use Rattle.year.specs.declared.Year.{Year}
use Rattle.year.proofs.SoundLaws.{sound_of}
use Rattle.rules.specs.Round.{round}
use Rattle.rules.proofs.Passes.{round_kept}
use Rattle.filter.specs.Filter.{filtered, at_rest, filter_of}
use Rattle.filter.specs.Numbers.{filter_number}
use Rattle.filter.specs.declared.Answer.TheVariants.{Settled, Open, Unsound}
use Rattle.filter.specs.declared.Filtered.{Filtered}
use Rattle.promises.specs.Rounds.{Altering, none, one_more, Ends, finds_no_plan, comes_to_rest}
use Rattle.promises.proofs.Rounds.{altering_narrower, some_rule, filter_runs}

-- the year handed back has the plans of the year given; a no plan (13) says that there is none; a refusal hands back the year given
pub record FilterKept (y : Year) (r : Filtered) : Type 0 where
  pub plans : (p : Placing) → Plan r.year p ↔ Plan y p
  pub no_plan : filter_number r.answer ≡ 13 → (p : Placing) → Plan y p → ⊥
  pub refused : (filter_number r.answer ≡ 0 → ⊥) → r.year ≡ y

-- rounds that alter keep the plans
altering_plans : {y z : Year} {n : ℕ} → Sound y → Altering y n z → (p : Placing) → Plan z p ↔ Plan y p
altering_plans s none p = (λ h. h, λ h. h)
altering_plans s (one_more {n} {z} a e g) p =
    let k = round_kept z (altering_narrower s a).sound in
    let r = altering_plans s a p in
    (λ h. r.0 (k.none_new e p h), λ h. k.none_lost e p (r.1 h))

rest_number : (z : Year) (n : ℕ) → filter_number (at_rest z n) ≡ 0
rest_number z n = choose_case (λ a. filter_number a ≡ 0) (all_placed z) (Settled n) (Open n) (λ e. refl) (λ e. refl)

ends_kept : {y z : Year} {n : ℕ} {r : Filtered} → Sound y → Altering y n z → Ends y n z r → FilterKept y r
ends_kept {y} {z} s a (finds_no_plan r e) = record {
  plans = λ p. (λ h. h, λ h. h);
  no_plan = λ q p h. (round_kept z (altering_narrower s a).sound).no_plan (some_rule (round z).rule r e) p ((altering_plans s a p).1 h);
  refused = λ q. refl;
}
ends_kept {y} {z} {n} s a (comes_to_rest e q) =
    let zero = rest_number z (suc n) in
    record {
      plans = altering_plans s a;
      no_plan = λ q p h. omega arith;
      refused = λ q. absurd (q zero);
    }

pub filter_unsound : (y : Year) → is_sound y ≡ false → filter_of y ≡ filtered Unsound y
unfolding filter_of
filter_unsound y e = rw e

pub filter_kept : (y : Year) → FilterKept y (filter_of y)
filter_kept y = go (is_sound y) refl
  where
    go : (b : Bool) → is_sound y ≡ b → FilterKept y (filter_of y)
    go true e = let f = filter_runs y (sound_of y e) in ends_kept (sound_of y e) f.altering f.ends
    go false e = rw (filter_unsound y e) (record { plans = λ p. (λ h. h, λ h. h); no_plan = λ q p h. omega arith; refused = λ q. refl })
