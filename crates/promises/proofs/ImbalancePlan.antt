-- The imbalance: given exactly where every course has one term and that placing is a plan; what it is, and what it means.
use Prim.Native.Nat.{ℕ, ◌*◌, ◌^◌, ◌≤◌, ◌<◌}
use mathlib.Core.Bool.{Bool, true, false, true≢false}
use mathlib.Core.Logic.{◌↔◌, ◌⊎◌, inl, inr}
use mathlib.Core.Path.{◌≡◌, refl, sym, ap, fun_ext, ◌∙◌}
use native.Mathlib.Omega.{arith}
use lib.Dec.{ltb}
use borrow.Author.Tests.{lt-ltb}
use Rattle.std.specs.Prelude.{Result, Ok, Err}
use Rattle.theory.specs.Pairs.{square}
use Rattle.theory.specs.Tests.{all}
use Rattle.theory.proofs.TestLaws.{all_of, and_true, and_of}
use Rattle.year.specs.Year.{term_at, course_at, lists}
use Rattle.year.specs.Sums.{fixed_credits, fixed_count, all_placed}
use Rattle.year.specs.Imbalance.{fits, fits_at, imbalance_of}
use Rattle.year.specs.Plans.{Placing, credits_in, Plan, PlacedBy, the_placing, stands, fits_in, is_plan}
use Rattle.year.specs.Sound.{Sound, is_sound}
use Rattle.year.specs.declared.Year.{Year}
use Rattle.year.specs.Numbers.{imbalance_number, imbalance_value}
use Rattle.year.specs.declared.ImbalanceRefusal.{ImbalanceRefusal}
use Rattle.year.specs.declared.ImbalanceRefusal.TheVariants.{Unsound, Unsettled}
use Rattle.year.proofs.SoundLaws.{sound_of, sound_to}
use Rattle.year.proofs.OnePlacing.{credits_fixed, count_fixed, placed_listed, placed_within, placed_only, placed_by, all_placed_lem, plan_total}
use Rattle.year.proofs.ImbalanceLaws.{imbalance_unsound, imbalance_open, imbalance_unfit, imbalance_given, imbalance_whole, imbalance_pairs, imbalance_zero, imbalance_small}
use Rattle.year.specs.Examples.{imbalances}
use Rattle.year.proofs.PlanCount.{plan_of_test, test_of_plan}
use Rattle.promises.specs.ImbalancePlan.{imbalance_in, ImbalanceDue, ImbalanceMeans}

module _ (y : Year) (p : Placing) (s : Sound y) (h : PlacedBy y p) where
  -- what is fixed in a term is what the placing puts there
  fits_same : fits_at y ≡ fits_in y p
  fits_same = fun_ext (λ k. ap (λ c. fits (term_at y k) c (fixed_count y k)) (credits_fixed y p h k) ∙ ap (fits (term_at y k) (credits_in y p k)) (count_fixed y p h k))

  one_plan : (all y.terms (fits_at y) ≡ true) ↔ Plan y p
  unfolding is_plan
  one_plan = (
    λ e.
        plan_of_test y p
        (and_of (all y.courses (stands y p)) (all y.terms (fits_in y p))
        (all_of y.courses (stands y p)
        (λ i l. and_of (ltb (p i) y.terms) (lists (course_at y i) (p i)) (lt-ltb _ _ (placed_within y p h s i l)) (placed_listed y p h i l)))
        (rw fits_same at e)),
    λ q. rw fits_same (and_true (all y.courses (stands y p)) (all y.terms (fits_in y p)) (test_of_plan y p q)).1,
  )

  imbalance_is : Plan y p → imbalance_of y ≡ Ok (imbalance_in y p)
  imbalance_is q =
      let e : fixed_credits y ≡ credits_in y p = fun_ext (credits_fixed y p h) in
      rw e at (imbalance_given y s (all_placed_lem y p s h) (one_plan.1 q))

-- ---- the three cases

data Case (y : Year) : Type 0 where
  unsound : (Sound y → ⊥) → imbalance_of y ≡ Err Unsound → Case y
  unsettled : Sound y → (all_placed y ≡ false) ⊎ (Plan y (the_placing y) → ⊥) → imbalance_of y ≡ Err Unsettled → Case y
  settled : Sound y → all_placed y ≡ true → Plan y (the_placing y) → imbalance_of y ≡ Ok (imbalance_in y (the_placing y)) → Case y

case_of : (y : Year) → Case y
case_of y = go (is_sound y) refl (all_placed y) refl (all y.terms (fits_at y)) refl
  where
    go : (a : Bool) → is_sound y ≡ a → (b : Bool) → all_placed y ≡ b → (c : Bool) → all y.terms (fits_at y) ≡ c → Case y
    go false p b q c r = unsound (λ s. true≢false (sym (sound_to y s) ∙ p)) (imbalance_unsound y p)
    go true p false q c r = unsettled (sound_of y p) (inl q) (imbalance_open y (sound_of y p) q)
    go true p true q true r =
        let plan = (one_plan y (the_placing y) (sound_of y p) (placed_by y q)).0 r in
        settled (sound_of y p) q plan (imbalance_is y (the_placing y) (sound_of y p) (placed_by y q) plan)
    go true p true q false r =
        let none : Plan y (the_placing y) → ⊥ = λ z. true≢false (sym ((one_plan y (the_placing y) (sound_of y p) (placed_by y q)).1 z) ∙ r) in
        unsettled (sound_of y p) (inr none) (imbalance_unfit y (sound_of y p) q r)

number_is : (y : Year) (m : Result ℕ ImbalanceRefusal) → imbalance_of y ≡ m → (n : ℕ) → imbalance_number (imbalance_of y) ≡ n → imbalance_number m ≡ n
number_is y m e n q = sym (ap imbalance_number e) ∙ q

-- not both a plan, and no plan or an open course
not_both : (y : Year) → all_placed y ≡ true → Plan y (the_placing y) → (all_placed y ≡ false) ⊎ (Plan y (the_placing y) → ⊥) → ⊥
not_both y q p (inl r) = true≢false (sym q ∙ r)
not_both y q p (inr d) = d p

pub imbalance_due : ImbalanceDue
imbalance_due = record {
  unsound = λ y. eight y (case_of y);
  unsettled = λ y. fourteen y (case_of y);
  given = λ y. none y (case_of y);
  only = λ y n p q. alone y (case_of y) n p q;
  value = λ y n p q. worth y (case_of y) n p q;
  no_value = λ y. nothing y (case_of y);
}
  where
    eight : (y : Year) → Case y → (imbalance_number (imbalance_of y) ≡ 8) ↔ (Sound y → ⊥)
    eight y (unsound d e) = (λ q. d, λ z. ap imbalance_number e)
    eight y (unsettled s d e) = (λ q. absurd (omega (arith, number_is y _ e 8 q)), λ z. absurd (z s))
    eight y (settled s a p e) = (λ q. absurd (omega (arith, number_is y _ e 8 q)), λ z. absurd (z s))

    fourteen : (y : Year) → Case y → (imbalance_number (imbalance_of y) ≡ 14) ↔ (Sound y × ((all_placed y ≡ false) ⊎ (Plan y (the_placing y) → ⊥)))
    fourteen y (unsound d e) = (λ q. absurd (omega (arith, number_is y _ e 14 q)), λ z. absurd (d z.0))
    fourteen y (unsettled s d e) = (λ q. (s, d), λ z. ap imbalance_number e)
    fourteen y (settled s a p e) = (λ q. absurd (omega (arith, number_is y _ e 14 q)), λ z. absurd (not_both y a p z.1))

    none : (y : Year) → Case y → (imbalance_number (imbalance_of y) ≡ 0) ↔ (Sound y × (all_placed y ≡ true) × Plan y (the_placing y))
    none y (unsound d e) = (λ q. absurd (omega (arith, number_is y _ e 0 q)), λ z. absurd (d z.0))
    none y (unsettled s d e) = (λ q. absurd (omega (arith, number_is y _ e 0 q)), λ z. absurd (not_both y z.1 z.2 d))
    none y (settled s a p e) = (λ q. (s, a, p), λ z. ap imbalance_number e)

    alone : (y : Year) → Case y → imbalance_number (imbalance_of y) ≡ 0 → (p : Placing) → Plan y p → (i : ℕ) → i < y.courses → p i ≡ the_placing y i
    alone y (unsound d e) n p q = absurd (omega (arith, number_is y _ e 0 n))
    alone y (unsettled s d e) n p q = absurd (omega (arith, number_is y _ e 0 n))
    alone y (settled s a t e) n p q = placed_only y (the_placing y) (placed_by y a) p q

    worth : (y : Year) → Case y → imbalance_number (imbalance_of y) ≡ 0 → (p : Placing) → Plan y p → imbalance_value (imbalance_of y) ≡ imbalance_in y p
    worth y (unsound d e) n p q = absurd (omega (arith, number_is y _ e 0 n))
    worth y (unsettled s d e) n p q = absurd (omega (arith, number_is y _ e 0 n))
    worth y (settled s a t e) n p q = ap imbalance_value (imbalance_is y p s (λ i l. placed_by y a i l ∙ ap (λ k. 2 ^ k) (sym (placed_only y (the_placing y) (placed_by y a) p q i l))) q)

    nothing : (y : Year) → Case y → (imbalance_number (imbalance_of y) ≡ 0 → ⊥) → imbalance_value (imbalance_of y) ≡ 0
    nothing y (unsound d e) n = ap imbalance_value e
    nothing y (unsettled s d e) n = ap imbalance_value e
    nothing y (settled s a p e) n = absurd (n (ap imbalance_number e))

-- ---- what it means

most : (y : Year) → imbalance_value (imbalance_of y) ≤ 15 * square 64000
most y = go (imbalance_of y) refl
  where
    go : (m : Result ℕ ImbalanceRefusal) → imbalance_of y ≡ m → imbalance_value m ≤ 15 * square 64000
    go (Ok v) e = imbalance_small y v e
    go (Err r) e = omega arith

pub imbalance_means : ImbalanceMeans
imbalance_means = record {
  whole = λ y p q. imbalance_whole y (credits_in y p) (plan_total y p q);
  pair_by_pair = λ y p q. imbalance_pairs y (credits_in y p) (plan_total y p q);
  zero_when_equal = λ y p q. imbalance_zero y (credits_in y p) (plan_total y p q);
  most = most;
  fits = λ y. omega (arith, most y);
  by_computation = imbalances;
}
