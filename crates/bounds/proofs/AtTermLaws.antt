-- The sums of the bounds over all terms, and over the other terms.
use Prim.Native.Nat.{ℕ, ◌+◌, ◌-◌, ◌≤◌, ◌<◌}
use mathlib.Core.Bool.{false}
use mathlib.Core.List.{List}
use mathlib.Core.Path.{◌≡◌, refl, sym, ap, ap₂, ◌∙◌}
use native.Mathlib.Omega.{arith}
use native.Mathlib.Nat.{le_of_eq}
use lib.Dec.{ltb}
use lib.ListN.{length, set, take}
use Rattle.std.proofs.Common.{length-take}
use Rattle.std.proofs.lemmas.List.{get_or-take}
use lib.Seq.{get_or-set_same, get_or-set_other}
use Rattle.theory.specs.Choice.{choose}
use Rattle.theory.specs.Sum.{sum}
use Rattle.theory.proofs.SumLaws.{sum_more, sum_cong, sum_le_mul, sum_change, sum_term_le}
use Rattle.theory.proofs.LoadLaws.{others_split, others_mono}
use Rattle.year.specs.Year.{term_at, zero_term}
use Rattle.frame.specs.Bounds.{term_in, high_in, low_in, least_in, most_in}
use Rattle.year.specs.Bound.{bound_of, bound}
use Rattle.year.specs.Within.{within}
use Rattle.year.specs.Doors.{with_term}
use Rattle.year.specs.Sums.{all_credits, fixed_credits, open_credits, fixed_count, open_count, fixed_of, open_of, all_of, sums_at}
use Rattle.year.specs.Sound.{TermSound}
use Rattle.year.specs.declared.Quantity.{Quantity}
use Rattle.year.specs.declared.Quantity.TheVariants.{Credits, Counts}
use Rattle.year.specs.declared.Side.{Side}
use Rattle.year.specs.declared.Side.TheVariants.{Low, High}
use Rattle.year.specs.declared.Sums.{Sums}
use Rattle.year.specs.declared.Term.{Term}
use Rattle.year.specs.declared.Year.{Year}
use Rattle.year.proofs.DoorLaws.{term_other}
use Rattle.rules.specs.RuleNumbers.{rule_named}
use Rattle.rules.specs.Step.{fails, move, raise_lower}
use Rattle.rules.specs.Bounds.{own_sums, others_of, other_terms, rule1, rule2, rule4, rule5}
use Rattle.frame.specs.Bounds.{outcome, put}
use Rattle.frame.proofs.ToldLaws.{Faithful, within_faithful}
use Rattle.frame.proofs.Moves.{outcome_sound, two_moves}
use Rattle.bounds.specs.AtTerm.{totals_to, totals_with, totals_after, total_in, own_number, fixed_among, possible_among, own_sums_of, other_number, others_in, other_terms_of, own_rule, other_rule}
use Rattle.bounds.specs.declared.Totals.{Totals}

-- ---- one entry more

pub totals_more : (t : List Term) (k : ℕ) → totals_to t (k + 1) ≡ totals_with (totals_to t k) (term_in t k)
totals_more t k =
    let a = sum_more k (low_in t) in
    let b = sum_more k (high_in t) in
    let d = sum_more k (least_in t) in
    let e = sum_more k (most_in t) in
    λ i. record { low = record { 0 = a i }; high = record { 0 = b i }; least = record { 0 = d i }; most = record { 0 = e i } }

pub totals_fit : (t : List Term) (k : ℕ) (x : Totals) → ((i : ℕ) → i < k → TermSound (term_in t i)) → k ≤ 16 → x ≡ totals_to t k
    → (x.low.0 ≤ 1024000) × (x.high.0 ≤ 1024000) × (x.least.0 ≤ 1024) × (x.most.0 ≤ 1024)
totals_fit t k x s h e =
    let a = sum_le_mul k 64000 (low_in t) (λ i l. omega (arith, s i l)) in
    let b = sum_le_mul k 64000 (high_in t) (λ i l. omega (arith, s i l)) in
    let d = sum_le_mul k 64 (least_in t) (λ i l. omega (arith, s i l)) in
    let f = sum_le_mul k 64 (most_in t) (λ i l. omega (arith, s i l)) in (
      omega (arith, ap (λ (z : Totals). z.low.0) e),
      omega (arith, ap (λ (z : Totals). z.high.0) e),
      omega (arith, ap (λ (z : Totals). z.least.0) e),
      omega (arith, ap (λ (z : Totals). z.most.0) e),
    )

-- the first m entries by themselves
pub totals_front : (t : List Term) (m : ℕ) → m ≤ length t → totals_to (take m t) (length (take m t)) ≡ totals_to t m
totals_front t m h =
    let n : length (take m t) ≡ m = omega (arith, length-take m t) in
    let a = sum_cong m (low_in (take m t)) (low_in t) (λ k l. ap (λ (u : Term). u.low.0) (get_or-take m t k zero_term l)) in
    let b = sum_cong m (high_in (take m t)) (high_in t) (λ k l. ap (λ (u : Term). u.high.0) (get_or-take m t k zero_term l)) in
    let d = sum_cong m (least_in (take m t)) (least_in t) (λ k l. ap (λ (u : Term). u.least.0) (get_or-take m t k zero_term l)) in
    let e = sum_cong m (most_in (take m t)) (most_in t) (λ k l. ap (λ (u : Term). u.most.0) (get_or-take m t k zero_term l)) in
    ap (totals_to (take m t)) n
    ∙ (λ i. record { low = record { 0 = a i }; high = record { 0 = b i }; least = record { 0 = d i }; most = record { 0 = e i } })

-- ---- one entry altered

module _ (t : List Term) (m j : ℕ) (l : j < m) where
  -- an entry is among the sums
  pub entry_le : (x : Totals) → x ≡ totals_to t m → (low_in t j ≤ x.low.0) × (high_in t j ≤ x.high.0) × (least_in t j ≤ x.least.0) × (most_in t j ≤ x.most.0)
  entry_le x e = (
    omega (arith, sum_term_le m j (low_in t) l, ap (λ (z : Totals). z.low.0) e),
    omega (arith, sum_term_le m j (high_in t) l, ap (λ (z : Totals). z.high.0) e),
    omega (arith, sum_term_le m j (least_in t) l, ap (λ (z : Totals). z.least.0) e),
    omega (arith, sum_term_le m j (most_in t) l, ap (λ (z : Totals). z.most.0) e),
  )

  module _ (long : m ≤ length t) (v : Term) where
    sum_set : (f : Term → ℕ) → sum m (λ k. f (term_in t k)) - f (term_in t j) + f v ≡ sum m (λ k. f (term_in (set t j v) k))
    sum_set f =
        let here : f (term_in (set t j v) j) ≡ f v = ap f (get_or-set_same t j v zero_term (omega arith)) in
        omega (
          arith,
          sum_term_le m j (λ k. f (term_in t k)) l,
          sum_change m j (λ k. f (term_in (set t j v) k)) (λ k. f (term_in t k)) l (λ k h ne. ap f (get_or-set_other t j k v zero_term ne)),
        )

    pub totals_set : (x : Totals) → x ≡ totals_to t m → totals_after x (term_in t j) v ≡ totals_to (set t j v) m
    totals_set x e =
        let a = sum_set (λ (z : Term). z.low.0) in
        let b = sum_set (λ (z : Term). z.high.0) in
        let c = sum_set (λ (z : Term). z.least.0) in
        let d = sum_set (λ (z : Term). z.most.0) in
        ap (λ z. totals_after z (term_in t j) v) e
        ∙ (λ i. record { low = record { 0 = a i }; high = record { 0 = b i }; least = record { 0 = c i }; most = record { 0 = d i } })

-- ---- what a rule leaves at a term is within the sizes

pub own_sums_sound : (q : Quantity) (t : Term) (u : Sums) → TermSound t → TermSound (own_sums_of q t u).term
own_sums_sound q t u s = outcome_sound (own_number q) false t q (fixed_among q u) (possible_among q u) s

pub other_terms_sound : (q : Quantity) (t : Term) (x : Totals) (all : ℕ) → TermSound t → TermSound (other_terms_of q t x all).term
other_terms_sound q t x all s = outcome_sound (other_number q) _ t q _ _ s

-- and what it does not alter is as it was
pub own_faithful : (q : Quantity) (t : Term) (u : Sums) → Faithful t (own_sums_of q t u)
unfolding rule_named
own_faithful Credits t u = within_faithful 1 refl false Credits t _ _
own_faithful Counts t u = within_faithful 4 refl false Counts t _ _

pub other_faithful : (q : Quantity) (t : Term) (x : Totals) (all : ℕ) → Faithful t (other_terms_of q t x all)
unfolding rule_named
other_faithful Credits t x all = within_faithful 2 refl _ Credits t _ _
other_faithful Counts t x all = within_faithful 5 refl _ Counts t _ _

-- ---- in a year: raise, then lower

own_lawful : (q : Quantity) → own_number q ≡ 0 → ⊥
own_lawful Credits e = omega arith
own_lawful Counts e = omega arith

other_lawful : (q : Quantity) → other_number q ≡ 0 → ⊥
other_lawful Credits e = omega arith
other_lawful Counts e = omega arith

module _ (y : Year) (j : ℕ) (h : j < y.terms) (l : j < length y.term) where
  -- the sums are the same whatever the bounds of j
  sums_same : (q : Quantity) (t : Term) → (fixed_of q (with_term y j t) j ≡ fixed_of q y j) × (open_of q (with_term y j t) j ≡ open_of q y j) × (all_of q (with_term y j t) ≡ all_of q y)
  unfolding fixed_credits open_credits fixed_count open_count all_credits
  sums_same Credits t = (refl, refl, refl)
  sums_same Counts t = (refl, refl, refl)

  sums_are : (q : Quantity) → (fixed_among q (sums_at y j) ≡ fixed_of q y j) × (possible_among q (sums_at y j) ≡ fixed_of q y j + open_of q y j)
  unfolding sums_at
  sums_are Credits = (refl, refl)
  sums_are Counts = (refl, refl)

  own_is : (q : Quantity) → raise_lower (own_number q) (own_sums q) y j ≡ own_rule q y j
  unfolding rule1 rule4
  own_is Credits = refl
  own_is Counts = refl

  pub own_sums_are : (q : Quantity) → put y j (own_sums_of q (term_at y j) (sums_at y j)) ≡ own_rule q y j
  own_sums_are q =
      let e = sums_are q in
      ap₂ (λ a b. put y j (outcome (own_number q) false (term_at y j) (within q (term_at y j) a b))) e.0 e.1
      ∙ two_moves (own_number q) (own_lawful q) y j l q (fixed_of q y j) (fixed_of q y j + open_of q y j) false (own_sums q) refl
      (λ t. let k = sums_same q t in ap₂ (λ a b. move High q (with_term y j t) j (a + b)) k.0 k.1)
      ∙ own_is q

  totals_are : (s : Side) (q : Quantity) → total_in s q (totals_to y.term y.terms) ≡ sum y.terms (bound s q y)
  totals_are Low Credits = refl
  totals_are High Credits = refl
  totals_are Low Counts = refl
  totals_are High Counts = refl

  -- the sum over all terms less the term's own is the sum over the other terms, which the bounds of j do not touch
  others_are : (s : Side) (q : Quantity) → others_in s q (totals_to y.term y.terms) (term_at y j) ≡ others_of s q y j
  others_are s q = omega (arith, totals_are s q, others_split y.terms j (bound s q y) h)

  others_same : (q : Quantity) (t : Term) → others_of Low q (with_term y j t) j ≡ others_of Low q y j
  others_same q t =
      omega (
        arith,
        others_mono y.terms j (bound Low q (with_term y j t)) (bound Low q y) (λ k m d. le_of_eq (ap (bound_of Low q) (term_other y j t k d))),
        others_mono y.terms j (bound Low q y) (bound Low q (with_term y j t)) (λ k m d. le_of_eq (sym (ap (bound_of Low q) (term_other y j t k d)))),
      )

  other_is : (q : Quantity) → raise_lower (other_number q) (other_terms q) y j ≡ other_rule q y j
  unfolding rule2 rule5
  other_is Credits = refl
  other_is Counts = refl

  pub other_terms_are : (q : Quantity) → put y j (other_terms_of q (term_at y j) (totals_to y.term y.terms) (all_of q y)) ≡ other_rule q y j
  other_terms_are q =
      let all = all_of q y in
      ap₂ (λ a b. put y j (outcome (other_number q) (ltb all b) (term_at y j) (within q (term_at y j) (all - a) (all - b)))) (others_are High q) (others_are Low q)
      ∙ two_moves (other_number q) (other_lawful q) y j l q (all - others_of High q y j) (all - others_of Low q y j) (ltb all (others_of Low q y j)) (other_terms q) refl
      (λ t. ap₂ (λ a b. choose (ltb a b) fails (move High q (with_term y j t) j (a - b))) (sums_same q t).2 (others_same q t))
      ∙ other_is q
