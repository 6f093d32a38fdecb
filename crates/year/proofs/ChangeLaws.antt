-- The sums after the list of one course has changed, against the sums over the lists.
use Prim.Native.Nat.{ℕ, ◌+◌, ◌-◌, ◌^◌, ◌≤◌, ◌<◌}
use mathlib.Core.Bool.{not, ◌&&◌}
use mathlib.Core.List.{List}
use mathlib.Core.Path.{◌≡◌, sym, ap, subst, ◌∙◌}
use native.Mathlib.Omega.{arith}
use lib.Dec.{eqb}
use lib.ListN.{length, get_or, set}
use lib.Seq.{get_or-set_same, get_or-set_other}
use Rattle.theory.specs.Bits.{has}
use Rattle.theory.specs.Sum.{pick, sum}
use Rattle.theory.specs.Tab.{tab}
use Rattle.theory.proofs.SumLaws.{pick_le, sum_change, sum_term_le}
use Rattle.theory.proofs.TabLaws.{get_or_tab, tab_cong}
use Rattle.year.specs.Year.{course_of, course_in, course_at, weight, lists, is_fixed, is_open}
use Rattle.year.specs.Sums.{fixed_weight, open_weight, fixed_one, open_one, fixed_credits, open_credits, fixed_count, open_count, no_sums, sums_in, sums_at}
use Rattle.year.specs.SumsOf.{sums_to, part_of, Within, sums_moved, changed_at}
use Rattle.year.specs.Doors.{with_list}
use Rattle.year.specs.Sound.{Sound}
use Rattle.year.specs.declared.Course.{Course}
use Rattle.year.specs.declared.Sums.{Sums}
use Rattle.year.specs.declared.Year.{Year}
use Rattle.year.proofs.SumLaws.{weights_to, possible_to, counts_to}
use Rattle.year.proofs.ListedLaws.{listed}

-- a course adds no more than its weight to credits, and one to counts
pub part_small : (c : Course) (k : ℕ) → c.weight.0 ≤ 1000 → ((part_of c k).fixed.0 ≤ 1000) × ((part_of c k).possible.0 ≤ 1000) × ((part_of c k).placed.0 ≤ 1) × ((part_of c k).free.0 ≤ 1)
part_small c k h = (
  omega (arith, pick_le (is_fixed c k) c.weight.0),
  omega (arith, pick_le (lists c k) c.weight.0),
  pick_le (is_fixed c k) 1,
  pick_le (is_open c k) 1,
)

-- ---- the list of course i, one of the first n, becomes x

module _ (w l : List ℕ) (n i x : ℕ) (h : i < n) (long : i < length l) where
  -- what is summed is f of a course's list and its weight
  sum_after : (f : ℕ → ℕ → ℕ)
      → sum n (λ k. f (get_or (set l i x) k 0) (get_or w k 0)) + f (get_or l i 0) (get_or w i 0) ≡ sum n (λ k. f (get_or l k 0) (get_or w k 0)) + f x (get_or w i 0)
  sum_after f =
      let new = ap (λ z. f z (get_or w i 0)) (get_or-set_same l i x 0 long) in
      let old = sum_change n i (λ k. f (get_or (set l i x) k 0) (get_or w k 0)) (λ k. f (get_or l k 0) (get_or w k 0)) h (λ k m ne. ap (λ z. f z (get_or w k 0)) (get_or-set_other l i k x 0 ne)) in
      omega (arith, new, old)

  -- so the sums lose what the course added with its list and get what it adds with the new one
  sums_after : (j : ℕ) → sums_to w (set l i x) n j ≡ sums_moved (sums_to w l n j) (part_of (course_in w l i) j) (part_of (course_of (get_or w i 0) x) j)
  sums_after j =
      let c = course_in w l i in
      let d = course_of (get_or w i 0) x in
      let fw = sum_after (λ z v. pick (eqb z (2 ^ j)) v) in
      let ow = sum_after (λ z v. pick (has z j && not (eqb z (2 ^ j))) v) in
      let fc = sum_after (λ z v. pick (eqb z (2 ^ j)) 1) in
      let oc = sum_after (λ z v. pick (has z j && not (eqb z (2 ^ j))) 1) in
      let lc = listed c.list j c.weight.0 in
      let ld = listed x j c.weight.0 in
      let f : sum n (fixed_weight w (set l i x) j) ≡ sum n (fixed_weight w l j) + (part_of d j).fixed.0 - (part_of c j).fixed.0 = omega (arith, fw) in
      let p : sum n (fixed_weight w (set l i x) j) + sum n (open_weight w (set l i x) j)
      ≡ sum n (fixed_weight w l j) + sum n (open_weight w l j) + (part_of d j).possible.0 - (part_of c j).possible.0 = omega (arith, fw, ow, lc, ld) in
      let m : sum n (fixed_one w (set l i x) j) ≡ sum n (fixed_one w l j) + (part_of d j).placed.0 - (part_of c j).placed.0 = omega (arith, fc) in
      let o : sum n (open_one w (set l i x) j) ≡ sum n (open_one w l j) + (part_of d j).free.0 - (part_of c j).free.0 = omega (arith, oc) in
      λ t. record { fixed = record { 0 = f t }; possible = record { 0 = p t }; placed = record { 0 = m t }; free = record { 0 = o t } }

  -- a course is in the sums
  counted : (j : ℕ) → n ≤ 64 → ((k : ℕ) → k < n → get_or w k 0 ≤ 1000) → Within (sums_to w l n j) (part_of (course_in w l i) j)
  counted j few light =
      let credits = possible_to w l j n in
      let all = weights_to w l n light in
      let counts = counts_to w l j n in
      let f = sum_term_le n i (fixed_weight w l j) h in
      let o = sum_term_le n i (open_weight w l j) h in
      record {
        in_fixed = f;
        in_possible = omega (arith, f, o, listed (get_or l i 0) j (get_or w i 0));
        in_placed = sum_term_le n i (fixed_one w l j) h;
        in_free = sum_term_le n i (open_one w l j) h;
        fixed_most = omega (arith, credits, all);
        possible_most = omega (arith, credits, all);
        placed_most = omega (arith, counts);
        free_most = omega (arith, counts);
      }

  -- ---- all sixteen, from an array that holds them

  module _ (s : List Sums) (e : s ≡ tab 16 (sums_to w l n)) where
    entry : (k : ℕ) → k < 16 → sums_in s k ≡ sums_to w l n k
    entry k b = ap (λ z. sums_in z k) e ∙ get_or_tab 16 (sums_to w l n) no_sums k b

    counted_in : n ≤ 64 → ((k : ℕ) → k < n → get_or w k 0 ≤ 1000) → (k : ℕ) → k < 16 → Within (sums_in s k) (part_of (course_in w l i) k)
    counted_in few light k b = rw (entry k b) (counted k few light)

    sums_changed : tab 16 (changed_at s (course_in w l i) x) ≡ tab 16 (sums_to w (set l i x) n)
    sums_changed =
        tab_cong 16 (changed_at s (course_in w l i) x) (sums_to w (set l i x) n)
        (λ k b. ap (λ (u : Sums). sums_moved u (part_of (course_in w l i) k) (part_of (course_of (get_or w i 0) x) k)) (entry k b) ∙ sym (sums_after k))

-- ---- course i of a sound year: what the change of its list asks, and what it gives

module _ (y : Year) (s : Sound y) (i : ℕ) (h : i < y.courses) (c : Course) (is : c ≡ course_at y i) where
  pub change_asks : (c.weight.0 ≤ 1000) × ((k : ℕ) → k < 16 → Within (sums_in y.sums k) (part_of c k))
  unfolding sums_at fixed_credits open_credits fixed_count open_count
  change_asks =
      let light : (k : ℕ) → k < y.courses → weight y k ≤ 1000 = λ k m. (s.course_sound k m).weight_most in
      subst (λ (d : Course). (d.weight.0 ≤ 1000) × ((k : ℕ) → k < 16 → Within (sums_in y.sums k) (part_of d k))) (sym is)
      (light i h, counted_in y.weight y.list y.courses i 0 h (omega (arith, s)) y.sums s.sums_kept s.courses_most light)

  pub change_gives : (x : ℕ) → tab 16 (changed_at y.sums c x) ≡ (with_list y i x).sums
  unfolding sums_at fixed_credits open_credits fixed_count open_count
  change_gives x =
      ap (λ (d : Course). tab 16 (changed_at y.sums d x)) is
      ∙ sums_changed y.weight y.list y.courses i x h (omega (arith, s)) y.sums s.sums_kept
