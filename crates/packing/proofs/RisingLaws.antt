-- The sizes of a state's courses in the order of its year: each once, and rising but for the zeros of courses with one term.
use Prim.Native.Nat.{ℕ, ◌-◌, ◌≤◌, ◌<◌}
use mathlib.Core.Bool.{Bool, true, false, not}
use mathlib.Core.List.{List}
use mathlib.Core.Path.{◌≡◌, sym, ap, subst}
use native.Mathlib.Decide.{ℕ_discrete}
use native.Mathlib.Omega.{arith}
use lib.ListN.{length, get_or}
use borrow.Author.Tests.{ne_eqb}
use Rattle.theory.specs.Sum.{pick, sum}
use Rattle.theory.proofs.SumLaws.{pick_le}
use Rattle.theory.specs.Tab.{tab}
use Rattle.theory.proofs.TabLaws.{length_tab, get_or_tab}
use Rattle.year.specs.Sums.{is_placed}
use Rattle.year.specs.Year.{weight, course_in}
use Rattle.rules.specs.Spares.{up}
use Rattle.frame.specs.State.{year_in}
use Rattle.frame.specs.declared.State.{State}
use Rattle.orders.specs.Orders.{last_weight}
use Rattle.orders.proofs.OrderLaws.{up_fits, up_onto, up_total, up_rises}
use Rattle.packing.specs.Sizes.{size_in}
use Rattle.packing.specs.Thresholds.{Rising, Fitting}

module _ (s : State) where
  abbrev n : ℕ
  n = s.courses

  abbrev o : List ℕ
  o = up (year_in s)

  abbrev pub sizes : List ℕ
  sizes = tab n (size_in s.weight.now s.list)

  -- the size at a place of the order, of which there are n
  size_at : (r : ℕ) → r < n → get_or sizes (get_or o r 0) 0 ≡ pick (not (is_placed (course_in s.weight.now s.list (get_or o r 0)))) (get_or s.weight.now (get_or o r 0) 0)
  size_at r l = get_or_tab n (size_in s.weight.now s.list) 0 (get_or o r 0) ((up_fits (year_in s) s.sound).small r l)

  rises : (r q : ℕ) → r ≤ q → q < n → 0 < get_or sizes (get_or o q 0) 0 → get_or sizes (get_or o r 0) 0 ≤ get_or sizes (get_or o q 0) 0
  rises r q l m =
      rw (size_at r (omega arith), size_at q m)
      (go (not (is_placed (course_in s.weight.now s.list (get_or o r 0)))) (not (is_placed (course_in s.weight.now s.list (get_or o q 0)))) (up_rises (year_in s) s.sound r q l m))
    where
      go : (f g : Bool) {x z : ℕ} → x ≤ z → 0 < pick g z → pick f x ≤ pick g z
      go f false h p = absurd (omega arith)
      go true true h p = h
      go false true h p = omega arith

  rising_sizes : Rising sizes o
  rising_sizes = record {
    long = omega (arith, long, s.sound.courses_most, (up_fits (year_in s) s.sound).long);
    within = λ r l. omega (arith, long, (up_fits (year_in s) s.sound).small r (omega (arith, long)));
    onto = λ i l none. let r = up_onto (year_in s) s.sound i (omega (arith, long)) in none r.0 (omega (arith, r.1, long)) r.2;
    each = subst (λ k. (f : ℕ → ℕ) → sum k (λ r. f (get_or o r 0)) ≡ sum k f) (sym long) (up_total (year_in s) s.sound);
    rises = λ r q l m. rises r q l (omega (arith, long));
  }
    where
      long : length sizes ≡ n
      long = length_tab n (size_in s.weight.now s.list)

  -- the weight that stands last is the heaviest
  last_most : ((i : ℕ) → i < length sizes → get_or sizes i 0 ≤ last_weight s.weight.now o n) × (last_weight s.weight.now o n ≤ 1000)
  last_most = (each, go (ℕ_discrete n 0))
    where
      last : (n ≡ 0 → ⊥) → last_weight s.weight.now o n ≡ get_or s.weight.now (get_or o (n - 1) 0) 0
      last d = simp (ne_eqb n 0 d)

      go : Dec (n ≡ 0) → last_weight s.weight.now o n ≤ 1000
      go (yes e) = rw e (omega arith)
      go (no d) = omega (arith, last d, (s.sound.course_sound (get_or o (n - 1) 0) ((up_fits (year_in s) s.sound).small (n - 1) (omega (arith, d)))).weight_most)

      each : (i : ℕ) → i < length sizes → get_or sizes i 0 ≤ last_weight s.weight.now o n
      each i l =
          let few : i < n = omega (arith, length_tab n (size_in s.weight.now s.list)) in
          let d : n ≡ 0 → ⊥ = λ e. omega arith in
          let r = up_onto (year_in s) s.sound i few in
          omega (
            arith,
            get_or_tab n (size_in s.weight.now s.list) 0 i few,
            pick_le (not (is_placed (course_in s.weight.now s.list i))) (get_or s.weight.now i 0),
            ap (weight (year_in s)) r.2,
            up_rises (year_in s) s.sound r.0 (n - 1) (omega (arith, r.1)) (omega arith),
            last d,
          )

  -- these sizes, and those of the terms, fit one another and the order of the year
  pub fitting : (x : List ℕ) → x ≡ sizes → (p : List ℕ) → p ≡ o → (b : List ℕ) (f : ℕ → ℕ) → b ≡ tab s.terms f → (c : ℕ) → c ≤ 64000
      → (h : ℕ) → h ≡ last_weight s.weight.now o n → Fitting x p b c h
  fitting x e p d b f g c m h k =
      rw (e, d, g, k)
      (record {
        few_courses = omega (arith, length_tab n (size_in s.weight.now s.list), s.sound.courses_most);
        few_terms = omega (arith, length_tab s.terms f, s.sound.terms_most);
        room = m;
        light = last_most.1;
        top = last_most.0;
        rising = rising_sizes;
      })
