-- Every step of every rule is explained: its reason is good.
use Prim.Native.Nat.{ℕ}
use mathlib.Core.Bool.{Bool, true, false, ◌||◌}
use mathlib.Core.Path.{◌≡◌, refl}
use Rattle.theory.specs.Choice.{choose}
use Rattle.year.specs.declared.Quantity.TheVariants.{Credits, Counts}
use Rattle.year.specs.declared.Year.{Year}
use Rattle.rules.specs.Step.{rests, fails, applied, goes, live, dead, over_courses}
use Rattle.rules.specs.Bounds.{rule1, rule2, rule4, rule5}
use Rattle.rules.specs.Neighbours.{cannot_be, verdict12, rule12_course, rule12}
use Rattle.rules.specs.Lists.{verdict_at3, rule3_course, overfull, short, full, needed, rule10_course, rule10}
use Rattle.rules.specs.Facts.{never, the_fixed}
use Rattle.rules.specs.Reasons.{Reason, reason, basis_room, basis_need, Good, reason14, reason25, reason3, reason10_course, reason10, reason6, reason7, reason8, reason9, reason11, reason12, reason12_course}
use Rattle.rules.proofs.FactLaws.{held, plan_meets, plan_concludes}
use Rattle.rules.proofs.FactAtLaws.{pair_right, bound_right, all_found}
use Rattle.rules.proofs.ReasonsGood.{good14, good25, good3, good6, good7, good8, good9, good10, good10_course, good11, good12, good12_course}
use Rattle.rules.proofs.ListsKept.{judged_is, rule10_again}
use Rattle.rules.proofs.RulesHeld.{rule11_is}
use Rattle.promises.specs.Reasons.{Explained, InTwo, StepsExplained}

explained : (y : Year) (r : Reason) → Good y r → Explained y r
explained y r g = record { alters = g.alters; held = held y r.basis; suffices = g.suffices }

by_1 : InTwo 1 rule1 (reason14 Credits)
unfolding rule1
by_1 y j = refl

by_2 : InTwo 2 rule2 (reason25 Credits)
unfolding rule2
by_2 y j = refl

by_3 : (y : Year) (j i : ℕ) → rule3_course j y i ≡ applied 3 y (reason3 y j i).change
unfolding rule3_course
by_3 y j i = judged_is 3 y i j (verdict_at3 y j i)

by_4 : InTwo 4 rule4 (reason14 Counts)
unfolding rule4
by_4 y j = refl

by_5 : InTwo 5 rule5 (reason25 Counts)
unfolding rule5
by_5 y j = refl

by_10 : (y : Year) (j : ℕ) → let none = applied 10 y (reason10 y j).change in
    rule10 y j ≡ choose (goes none) (over_courses (rule10_course (full y j) (needed y j) j) (live y)) none
unfolding rule10
by_10 y j = go (overfull y j) (short y j)
  where
    go : (a b : Bool)
        → let none = applied 10 y (choose a (reason fails (basis_room Counts j)) (choose b (reason fails (basis_need Counts j)) (reason rests (the_fixed never)))).change in
        let rest = over_courses (rule10_course (full y j) (needed y j) j) (live y) in
        choose (a || b) (dead 10 y) rest ≡ choose (goes none) rest none
    go true b = refl
    go false true = refl
    go false false = refl

by_12 : (y : Year) (j : ℕ) → let none = applied 12 y (reason12 y j).change in rule12 y j ≡ choose (goes none) (over_courses (rule12_course j) (live y)) none
unfolding rule12
by_12 y j = go (cannot_be y j)
  where
    go : (b : Bool) → let none = applied 12 y (choose b fails rests) in
        let rest = over_courses (rule12_course j) (live y) in
        choose b (dead 12 y) rest ≡ choose (goes none) rest none
    go true = refl
    go false = refl

by_12_course : (y : Year) (j i : ℕ) → rule12_course j y i ≡ applied 12 y (reason12_course y j i).change
unfolding rule12_course
by_12_course y j i = judged_is 12 y i j (verdict12 y j i)

pub steps_explained : StepsExplained
steps_explained = record {
  rules_1_4 = λ q s y j a l. explained y (reason14 q s y j) (good14 y j a l q s);
  rules_2_5 = λ q s y j a l. explained y (reason25 q s y j) (good25 y j a l q s);
  rule_3 = λ y j a l i h. explained y (reason3 y j i) (good3 y j l i h);
  rule_6 = λ y j a l. explained y (reason6 y j) (good6 y j a l);
  rule_7 = λ y j a l. explained y (reason7 y j) (good7 y j a l);
  rule_8 = λ y j a l. explained y (reason8 y j) (good8 y j a l);
  rule_9 = λ y j a l. explained y (reason9 y j) (good9 y j a l);
  rule_10 = λ y j a l. (explained y (reason10 y j) (good10 y j l), λ i h. explained y (reason10_course y j i) (good10_course y j l i h));
  rule_12 = λ y j a l. (explained y (reason12 y j) (good12 y j a l), λ i h. explained y (reason12_course y j i) (good12_course y j a l i h));
  rule_11 = λ y a. explained y (reason11 y) (good11 y a);
  by_1 = by_1;
  by_2 = by_2;
  by_3 = by_3;
  by_4 = by_4;
  by_5 = by_5;
  by_6 = λ y j. refl;
  by_7 = λ y j. refl;
  by_8 = λ y j. refl;
  by_9 = λ y j. refl;
  by_10 = by_10;
  by_10_course = rule10_again;
  by_12 = by_12;
  by_12_course = by_12_course;
  by_11 = rule11_is;
  found = λ y b. record { pairs = pair_right y b; bounds = bound_right y b; every = all_found y b };
  plans_meet = plan_meets;
  plans_conclude = λ y r e p plan. plan_concludes y r.basis r.change e.suffices p plan;
}
