-- The sums over the two columns are the year's, and each is held against the one that it carries.
use Prim.Native.Nat.{◌≤◌}
use mathlib.Core.Bool.{Bool, true, false, ◌&&◌}
use mathlib.Core.Path.{◌≡◌, refl, ap, ◌∙◌}
use native.Mathlib.Omega.{arith}
use lib.ListN.{length}
use lib.Dec.{eqb}
use borrow.Author.Rules.{rules}
use Rattle.std.proofs.lemmas.List.{length-take-le}
use Rattle.theory.specs.Tab.{tab}
use Rattle.theory.proofs.TestLaws.{all_same}
use Rattle.theory.proofs.TabLaws.{get_or_tab, length_tab}
use Rattle.year.specs.Sums.{fixed_credits, open_credits, fixed_count, open_count, no_sums, sums_in, sums_at}
use Rattle.year.specs.Sound.{sums_same, sums_good}
use Rattle.year.specs.declared.Sums.{Sums}
use Rattle.year.proofs.EntryLaws.{by_entries}
use Rattle.year.proofs.SoundLaws.{summed_sound}
use Rattle.year.proofs.SumLaws.{sums_cut, cut_alike, cut_sized}
use Rattle.year.proofs.sound.sums_good.Goals as goal
use Rattle.year.proofs.sound.sums_good.Goals.{After-sums_over}

pub shared_ref_as_front-sums_over : goal.shared_ref_as_front-sums_over
shared_ref_as_front-sums_over c = (summed_sound c.args.y.now c.requires).courses_most

pub sums_over-requires : goal.sums_over-requires
sums_over-requires c =
    let y = c.args.y.now in
    let s = summed_sound y c.requires in
    let p : y.courses ≤ length y.weight = omega (arith, s) in
    let q : y.courses ≤ length y.list = omega (arith, s) in
    record {
      few = omega (arith, length-take-le y.courses y.weight p, s.courses_most);
      lists_there = omega (arith, cut_alike y.weight y.list y.courses p q);
      terms_there = s.terms_most;
      courses_sized = cut_sized y.weight y.list y.courses p q y.terms (λ i h. ((s.course_sound i h).weight_most, (s.course_sound i h).list_within));
    }

-- the sums over the columns cut to the courses are the year's
summed : (c : After-sums_over) → c.sums_over.result ≡ tab 16 (sums_at c.args.y.now)
unfolding sums_at fixed_credits open_credits fixed_count open_count
summed c =
    let y = c.args.y.now in
    let s = summed_sound y c.requires in
    c.sums_over.ensures ∙ sums_cut y.weight y.list y.courses (omega (arith, s)) (omega (arith, s))

-- two terms' sums are the same by the four of them
four : (p q r s : Bool) → p && (q && (r && s)) ≡ p && q && r && s
four true true r s = refl
four true false r s = refl
four false q r s = refl

fields : (a b : Sums) → eqb a.fixed.0 b.fixed.0 && (eqb a.possible.0 b.possible.0 && (eqb a.placed.0 b.placed.0 && eqb a.free.0 b.free.0)) ≡ sums_same a b
fields a b = four (eqb a.fixed.0 b.fixed.0) (eqb a.possible.0 b.possible.0) (eqb a.placed.0 b.placed.0) (eqb a.free.0 b.free.0)

pub returns : goal.returns
returns c =
    let y = c.args.y.now in
    let e = summed (goal.at.returns c).After-sums_over in
    let long : length y.sums ≡ 16 = search rules in
    c.eq.ensures
    ∙ by_entries _ no_sums 16 y.sums c.sums_over.result long (ap length e ∙ length_tab 16 (sums_at y))
    ∙ all_same 16 _ (sums_good y)
    (λ k h. fields (sums_in y.sums k) (sums_in c.sums_over.result k) ∙ ap (sums_same (sums_in y.sums k)) (ap (λ s. sums_in s k) e ∙ get_or_tab 16 (sums_at y) no_sums k h))
