-- Three early ends; else what is said of the open courses is said of the term.
use Prim.Native.Nat.{ℕ, ◌-◌, ◌≤◌, ◌<◌}
use mathlib.Core.Bool.{true≢false}
use mathlib.Core.Path.{◌≡◌, refl, sym, ◌∙◌}
use native.Mathlib.Omega.{arith}
use borrow.Author.Tests.{lt-ltb}
use Rattle.std.proofs.lemmas.List.{length-take-le}
use Rattle.year.specs.Year.{term_at}
use lib.ListN.{length, get_or}
use Rattle.year.specs.Sums.{no_sums, fixed_credits}
use Rattle.year.specs.declared.Year.{Year}
use Rattle.frame.specs.State.{year_in}
use Rattle.orders.proofs.OrderLaws.{cut_weighed, last_cut}
use Rattle.neighbours.specs.Opened.{Ordered}
use Rattle.neighbours.specs.Verdicts.{Columns}
use Rattle.neighbours.proofs.TermLaws.{last_heaviest, right_of, light_says}
use Rattle.neighbours.proofs.YearLaws.{rising_is, columns_of, in_order, range_of, fixed_of, none_of}
use Rattle.neighbours.proofs.terms.says.Goals as goal
use Rattle.neighbours.proofs.terms.says.Goals.{Else-s-j, Start}

-- ---- the year at the start

abbrev y : Start → Year
y b = year_in b.args.s.now

columns : (b : Start) → Columns (y b).weight (y b).list (y b).courses
columns b = columns_of (y b) b.args.s.now.sound

ordered : (b : Start) → Ordered (y b).weight (y b).list b.args.rising.now (y b).courses
ordered b = in_order (y b) b.args.s.now.sound b.args.rising.now b.requires.from_lightest

fixed : (b : Start) → (get_or b.args.s.now.sums b.args.j no_sums).fixed.0 ≡ fixed_credits (y b) b.args.j
fixed b = fixed_of (y b) b.args.s.now.sound b.args.j b.requires.is_term

-- the term takes what is fixed
fits : (c : Else-s-j) → let b = (goal.at.Else-s-j c).Start in fixed_credits (y b) b.args.j ≤ (term_at (y b) b.args.j).high.0
fits c = omega (arith, c.if-s-j.false, fixed (goal.at.Else-s-j c).Start)

pub returns-then-s-j : goal.returns-then-s-j
returns-then-s-j c =
    let b = (goal.at.returns-then-s-j c).Start in
    let over : (term_at (y b) b.args.j).high.0 < fixed_credits (y b) b.args.j = omega (arith, c.if-s-j.true, fixed b) in
    (rw (lt-ltb (term_at (y b) b.args.j).high.0 (fixed_credits (y b) b.args.j) over) refl, refl)

pub returns-then-u-eq0 : goal.returns-then-u-eq0
returns-then-u-eq0 c =
    let o = (goal.at.returns-then-u-eq0 c).Else-s-j in
    let b = (goal.at.returns-then-u-eq0 c).Start in
    let s = b.args.s.now in
    let j = b.args.j in
    let p = fixed_credits (y b) j in
    let t = term_at (y b) j in
    let r = range_of (y b) s.sound j b.requires.is_term in
    light_says (y b) (columns b) j t p (t.low.0 - p) (t.high.0 - p) (fits o) refl refl 0
    (λ i l e. absurd (true≢false (sym e ∙ none_of (y b) s.sound j b.requires.is_term c.if-u-eq0.true i l)))
    r.0
    (omega arith)
    (omega arith)

pub last_open-last-requires-clause-ordered : goal.last_open-last-requires-clause-ordered
last_open-last-requires-clause-ordered c = ordered (goal.at.last_open-last-requires-clause-ordered c).Start

-- the places up to the last open course are cut out of the order
few : (b : Start) (last : ℕ) → last ≤ b.args.s.now.courses → last ≤ length b.args.rising.now
few b last h = omega (arith, (ordered b).long)

pub slice_bounds-heaviest-end : goal.slice_bounds-heaviest-end
slice_bounds-heaviest-end c =
    let b = (goal.at.slice_bounds-heaviest-end c).Start in
    sym (length-take-le c.last_open-last.result b.args.rising.now (few b _ c.last_open-last.ensures.within))

pub heaviest-heaviest-requires : goal.heaviest-heaviest-requires
heaviest-heaviest-requires c =
    let b = (goal.at.heaviest-heaviest-requires c).Start in
    let last = c.last_open-last.ensures.within in
    record {
      each_weighed = cut_weighed b.args.s.now.weight.now b.args.rising.now c.last_open-last.result (few b _ last) (λ r h. (ordered b).weighed r (omega arith));
    }

pub returns-then-heaviest-width : goal.returns-then-heaviest-width
returns-then-heaviest-width c =
    let o = (goal.at.returns-then-heaviest-width c).Else-s-j in
    let b = (goal.at.returns-then-heaviest-width c).Start in
    let s = b.args.s.now in
    let j = b.args.j in
    let r = c.of-range.result in
    let e = c.of-range.ensures in
    light_says (y b) (columns b) j (term_at (y b) j) (fixed_credits (y b) j) r.least.0 r.most.0 (fits o) e.0 e.1 c.heaviest-heaviest.result.0
    (λ i m h. omega (
      arith,
      c.heaviest-heaviest.ensures,
      last_cut s.weight.now b.args.rising.now c.last_open-last.result (few b _ c.last_open-last.ensures.within),
      last_heaviest (y b) (columns b) j b.args.rising.now (b.requires.from_lightest ∙ rising_is (y b)) c.last_open-last.result c.last_open-last.ensures.within c.last_open-last.ensures.none_behind i m h,
    ))
    r.ordered
    c.if-heaviest-range.true
    (omega (arith, c.width.ensures, c.if-heaviest-width.true))

pub returns : goal.returns
returns c =
    let o = (goal.at.returns c).Else-s-j in
    let b = (goal.at.returns c).Start in
    let s = b.args.s.now in
    let j = b.args.j in
    let r = c.of-range.result in
    let e = c.of-range.ensures in
    right_of (y b) (columns b) j (term_at (y b) j) (fixed_credits (y b) j) r.least.0 r.most.0 (fits o) e.0 e.1 c.of_open.result c.of_open.ensures
