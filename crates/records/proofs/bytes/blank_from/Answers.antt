-- `blank_from`: the bytes passed so far are zero.
use Prim.Native.Nat.{ℕ, ◌+◌, ◌-◌}
use mathlib.Core.Bool.{Bool, ◌&&◌}
use mathlib.Core.List.{List}
use mathlib.Core.Path.{◌≡◌, ◌∙◌, ap, sym, refl}
use native.Mathlib.Omega.{arith}
use lib.Dec.{eqb}
use lib.ListN.{get_or, take, drop, length}
use lib.Seq.{take-length}
use Rattle.std.specs.List.{list_all}
use Rattle.std.proofs.lemmas.List.Folds.{list_all_more}
use Rattle.records.proofs.BlankLaws.{blank_part}
use Rattle.records.proofs.bytes.blank_from.Goals as goal
use Rattle.records.proofs.bytes.blank_from.Goals.{At-loop-b}

-- the part of the list that is looked at
abbrev part : At-loop-b → List ℕ
part c = take (c.args.at + 16 - (c.args.at + c.args.k)) (drop (c.args.at + c.args.k) c.args.s.now)

pub loop-b-init : goal.loop-b-init
loop-b-init c = refl

pub loop-b-preserved : goal.loop-b-preserved
loop-b-preserved c =
    let l = (goal.at.loop-b-preserved c).At-loop-b in
    let i = c.loop-b.b-index in
    ap (λ (t : Bool). t && eqb (get_or (part l) i 0) 0) c.loop-b.invariant ∙ sym (list_all_more (λ b. eqb b 0) (part l) i 0 c.loop-b-test.true)

pub returns : goal.returns
returns c =
    let a = c.args in
    let l = (goal.at.returns c).At-loop-b in
    let is : c.loop-b.b-index ≡ length (part l) = omega arith in
    c.loop-b.invariant
    ∙ ap (λ (n : ℕ). list_all (λ b. eqb b 0) (take n (part l))) is
    ∙ ap (list_all (λ b. eqb b 0)) (take-length (part l))
    ∙ blank_part a.s.now a.at a.k _ c.requires.k_bound c.requires.at_in_bounds (omega arith)
