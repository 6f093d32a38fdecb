-- The chain's largest is that over the places of the list.
use Prim.Native.Nat.{max}
use mathlib.Core.Path.{◌≡◌, ◌∙◌}
use native.Mathlib.Omega.{arith}
use lib.ListN.{take}
use borrow.Author.Rules.{rules}
use Rattle.std.specs.List.{fold}
use Rattle.year.specs.declared.Term.{Term}
use Rattle.packing.proofs.BinLaws.{room_found}
use Rattle.packing.proofs.bins.room.Goals as goal

pub returns : goal.returns
returns c =
    let s = c.args.s.now in
    let is : c.fold.result ≡ fold (λ most (t : Term). max t.high.0 most) 0 (take s.terms s.term) = search rules in
    is ∙ room_found s.term s.terms (omega (arith, s.sound)) (omega (arith, s.sound))
