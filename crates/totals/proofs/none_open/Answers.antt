-- The test of the first entries is the definition's.
use mathlib.Core.Path.{◌≡◌, ◌∙◌}
use native.Mathlib.Omega.{arith}
use lib.Dec.{eqb}
use lib.ListN.{length, take}
use borrow.Author.Rules.{rules}
use borrow.Author.Tests.{tests}
use Rattle.std.proofs.lemmas.Iterator.{YieldsList-from_slice}
use Rattle.std.proofs.lemmas.Iterator.Search.{all_from_yields_List}
use Rattle.year.specs.Sums.{no_sums}
use Rattle.year.proofs.EntryLaws.{first_pass}
use Rattle.totals.proofs.none_open.Goals as goal

pub returns : goal.returns
returns c =
    let xs = c.args.sums.now in
    let long : length xs ≡ 16 = search rules in
    all_from_yields_List (λ s. eqb s.free.0 0) _ _ _ c.all.ensures.ran (YieldsList-from_slice (take c.args.terms xs) cc) (λ x b q k. search (rules, tests))
    ∙ first_pass (λ s. eqb s.free.0 0) no_sums c.args.terms xs (omega (arith, long, c.requires))
