-- What answers carry is small: the place of a refused record, and the detail of a filtering's answer.
use Prim.Native.Nat.{ℕ, ◌+◌, ◌≤◌, ◌<◌}
use mathlib.Core.List.{List}
use mathlib.Core.Path.{◌≡◌}
use native.Mathlib.Omega.{arith}
use Rattle.std.specs.Prelude.{Err}
use Rattle.year.specs.declared.Year.{Year}
use Rattle.records.specs.declared.Refusal.{Refusal}
use Rattle.records.specs.Reading.{read_list}
use Rattle.records.proofs.ListLaws.{place_few}
use Rattle.filter.specs.Filter.{filter_of}
use Rattle.filter.specs.Numbers.{filter_rule}
use Rattle.filter.specs.declared.Answer.{Answer}
use Rattle.filter.specs.declared.Answer.TheVariants.{Settled, Open, NoPlan, Unsound}
use Rattle.filter.proofs.RoundLaws.{answer_few}
use Rattle.boundary.specs.Packed.{answer_detail}

pub place_small : (s : List ℕ) (r : Refusal) → read_list s ≡ Err r → r.record < 4294967296
place_small s r e = omega (arith, place_few s r.fault r.record e)

-- the detail of a filtering's answer: 1 settled, 2 open, or one of the twelve rules
pub detail_small : (y : Year) → answer_detail (filter_of y).answer < 256
detail_small y = omega (arith, by (filter_of y).answer, (answer_few y).0)
  where
    by : (a : Answer) → answer_detail a ≤ filter_rule a + 2
    by (Settled n) = omega arith
    by (Open n) = omega arith
    by (NoPlan r n) = omega arith
    by Unsound = omega arith
