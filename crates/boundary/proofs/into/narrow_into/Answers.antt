-- `into::narrow_into`: a kind that there is none of is refused by 10, and every refusal leaves the buffer.
use mathlib.Core.Path.{refl}
use Rattle.boundary.proofs.IntoLaws.{no_kind}
use Rattle.boundary.proofs.into.narrow_into.Goals as goal

pub returns-in_default : goal.returns-in_default
returns-in_default c =
    let none = no_kind c.args.y c.args.kind c.args.a c.args.b c.in_default.ensures in
    record { value = rw none c.narrowing.ensures; out_after = rw none refl }
