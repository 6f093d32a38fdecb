-- `put`: sixteen bytes written over a part of the buffer are laid over it.
use mathlib.Core.Path.{◌≡◌, ◌∙◌, sym}
use native.Mathlib.Omega.{arith}
use borrow.Author.Rules.{rules}
use lib.ListN.{length}
use Rattle.std.proofs.lemmas.Slice.{put_mid-paste}
use Rattle.records.proofs.LayLaws.{laid_paste}
use Rattle.records.proofs.blocks.put.Goals as goal

pub returns : goal.returns
returns c =
    let a = c.args in
    let long : length a.r ≡ 16 = search rules in
    put_mid-paste a.at _ a.buf.now _ a.r 16 c.copy_from_slice.ensures.after (omega arith) (sym long) ∙ laid_paste a.buf.now a.at a.r 16 long
