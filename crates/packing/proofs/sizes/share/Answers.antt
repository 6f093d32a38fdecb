-- The two tests are the definition's.
use mathlib.Core.Path.{sym}
use native.Mathlib.Omega.{arith}
use borrow.Author.Rules.{rules}
use Rattle.theory.proofs.PackingLaws.{share_big, share_small, share_mid}
use Rattle.packing.proofs.sizes.share.Goals as goal

pub returns-then-c-t : goal.returns-then-c-t
returns-then-c-t c = let a = c.args in (sym (share_big a.c.0 a.t.0 a.x.0 c.if-c-t.true), search rules)

pub returns-then-x-t : goal.returns-then-x-t
returns-then-x-t c = let a = c.args in (sym (share_small a.c.0 a.t.0 a.x.0 c.if-c-t.false c.if-x-t.true), search rules)

pub returns : goal.returns
returns c = let a = c.args in (sym (share_mid a.c.0 a.t.0 a.x.0 c.if-c-t.false c.if-x-t.false), omega arith)
