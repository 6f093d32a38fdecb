-- `put_terms`: the blocks of the terms passed so far are laid over the front of the buffer.
use Prim.Native.Nat.{ℕ, ◌*◌}
use mathlib.Core.List.{List}
use mathlib.Core.Path.{◌∙◌, ap₂, refl}
use native.Mathlib.Omega.{arith}
use Rattle.records.specs.Writing.{term_block, joined}
use Rattle.records.specs.Laid.{laid}
use Rattle.records.proofs.LayLaws as law
use Rattle.records.proofs.blocks.put_terms.Goals as goal

pub loop-j-init : goal.loop-j-init
unfolding joined
loop-j-init c = law.laid_nothing c.args.buf.now 0

pub loop-j-preserved : goal.loop-j-preserved
loop-j-preserved c =
    let b = c.args.buf.now in
    let f = term_block c.args.y.now.year in
    let j = c.loop-j.j in
    c.put.ensures
    ∙ ap₂ (λ (d r : List ℕ). laid d (j * 16) r) c.loop-j.invariant c.term_bytes.ensures
    ∙ law.laid_block b 0 f j (j * 16) (λ k. refl) (omega arith) (omega (arith, c.requires.room))
