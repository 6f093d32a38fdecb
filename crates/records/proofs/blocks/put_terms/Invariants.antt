-- `put_terms`: the blocks of the terms passed so far are laid over the front of the buffer.
use mathlib.Core.Path.{◌≡◌}
use Rattle.records.specs.Writing.{term_block, joined}
use Rattle.records.specs.Laid.{laid}
use Rattle.records.proofs.blocks.put_terms.Given as goal

abbrev pub invariant-loop-j : goal.invariant-loop-j
invariant-loop-j l = l.buf ≡ laid l.initial.buf 0 (joined (term_block l.y.year) l.j)
