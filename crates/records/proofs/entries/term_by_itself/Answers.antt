-- `term_by_itself`: one test for a good record, then the definition's faults in their order.
use mathlib.Core.Path.{◌∙◌, sym}
use mathlib.Core.Bool.{◌||◌}
use lib.Dec.{ltb}
use Rattle.records.specs.Reading.{term_by_itself}
use Rattle.records.proofs.EntryLaws.{one_test, left_zeros}
use Rattle.records.proofs.entries.term_by_itself.Goals as goal

pub returns-then-blank_from-outside : goal.returns-then-blank_from-outside
unfolding term_by_itself
returns-then-blank_from-outside c =
    let q = one_test c.blank_from.result (ltb 64000 c.word-low.result || ltb 64000 c.word-high.result || ltb 64 c.word-least.result || ltb 64 c.word-most.result) (ltb c.word-high.result c.word-low.result || ltb c.word-most.result c.word-least.result) c.if-blank_from-outside.true in
    rw (← c.word-low.ensures.number, ← c.word-high.ensures.number, ← c.word-least.ensures.number, ← c.word-most.ensures.number) (simp (q.0, q.1, sym c.blank_from.ensures ∙ q.2))

pub returns-then-outside : goal.returns-then-outside
unfolding term_by_itself
returns-then-outside c =
    rw (← c.word-low.ensures.number, ← c.word-high.ensures.number, ← c.word-least.ensures.number, ← c.word-most.ensures.number) (simp c.if-outside.true)

pub returns-then-crossed : goal.returns-then-crossed
unfolding term_by_itself
returns-then-crossed c =
    rw (← c.word-low.ensures.number, ← c.word-high.ensures.number, ← c.word-least.ensures.number, ← c.word-most.ensures.number) (simp (c.if-outside.false, c.if-crossed.true))

pub returns : goal.returns
unfolding term_by_itself
returns c =
    let z = left_zeros _ _ _ c.if-blank_from-outside.false c.if-outside.false c.if-crossed.false in
    rw (← c.word-low.ensures.number, ← c.word-high.ensures.number, ← c.word-least.ensures.number, ← c.word-most.ensures.number) (simp (c.if-outside.false, c.if-crossed.false, sym c.blank_from.ensures ∙ z))
