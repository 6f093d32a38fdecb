-- The loop's invariant: the totals so far are those of the first entries. None overflows: an entry's bounds are within the sizes.
use mathlib.Core.Path.{sym, ap, ◌∙◌}
use native.Mathlib.Omega.{arith}
use Rattle.std.proofs.Common.{rules}
use Rattle.theory.specs.Sum.{sum}
use Rattle.frame.specs.Bounds.{term_in}
use Rattle.bounds.specs.AtTerm.{totals_with}
use Rattle.bounds.proofs.AtTermLaws.{totals_more, totals_fit}
use Rattle.bounds.proofs.terms.totals.Goals as goal

pub loop-t-init : goal.loop-t-init
unfolding sum
loop-t-init c = search rules

pub with_term-x-requires-clause-room : goal.with_term-x-requires-clause-room
with_term-x-requires-clause-room c = totals_fit c.args.term.now c.loop-t.t-index c.loop-t.x (λ k h. c.requires.terms_sound k (omega arith)) (omega arith) c.loop-t.invariant

pub loop-t-preserved : goal.loop-t-preserved
loop-t-preserved c =
    let t = c.args.term.now in
    let k = c.loop-t.t-index in
    c.with_term-x.ensures ∙ ap (λ z. totals_with z (term_in t k)) c.loop-t.invariant ∙ sym (totals_more t k)
