-- `read_terms`: the year held is what the definition has after the same records; a refusal stays to the end of the list.
use Prim.Native.Nat.{◌*◌, ◌/◌}
use mathlib.Core.Path.{◌≡◌, ◌∙◌, ap, sym}
use native.Mathlib.Omega.{arith}
use native.Mathlib.Numerals.{add-one}
use lib.ListN.{length}
use borrow.Author.Rules.{rules}
use Rattle.std.specs.Prelude.{Ok, Err}
use Rattle.year.specs.SoundYear.{answer_inside}
use Rattle.records.specs.declared.Fault.{Fault}
use Rattle.records.specs.Reading.{of_term, blank_year, done, refusal, taken, gathered}
use Rattle.records.proofs.ResultLaws.{error_of, value_of}
use Rattle.records.proofs.GatherLaws.{gathered_zero, gathered_more, fault_stays}
use Rattle.hours.specs.Entries.{term_alone}
use Rattle.hours.specs.Joining.{term_entry, term_list}
use Rattle.hours.proofs.EntryLaws.{alone_read}
use Rattle.hours.proofs.JoinLaws.{terms_sound}
use Rattle.hours.proofs.lists.read_terms.Goals as goal
use Rattle.hours.proofs.lists.read_terms.Goals.{In_ok-t, After-loop-k}

good : (c : In_ok-t) → c.term_alone.result ≡ Ok c.in_ok-t.t
good c = value_of _ _ c.map_err.ensures.variant _ c.map_err.ensures.cases _ c.in_ok-t.was

pub returns-then-bad_length : goal.returns-then-bad_length
unfolding term_list
returns-then-bad_length c = ap Err c.at.ensures ∙ simp (sym c.bad_length.ensures ∙ c.if-bad_length.true)

pub loop-k-init : goal.loop-k-init
loop-k-init c = gathered_zero _ _ ∙ ap done (sym c.blank-y.ensures)

pub returns-in_err-t : goal.returns-in_err-t
unfolding term_list
returns-in_err-t c =
    let s = c.args.s.now in
    let k = c.loop-k.k-counter in
    let each : (g : Fault) → c.term_alone.result ≡ Err g → c.map_err.result ≡ Err (refusal g k) = λ g e. let h = rw e at c.map_err.ensures.cases in search rules in
    let f = error_of _ _ c.map_err.ensures.variant (λ g. refusal g k) each _ c.in_err-t.was in
    let is : term_alone s (k * 16) c.loop-k.y.terms ≡ Err f.0 = sym c.term_alone.ensures ∙ f.1 in
    let back : c.from_residual.result ≡ Err c.in_err-t.field-0.0 = search rules in
    ap answer_inside back
    ∙ ap Err {y = refusal f.0 k} f.2
    ∙ sym (simp (sym c.bad_length.ensures ∙ c.if-bad_length.false) (fault_stays (term_entry s) blank_year k c.loop-k.y f.0 (length s / 16) (omega arith) c.loop-k.invariant (ap of_term {y = Err f.0} is)))

pub add_term-requires : goal.add_term-requires
add_term-requires c = record { room = (alone_read _ _ _ c.in_ok-t.t (sym c.term_alone.ensures ∙ good (goal.at.add_term-requires c).In_ok-t)).1.room }

pub loop-k-preserved : goal.loop-k-preserved
loop-k-preserved c =
    let s = c.args.s.now in
    let k = c.loop-k.k-counter in
    let y = c.loop-k.y in
    ap (gathered (term_entry s) blank_year) (add-one k)
    ∙ gathered_more (term_entry s) blank_year k y c.loop-k.invariant
    ∙ ap (λ r. taken y k (of_term r)) (sym c.term_alone.ensures ∙ good (goal.at.loop-k-preserved c).In_ok-t)
    ∙ ap done (sym c.add_term.ensures)

-- the year that is handed back is the one of the list
reads : (c : After-loop-k) → done c.loop-k.y ≡ term_list c.args.s.now
unfolding term_list
reads c =
    let s = c.args.s.now in
    let is : c.loop-k.k-counter ≡ length s / 16 = omega arith in
    sym (simp (sym c.bad_length.ensures ∙ c.if-bad_length.false) (ap (gathered (term_entry s) blank_year) (sym is) ∙ c.loop-k.invariant))

pub invariant_of-result : goal.invariant_of-result
invariant_of-result c = record { sound = terms_sound c.args.s.now c.loop-k.y (sym (reads c)) }

pub returns : goal.returns
returns c = reads (goal.at.returns c).After-loop-k
