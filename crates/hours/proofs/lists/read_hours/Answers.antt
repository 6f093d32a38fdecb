-- `read_hours`: the year held is what the definition has after the same records; a refusal stays to the end of the list.
use Prim.Native.Nat.{◌*◌, ◌/◌}
use mathlib.Core.Path.{◌≡◌, ◌∙◌, ap, sym, subst}
use native.Mathlib.Omega.{arith}
use native.Mathlib.Numerals.{add-one}
use lib.ListN.{length}
use borrow.Author.Rules.{rules}
use Rattle.std.specs.Prelude.{Ok, Err}
use Rattle.year.specs.SoundYear.{answer_inside}
use Rattle.year.specs.Sound.{Sound}
use Rattle.records.specs.declared.Fault.{Fault}
use Rattle.records.specs.Reading.{of_course, done, refusal, taken, gathered}
use Rattle.records.proofs.ResultLaws.{error_of, value_of}
use Rattle.records.proofs.GatherLaws.{gathered_zero, gathered_more, summed_long, summed_fault, summed_done, Begun, begun_light, begun_sound, sound_begun}
use Rattle.hours.specs.Entries.{hours_record}
use Rattle.hours.specs.Joining.{hours_entry, bad_hours, hours_list}
use Rattle.hours.proofs.EntryLaws.{hours_read}
use Rattle.hours.proofs.JoinLaws.{Hours, hours_so_far}
use Rattle.hours.proofs.lists.read_hours.Goals as goal
use Rattle.hours.proofs.lists.read_hours.Goals.{At-loop-k, In_ok-c}

-- the year so far is one in the making, with the terms that it had
so_far : (l : At-loop-k) → Hours l.args.front.year l.args.s.now l.loop-k.k-counter l.loop-k.z
so_far l =
    let y = l.args.front.year in
    hours_so_far y l.args.s.now (sound_begun y l.args.front.sound) l.requires.no_course l.loop-k.k-counter l.loop-k.z l.loop-k.invariant

begun : (l : At-loop-k) → Begun l.loop-k.z
begun l = (so_far l).begun

good : (c : In_ok-c) → c.hours_record.result ≡ Ok c.in_ok-c.c
good c = value_of _ _ c.map_err.ensures.variant _ c.map_err.ensures.cases _ c.in_ok-c.was

pub returns-then-bad_hours : goal.returns-then-bad_hours
unfolding hours_list
returns-then-bad_hours c =
    let a = c.args in
    let s = a.s.now in
    ap Err c.at.ensures ∙ summed_long (bad_hours (length s)) (hours_entry s) a.front.year (length s / 16) (sym c.bad_hours.ensures ∙ c.if-bad_hours.true)

pub loop-k-init : goal.loop-k-init
loop-k-init c = gathered_zero _ _

pub hours_record-requires-clause-terms_bound : goal.hours_record-requires-clause-terms_bound
hours_record-requires-clause-terms_bound c = (begun (goal.at.hours_record-requires-clause-terms_bound c).At-loop-k).terms_most

pub returns-in_err-c : goal.returns-in_err-c
unfolding hours_list
returns-in_err-c c =
    let a = c.args in
    let s = a.s.now in
    let k = c.loop-k.k-counter in
    let each : (g : Fault) → c.hours_record.result ≡ Err g → c.map_err.result ≡ Err (refusal g k) = λ g e. let h = rw e at c.map_err.ensures.cases in search rules in
    let f = error_of _ _ c.map_err.ensures.variant (λ g. refusal g k) each _ c.in_err-c.was in
    let is : hours_record s (k * 16) c.loop-k.z.courses c.loop-k.z.terms ≡ Err f.0 = sym c.hours_record.ensures ∙ f.1 in
    let back : c.from_residual.result ≡ Err c.in_err-c.field-0.0 = search rules in
    ap answer_inside back
    ∙ ap Err {y = refusal f.0 k} f.2
    ∙ summed_fault (bad_hours (length s)) (hours_entry s) a.front.year (length s / 16) (sym c.bad_hours.ensures ∙ c.if-bad_hours.false) k c.loop-k.z f.0 (omega arith) c.loop-k.invariant (ap of_course {y = Err f.0} is)

pub add_course-requires : goal.add_course-requires
add_course-requires c = record { room = (hours_read _ _ _ _ c.in_ok-c.c (sym c.hours_record.ensures ∙ good (goal.at.add_course-requires c).In_ok-c)).room }

pub loop-k-preserved : goal.loop-k-preserved
loop-k-preserved c =
    let a = c.args in
    let s = a.s.now in
    let k = c.loop-k.k-counter in
    ap (gathered (hours_entry s) a.front.year) (add-one k)
    ∙ gathered_more (hours_entry s) a.front.year k c.loop-k.z c.loop-k.invariant
    ∙ ap (λ r. taken c.loop-k.z k (of_course r)) (sym c.hours_record.ensures ∙ good (goal.at.loop-k-preserved c).In_ok-c)
    ∙ ap done (sym c.add_course.ensures)

pub sum_up-requires : goal.sum_up-requires
sum_up-requires c = let all = begun_light c.loop-k.z (begun (goal.at.sum_up-requires c).At-loop-k) in record { sizes = all.0; each_course = all.1 }

pub invariant_of-result : goal.invariant_of-result
invariant_of-result c =
    let h = so_far (goal.at.invariant_of-result c).At-loop-k in
    record { sound = subst Sound (sym c.sum_up.ensures) (begun_sound c.loop-k.z h.begun (omega (arith, h.within, c.args.front.sound.terms_least))) }

pub returns : goal.returns
unfolding hours_list
returns c =
    let a = c.args in
    let s = a.s.now in
    ap done c.sum_up.ensures
    ∙ summed_done (bad_hours (length s)) (hours_entry s) a.front.year (length s / 16) (sym c.bad_hours.ensures ∙ c.if-bad_hours.false) c.loop-k.k-counter c.loop-k.z (omega arith) c.loop-k.invariant
