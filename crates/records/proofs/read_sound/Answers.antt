-- `read_sound`: the year held is what the definition has after the same records; a refusal stays to the end of the list.
use Prim.Native.Nat.{ℕ, ◌+◌, ◌*◌, ◌/◌}
use mathlib.Core.List.{List}
use mathlib.Core.Logic.{⊎_elim}
use mathlib.Core.Path.{◌≡◌, refl, ◌∙◌, ap, sym}
use native.Mathlib.Omega.{arith}
use native.Mathlib.Numerals.{add-one}
use lib.ListN.{length}
use borrow.Author.Rules.{rules}
use Rattle.std.specs.Prelude.{Result, Ok, Err}
use Rattle.year.specs.SoundYear.{answer_inside}
use Rattle.year.specs.declared.SoundYear.{SoundYear}
use Rattle.records.specs.declared.Fault.{Fault}
use Rattle.records.specs.declared.Refusal.{Refusal}
use Rattle.records.specs.Reading.{Faulty, term_record, course_record, blank_year, done, refusal, taken, record_in, read_to, bad_length, read_list}
use Rattle.records.proofs.EntryLaws.{term_read, course_read, at_term, at_course, at_neither}
use Rattle.records.proofs.ResultLaws.{error_of, value_of}
use Rattle.records.proofs.GatherLaws.{gathered_zero, gathered_more, summed_long, summed_fault, summed_done, begun_light}
use Rattle.records.proofs.ListLaws.{Front, read_front, read_sound as sound_read}
use Rattle.records.proofs.read_sound.Goals as goal
use Rattle.records.proofs.read_sound.Goals.{then-list-at-eq-COURSE_LETTER+then-y-ge1+in_ok-c, else-list-at-eq-COURSE_LETTER+then-list-at-eq-TERM_LETTER+then-y-eq0+in_ok-t, At-loop-k, After-sum_up, In-loop-k, In_ok-c, In_ok-t}

-- the list that is read
abbrev list : At-loop-k → List ℕ
list l = l.args.list.now

-- the year so far is the front of a sound year
front : (l : At-loop-k) → Front l.loop-k.k-counter l.loop-k.y
front l = read_front (list l) l.loop-k.k-counter l.loop-k.y l.loop-k.invariant

-- a fault of the record at hand is the list's
refusal_is : (t : In-loop-k) (r : Result SoundYear Refusal) (q : Refusal) (f : Fault) → let l = (goal.at.In-loop-k t).At-loop-k in r ≡ Err q → q ≡ refusal f l.loop-k.k-counter → record_in (list l) l.loop-k.k-counter l.loop-k.y ≡ Faulty f → answer_inside r ≡ read_list (list l)
unfolding read_list
refusal_is t r q f b p e =
    let l = (goal.at.In-loop-k t).At-loop-k in
    let s = list l in
    ap answer_inside b ∙ rw p (summed_fault (bad_length (length s)) (record_in s) blank_year (length s / 16) (sym l.bad_length.ensures ∙ l.if-bad_length.false) l.loop-k.k-counter l.loop-k.y f (omega arith) l.loop-k.invariant e)

course_good : (c : In_ok-c) → c.read_course.result ≡ Ok c.in_ok-c.c
course_good c = value_of _ _ c.map_err.ensures.variant _ c.map_err.ensures.cases _ c.in_ok-c.was

term_good : (c : In_ok-t) → c.read_term.result ≡ Ok c.in_ok-t.t
term_good c = value_of _ _ c.map_err-then-y-eq0.ensures.variant _ c.map_err-then-y-eq0.ensures.cases _ c.in_ok-t.was

pub returns-then-bad_length : goal.returns-then-bad_length
unfolding read_list
returns-then-bad_length c =
    let s = c.args.list.now in
    ap Err c.at.ensures ∙ summed_long (bad_length (length s)) (record_in s) blank_year (length s / 16) (sym c.bad_length.ensures ∙ c.if-bad_length.true)

pub loop-k-init : goal.loop-k-init
loop-k-init c = gathered_zero _ _ ∙ ap done (sym c.blank-y.ensures)

pub read_course-requires-clause-terms_bound : goal.read_course-requires-clause-terms_bound
read_course-requires-clause-terms_bound c = (front (goal.at.read_course-requires-clause-terms_bound c).At-loop-k).begun.terms_most

pub returns-in_err-c : goal.returns-in_err-c
returns-in_err-c c =
    let each : (g : Fault) → c.read_course.result ≡ Err g → c.map_err.result ≡ Err (refusal g c.loop-k.k-counter) = λ g e. let h = rw e at c.map_err.ensures.cases in search rules in
    let f = error_of _ _ c.map_err.ensures.variant (λ g. refusal g c.loop-k.k-counter) each _ c.in_err-c.was in
    let is : course_record c.args.list.now (c.loop-k.k-counter * 16) c.loop-k.y.courses c.loop-k.y.terms ≡ Err f.0 = sym c.read_course.ensures ∙ f.1 in
    let back : c.from_residual.result ≡ Err c.in_err-c.field-0.0 = search rules in
    refusal_is (goal.at.returns-in_err-c c).In-loop-k _ _ f.0 back f.2 (at_course _ _ _ _ {r = Err f.0} c.if-list-at-eq-COURSE_LETTER.true c.if-y-ge1.true is)

pub add_course-requires : goal.add_course-requires
add_course-requires c = record { room = (course_read _ _ _ _ c.in_ok-c.c (sym c.read_course.ensures ∙ course_good (goal.at.add_course-requires c).In_ok-c)).room }

pub returns-in_err-t : goal.returns-in_err-t
returns-in_err-t c =
    let each : (g : Fault) → c.read_term.result ≡ Err g → c.map_err-then-y-eq0.result ≡ Err (refusal g c.loop-k.k-counter) = λ g e. let h = rw e at c.map_err-then-y-eq0.ensures.cases in search rules in
    let f = error_of _ _ c.map_err-then-y-eq0.ensures.variant (λ g. refusal g c.loop-k.k-counter) each _ c.in_err-t.was in
    let is : term_record c.args.list.now (c.loop-k.k-counter * 16) c.loop-k.y.terms ≡ Err f.0 = sym c.read_term.ensures ∙ f.1 in
    let back : c.from_residual-in_err-t.result ≡ Err c.in_err-t.field-0.0 = search rules in
    refusal_is (goal.at.returns-in_err-t c).In-loop-k _ _ f.0 back f.2 (at_term _ _ _ _ {r = Err f.0} c.if-list-at-eq-TERM_LETTER.true c.if-y-eq0.true is)

pub add_term-requires : goal.add_term-requires
add_term-requires c = record { room = (term_read _ _ _ c.in_ok-t.t (sym c.read_term.ensures ∙ term_good (goal.at.add_term-requires c).In_ok-t)).room }

pub returns-else-list-at-eq-TERM_LETTER : goal.returns-else-list-at-eq-TERM_LETTER
returns-else-list-at-eq-TERM_LETTER c =
    refusal_is (goal.at.returns-else-list-at-eq-TERM_LETTER c).In-loop-k _ _ _ refl c.at-else-list-at-eq-TERM_LETTER.ensures (at_neither _ _ _ _ (λ p q. ⊎_elim (λ n. n.1 q) (λ n. n p) c.else-list-at-eq-TERM_LETTER.either) (λ p q. ⊎_elim (λ n. omega (arith, n.1)) (λ n. n p) c.else-list-at-eq-COURSE_LETTER.either))

pub loop-k-preserved : goal.loop-k-preserved
loop-k-preserved c =
    let l = (goal.at.loop-k-preserved c).At-loop-k in
    let s = list l in
    let k = l.loop-k.k-counter in
    let y = l.loop-k.y in
    let more : read_to s (k + 1) ≡ taken y k (record_in s k y) = ap (read_to s) (add-one k) ∙ gathered_more (record_in s) blank_year k y l.loop-k.invariant in
    elim c.if-list-at-eq-COURSE_LETTER.branch [
      | then-list-at-eq-COURSE_LETTER+then-y-ge1+in_ok-c w ↦ more ∙ ap (taken y k) (at_course s (k * 16) y.terms y.courses w.if-list-at-eq-COURSE_LETTER.true w.if-y-ge1.true (sym w.read_course.ensures ∙ value_of _ _ w.map_err.ensures.variant _ w.map_err.ensures.cases _ w.in_ok-c.was)) ∙ ap done (sym w.add_course.ensures ∙ sym w.y-is)
      | else-list-at-eq-COURSE_LETTER+then-list-at-eq-TERM_LETTER+then-y-eq0+in_ok-t w ↦ more ∙ ap (taken y k) (at_term s (k * 16) y.terms y.courses w.if-list-at-eq-TERM_LETTER.true w.if-y-eq0.true (sym w.read_term.ensures ∙ value_of _ _ w.map_err-then-y-eq0.ensures.variant _ w.map_err-then-y-eq0.ensures.cases _ w.in_ok-t.was)) ∙ ap done (sym w.add_term.ensures ∙ sym w.y-is)
    ]

pub sum_up-requires : goal.sum_up-requires
sum_up-requires c = let all = begun_light c.loop-k.y (front (goal.at.sum_up-requires c).At-loop-k).begun in record { sizes = all.0; each_course = all.1 }

-- the year that is handed back is the one of the list
reads : (c : After-sum_up) → done c.sum_up.new.y ≡ read_list c.args.list.now
unfolding read_list
reads c =
    let l = (goal.at.After-sum_up c).At-loop-k in
    let s = list l in
    ap done c.sum_up.ensures
    ∙ summed_done (bad_length (length s)) (record_in s) blank_year (length s / 16) (sym l.bad_length.ensures ∙ l.if-bad_length.false) l.loop-k.k-counter l.loop-k.y (omega arith) l.loop-k.invariant

pub invariant_of-result : goal.invariant_of-result
invariant_of-result c = record { sound = sound_read c.args.list.now c.sum_up.new.y (sym (reads c)) }

pub returns : goal.returns
returns c = reads (goal.at.returns c).After-sum_up
