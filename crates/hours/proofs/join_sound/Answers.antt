-- `join_sound`: the terms' refusal, or the hours behind their year.
use mathlib.Core.Path.{◌≡◌, ◌∙◌, ap, sym}
use borrow.Author.Rules.{rules}
use Rattle.std.specs.Prelude.{Err}
use Rattle.year.specs.SoundYear.{answer_inside}
use Rattle.records.specs.declared.Refusal.{Refusal}
use Rattle.records.specs.Reading.{done}
use Rattle.records.proofs.ResultLaws.{error_of, value_of}
use Rattle.hours.specs.declared.JoiningRefusal.TheVariants.{InTerms, InHours}
use Rattle.hours.specs.Joining.{term_list, in_hours}
use Rattle.hours.proofs.JoinLaws.{listed_under, join_behind, join_in_terms, front_empty}
use Rattle.hours.proofs.join_sound.Goals as goal
use Rattle.hours.proofs.join_sound.Goals.{In_ok-front}

front_done : (c : In_ok-front) → term_list c.args.terms.now ≡ done c.in_ok-front.front.year
front_done c = sym c.read_terms.ensures ∙ ap answer_inside (value_of _ _ c.map_err.ensures.variant _ c.map_err.ensures.cases _ c.in_ok-front.was)

pub returns-in_err-front : goal.returns-in_err-front
returns-in_err-front c =
    let each : (q : Refusal) → c.read_terms.result ≡ Err q → c.map_err.result ≡ Err (InTerms q) = λ q e. let h = rw e at c.map_err.ensures.cases in search rules in
    let q = error_of _ _ c.map_err.ensures.variant InTerms each _ c.in_err-front.was in
    let back : c.from_residual.result ≡ Err c.in_err-front.field-0.0 = search rules in
    ap answer_inside back ∙ ap Err {y = InTerms q.0} q.2 ∙ join_in_terms c.args.terms.now c.args.hours.now q.0 (sym c.read_terms.ensures ∙ ap answer_inside q.1)

pub read_hours-requires : goal.read_hours-requires
read_hours-requires c = record { no_course = front_empty c.args.terms.now c.in_ok-front.front.year (front_done (goal.at.read_hours-requires c).In_ok-front) }

pub returns : goal.returns
returns c =
    let each : (q : Refusal) → c.read_hours.result ≡ Err q → c.map_err-2.result ≡ Err (InHours q) = λ q e. let h = rw e at c.map_err-2.ensures.cases in search rules in
    listed_under _ _ _ c.map_err-2.ensures.cases each ∙ ap in_hours c.read_hours.ensures ∙ join_behind c.args.terms.now c.args.hours.now c.in_ok-front.front.year (front_done (goal.at.returns c).In_ok-front)
