-- The numbers 8, 9 and 13 of writing and of filtering, by cases.
use Prim.Native.Nat.{ℕ, suc, ◌≤◌, ◌<◌}
use mathlib.Core.Bool.{Bool, true, false, true≢false}
use mathlib.Core.Logic.{◌↔◌}
use mathlib.Core.Path.{◌≡◌, refl, sym, ap, ◌∙◌}
use native.Mathlib.Omega.{arith}
use lib.Dec.{leb}
use lib.ListN.{length}
use borrow.Author.Tests.{leb-true, leb-false}
use Rattle.std.specs.Prelude.{Result, Ok, Err}
use Rattle.theory.specs.Choice.{choose}
use Rattle.year.specs.Sound.{Sound, is_sound}
use Rattle.year.specs.Sums.{all_placed}
use Rattle.year.specs.declared.Year.{Year}
use Rattle.year.proofs.SoundLaws.{sound_of, sound_to}
use Rattle.records.specs.Numbers.{writing_number}
use Rattle.records.specs.Writing.{records_of, write_answer}
use Rattle.records.specs.declared.WritingRefusal.{WritingRefusal}
use Rattle.records.specs.declared.WritingRefusal.TheVariants.{Unsound, Short}
use Rattle.rules.proofs.RuleNumberLaws.{number_within}
use Rattle.filter.specs.Filter.{filter_of}
use Rattle.filter.specs.Numbers.{filter_number, filter_rule, filter_rounds}
use Rattle.filter.specs.declared.Answer.{Answer}
use Rattle.filter.specs.declared.Answer.TheVariants.{Settled, Open}
use Rattle.filter.specs.declared.Filtered.{Filtered}
use Rattle.filter.proofs.RoundLaws.{answer_few}
use Rattle.promises.specs.Rounds.{Ends, finds_no_plan, comes_to_rest}
use Rattle.promises.specs.Answers.{SoundTold, WritingDue, FilteringDue}
use Rattle.promises.proofs.Rounds.{filter_runs}
use Rattle.promises.proofs.RoundsKept.{filter_unsound}

pub sound_told : SoundTold
sound_told y = (sound_of y, sound_to y)

pub no-sound : (y : Year) → is_sound y ≡ false → Sound y → ⊥
no-sound y e s = true≢false (sym (sound_to y s) ∙ e)

-- ---- writing

-- how a writing into a buffer of `room` bytes ends
data WriteEnds (y : Year) (room : ℕ) : Result (Unit {0}) WritingRefusal → Type 0 where
  unsound : (Sound y → ⊥) → WriteEnds y room (Err Unsound)
  short : Sound y → room < length (records_of y) → WriteEnds y room (Err Short)
  done : Sound y → length (records_of y) ≤ room → WriteEnds y room (Ok tt)

write-ends : (y : Year) (room : ℕ) → WriteEnds y room (write_answer y room)
unfolding write_answer
write-ends y room = go (is_sound y) refl (leb (length (records_of y)) room) refl
  where
    go : (a : Bool) → is_sound y ≡ a → (b : Bool) → leb (length (records_of y)) room ≡ b
        → WriteEnds y room (choose a (choose b (Ok tt) (Err Short)) (Err Unsound))
    go false p b q = unsound (no-sound y p)
    go true p false q = short (sound_of y p) (leb-false _ _ q)
    go true p true q = done (sound_of y p) (leb-true _ _ q)

pub writing_due : WritingDue
writing_due = record {
  unsound = λ y room. eight (write-ends y room);
  short = λ y room. nine (write-ends y room);
  done = λ y room. none (write-ends y room);
}
  where
    eight : {y : Year} {room : ℕ} {w : Result (Unit {0}) WritingRefusal} → WriteEnds y room w → (writing_number w ≡ 8) ↔ (Sound y → ⊥)
    eight (unsound d) = (λ q. d, λ z. refl)
    eight (short s h) = (λ q. absurd (omega arith), λ z. absurd (z s))
    eight (done s h) = (λ q. absurd (omega arith), λ z. absurd (z s))

    nine : {y : Year} {room : ℕ} {w : Result (Unit {0}) WritingRefusal} → WriteEnds y room w → (writing_number w ≡ 9) ↔ (Sound y × (room < length (records_of y)))
    nine (unsound d) = (λ q. absurd (omega arith), λ z. absurd (d z.0))
    nine (short s h) = (λ q. (s, h), λ z. refl)
    nine (done s h) = (λ q. absurd (omega arith), λ z. absurd (omega (arith, z.1)))

    none : {y : Year} {room : ℕ} {w : Result (Unit {0}) WritingRefusal} → WriteEnds y room w → (writing_number w ≡ 0) ↔ (Sound y × (length (records_of y) ≤ room))
    none (unsound d) = (λ q. absurd (omega arith), λ z. absurd (d z.0))
    none (short s h) = (λ q. absurd (omega arith), λ z. absurd (omega (arith, z.1)))
    none (done s h) = (λ q. (s, h), λ z. refl)

-- ---- filtering

-- what an answer to a sound year says: rounds, rule, number
record Said (a : Answer) : Type 0 where
  some_round : 1 ≤ filter_rounds a
  named : filter_number a ≡ 13 → 1 ≤ filter_rule a
  not_unsound : filter_number a ≡ 8 → ⊥

rest-said : (b : Bool) (n : ℕ) → Said (choose b (Settled (suc n)) (Open (suc n)))
rest-said true n = record { some_round = omega arith; named = λ q. absurd (omega arith); not_unsound = λ q. omega arith }
rest-said false n = record { some_round = omega arith; named = λ q. absurd (omega arith); not_unsound = λ q. omega arith }

end-said : (y z : Year) (n : ℕ) (f : Filtered) → Ends y n z f → Said f.answer
end-said y z n f (finds_no_plan r e) = record { some_round = omega arith; named = λ q. (number_within r).0; not_unsound = λ q. omega arith }
end-said y z n f (comes_to_rest e g) = rest-said (all_placed z) n

sound-said : (y : Year) → Sound y → Said (filter_of y).answer
sound-said y s = let f = filter_runs y s in end-said y f.reached f.rounds_before_last (filter_of y) f.ends

-- of a year that is not sound
unsound-number : (y : Year) → is_sound y ≡ false → filter_number (filter_of y).answer ≡ 8
unsound-number y e = ap (λ r. filter_number r.answer) (filter_unsound y e)

pub filtering_due : FilteringDue
filtering_due = record { unsound = λ y. eight y (is_sound y) refl; named = λ y. thirteen y (is_sound y) refl }
  where
    eight : (y : Year) (b : Bool) → is_sound y ≡ b → (filter_number (filter_of y).answer ≡ 8) ↔ (Sound y → ⊥)
    eight y true e = (λ q. absurd ((sound-said y (sound_of y e)).not_unsound q), λ z. absurd (z (sound_of y e)))
    eight y false e = (λ q. no-sound y e, λ z. unsound-number y e)

    thirteen : (y : Year) (b : Bool) → is_sound y ≡ b → filter_number (filter_of y).answer ≡ 13
        → (1 ≤ filter_rule (filter_of y).answer) × (filter_rule (filter_of y).answer ≤ 12) × (1 ≤ filter_rounds (filter_of y).answer)
    thirteen y true e q =
        let t = sound-said y (sound_of y e) in
        (t.named q, (answer_few y).0, t.some_round)
    thirteen y false e q = absurd (omega (arith, unsound-number y e, q))
