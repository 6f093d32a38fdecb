-- What the calls for other languages leave in a lent buffer: by cases of the answers of the reading and of the call.
use Prim.Native.Nat.{ℕ, ◌+◌, ◌*◌, ◌≤◌}
use mathlib.Core.List.{List, ◌++◌}
use mathlib.Core.Path.{◌≡◌, refl, sym, ap, ◌∙◌}
use native.Mathlib.Omega.{arith}
use lib.Dec.{eqb, ltb}
use lib.ListN.{length, drop}
use borrow.Author.Tests.{lt-ltb, le-ltb}
use Rattle.std.specs.Prelude.{Result, Ok, Err}
use Rattle.theory.proofs.ChoiceLaws.{choose_any}
use Rattle.year.specs.Sound.{Sound}
use Rattle.year.specs.Numbers.{narrowing_number}
use Rattle.year.specs.declared.Year.{Year}
use Rattle.year.specs.declared.Narrowed.{Narrowed}
use Rattle.year.specs.declared.NarrowingRefusal.{NarrowingRefusal}
use Rattle.records.specs.Numbers.{reading_number}
use Rattle.records.specs.Reading.{read_list, year_read, done}
use Rattle.records.specs.Writing.{records_of, written}
use Rattle.records.specs.declared.Refusal.{Refusal}
use Rattle.records.proofs.GatherLaws.{fault_some, is_done}
use Rattle.records.proofs.ListLaws.{read_length, read_sound}
use Rattle.records.proofs.WriteLaws.{records_length, written_is}
use Rattle.hours.specs.Numbers.{joining_number}
use Rattle.hours.specs.Joining.{join_of, year_joined}
use Rattle.hours.specs.declared.JoiningRefusal.{JoiningRefusal}
use Rattle.hours.proofs.JoinLaws.{is_joined, unjoined_numbered, joint}
use Rattle.filter.specs.Filter.{filter_of}
use Rattle.filter.specs.Numbers.{filter_number}
use Rattle.filter.specs.declared.Answer.{Answer}
use Rattle.filter.specs.declared.Answer.TheVariants.{Settled, Open, NoPlan, Unsound}
use Rattle.boundary.specs.Calls.{left_when_read, filter_left, filter_out, narrow_of, narrow_left, narrow_out, left_when_joined, join_out}
use Rattle.filter.proofs.RoundLaws.{filter_narrower}
use Rattle.year.specs.declared.Quantity.TheVariants as quantity
use Rattle.year.specs.declared.Side.TheVariants.{Low, High}
use Rattle.promises.specs.Narrowings.{Narrow, place, bar, tighten, narrow}
use Rattle.promises.specs.Boundary.{FilterLeaves, NarrowLeaves, JoinLeaves, BufferLeft}
use Rattle.promises.proofs.Narrowings.{refusal_some, narrow_narrower}

-- ---- reading

left_done : (r : Result Year Refusal) → reading_number r ≡ 0 → (own b : List ℕ) → left_when_read r own b ≡ own
left_done (Ok y) e own b = refl
left_done (Err q) e own b = absurd (fault_some q.fault e)

left_unread : (r : Result Year Refusal) → (reading_number r ≡ 0 → ⊥) → (own b : List ℕ) → left_when_read r own b ≡ b
left_unread (Ok y) n own b = absurd (n refl)
left_unread (Err q) n own b = refl

left_same : (r : Result Year Refusal) (own b : List ℕ) → own ≡ b → left_when_read r own b ≡ b
left_same (Ok y) own b e = e
left_same (Err q) own b e = refl

-- a list has sixteen bytes for each term and course that was read
list_length : (s : List ℕ) (y : Year) → read_list s ≡ done y → length s ≡ (y.terms + y.courses) * 16
list_length s y e = sym (read_length s y e)

-- a sound year of as many terms and courses fills as many bytes
filled : (s b : List ℕ) (y z : Year) → read_list s ≡ done y → Sound z → z.terms ≡ y.terms → z.courses ≡ y.courses → length s ≤ length b
    → written z b ≡ records_of z ++ drop (length s) b
filled s b y z e sound terms courses room =
    let l : length (records_of z) ≡ length s = omega (arith, records_length z, list_length s y e) in
    written_is z b sound (omega arith) ∙ ap (λ (n : ℕ). records_of z ++ drop n b) l

-- ---- filtering

filter_done : (a : Answer) → filter_number a ≡ 0 → (z : Year) (b : List ℕ) → filter_left a z b ≡ written z b
filter_done (Settled n) e z b = refl
filter_done (Open n) e z b = refl
filter_done (NoPlan r n) e z b = absurd (omega arith)
filter_done Unsound e z b = absurd (omega arith)

filter_undone : (a : Answer) → (filter_number a ≡ 0 → ⊥) → (z : Year) (b : List ℕ) → filter_left a z b ≡ b
filter_undone (Settled n) e z b = absurd (e refl)
filter_undone (Open n) e z b = absurd (e refl)
filter_undone (NoPlan r n) e z b = refl
filter_undone Unsound e z b = refl

filter_leaves : (s b : List ℕ) → FilterLeaves s b
unfolding filter_out
filter_leaves s b =
    let y = year_read (read_list s) in
    let z = (filter_of y).year in record {
      fills = λ r room e.
          let is = is_done (read_list s) r in
          let w = filter_narrower y (read_sound s y is) in
          left_done (read_list s) r _ b ∙ rw (le-ltb (length b) (length s) room) (filter_done (filter_of y).answer e z b ∙ filled s b y z is w.sound w.terms_same w.courses_same room);
      unread = λ n. left_unread (read_list s) n _ b;
      short = λ h. left_same (read_list s) _ b (rw (lt-ltb (length b) (length s) h) refl);
      no_plan = λ n. left_same (read_list s) _ b (choose_any (λ (o : List ℕ). o ≡ b) (ltb (length b) (length s)) b (filter_left (filter_of y).answer z b) refl (filter_undone (filter_of y).answer n z b));
    }

-- ---- narrowing

narrow_done : (a : Result (Unit {0}) NarrowingRefusal) → narrowing_number a ≡ 0 → (z : Year) (b : List ℕ) → narrow_left a z b ≡ written z b
narrow_done (Ok done) e z b = refl
narrow_done (Err r) e z b = absurd (refusal_some r e)

narrow_undone : (a : Result (Unit {0}) NarrowingRefusal) → (narrowing_number a ≡ 0 → ⊥) → (z : Year) (b : List ℕ) → narrow_left a z b ≡ b
narrow_undone (Ok done) n z b = absurd (n refl)
narrow_undone (Err r) n z b = refl

-- what any kind of narrowing hands back
abbrev SoundAlike : Year → Narrowed → Type 0
SoundAlike y r = Sound r.year × (r.year.terms ≡ y.terms) × (r.year.courses ≡ y.courses)

sound_alike : (y : Year) → Sound y → (n : Narrow) → SoundAlike y (narrow n y)
sound_alike y s n = let w = narrow_narrower n y s in (w.sound, w.terms_same, w.courses_same)

narrow_alike : (y : Year) → Sound y → (kind i j : ℕ) → SoundAlike y (narrow_of y kind i j)
unfolding narrow_of
narrow_alike y s kind i j =
    choose_any (SoundAlike y) (eqb kind 0) _ _ (sound_alike y s (place i j))
    (choose_any (SoundAlike y) (eqb kind 1) _ _ (sound_alike y s (bar i j))
    (choose_any (SoundAlike y) (eqb kind 2) _ _ (sound_alike y s (tighten Low quantity.Credits i j))
    (choose_any (SoundAlike y) (eqb kind 3) _ _ (sound_alike y s (tighten High quantity.Credits i j))
    (choose_any (SoundAlike y) (eqb kind 4) _ _ (sound_alike y s (tighten Low quantity.Counts i j))
    (choose_any (SoundAlike y) (eqb kind 5) _ _ (sound_alike y s (tighten High quantity.Counts i j)) (s, refl, refl))))))

narrow_leaves : (s : List ℕ) (kind i j : ℕ) (b : List ℕ) → NarrowLeaves s kind i j b
unfolding narrow_out
narrow_leaves s kind i j b =
    let y = year_read (read_list s) in
    let n = narrow_of y kind i j in record {
      fills = λ r room e.
          let is = is_done (read_list s) r in
          let w = narrow_alike y (read_sound s y is) kind i j in
          left_done (read_list s) r _ b ∙ rw (le-ltb (length b) (length s) room) (narrow_done n.answer e n.year b ∙ filled s b y n.year is w.0 w.1 w.2 room);
      unread = λ f. left_unread (read_list s) f _ b;
      short = λ h. left_same (read_list s) _ b (rw (lt-ltb (length b) (length s) h) refl);
      refused = λ f. left_same (read_list s) _ b (choose_any (λ (o : List ℕ). o ≡ b) (ltb (length b) (length s)) b (narrow_left n.answer n.year b) refl (narrow_undone n.answer f n.year b));
    }

-- ---- joining

joined_left : (r : Result Year JoiningRefusal) → joining_number r ≡ 0 → (own b : List ℕ) → left_when_joined r own b ≡ own
joined_left (Ok y) e own b = refl
joined_left (Err q) e own b = absurd (unjoined_numbered (Err q) q refl e)

unjoined_left : (r : Result Year JoiningRefusal) → (joining_number r ≡ 0 → ⊥) → (own b : List ℕ) → left_when_joined r own b ≡ b
unjoined_left (Ok y) n own b = absurd (n refl)
unjoined_left (Err q) n own b = refl

joined_same : (r : Result Year JoiningRefusal) (own b : List ℕ) → own ≡ b → left_when_joined r own b ≡ b
joined_same (Ok y) own b e = e
joined_same (Err q) own b e = refl

join_leaves : (t h b : List ℕ) → JoinLeaves t h b
unfolding join_out
join_leaves t h b =
    let y = year_joined (join_of t h) in
    let n = length t + length h in record {
      fills = λ e room.
          let j = joint t h y (is_joined (join_of t h) e) in
          let l : length (records_of y) ≡ n = omega (arith, records_length y, j.term_bytes_lem, j.course_bytes_lem) in
          joined_left (join_of t h) e _ b
          ∙ rw (le-ltb (length b) n room) (written_is y b j.sound (omega arith) ∙ ap (λ (m : ℕ). records_of y ++ drop m b) l);
      refused = λ f. unjoined_left (join_of t h) f _ b;
      short = λ l. joined_same (join_of t h) _ b (rw (lt-ltb (length b) n l) refl);
    }

pub buffer_left : BufferLeft
buffer_left = record { by_filtering = filter_leaves; by_narrowing = narrow_leaves; by_joining = join_leaves }
