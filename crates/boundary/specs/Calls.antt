-- The calls on byte lists: what each tells, its code, and what it leaves in the lent buffer.
-- Refusals come in rising number: reading's, then 9, then the call's own.
use Rattle.std.specs.Prelude.{ℕ, ◌+◌, List, eqb, ltb, length, Result, Ok, Err}
use Rattle.theory.specs.Choice.{choose}
use Rattle.year.specs.Narrow.{answered, place_of, bar_of, raise_low_credits_of, lower_high_credits_of, raise_low_count_of, lower_high_count_of}
use Rattle.year.specs.Imbalance.{imbalance_of}
use Rattle.year.specs.declared.Year.{Year}
use Rattle.year.specs.declared.NarrowingRefusal.{NarrowingRefusal}
use Rattle.year.specs.declared.NarrowingRefusal.TheVariants.{Missing}
use Rattle.year.specs.declared.Narrowed.{Narrowed}
use Rattle.records.specs.Reading.{read_list, year_read}
use Rattle.records.specs.Writing.{written}
use Rattle.records.specs.declared.Refusal.{Refusal}
use Rattle.hours.specs.Joining.{join_of, year_joined}
use Rattle.hours.specs.declared.JoiningRefusal.{JoiningRefusal}
use Rattle.filter.specs.Filter.{filter_of}
use Rattle.filter.specs.declared.Answer.{Answer}
use Rattle.filter.specs.declared.Answer.TheVariants.{Settled, Open, NoPlan, Unsound}
use Rattle.boundary.specs.Packed.{Told, packed, reading_told, joining_told, short_told, narrowing_told, measured_told, answer_told}

-- what a call itself tells where the list was read, otherwise what reading tells
abbrev pub when_read : Result Year Refusal → Told → Told
when_read (Ok y) own = own
when_read (Err r) own = reading_told (Err r)

-- the same for a call that wants a buffer of `room` bytes for a list of n: it may be short
abbrev pub when_room : ℕ → ℕ → Told → Told
when_room room n own = choose (ltb room n) short_told own

-- what a call leaves in the buffer b where the list was read, otherwise b
abbrev pub left_when_read : Result Year Refusal → List ℕ → List ℕ → List ℕ
left_when_read (Ok y) own b = own
left_when_read (Err r) own b = b

-- ---- read, and imbalance

abbrev pub read_told : List ℕ → Told
read_told s = reading_told (read_list s)

unfoldable pub read_code : List ℕ → ℕ
read_code s = packed (read_told s)

abbrev pub imbalance_told : List ℕ → Told
imbalance_told s = when_read (read_list s) (measured_told (imbalance_of (year_read (read_list s))))

unfoldable pub imbalance_code : List ℕ → ℕ
imbalance_code s = packed (imbalance_told s)

-- ---- filter

-- the records of the filtered year, where it is settled or open
abbrev pub filter_left : Answer → Year → List ℕ → List ℕ
filter_left (Settled n) z b = written z b
filter_left (Open n) z b = written z b
filter_left (NoPlan r n) z b = b
filter_left Unsound z b = b

-- the list and the length of the buffer
abbrev pub filter_told : List ℕ → ℕ → Told
filter_told s room = when_read (read_list s) (when_room room (length s) (answer_told (filter_of (year_read (read_list s))).answer))

unfoldable pub filter_code : List ℕ → ℕ → ℕ
filter_code s room = packed (filter_told s room)

-- the list and the buffer
unfoldable pub filter_out : List ℕ → List ℕ → List ℕ
filter_out s b =
    left_when_read (read_list s)
    (choose (ltb (length b) (length s)) b
    (filter_left (filter_of (year_read (read_list s))).answer (filter_of (year_read (read_list s))).year b))
    b

-- ---- narrow

-- kinds: 0 place course a in term b, 1 bar course a from term b, 2 to 5 a bound of term a to b; of another kind there is none
unfoldable pub narrow_of : Year → ℕ → ℕ → ℕ → Narrowed
narrow_of y kind a b =
    choose (eqb kind 0) (place_of y a b)
    (choose (eqb kind 1) (bar_of y a b)
    (choose (eqb kind 2) (raise_low_credits_of y a b)
    (choose (eqb kind 3) (lower_high_credits_of y a b)
    (choose (eqb kind 4) (raise_low_count_of y a b)
    (choose (eqb kind 5) (lower_high_count_of y a b) (answered (Err Missing) y))))))

-- the records of the narrowed year, where it is done
abbrev pub narrow_left : Result (Unit {0}) NarrowingRefusal → Year → List ℕ → List ℕ
narrow_left (Ok done) z b = written z b
narrow_left (Err refusal) z b = b

abbrev pub narrow_told : List ℕ → ℕ → ℕ → ℕ → ℕ → Told
narrow_told s kind a b room =
    when_read (read_list s) (when_room room (length s) (narrowing_told (narrow_of (year_read (read_list s)) kind a b).answer))

unfoldable pub narrow_code : List ℕ → ℕ → ℕ → ℕ → ℕ → ℕ
narrow_code s kind a b room = packed (narrow_told s kind a b room)

unfoldable pub narrow_out : List ℕ → ℕ → ℕ → ℕ → List ℕ → List ℕ
narrow_out s kind a b out =
    left_when_read (read_list s)
    (choose (ltb (length out) (length s)) out
    (narrow_left (narrow_of (year_read (read_list s)) kind a b).answer (narrow_of (year_read (read_list s)) kind a b).year out))
    out

-- ---- join

-- what the call itself tells, or leaves in the buffer b, where both lists were taken; otherwise what the joining tells, and b
abbrev pub when_joined : Result Year JoiningRefusal → Told → Told
when_joined (Ok y) own = own
when_joined (Err r) own = joining_told (Err r)

abbrev pub left_when_joined : Result Year JoiningRefusal → List ℕ → List ℕ → List ℕ
left_when_joined (Ok y) own b = own
left_when_joined (Err r) own b = b

-- the terms' list, the hours list, and the length of the buffer, which is to hold as many bytes as both
abbrev pub join_told : List ℕ → List ℕ → ℕ → Told
join_told t h room = when_joined (join_of t h) (when_room room (length t + length h) (joining_told (join_of t h)))

unfoldable pub join_code : List ℕ → List ℕ → ℕ → ℕ
join_code t h room = packed (join_told t h room)

-- the two lists and the buffer
unfoldable pub join_out : List ℕ → List ℕ → List ℕ → List ℕ
join_out t h b =
    left_when_joined (join_of t h) (choose (ltb (length b) (length t + length h)) b (written (year_joined (join_of t h)) b)) b
