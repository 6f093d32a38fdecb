-- A term list as a number: bit j says that term j is listed.
use Rattle.std.specs.Prelude.{ℕ, ◌/◌, ◌%◌, ◌^◌, Bool, eqb}

-- the list l names term j
abbrev pub has : ℕ → ℕ → Bool
has l j = eqb (l / 2 ^ j % 2) 1
