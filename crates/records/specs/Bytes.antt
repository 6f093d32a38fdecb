-- The bytes and two-byte numbers of the record that starts at a place of a byte string.
use Rattle.std.specs.Prelude.{ℕ, ◌+◌, ◌-◌, ◌*◌, ◌<◌, Bool, List, eqb, length, get_or}
use Rattle.theory.specs.Tests.{all}

-- byte 0 of the record at a place
abbrev pub letter_at : List ℕ → ℕ → ℕ
letter_at s at = get_or s at 0

-- byte k of the record at a place
abbrev pub byte_at : List ℕ → ℕ → ℕ → ℕ
byte_at s at k = get_or s (at + k) 0

-- the number in bytes k and k + 1, high byte first
abbrev pub word_at : List ℕ → ℕ → ℕ → ℕ
word_at s at k = byte_at s at k * 256 + byte_at s at (k + 1)

abbrev pub blank_at : List ℕ → ℕ → ℕ → ℕ → Bool
blank_at s at k i = eqb (byte_at s at (k + i)) 0

-- the bytes from byte k to byte 15 are zero
abbrev pub blank_from : List ℕ → ℕ → ℕ → Bool
blank_from s at k = all (16 - k) (blank_at s at k)

-- every entry is a byte, as in each byte string of the program
abbrev pub AllBytes : List ℕ → Type 0
AllBytes s = (k : ℕ) → k < length s → get_or s k 0 < 256
