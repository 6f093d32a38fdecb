-- Inner: a text written into a buffer, and the piece that one more term adds to a text.
use Rattle.std.specs.Prelude.{ℕ, ◌+◌, Bool, List, [], ◌++◌, ◌≡◌, length}
use Rattle.std.proofs.Math.Seq.{paste}
use Rattle.theory.specs.Bits.{has}
use Rattle.theory.specs.Choice.{choose}
use Rattle.text.specs.Text.{comma, decimal_of}

-- the text t stands in d at a place, the rest of d is as it was, and r is the place behind it
pub record Put (d : List ℕ) (at : ℕ) (t : List ℕ) (d' : List ℕ) (r : ℕ) : Type 0 where
  pub next : r ≡ at + length t
  pub wrote : d' ≡ paste d at t (length t)
  pub long : length d' ≡ length d

-- a comma, where some term stands before
abbrev pub comma_of : Bool → List ℕ
comma_of some = choose some comma []

-- what term j adds behind those below it
unfoldable pub piece_of : Bool → ℕ → ℕ → List ℕ
piece_of some l j = choose (has l j) (comma_of some ++ decimal_of j) []
