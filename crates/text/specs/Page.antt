-- Inner: the room of a page.
use Rattle.std.specs.Prelude.{ℕ, ◌+◌, ◌≤◌, List, length}

-- a page that holds the text s has room for the text t behind it
abbrev pub Room : List ℕ → List ℕ → Type 0
Room s t = length s + length t ≤ 3436
