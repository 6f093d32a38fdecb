-- A bound is a side of a quantity. Tightening one bound of a term is the one move that narrowings and rules on bounds make.
use Rattle.std.specs.Prelude.{ℕ, ◌≤◌, max, min, Bool, ltb, Option, Some, None, Result, Ok, Err}
use Rattle.theory.specs.Choice.{choose}
use Rattle.year.specs.Year.{term_of, term_at}
use Rattle.year.specs.declared.Crossed.{Crossed}
use Rattle.year.specs.declared.Quantity.{Quantity}
use Rattle.year.specs.declared.Quantity.TheVariants.{Credits, Counts}
use Rattle.year.specs.declared.Side.{Side}
use Rattle.year.specs.declared.Side.TheVariants.{Low, High}
use Rattle.year.specs.declared.Term.{Term}
use Rattle.year.specs.declared.Year.{Year}

-- ---- a term's four bounds

abbrev pub bound_of : Side → Quantity → Term → ℕ
bound_of Low Credits t = t.low.0
bound_of High Credits t = t.high.0
bound_of Low Counts t = t.least.0
bound_of High Counts t = t.most.0

-- the term with one of them replaced
abbrev pub with_bound : Side → Quantity → Term → ℕ → Term
with_bound Low Credits t n = term_of n t.high.0 t.least.0 t.most.0
with_bound High Credits t n = term_of t.low.0 n t.least.0 t.most.0
with_bound Low Counts t n = term_of t.low.0 t.high.0 n t.most.0
with_bound High Counts t n = term_of t.low.0 t.high.0 t.least.0 n

-- that of term k
abbrev pub bound : Side → Quantity → Year → ℕ → ℕ
bound s q y k = bound_of s q (term_at y k)

-- the largest of the sizes
abbrev pub largest_bound : Quantity → ℕ
largest_bound Credits = 64000
largest_bound Counts = 64

-- ---- sides

abbrev pub opposite : Side → Side
opposite Low = High
opposite High = Low

-- x is at least a low bound n, at most a high one
abbrev pub Keeps : Side → ℕ → ℕ → Type 0
Keeps Low n x = n ≤ x
Keeps High n x = x ≤ n

-- n lies to the inside of x: above it, for a low bound, and below it for a high one
abbrev pub beyond : Side → ℕ → ℕ → Bool
beyond Low n x = ltb x n
beyond High n x = ltb n x

-- the inner of the two
abbrev pub inner : Side → ℕ → ℕ → ℕ
inner Low n x = max x n
inner High n x = min x n

-- ---- the move

-- a term after its bounds were made tighter: whether one moved, and whether a pair crossed
pub record Tight : Type 0 where
  pub term : Term
  pub altered : Bool
  pub crossed : Bool

-- a low bound raised to n, or a high one lowered to n. It never loosens, and beyond its opposite it has crossed
unfoldable pub tightened : Side → Quantity → Term → ℕ → Tight
tightened s q t n = record {
  term = with_bound s q t (inner s n (bound_of s q t));
  altered = beyond s n (bound_of s q t);
  crossed = beyond s (inner s n (bound_of s q t)) (bound_of (opposite s) q t);
}

-- what is told of it: that the pair would cross, or the tighter term if a bound moved
abbrev pub moved_of : Tight → Result (Option Term) Crossed
moved_of w = choose w.crossed (Err (record {})) (Ok (choose w.altered (Some w.term) None))
