-- Inner, not to be believed: two moves of a term, as the code makes them at once: a low bound raised, then its high bound lowered.
use Rattle.std.specs.Prelude.{ℕ, ◌||◌}
use Rattle.year.specs.Bound.{Tight, tightened}
use Rattle.year.specs.declared.Quantity.{Quantity}
use Rattle.year.specs.declared.Side.TheVariants.{Low, High}
use Rattle.year.specs.declared.Term.{Term}

-- one move, and another from the term that it left
abbrev pub then_tight : Tight → Tight → Tight
then_tight v w = record { term = w.term; altered = v.altered || w.altered; crossed = v.crossed || w.crossed }

-- the bounds of q brought within a to b
unfoldable pub within : Quantity → Term → ℕ → ℕ → Tight
within q t a b = let v = tightened Low q t a in then_tight v (tightened High q v.term b)
