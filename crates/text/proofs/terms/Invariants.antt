-- `terms`: the terms passed so far stand in the buffer, and whether there are any is known.
use Rattle.std.proofs.Common.{◌≡◌}
use Rattle.text.specs.Text.{terms_to}
use Rattle.text.specs.Put.{Put}
use Rattle.text.proofs.TextLaws.{text_to, some_of}
use Rattle.text.proofs.terms.Given as goal

abbrev pub invariant-loop-j : goal.invariant-loop-j
invariant-loop-j l = Put l.initial.buf l.at (text_to l.list l.j) l.buf l.end × (l.some ≡ some_of (terms_to l.list l.j))
