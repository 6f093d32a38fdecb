-- `numbers`: the numbers passed so far stand in the buffer.
use Rattle.text.specs.Put.{Put}
use Rattle.text.proofs.TextLaws.{first_numbers}
use Rattle.text.proofs.numbers.Given as goal

abbrev pub invariant-loop-n : goal.invariant-loop-n
invariant-loop-n l = Put l.initial.buf l.at (first_numbers l.ns l.n-index) l.buf l.end
