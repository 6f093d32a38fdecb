-- `row`: the word, and the numbers behind it.
use Rattle.text.specs.Text.{numbers_of, row_of}
use Rattle.text.proofs.PutLaws as law
use Rattle.text.proofs.row.Goals as goal

pub put-end-requires : goal.put-end-requires
unfolding row_of
put-end-requires c = law.room_first _ c.args.at _ (numbers_of c.args.ns.now) c.requires

pub numbers-requires : goal.numbers-requires
unfolding row_of
numbers-requires c = law.room _ c.put-end.ensures c.requires

pub returns : goal.returns
unfolding row_of
returns c = law.puts c.put-end.ensures c.numbers.ensures c.requires
