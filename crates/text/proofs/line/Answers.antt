-- `line`: the row, and its end.
use Rattle.text.specs.Text.{newline, line_of}
use Rattle.text.proofs.PutLaws as law
use Rattle.text.proofs.line.Goals as goal

pub row-end-requires : goal.row-end-requires
unfolding line_of
row-end-requires c = law.room_first _ c.args.at _ newline c.requires

pub put-requires : goal.put-requires
unfolding line_of
put-requires c = law.room _ c.row-end.ensures c.requires

pub returns : goal.returns
unfolding line_of
returns c = law.puts c.row-end.ensures c.put.ensures c.requires
