-- `numbered`: a blank, and the number behind it.
use Rattle.text.proofs.PutLaws as law
use Rattle.text.proofs.numbered.Goals as goal

pub returns : goal.returns
returns c = law.puts c.put-end.ensures c.number.ensures c.requires
