use Rattle.change_code.proofs.Numbers.{read_count}
use Rattle.change_code.proofs.reader.Reader.count.Goals as goal

pub returns : goal.returns
returns c = read_count _ _ _ c.of.result c.in_ok-word.ensures c.of.ensures
