use Rattle.std.proofs.Common.{rules}
use Rattle.fact_book.proofs.Ends.{length_texts}
use Rattle.fact_book.proofs.texts.Texts.len.Goals as goal

pub returns-clause-count : goal.returns-clause-count
returns-clause-count c = rw (← c.self.view_is) (rw (length_texts 0 c.self.inside.ends.items c.self.inside.bytes.items) (search rules))
