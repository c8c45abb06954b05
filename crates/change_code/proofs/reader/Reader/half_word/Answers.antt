use Rattle.change_code.proofs.Numbers.{begins_two}
use Rattle.change_code.proofs.reader.Reader.half_word.Goals as goal

pub returns : goal.returns
returns c = let h = c.in_ok-bytes.ensures.cases in rw (← c.self.view_is) (begins_two _ _ _ _ h.0 h.1 c.half_word_of.ensures)
