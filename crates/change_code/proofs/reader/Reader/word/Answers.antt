use Rattle.change_code.proofs.Numbers.{lacks_word, begins_word}
use Rattle.change_code.proofs.reader.Reader.word.Goals as goal

pub returns-in_err-bytes : goal.returns-in_err-bytes
returns-in_err-bytes c = rw (c.from_residual.ensures, ← c.self.view_is) (lacks_word _ c.in_err-bytes.ensures.cases)

pub returns : goal.returns
returns c = let h = c.in_ok-bytes.ensures.cases in rw (← c.self.view_is) (begins_word _ _ _ _ h.0 h.1 c.word_of.type_inv c.word_of.ensures)
