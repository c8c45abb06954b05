use Rattle.change_code.proofs.Names.{lacks_text}
use Rattle.change_code.proofs.reader.Reader.text.Goals as goal

pub returns-else-text-le-LONGEST_TEXT : goal.returns-else-text-le-LONGEST_TEXT
returns-else-text-le-LONGEST_TEXT c = lacks_text _ _ c.in_ok-text.text.now c.in_ok-text.ensures.code c.in_ok-text.ensures.length c.if-text-le-LONGEST_TEXT.false
