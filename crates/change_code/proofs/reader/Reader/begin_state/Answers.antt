use Rattle.change_code.proofs.FirstBodies.{lacks_begin}
use Rattle.change_code.proofs.reader.Reader.begin_state.Goals as goal

pub returns-in-Err-Bad : goal.returns-in-Err-Bad
returns-in-Err-Bad c = lacks_begin c.args.self.now (rw c.in-Err-Bad.field-0-is at c.in-Err-Bad.ensures)
