use Rattle.csm_grammar.proofs.Hexing.{is_eight, not_eight}
use Rattle.csm_grammar.proofs.contents.eight_digits.Goals as goal

pub returns-in-Ok : goal.returns-in-Ok
returns-in-Ok c = is_eight c.args.digits.now c.in-Ok.bytes c.from_be_bytes.result c.in-Ok.ensures c.from_be_bytes.ensures

pub returns-in-Err : goal.returns-in-Err
returns-in-Err c = not_eight c.args.digits.now c.in-Err.field-0 c.in-Err.ensures
