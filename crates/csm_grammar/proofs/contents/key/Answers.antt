use Rattle.csm_grammar.proofs.Hexing.{is_key, no_key}
use Rattle.csm_grammar.proofs.contents.key.Goals as goal

pub returns-in-Ok : goal.returns-in-Ok
returns-in-Ok c = is_key c.args.contents.now c.in-Ok.bytes c.from_be_bytes.result c.in-Ok.ensures c.from_be_bytes.ensures

pub returns-in-Err : goal.returns-in-Err
returns-in-Err c = no_key c.args.contents.now c.in-Err.field-0 c.in-Err.ensures
