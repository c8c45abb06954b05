use Rattle.std.proofs.Common.{sym}
use Rattle.std.proofs.lemmas.List.{take_all}
use Rattle.csm_grammar.specs.Spelling.{message_limit}
use Rattle.csm_read.proofs.reading.judged.Goals as goal

pub returns-then-bytes-le-LIMIT : goal.returns-then-bytes-le-LIMIT
returns-then-bytes-le-LIMIT c = sym (take_all message_limit c.args.bytes.now c.if-bytes-le-LIMIT.true)
