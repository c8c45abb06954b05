use Rattle.x_base.specs.declared.key_name.NameFault.TheVariants.{BadIdent}
use Rattle.std.proofs.Common.{Err}
use Rattle.x_base.proofs.Spelling.{read_parts, read_none, spelled, faulted}
use Rattle.x_base.proofs.key_name.KeyName.read.Goals as goal

pub returns-in-Some-clause-spelled : goal.returns-in-Some-clause-spelled
returns-in-Some-clause-spelled c = spelled c.args.bytes.now c.from_parts.result (read_parts c.args.bytes.now _ _ _ _ c.from_parts.result c.in-Some.ensures c.from_parts.ensures)

pub returns-in-Some-clause-fault : goal.returns-in-Some-clause-fault
returns-in-Some-clause-fault c = faulted c.args.bytes.now c.from_parts.result (read_parts c.args.bytes.now _ _ _ _ c.from_parts.result c.in-Some.ensures c.from_parts.ensures)

pub returns-in-None-clause-spelled : goal.returns-in-None-clause-spelled
returns-in-None-clause-spelled c = spelled c.args.bytes.now (Err BadIdent) (read_none c.args.bytes.now c.in-None.ensures)

pub returns-in-None-clause-fault : goal.returns-in-None-clause-fault
returns-in-None-clause-fault c = faulted c.args.bytes.now (Err BadIdent) (read_none c.args.bytes.now c.in-None.ensures)
