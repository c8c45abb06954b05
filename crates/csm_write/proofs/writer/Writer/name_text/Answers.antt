use Rattle.x_base.specs.KeyName.{written}
use Rattle.csm_write.proofs.Named.{name_from}
use Rattle.csm_write.proofs.writer.Writer.name_text.Goals as goal

pub returns-clause-name : goal.returns-clause-name
returns-clause-name c = name_from (written c.args.name.now) c.args.name.now c.write.ensures.reads_back
