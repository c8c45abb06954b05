use Rattle.world_laws.proofs.Nodes.Compactions.{compaction_is, migration_is}
use Rattle.world_laws.proofs.compactions.law_compactions.Goals as goal

pub returns-clause-compaction : goal.returns-clause-compaction
returns-clause-compaction c = compaction_is

pub returns-clause-migration : goal.returns-clause-migration
returns-clause-migration c = migration_is
