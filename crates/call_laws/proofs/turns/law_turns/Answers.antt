use Rattle.call_laws.proofs.Turning.{turn_is, cut_is}
use Rattle.call_laws.proofs.turns.law_turns.Goals as goal

pub returns-clause-whole : goal.returns-clause-whole
returns-clause-whole g c = turn_is g.D.Disk.told

pub returns-clause-cut : goal.returns-clause-cut
returns-clause-cut g c = cut_is
