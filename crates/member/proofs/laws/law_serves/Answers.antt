use Rattle.member.proofs.ByClass.{serves}
use Rattle.member.proofs.laws.law_serves.Goals as goal

pub returns : goal.returns
returns c = serves c.law_serves.ensures.only c.law_serves-2.ensures.only
