use Rattle.x917.proofs.Lawful.{reached, behind}
use Rattle.x917.proofs.courses.law_courses.Goals as goal

pub returns-clause-reached : goal.returns-clause-reached
returns-clause-reached c = reached c.law_lawful.ensures c.law_played_honest.ensures

pub returns-clause-behind : goal.returns-clause-behind
returns-clause-behind c =
    behind c.law_lawful.ensures c.law_played_honest.ensures
    c.law_runs.ensures.goes_on c.law_runs.ensures.honest
