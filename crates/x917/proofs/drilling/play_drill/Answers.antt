use Rattle.x917.proofs.Drills.{drilled, drilled_up_to, only_ends}
use Rattle.x917.proofs.drilling.play_drill.Goals as goal

pub returns-in-Done-clause-drilled : goal.returns-in-Done-clause-drilled
returns-in-Done-clause-drilled c =
    drilled c.law_courses.ensures.reached c.law_courses.ensures.behind _ c.args.seed c.args.events c.in_ok-scenario.scenario c.in_ok-scenario.ensures.read c.law_scenario_starts.ensures
    c.play_alone.result c.play_alone.ensures c.law_counted.ensures.texts c.law_counted.ensures.events c.law_counted.ensures.listed c.law_counted.ensures.outcomes c.in-Done.tally c.in-Done.is

pub returns-in-Forged-clause-early : goal.returns-in-Forged-clause-early
returns-in-Forged-clause-early c =
    drilled_up_to c.law_courses.ensures.reached c.law_courses.ensures.behind _ c.args.seed c.args.events c.in_ok-scenario.scenario c.in_ok-scenario.ensures.read c.law_scenario_starts.ensures
    c.play_alone.result c.play_alone.ensures c.in-Forged.number c.in-Forged.is

pub unreachable-requires : goal.unreachable-requires
unreachable-requires c =
    only_ends _ c.in_ok-scenario.scenario c.play_alone.result c.play_alone.ensures c.in_default.not-Done c.in_default.not-Forged c.in_default.not-NoMemory
