use Rattle.scenario_drill.specs.Drill.{parties}
use Rattle.scenario_drill.proofs.Drilling.{five_more}
use Rattle.scenario_drill.proofs.writing.Script.parties.Goals as goal

pub returns : goal.returns
unfolding parties
returns c =
    five_more _ _ _ _ _ _ _ _ _ _ _ c.in_ok-party.ensures c.in_ok-party-2.ensures c.in_ok-party-3.ensures c.in_ok-party-4.ensures
    c.in_ok-party-5.ensures
