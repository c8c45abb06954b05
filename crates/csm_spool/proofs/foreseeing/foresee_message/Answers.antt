use Rattle.std.proofs.Common.{subst}
use Rattle.party_state.specs.Ranges.{IsParty}
use Rattle.csm_spool.proofs.Entries.{foreseen}
use Rattle.csm_spool.proofs.foreseeing.foresee_message.Goals as goal

pub returns-then-is_short : goal.returns-then-is_short
returns-then-is_short g c =
    foreseen c.law_ranged.ensures c.args.node c.args.entry.now c.args.arrival c.in-Ok.planned c.in-Ok-plan_of.plan (subst IsParty c.view.ensures.party c.law_party.ensures) c.requires c.in-Ok.ensures.planned c.in-Ok-plan_of.ensures.plan
    c.in-Ok-plan_of.ensures.number c.in-Ok-plan_of.ensures.change (c.is_short.ensures.0 c.if-is_short.true)
