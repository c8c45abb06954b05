use Rattle.change_code.specs.declared.format.Format.TheVariants.{Two}
use Rattle.member.specs.Deciding.{decision}
use Rattle.member.specs.Leads.{lead_in}
use Rattle.mirror_store.proofs.Fitting.{has_none, has_room}
use Rattle.mirror_store.proofs.room.law_room.Goals as goal

pub returns-clause-full : goal.returns-clause-full
returns-clause-full c = λ x i moment. has_none (c.law_can_compact.ensures.fits Two) (c.law_can_compact.ensures.too_large Two) x (lead_in x.party i) (decision x.party i moment)

pub returns-clause-fits : goal.returns-clause-fits
returns-clause-fits c = λ x i moment. has_room (c.law_can_compact.ensures.fits Two) (c.law_can_compact.ensures.too_large Two) x (lead_in x.party i) (decision x.party i moment)
