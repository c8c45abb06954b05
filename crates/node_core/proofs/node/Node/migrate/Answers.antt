use Rattle.std.proofs.Common.{◌∙◌, ap, subst, sym}
use Rattle.member.specs.Acts.{migrating}
use Rattle.key_store.specs.Compacting.{IsMigrating}
use Rattle.node_core.specs.Turns.{IsTurn, WantsNone, member_of, turn_of}
use Rattle.node_core.proofs.Others.{migrated}
use Rattle.node_core.proofs.node.Node.migrate.Goals as goal

pub returns-clause-turn : goal.returns-clause-turn
returns-clause-turn g c =
    let told = g.D.Disk.told in
    let law = c.law_can_compact.ensures in
    subst (λ t. IsTurn told c.args.self (migrating (member_of c.args.self)) t) (sym c.of_kept.ensures)
    (migrated told c.args.self (g.met.D.Disk.sound c.args.self.disk) c.view.ensures.stands law.fits law.too_large c.migrate.result
    (subst (λ s. IsMigrating told s c.migrate.result) c.self.view_is c.migrate.ensures))

pub returns-clause-memory : goal.returns-clause-memory
returns-clause-memory g c = λ two.
    let is = subst (λ s. IsMigrating g.D.Disk.told s c.migrate.result) c.self.view_is c.migrate.ensures in
    subst (λ t. WantsNone t) (sym (c.of_kept.ensures ∙ ap turn_of (is.in_two two))) tt
