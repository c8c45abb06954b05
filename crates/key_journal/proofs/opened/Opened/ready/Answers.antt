use Rattle.std.proofs.Common.{◌∙◌, ap, sym, subst}
use Rattle.key_journal.specs.States.{IsReady}
use Rattle.key_journal.proofs.OpenLemmas.{ready_state}
use Rattle.key_journal.proofs.opened.Opened.ready.Goals as goal

pub new-requires : goal.new-requires
new-requires g c =
    let i = c.self.inside in
    subst (λ d. IsReady (g.D.Disk.told d) i.gate i.end) (sym c.into_disk.ensures) (ready_state (g.D.Disk.told i.reader.disk) i.reader.size i.gate i.end i.ended c.self.invariant (ap (λ s. s.ended) c.self.view_is ∙ c.requires))
