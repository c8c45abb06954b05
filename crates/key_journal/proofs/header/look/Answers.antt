use Rattle.std.proofs.Common.{◌∙◌, refl}
use Rattle.key_journal.proofs.OpenLemmas.{header_read}
use Rattle.key_journal.proofs.header.look.Goals as goal

pub returns-clause-header : goal.returns-clause-header
returns-clause-header g c = λ b is.
    let synced = c.sync.ensures.now ∙ is in
    let told = c.length.ensures.still.now ∙ synced in
    header_read c.in_ok-length.length c.min-held.result c.read.new.buf _ _ b (c.in_ok-length.ensures.value b synced) c.min-held.ensures refl c.read.auto.buf (c.in_ok-read.ensures.value b told)
