use Rattle.std.proofs.Common.{sym, ◌∙◌, ap, subst}
use Rattle.party_show.specs.Show.{shown}
use Rattle.x_pair.specs.Outcomes.{showing}
use Rattle.x_pair.specs.Steps.{HasActed}
use Rattle.x_pair.proofs.Acted.{displayed, not_displayed}
use Rattle.x_pair.proofs.Opened.{not_opened}
use Rattle.x_pair.proofs.acting.show_over.Goals as goal

pub returns-in-Ok-show_text : goal.returns-in-Ok-show_text
returns-in-Ok-show_text g c =
    displayed g.D.Disk.told c.args.disks c.in-Ok.mirror c.in-Ok.ensures c.into_disks.result c.into_disks.ensures c.in-Ok-show_text.text
    (c.in-Ok-show_text.ensures ∙ ap shown c.view.ensures.party)

pub returns-in-Err-show_text : goal.returns-in-Err-show_text
returns-in-Err-show_text g c =
    not_displayed g.D.Disk.told c.args.disks showing c.in-Ok.mirror c.in-Ok.ensures c.into_disks-in-Err-show_text.result c.into_disks-in-Err-show_text.ensures

pub returns-in-Err : goal.returns-in-Err
returns-in-Err g c =
    subst (λ o. HasActed showing g.D.Disk.told c.args.disks c.in-Err.field-0.disks o) (sym c.outcome_of.ensures)
    (not_opened g.D.Disk.told c.args.disks showing c.in-Err.field-0 c.in-Err.ensures)
