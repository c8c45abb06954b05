use Rattle.std.proofs.Common.{sym, subst}
use Rattle.x_pair.specs.Looking.{IsFound}
use Rattle.x_pair.proofs.Likenesses.{nothing_found, party_found}
use Rattle.x_pair.proofs.comparing.look.Goals as goal

pub returns-in-Ok : goal.returns-in-Ok
returns-in-Ok g c = party_found g.D.Disk.told c.args.disk c.in-Ok.node c.in-Ok.ensures

pub returns-in-Err : goal.returns-in-Err
returns-in-Err g c =
    subst (λ f. IsFound g.D.Disk.told c.args.disk f) (sym c.found_with.ensures) (nothing_found g.D.Disk.told c.args.disk c.in-Err.field-0 c.in-Err.ensures)
