use Rattle.std.proofs.Common.{Some}
use Rattle.role_base.proofs.Decided.{accepts}
use Rattle.translation_role.specs.Service.{rfs_edits, rfs_reply}
use Rattle.translation_role.proofs.service.rfs_accepted.Goals as goal

pub returns : goal.returns
returns c =
    let p = c.args.state.now in
    let m = c.args.message.now in
    let l = c.args.from.now in
    let b = c.args.to.now in
    accepts c.accept.result p c.in_ok-edits.edits.items (rfs_edits m l b) (Some c.in_ok-written.written) (Some (rfs_reply p m l b)) c.accept.ensures c.in_ok-edits.ensures c.in_ok-written.ensures
