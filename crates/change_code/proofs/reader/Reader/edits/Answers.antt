use Rattle.std.proofs.Common.{arith}
use Rattle.std.proofs.lemmas.Result.{err_from_is_err_and}
use Rattle.change_code.proofs.Changes.{refused_edit, begins_edit}
use Rattle.change_code.proofs.reader.Reader.edits.Goals as goal

pub returns-in_err-edit : goal.returns-in_err-edit
returns-in_err-edit c =
    let p = err_from_is_err_and c.from_residual-in_err-edit.result c.from_residual-in_err-edit.ensures.1 in
    rw (p.1, p.2) (refused_edit _ c.args.n c.reading.counter c.args.self.now c.reading.self c.edit.new.self c.edit.new.self c.reading.change (omega arith) c.reading.invariant c.in_err-edit.ensures)

pub reading-preserved : goal.reading-preserved
reading-preserved c =
    rw c.in_ok-push.ensures.appends
    (begins_edit c.reading.counter c.args.self.now c.reading.self c.edit.new.self c.reading.change c.in_ok-edit.edit c.reading.invariant c.in_ok-edit.ensures)
