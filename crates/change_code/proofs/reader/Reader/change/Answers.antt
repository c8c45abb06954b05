use Rattle.std.proofs.Common.{arith, sym, ◌∙◌}
use Rattle.std.proofs.lemmas.Result.{err_from_is_err_and}
use Rattle.change_code.proofs.Changes.{none_short, none_lacking, none_longer}
use Rattle.change_code.proofs.reader.Reader.change.Goals as goal

pub returns-in_default : goal.returns-in_default
returns-in_default c = none_short c.args.self.now c.in_default.ensures

pub returns-in_err-change : goal.returns-in_err-change
returns-in_err-change c =
    let p = err_from_is_err_and c.from_residual.result c.from_residual.ensures.1 in
    rw (p.1, p.2) (none_lacking _ c.args.self.now c.half_word.new.self c.edits.new.self c.in-Some.n (omega arith) c.in-Some.ensures c.in_err-change.ensures)

pub returns-else-is_empty : goal.returns-else-is_empty
returns-else-is_empty c =
    none_longer c.args.self.now c.half_word.new.self c.edits.new.self c.in-Some.n c.in_ok-change.change (omega arith) c.in-Some.ensures c.in_ok-change.ensures
    (sym c.is_empty.ensures ∙ c.if-is_empty.false)
