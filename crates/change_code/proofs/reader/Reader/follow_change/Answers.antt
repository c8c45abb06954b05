use Rattle.std.proofs.Common.{arith}
use Rattle.change_code.proofs.Steps.{too_short, edits_missing, all_done}
use Rattle.change_code.proofs.reader.Reader.follow_change.Goals as goal

pub returns-in_default : goal.returns-in_default
returns-in_default c = too_short c.args.self.now c.args.state.now c.in_default.ensures

pub returns-then-branch : goal.returns-then-branch
returns-then-branch c =
    all_done c.is_empty.result c.args.self.now c.half_word.new.self c.follow_edits.new.self c.in-Some.n c.args.state.now c.follow_edits.new.state (omega arith) c.in-Some.ensures
    (rw c.if-branch.true at c.in_ok-follow_edits.ensures) c.is_empty.ensures

pub returns-else-branch : goal.returns-else-branch
returns-else-branch c =
    edits_missing c.args.self.now c.half_word.new.self c.in-Some.n c.args.state.now (omega arith) c.in-Some.ensures
    (rw c.if-branch.false at c.in_ok-follow_edits.ensures)
