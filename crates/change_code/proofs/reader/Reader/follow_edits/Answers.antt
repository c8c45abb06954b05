use Rattle.std.proofs.Common.{arith}
use Rattle.change_code.proofs.Steps.{none_done, one_more_done, next_missing}
use Rattle.change_code.proofs.reader.Reader.follow_edits.Goals as goal

pub following-init : goal.following-init
following-init c = none_done c.args.self.now c.args.state.now

pub following-preserved : goal.following-preserved
following-preserved c =
    one_more_done c.following.counter c.args.self.now c.following.self c.follow_edit.new.self c.args.state.now c.following.state c.follow_edit.new.state c.following.invariant
    (rw c.if-not-branch.false at c.in_ok-follow_edit.ensures)

pub returns-then-not-branch : goal.returns-then-not-branch
returns-then-not-branch c =
    next_missing c.args.n c.following.counter c.args.self.now c.following.self c.args.state.now c.following.state (omega arith) c.following.invariant
    (rw c.if-not-branch.true at c.in_ok-follow_edit.ensures)
