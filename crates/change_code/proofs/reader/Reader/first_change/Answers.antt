use Rattle.std.proofs.Common.{◌≡◌, ◌+◌, ◌-◌, ◌∙◌, sym, arith}
use Rattle.change_code.proofs.FirstBodies.{no_edits, begin_missing, others_missing, bytes_left}
use Rattle.change_code.proofs.reader.Reader.first_change.Goals.{else-branch-via-then-branch+else-is_empty, else-branch-via-else-branch}
use Rattle.change_code.proofs.reader.Reader.first_change.Goals as goal

pub returns-then-n-eq0 : goal.returns-then-n-eq0
returns-then-n-eq0 c = no_edits c.args.self.now c.half_word.new.self c.in-Some.n (omega arith) c.in-Some.ensures (omega (arith, c.if-n-eq0.true))

pub returns-in_default-2 : goal.returns-in_default-2
returns-in_default-2 c = begin_missing c.args.self.now c.half_word.new.self c.in-Some.n (omega arith) c.in-Some.ensures (rw c.in_default-2.is at c.in_ok-state.ensures)

pub returns-else-branch : goal.returns-else-branch
returns-else-branch c =
    let done = rw c.in-Some-2.is at c.in_ok-state.ensures in
    let one : c.in-Some.n ≡ c.in-Some.n - 1 + 1 = omega (arith, c.if-n-eq0.false) in
    elim c.else-branch.branch [
      | else-branch-via-then-branch+else-is_empty w ↦
          bytes_left c.args.self.now c.half_word.new.self c.begin_state.new.self c.follow_edits.new.self c.in-Some.n (c.in-Some.n - 1) c.in-Some-2.state c.follow_edits.new.state (omega arith) c.in-Some.ensures one done
          (rw w.if-branch.true at c.in_ok-follow_edits.ensures) (sym w.is_empty.ensures ∙ w.if-is_empty.false)
      | else-branch-via-else-branch w ↦
          others_missing c.args.self.now c.half_word.new.self c.begin_state.new.self c.in-Some.n (c.in-Some.n - 1) c.in-Some-2.state (omega arith) c.in-Some.ensures one done
          (rw w.if-branch.false at c.in_ok-follow_edits.ensures)
    ]
