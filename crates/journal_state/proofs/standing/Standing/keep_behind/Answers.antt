use Rattle.journal_state.specs.States.{stood}
use Rattle.journal_state.proofs.Carried.{not_staged, not_committed, committed, committed_standing}
use Rattle.journal_state.proofs.standing.Standing.keep_behind.Goals as goal

pub returns-in-Err : goal.returns-in-Err
returns-in-Err g c = λ old standing is.
    not_staged g.J.Judge.step g.J.Judge.start g.D.Disk.told (stood c.args.ready old) c.args.next standing c.args.frame.now is c.in-Err.broken c.in-Err.ensures

pub returns-in-Err-commit : goal.returns-in-Err-commit
returns-in-Err-commit g c = λ old standing is.
    not_committed g.J.Judge.step g.J.Judge.start g.D.Disk.told (stood c.args.ready old) c.args.next standing c.args.frame.now is c.in-Ok.staged c.in-Ok.ensures c.in-Err-commit.broken c.in-Err-commit.ensures

pub invariant_of-result : goal.invariant_of-result
invariant_of-result g c =
    let given = c.requires.frame in
    committed_standing g.J.Judge.step g.J.Judge.start g.D.Disk.told (stood c.args.ready given.0) c.args.next given.1 c.args.frame.now given.2 c.in-Ok.staged c.in-Ok.ensures c.in-Ok-commit.ready c.in-Ok-commit.ensures

pub returns-in-Ok-commit : goal.returns-in-Ok-commit
returns-in-Ok-commit g c = λ old standing is.
    committed g.J.Judge.step g.J.Judge.start g.D.Disk.told (stood c.args.ready old) c.args.next standing c.args.frame.now is c.in-Ok.staged c.in-Ok.ensures c.in-Ok-commit.ready c.in-Ok-commit.ensures
