use Rattle.std.proofs.Common.{◌∙◌}
use Rattle.call_ends.proofs.Decisions.{unheard_checked, unheard_exact, unanswered, exact_unanswered, done, part, exact_done}
use Rattle.call_ends.proofs.checking.check.Goals as goal

pub returns-in-Err-clause-checked : goal.returns-in-Err-clause-checked
returns-in-Err-clause-checked g c = unheard_checked _ _ _ c.in-Err.status c.in-Err.ensures.unheard

pub returns-in-Err-clause-exact : goal.returns-in-Err-clause-exact
returns-in-Err-clause-exact g c = λ read_quiet put_quiet.
    unheard_exact c.law_one_hearing.ensures _ c.in-Err.status (g.S.Source.faults c.args.source.now) (g.S.Source.faults c.listen.new.source) c.in-Err.ensures.unheard c.in-Err.ensures.read_fault read_quiet

pub returns-in-Err-judge-clause-checked : goal.returns-in-Err-judge-clause-checked
returns-in-Err-judge-clause-checked g c =
    unanswered (g.S.Source.left c.args.source.now) (g.S.Source.left c.listen.new.source) c.in-Ok.arrival c.in-Ok.ensures.heard (g.K.Sink.written c.args.sink.now) c.in-Err-judge.status c.in-Err-judge.ensures.wrong

pub returns-in-Err-judge-clause-exact : goal.returns-in-Err-judge-clause-exact
returns-in-Err-judge-clause-exact g c = λ read_quiet put_quiet.
    exact_unanswered (g.S.Source.left c.args.source.now) (g.S.Source.left c.listen.new.source) c.in-Ok.arrival c.in-Ok.ensures.heard c.law_one_hearing.ensures c.in-Err-judge.status c.in-Err-judge.ensures.wrong

pub returns-in-Ok-put_all-clause-checked : goal.returns-in-Ok-put_all-clause-checked
returns-in-Ok-put_all-clause-checked g c =
    done (g.S.Source.left c.args.source.now) (g.S.Source.left c.listen.new.source) c.in-Ok.arrival c.in-Ok.ensures.heard c.in-Ok-judge.ensures.right.0 (g.K.Sink.written c.args.sink.now) (g.K.Sink.written c.put_all.new.sink)
    c.bytes.result.now (c.bytes.ensures ∙ c.in-Ok-judge.ensures.right.1) c.in-Ok-put_all.ensures.whole

pub returns-in-Ok-put_all-clause-exact : goal.returns-in-Ok-put_all-clause-exact
returns-in-Ok-put_all-clause-exact g c = λ read_quiet put_quiet.
    exact_done (g.S.Source.left c.args.source.now) (g.S.Source.left c.listen.new.source) c.in-Ok.arrival c.in-Ok.ensures.heard c.law_one_hearing.ensures c.in-Ok-judge.ensures.right.0

pub returns-clause-checked : goal.returns-clause-checked
returns-clause-checked g c =
    part (g.S.Source.left c.args.source.now) (g.S.Source.left c.listen.new.source) c.in-Ok.arrival c.in-Ok.ensures.heard c.in-Ok-judge.ensures.right.0 (g.K.Sink.written c.args.sink.now) (g.K.Sink.written c.put_all.new.sink)
    c.bytes.result.now (c.bytes.ensures ∙ c.in-Ok-judge.ensures.right.1) c.in-Err-put_all.ensures.part
