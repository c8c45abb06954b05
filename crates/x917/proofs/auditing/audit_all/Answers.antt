use Rattle.std.proofs.Common.{refl}
use Rattle.call_ends.specs.declared.status.Status.TheVariants as status
use Rattle.x917.proofs.Audits.{expects_confirmed, expects_unconfirmed, of_taken, unaudited, without_memory}
use Rattle.x917.proofs.auditing.audit_all.Goals as goal

pub returns-in-Err-NoMemory-clause-audits : goal.returns-in-Err-NoMemory-clause-audits
returns-in-Err-NoMemory-clause-audits g c = (without_memory (g.S.Source.left c.args.source.now), refl)

pub returns-in-Err-clause-audits : goal.returns-in-Err-clause-audits
returns-in-Err-clause-audits g c =
    unaudited (g.S.Source.left c.args.source.now) (g.S.Source.left c.gather.new.source) (g.K.Sink.written c.args.sink.now) c.in-Ok.input c.bytes.result.now c.in-Ok.ensures.front c.bytes.ensures
    c.in-Err.status c.in-Err.ensures.found

pub returns-in-Err-clause-expects : goal.returns-in-Err-clause-expects
returns-in-Err-clause-expects g c = λ read_quiet put_quiet.
    of_taken (g.S.Source.left c.args.source.now) c.in-Ok.input c.bytes.result.now c.in-Err.status c.in-Ok.ensures.front c.bytes.ensures
    (expects_unconfirmed c.bytes.result.now c.in-Err.status c.in-Err.ensures.only)

pub returns-in_default-clause-audits : goal.returns-in_default-clause-audits
returns-in_default-clause-audits g c = (without_memory (g.S.Source.left c.args.source.now), refl)

pub returns-in-Ok-put_all-clause-expects : goal.returns-in-Ok-put_all-clause-expects
returns-in-Ok-put_all-clause-expects g c = λ read_quiet put_quiet.
    of_taken (g.S.Source.left c.args.source.now) c.in-Ok.input c.bytes.result.now status.Done c.in-Ok.ensures.front c.bytes.ensures
    (expects_confirmed c.bytes.result.now c.in-Ok-find.tally c.in-Ok-find.ensures.only)
