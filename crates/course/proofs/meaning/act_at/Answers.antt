use Rattle.std.proofs.lemmas.Result.{err_from_is_err_and}
use Rattle.course.proofs.Meant.{makes_event_some}
use Rattle.course.proofs.meaning.act_at.Goals as goal

pub returns-in_err-heard-clause-makes_event : goal.returns-in_err-heard-clause-makes_event
returns-in_err-heard-clause-makes_event c =
    let p = err_from_is_err_and c.from_residual.result c.from_residual.ensures.1 in
    rw p.1 (makes_event_some c.law_hearing.ensures c.args.line.now c.in_default.ensures.none c.args.texts.now)
