use Rattle.std.proofs.Common.{refl}
use Rattle.x917.proofs.Drills.{early_drill, early_write}
use Rattle.x917.proofs.Expected.{expects_done, expects_drill}
use Rattle.x917.proofs.drilling.drill_all.Goals as goal

pub returns-in-Err : goal.returns-in-Err
returns-in-Err g c =
    let drills = early_drill _ c.args.seed c.args.events c.in-Err.status (g.K.Sink.written c.args.sink.now) c.in-Err.ensures.early in
    let write = early_write _ c.args.seed c.args.events c.in-Err.status c.in-Err.ensures.early in
    record {
      drills = drills;
      expects = λ quiet. expects_drill c.law_one_scenario.ensures _ c.args.seed c.args.events _ _ c.in-Err.status drills write;
      output = record { silent = λ silent. refl; fault = λ is. absurd (write is) };
    }

pub returns-in-Ok-put_all-clause-expects : goal.returns-in-Ok-put_all-clause-expects
returns-in-Ok-put_all-clause-expects g c = λ quiet.
    expects_done c.law_one_scenario.ensures _ c.args.seed c.args.events (g.K.Sink.written c.args.sink.now) (g.K.Sink.written c.put_all.new.sink)
    c.in-Ok.tally c.in-Ok.ensures.drilled
