use Rattle.std.proofs.Common.{rules, arith}
use Rattle.std.proofs.lemmas.Result.{err_from_is_err_and}
use Rattle.journal_state.proofs.Loaded.{rose_later, still_on, stops_on, never_refused_on}
use Rattle.journal_state.proofs.loading.read_state.Goals as goal

pub returns-in_err-read_next-clause-stops : goal.returns-in_err-read_next-clause-stops
returns-in_err-read_next-clause-stops g c =
    let told = g.D.Disk.told in
    let p = err_from_is_err_and c.from_residual.result c.from_residual.ensures.1 in
    rw (p.1, p.2) (stops_on g.J.Judge.step g.J.Judge.start (told c.args.opened.now.disk) (told c.reading.opened.disk) c.in_err-read_next.field-0.0 c.reading.invariant.still.now c.reading.opened.gate c.in_err-read_next.ensures.stops)

pub returns-in_err-read_next-clause-never_refused : goal.returns-in_err-read_next-clause-never_refused
returns-in_err-read_next-clause-never_refused g c =
    let told = g.D.Disk.told in
    let p = err_from_is_err_and c.from_residual.result c.from_residual.ensures.1 in
    rw (p.1, p.2) (never_refused_on g.J.Judge.step g.J.Judge.start (told c.args.opened.now.disk) (told c.reading.opened.disk) c.in_err-read_next.field-0.0 c.reading.invariant.still.now c.in_err-read_next.ensures.never_refused)

pub returns-in_err-read_next-clause-journal : goal.returns-in_err-read_next-clause-journal
returns-in_err-read_next-clause-journal g c =
    let told = g.D.Disk.told in
    let p = err_from_is_err_and c.from_residual.result c.from_residual.ensures.1 in
    record {
      still = still_on (told c.args.opened.now.disk) (told c.reading.opened.disk) (told c.read_next.new.opened.disk) c.reading.invariant.still c.read_next.ensures.journal.still;
      faults = omega (arith, c.reading.invariant.faults, c.read_next.ensures.journal.faults);
      fault = rw (p.1, p.2) (λ is. rose_later (told c.args.opened.now.disk).faults (told c.reading.opened.disk).faults (told c.read_next.new.opened.disk).faults c.reading.invariant.faults (c.in_err-read_next.ensures.journal.fault is));
      names = rw (p.1, p.2) c.in_err-read_next.ensures.journal.names;
    }

pub returns-clause-journal : goal.returns-clause-journal
returns-clause-journal g c =
    let told = g.D.Disk.told in
    record {
      still = still_on (told c.args.opened.now.disk) (told c.reading.opened.disk) (told c.read_next.new.opened.disk) c.reading.invariant.still c.read_next.ensures.journal.still;
      faults = omega (arith, c.reading.invariant.faults, c.read_next.ensures.journal.faults);
      fault = search rules;
      names = search rules;
    }

pub returns-clause-stands : goal.returns-clause-stands
returns-clause-stands g c = (c.in_ok-read_next.ensures.all c.if-branch.false).1
