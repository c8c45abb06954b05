use Rattle.std.proofs.Common.{List, ℕ, Option, Ok, arith, sym, subst}
use Rattle.std.proofs.lemmas.Result.{err_from_is_err_and}
use Rattle.key_journal.specs.Reading.{IsReadOn}
use Rattle.key_store.proofs.ReadAhead.{IsUnderWay, some_frames, full, one_more, last, stopped, unkept}
use Rattle.key_store.proofs.ahead.read_ahead.Goals as goal

pub reading-preserved : goal.reading-preserved
reading-preserved g c =
    let told = g.D.Disk.told in
    subst (λ (l : List (List ℕ)). IsUnderWay told c.args.opened.now c.next.new.self l) (sym {A = List (List ℕ)} c.in_ok-push_body.ensures.more)
    (one_more told c.args.opened.now c.reading.opened c.reading.bodies.items c.reading.invariant c.next.new.self c.in-Some.body
    (subst (λ (o : Option (List ℕ)). IsReadOn told c.reading.opened c.next.new.self (Ok o)) c.in-Some.is c.in_ok-body.ensures) (omega arith))

pub returns-else-len-lt-MOST_CODES : goal.returns-else-len-lt-MOST_CODES
returns-else-len-lt-MOST_CODES g c =
    full g.D.Disk.told c.args.opened.now c.reading.opened c.reading.bodies.items c.reading.invariant (omega (arith, some_frames c.reading.bodies.items)) (omega (arith, c.gate.ensures))

pub returns-in_default : goal.returns-in_default
returns-in_default g c =
    last g.D.Disk.told c.args.opened.now c.reading.opened c.reading.bodies.items c.reading.invariant c.next.new.self
    (subst (λ (o : Option (List ℕ)). IsReadOn g.D.Disk.told c.reading.opened c.next.new.self (Ok o)) c.in_default.is c.in_ok-body.ensures) (omega (arith, c.gate.ensures))

pub returns-in_err-body : goal.returns-in_err-body
returns-in_err-body g c =
    let p = err_from_is_err_and c.from_residual.result c.from_residual.ensures.1 in
    rw (p.1, p.2)
    (stopped g.D.Disk.told c.args.opened.now c.reading.opened c.reading.bodies.items c.reading.invariant c.next.new.self c.in_err-body.field-0.0 c.in_err-body.ensures (omega (arith, c.gate.ensures)))

pub returns-in_err-push_body : goal.returns-in_err-push_body
returns-in_err-push_body g c =
    let p = err_from_is_err_and c.from_residual-in_err-push_body.result c.from_residual-in_err-push_body.ensures.1 in
    rw (p.1, p.2, c.in_err-push_body.ensures.kept, c.in_err-push_body.ensures.cause)
    (unkept g.D.Disk.told c.args.opened.now c.reading.opened c.reading.bodies.items c.reading.invariant c.next.new.self c.in-Some.body
    (subst (λ (o : Option (List ℕ)). IsReadOn g.D.Disk.told c.reading.opened c.next.new.self (Ok o)) c.in-Some.is c.in_ok-body.ensures) (omega (arith, c.gate.ensures)))
