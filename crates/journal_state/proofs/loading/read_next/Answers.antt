use Rattle.std.proofs.Common.{◌≡◌, ℕ, List, Option, Some, Ok, sym, subst}
use Rattle.std.proofs.lemmas.Result.{err_from_is_err_and}
use Rattle.key_journal.specs.Opening.{IsFound, found_at}
use Rattle.key_journal.specs.declared.cause.Cause.TheVariants as cause
use Rattle.journal_state.specs.Loading.{ReadTo, Stops}
use Rattle.journal_state.proofs.Frames.{next_stops, next_unsound, next_none, next_read, never_unsound, is_never_refused}
use Rattle.journal_state.proofs.loading.read_next.Goals as goal

pub returns-in_err-body-clause-never_refused : goal.returns-in_err-body-clause-never_refused
returns-in_err-body-clause-never_refused g c =
    let p = err_from_is_err_and c.from_residual.result c.from_residual.ensures.1 in
    rw (p.1, p.2) (is_never_refused g.J.Judge.step g.J.Judge.start (g.D.Disk.told c.args.opened.now.disk) c.in_err-body.field-0.0 c.in_err-body.ensures.undamaged)

pub returns-in_err-body-clause-stops : goal.returns-in_err-body-clause-stops
returns-in_err-body-clause-stops g c =
    let told = g.D.Disk.told in
    let p = err_from_is_err_and c.from_residual.result c.from_residual.ensures.1 in
    rw (p.1, p.2)
    (next_stops g.J.Judge.step g.J.Judge.start (told c.args.opened.now.disk) (told c.next.new.self.disk) c.args.opened.now.gate c.args.opened.now.end c.args.state.now c.requires c.in_err-body.field-0.0 c.in_err-body.ensures.exact c.in_err-body.ensures.names)

pub returns-in_default-clause-all : goal.returns-in_default-clause-all
returns-in_default-clause-all g c =
    let told = g.D.Disk.told in
    λ is. (
      c.in_ok-body.ensures.ended c.in_default.is,
      next_none g.J.Judge.step g.J.Judge.start (told c.args.opened.now.disk) (told c.next.new.self.disk) c.args.opened.now.gate c.args.opened.now.end c.args.state.now c.requires g.met.J.Judge.one_next c.next.ensures.still.now (c.in_ok-body.ensures.all c.in_default.is) (c.in_ok-body.ensures.only c.in_default.is),
    )

pub returns-in-Ok-true-clause-read : goal.returns-in-Ok-true-clause-read
returns-in-Ok-true-clause-read g c =
    let told = g.D.Disk.told in
    let more = rw c.in-Some.is at c.in_ok-body.ensures.more in
    λ is. subst (λ (e : ℕ). ReadTo g.J.Judge.step g.J.Judge.start (told c.next.new.self.disk) c.next.new.self.gate e c.follow.new.self) (sym c.next.ensures.end)
    (next_read g.J.Judge.step g.J.Judge.start (told c.args.opened.now.disk) (told c.next.new.self.disk) c.args.opened.now.gate c.args.opened.now.end c.args.state.now c.requires c.next.new.self.gate c.in-Some.body c.follow.new.self c.next.ensures.still.now more
    (subst (λ (b : List ℕ). g.J.Judge.step b c.args.state.now c.follow.new.self) c.bytes.ensures (c.in-Ok-true.ensures.yes c.in-Ok-true.field-0-test)))

pub returns-in-Ok-false-clause-stops : goal.returns-in-Ok-false-clause-stops
returns-in-Ok-false-clause-stops g c =
    let told = g.D.Disk.told in
    let v = told c.args.opened.now.disk in
    subst (λ (n : ℕ). Stops g.J.Judge.step g.J.Judge.start v c.args.opened.now.gate (cause.Damaged n)) (sym c.gate-gate.ensures)
    (next_unsound g.J.Judge.step g.J.Judge.start v (told c.next.new.self.disk) c.args.opened.now.gate c.args.opened.now.end c.args.state.now c.requires c.in-Some.body
    (subst (λ (o : Option (List ℕ)). (b : List ℕ) → v.now ≡ Some b → IsFound (found_at b c.args.opened.now.gate c.args.opened.now.end) (Ok o)) c.in-Some.is c.in_ok-body.ensures.exact)
    (λ s is. c.in-Ok-false.ensures.no c.in-Ok-false.field-0-test s (subst (λ (b : List ℕ). g.J.Judge.step b c.args.state.now s) (sym c.bytes.ensures) is)))

pub returns-in-Ok-false-clause-never_refused : goal.returns-in-Ok-false-clause-never_refused
returns-in-Ok-false-clause-never_refused g c =
    let told = g.D.Disk.told in
    let more = rw c.in-Some.is at c.in_ok-body.ensures.more in
    never_unsound g.J.Judge.step g.J.Judge.start (told c.args.opened.now.disk) (told c.next.new.self.disk) c.args.opened.now.gate c.args.opened.now.end c.args.state.now c.requires g.met.J.Judge.one_next c.next.ensures.still.now c.next.new.self.gate c.in-Some.body more c.next.ensures.first (cause.Damaged c.gate-gate.result)
    (λ s is. c.in-Ok-false.ensures.no c.in-Ok-false.field-0-test s (subst (λ (b : List ℕ). g.J.Judge.step b c.args.state.now s) (sym c.bytes.ensures) is))
