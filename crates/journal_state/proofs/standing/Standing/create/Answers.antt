use Rattle.std.proofs.Common.{rules, ◌≡◌, ◌⊎◌, inl, ◌≤◌, [], ◌∷◌, is_some, refl, sym, ◌∙◌, subst, arith}
use Rattle.x_base.specs.Edge.{Rose}
use Rattle.x_disk.specs.Disk.{LeavesOnly, Tells}
use Rattle.key_journal.specs.Opening.{IsFree}
use Rattle.journal_state.specs.States.{IsBlankOrFor}
use Rattle.journal_state.proofs.Loaded.{rose_later}
use Rattle.journal_state.proofs.Carried.{made_standing}
use Rattle.journal_state.proofs.Begun.{looked, laid, free_cause, fault_of}
use Rattle.journal_state.proofs.standing.Standing.create.Goals as goal

pub returns-in-Ok-create-clause-made : goal.returns-in-Ok-create-clause-made
returns-in-Ok-create-clause-made g c =
    let told = g.D.Disk.told in
    let is = c.requires in
    let create = c.in-Ok-create.ensures in
    record {
      made = refl;
      stands = made_standing g.J.Judge.step g.J.Judge.start (told c.in-Ok.blank.disk) (told c.in-Ok-create.ready.disk) c.in-Ok-create.ready.gate c.in-Ok-create.ready.end c.args.state create.tells
          (λ tells. (is.body ∷ [], create.created is.body is.is_body is.is tells, (c.args.state, is.leads, refl))) create.durable create.room;
      blank = c.in-Ok.ensures.blank;
      exact = tt;
      names = tt;
      nothing_written = search rules;
      any_moment = laid g.J.Judge.step g.J.Judge.start c.args.state (told c.args.disk) (told c.in-Ok.blank.disk) (told c.in-Ok-create.ready.disk) is.body (c.args.state, is.leads, refl)
          c.in-Ok.ensures.any_moment c.in-Ok.ensures.tells (create.any_moment is.body is.is_body is.is);
      fault = tt;
      faults = omega (arith, c.in-Ok.ensures.faults, create.faults);
      tells = create.tells ∙ c.in-Ok.ensures.tells;
    }

pub returns-in-Err-clause-made : goal.returns-in-Err-clause-made
returns-in-Err-clause-made g c =
    let told = g.D.Disk.told in
    let unprepared = c.in-Err.ensures in
    record {
      made = tt;
      stands = tt;
      blank = tt;
      exact = unprepared.exact;
      names = unprepared.names;
      nothing_written = unprepared.nothing_written;
      any_moment = looked g.J.Judge.step g.J.Judge.start c.args.state (told c.args.disk) (told c.in-Err.unmade.disk) unprepared.any_moment;
      fault = unprepared.fault;
      faults = unprepared.faults;
      tells = unprepared.tells;
    }

pub returns-in-Err-create-clause-made : goal.returns-in-Err-create-clause-made
returns-in-Err-create-clause-made g c =
    let told = g.D.Disk.told in
    let is = c.requires in
    let broken = c.in-Err-create.broken in
    let failed = c.in-Err-create.ensures in
    record {
      made = tt;
      stands = tt;
      blank = tt;
      exact = λ b now. inl (subst IsFree (sym c.give_up.ensures.cause) (free_cause broken.cause));
      names = inl (subst IsFree (sym c.give_up.ensures.cause) (free_cause broken.cause));
      nothing_written = search rules;
      any_moment =
          subst (λ d. Tells (told c.args.disk) → LeavesOnly (told c.args.disk) (told d) (λ image. IsBlankOrFor g.J.Judge.step g.J.Judge.start c.args.state image ⊎ (told c.args.disk).may_leave image)) (sym c.give_up.ensures.disk)
          (laid g.J.Judge.step g.J.Judge.start c.args.state (told c.args.disk) (told c.in-Ok.blank.disk) (told broken.disk) is.body (c.args.state, is.leads, refl)
          c.in-Ok.ensures.any_moment c.in-Ok.ensures.tells (failed.any_moment is.body is.is_body is.is));
      fault = λ fault.
          subst (λ d. Rose (told c.args.disk).faults (told d).faults) (sym c.give_up.ensures.disk)
          (rose_later (told c.args.disk).faults (told c.in-Ok.blank.disk).faults (told broken.disk).faults c.in-Ok.ensures.faults (failed.cause.fault (fault_of broken.cause (sym c.give_up.ensures.cause ∙ fault))));
      faults = subst (λ d. (told c.args.disk).faults ≤ (told d).faults) (sym c.give_up.ensures.disk) (omega (arith, c.in-Ok.ensures.faults, failed.faults));
      tells = subst (λ d. is_some (told d).now ≡ is_some (told c.args.disk).now) (sym c.give_up.ensures.disk) (failed.tells ∙ c.in-Ok.ensures.tells);
    }
