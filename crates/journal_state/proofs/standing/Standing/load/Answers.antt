use Rattle.std.proofs.Common.{rules, sym, ◌∙◌, subst}
use Rattle.x_disk.specs.Disk.{IsUntouched}
use Rattle.journal_state.proofs.Loaded.{read_over, never_refused_on, loaded_exact, sound_head}
use Rattle.journal_state.proofs.standing.Standing.load.Goals as goal

pub returns-in-Ok-read_state : goal.returns-in-Ok-read_state
returns-in-Ok-read_state g c =
    let told = g.D.Disk.told in
    record {
      stands = search rules;
      exact =
          loaded_exact g.J.Judge.step g.J.Judge.start (told c.args.disk) (told c.read_state.new.opened.disk) c.in-Ok-read_state.state (c.read_state.ensures.journal.still.now ∙ c.in-Ok.ensures.opened.now) c.in-Ok-read_state.ensures.stands;
      not_blank = λ image now. sound_head image (c.in-Ok.ensures.opened.exact image now);
      refused = tt;
      names = tt;
      never_refused = tt;
      untouched = subst (λ d. IsUntouched (told c.args.disk) (told d)) (sym c.ready.ensures.disk)
          (read_over (told c.args.disk) (told c.in-Ok.opened.disk) (told c.read_state.new.opened.disk) c.in-Ok.ensures.opened.now c.in-Ok.ensures.images c.in-Ok.ensures.any_moment c.read_state.ensures.journal.still);
      fault = tt;
      faults = search rules;
    }

pub returns-in-Err-read_state : goal.returns-in-Err-read_state
returns-in-Err-read_state g c =
    let told = g.D.Disk.told in
    record {
      stands = tt;
      exact = tt;
      not_blank = tt;
      refused = search rules;
      names = search rules;
      never_refused = never_refused_on g.J.Judge.step g.J.Judge.start (told c.args.disk) (told c.in-Ok.opened.disk) c.in-Err-read_state.cause c.in-Ok.ensures.opened.now c.in-Err-read_state.ensures.never_refused;
      untouched = subst (λ d. IsUntouched (told c.args.disk) (told d)) (sym c.into_disk.ensures.disk)
          (read_over (told c.args.disk) (told c.in-Ok.opened.disk) (told c.read_state.new.opened.disk) c.in-Ok.ensures.opened.now c.in-Ok.ensures.images c.in-Ok.ensures.any_moment c.read_state.ensures.journal.still);
      fault = search rules;
      faults = search rules;
    }
