use Rattle.std.proofs.Common.{◌≡◌, ◌∙◌, inl, inr, refl, sym, subst}
use Rattle.x_disk.specs.Shelf.{alike_refl}
use Rattle.replay.specs.Playing.{around}
use Rattle.call_ends.specs.declared.status.Status.{Status}
use Rattle.call_ends.specs.declared.status.Status.TheVariants as status
use Rattle.x917.specs.Headline.{IsReplay, Says, SaysOfRun}
use Rattle.x917.specs.Expects.{IsSilentOf}
use Rattle.x_line.specs.declared.order.Order.TheVariants as order
use Rattle.x917.proofs.Expected.{expects_replay}
use Rattle.x917.proofs.Headlines.{says, says_of_run}
use Rattle.x917.proofs.Played.{never_read, refused_of, write_of, disk_of, unread_write, unread_disk}
use Rattle.x917.proofs.replaying.replay_all.Goals as goal

pub returns-in-Err : goal.returns-in-Err
returns-in-Err g c =
    let left = g.S.Source.left c.args.source.now in
    let rest = g.S.Source.left c.take_scenario.new.source in
    let written = g.K.Sink.written c.args.sink.now in
    let entry = g.H.Shelf.entry c.args.shelf.now in
    let faults = g.H.Shelf.faults c.args.shelf.now in
    let unread = c.in-Err.ensures.unread in
    let replays : IsReplay c.in-Err.status left rest written written entry entry faults faults = inl (unread, refl, λ name. alike_refl (entry name)) in
    record {
      replays = replays;
      expects = λ read_quiet put_quiet disk_quiet.
          expects_replay c.law_never_both.ensures c.law_one_first_bad.ensures c.law_one_scenario.ensures c.in-Err.status left rest written written entry entry faults faults replays
          (λ is. read_quiet (c.in-Err.ensures.read_fault is)) (unread_write left c.in-Err.status unread) (unread_disk left c.in-Err.status unread) disk_quiet;
      input = record { most = c.take_scenario.ensures.most; fault = c.in-Err.ensures.read_fault };
      output = record { silent = λ silent. refl; fault = λ is. absurd (unread_write left c.in-Err.status unread is) };
      disk_fault = λ is. absurd (unread_disk left c.in-Err.status unread is);
    }

pub returns : goal.returns
returns g c =
    let left = g.S.Source.left c.args.source.now in
    let rest = g.S.Source.left c.take_scenario.new.source in
    let before = g.K.Sink.written c.args.sink.now in
    let after = g.K.Sink.written c.play.new.sink in
    let old = g.H.Shelf.entry c.args.shelf.now in
    let new = g.H.Shelf.entry c.play.new.shelf in
    let fault = g.H.Shelf.faults c.args.shelf.now in
    let faults = g.H.Shelf.faults c.play.new.shelf in
    let lines = c.in-Ok.scenario in
    let s = c.status_of_play.result in
    let is = c.status_of_play.ensures in
    let p = c.play.ensures in
    let laws = c.law_courses.ensures in
    let around_it = around lines new fault faults before after in
    let replays : IsReplay s left rest before after old new fault faults = inr (
      lines,
      record {
        read = c.in-Ok.ensures.read;
        says = subst (λ (x : Status). Says old around_it x) (sym is) (says laws.reached laws.behind old around_it c.law_scenario_starts.ensures c.play.result p.refused p.played);
        runs = subst (λ (x : Status). SaysOfRun around_it x) (sym is) (says_of_run laws.reached laws.behind old around_it c.law_scenario_starts.ensures c.play.result p.runs);
        crash = p.crash;
        others = p.others;
      },
    ) in
    let read_never = λ (e : s ≡ status.ReadFault). never_read c.play.result (sym is ∙ e) in
    let write = λ (e : s ≡ status.WriteFault). p.write (write_of c.play.result (sym is ∙ e)) in
    let disk = λ (e : s ≡ status.DiskFault). p.fault (disk_of c.play.result (sym is ∙ e)) in
    record {
      replays = replays;
      expects = λ read_quiet put_quiet disk_quiet.
          expects_replay c.law_never_both.ensures c.law_one_first_bad.ensures c.law_one_scenario.ensures s left rest before after old new fault faults replays
          read_never (λ e. put_quiet (write e)) (λ e. disk_quiet (disk e)) disk_quiet;
      input = record { most = c.take_scenario.ensures.most; fault = λ e. absurd (read_never e) };
      output = record {
        silent = λ silent. (let refused = refused_of c.play.result (subst (λ (x : Status). IsSilentOf order.Replay x) is silent) in p.nothing refused.0 refused.1);
        fault = write;
      };
      disk_fault = disk;
    }
