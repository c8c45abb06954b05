use Rattle.std.proofs.Common.{None, [], ◌∷◌}
use Rattle.party_calls.proofs.Following.{disk_fault}
use Rattle.party_calls.proofs.Mirrors.{command_of_two, finished_of_two}
use Rattle.party_calls.proofs.Orders.{cause_ended, is_party}
use Rattle.party_calls.proofs.turning_mirrored.command_mirrored.Goals as goal

pub returns : goal.returns
returns g c =
    let t = c.args.given in
    let mirror = c.args.mirror.now in
    let r = c.turn_pair-outcome.ensures in
    let o = c.turn_pair-outcome.result in
    let f = c.finish.ensures in
    let s = c.finish.result in
    let before = g.K.Sink.written c.args.sink.now in
    let after = g.K.Sink.written c.finish.new.sink in
    let old = g.H.Shelf.entry c.args.shelf.now in
    let new = g.H.Shelf.entry c.turn_pair-outcome.new.shelf in
    let put = g.K.Sink.faults c.args.sink.now in
    let puts = g.K.Sink.faults c.finish.new.sink in
    let disk = g.H.Shelf.faults c.args.shelf.now in
    let disks = g.H.Shelf.faults c.turn_pair-outcome.new.shelf in
    record {
      obeys = λ order left of is. (command_of_two t mirror order of is).obeys c.args.moment s left left before after old new (record { outcome = o; made = r.turned; due = r.due; safe = r.safe; ends = f.ends });
      others = λ order is. (finished_of_two order t.party mirror s (g.H.Shelf.is_back c.turn_pair-outcome.new.shelf) (Unit {0}) old new o (10 ∷ []) before after put puts disk disks
          (is_party t c.args.moment s None None before after old new order is) f.ends f.answered f.output.fault r.shelf (λ reading. tt)).others;
      cause = λ read reads. cause_ended read reads put puts disk disks o (10 ∷ []) s before after f.ends f.output.fault
          (disk_fault o (10 ∷ []) s before after put puts disk disks f.ends f.output.fault r.shelf.fault);
      silent = f.output.silent;
    }
