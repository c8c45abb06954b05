use Rattle.std.proofs.Common.{None, [], ◌∷◌}
use Rattle.party_state.specs.declared.command.Input.TheVariants.{Ordered}
use Rattle.x_party.specs.Dues.{IsDue}
use Rattle.party_calls.specs.Obeys.{IsPartyTurn}
use Rattle.party_calls.proofs.Following.{disk_fault, follows}
use Rattle.party_calls.proofs.Orders.{cause_ended, expects_command, finished, is_party, no_ledger, obeys_command}
use Rattle.party_calls.proofs.turning.command.Goals as goal

pub returns : goal.returns
returns g c =
    let t = c.args.given in
    let r = c.turn-outcome.ensures in
    let o = c.turn-outcome.result in
    let f = c.finish.ensures in
    let s = c.finish.result in
    let before = g.K.Sink.written c.args.sink.now in
    let after = g.K.Sink.written c.finish.new.sink in
    let old = g.H.Shelf.entry c.args.shelf.now in
    let new = g.H.Shelf.entry c.turn-outcome.new.shelf in
    let put = g.K.Sink.faults c.args.sink.now in
    let puts = g.K.Sink.faults c.finish.new.sink in
    let disk = g.H.Shelf.faults c.args.shelf.now in
    let disks = g.H.Shelf.faults c.turn-outcome.new.shelf in
    let turned : IsPartyTurn t.party (Ordered t.command) c.args.moment (old t.party) (new t.party) s before after = record { outcome = o; turned = r.turned; safe = r.safe; ends = f.ends } in
    record {
      obeys = λ order left is. obeys_command t c.args.moment s left left before after old new order is turned;
      expects = λ order left is put_quiet disk_quiet. expects_command t c.args.moment s left left before after old new order is
          (follows o (10 ∷ []) s before after put puts disk disks f.ends f.output.fault (old t.party) (IsDue t.party (Ordered t.command) c.args.moment) r.due r.shelf.fault put_quiet disk_quiet);
      others = λ order is. (finished order t.party s (g.H.Shelf.is_back c.turn-outcome.new.shelf) (Unit {0}) old new o (10 ∷ []) before after (IsDue t.party (Ordered t.command) c.args.moment) put puts disk disks
          (is_party t c.args.moment s None None before after old new order is) (no_ledger t c.args.moment s None None before after old new order is) f.ends f.answered f.output.fault r.due r.shelf (λ reading. tt)).others;
      cause = λ read reads. cause_ended read reads put puts disk disks o (10 ∷ []) s before after f.ends f.output.fault
          (disk_fault o (10 ∷ []) s before after put puts disk disks f.ends f.output.fault r.shelf.fault);
      silent = f.output.silent;
    }
