use Rattle.std.proofs.Common.{rules, refl}
use Rattle.std.proofs.lemmas.Result.{on_ok_weaker}
use Rattle.key_journal.proofs.WipeLemmas.{Ranges, measured_moment, other_moment, idle_moment, idle_wiped}
use Rattle.key_journal.proofs.wipe.clear_idle.Goals as goal

pub returns-in_err-size : goal.returns-in_err-size
returns-in_err-size g c = record {
  wiped = search rules;
  durable = search rules;
  any_moment = let told = g.D.Disk.told in
      measured_moment (told c.args.disk.now) (told c.length.new.self) c.args.gate c.args.end c.requires (g.met.D.Disk.sound c.args.disk.now) c.length.ensures.still;
  tells = search rules;
  cause = search rules;
}

pub returns-in_err-clear : goal.returns-in_err-clear
returns-in_err-clear g c = record {
  wiped = search rules;
  durable = search rules;
  any_moment = let told = g.D.Disk.told in
      let size = c.in_ok-size.size in
      other_moment (told c.args.disk.now) (told c.length.new.self) c.args.gate c.args.end c.requires (g.met.D.Disk.sound c.args.disk.now) c.length.ensures.still
      (told c.clear.new.disk) size c.other_start-start.result c.min.result c.min-2.result _ _
      (record { other_is = c.other_start-start.ensures; from_is = c.min.ensures; to_is = c.min-2.ensures; first_is = refl; last_is = refl })
      c.in_ok-size.ensures.value (g.met.D.Disk.sound c.clear.new.disk) c.clear.ensures.any_moment c.clear.ensures.tells;
  tells = search rules;
  cause = search rules;
}

pub returns : goal.returns
returns g c =
    let told = g.D.Disk.told in
    let ranges : Ranges c.in_ok-size.size c.args.gate c.args.end c.other_start-start.result c.min.result c.min-2.result c.min-3.result c.min-4.result = record {
      other_is = c.other_start-start.ensures;
      from_is = c.min.ensures;
      to_is = c.min-2.ensures;
      first_is = c.min-3.ensures;
      last_is = c.min-4.ensures;
    } in
    record {
      wiped = on_ok_weaker c.clear-2.result
          (idle_wiped (told c.args.disk.now) (told c.length.new.self) c.args.gate c.args.end c.requires (g.met.D.Disk.sound c.args.disk.now) c.length.ensures.still
          (told c.clear.new.disk) c.in_ok-size.size c.other_start-start.result c.min.result c.min-2.result c.min-3.result c.min-4.result ranges
          c.in_ok-size.ensures.value (g.met.D.Disk.sound c.clear.new.disk) c.clear.ensures.any_moment c.clear.ensures.tells
          (told c.clear-2.new.disk) (g.met.D.Disk.sound c.clear-2.new.disk) c.in_ok-clear.ensures.durable c.clear-2.ensures.any_moment c.clear-2.ensures.tells c.in_ok-clear.ensures.zeros)
          c.clear-2.ensures.zeros;
      durable = search rules;
      any_moment = idle_moment (told c.args.disk.now) (told c.length.new.self) c.args.gate c.args.end c.requires (g.met.D.Disk.sound c.args.disk.now) c.length.ensures.still
          (told c.clear.new.disk) c.in_ok-size.size c.other_start-start.result c.min.result c.min-2.result c.min-3.result c.min-4.result ranges
          c.in_ok-size.ensures.value (g.met.D.Disk.sound c.clear.new.disk) c.clear.ensures.any_moment c.clear.ensures.tells
          (told c.clear-2.new.disk) (g.met.D.Disk.sound c.clear-2.new.disk) c.in_ok-clear.ensures.durable c.clear-2.ensures.any_moment c.clear-2.ensures.tells;
      tells = search rules;
      cause = search rules;
    }
