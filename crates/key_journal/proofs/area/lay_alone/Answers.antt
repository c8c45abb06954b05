use Rattle.std.proofs.Common.{rules, ◌+◌, length}
use Rattle.x_disk.proofs.Runs.{began, goes_on, joined, weaker, torn_same}
use Rattle.key_journal.specs.States.{MayTear}
use Rattle.key_journal.proofs.SwitchLemmas.{torn_twice}
use Rattle.key_journal.proofs.area.lay_alone.Goals as goal

pub returns-in_err-write_at : goal.returns-in_err-write_at
returns-in_err-write_at g c = record {
  durable = search rules;
  written = search rules;
  any_moment = let old = g.D.Disk.told c.args.disk.now in
      let n = length c.args.frame.now in
      let P = MayTear old c.args.start (1 + n) in
      let at_start = began old P (g.met.D.Disk.sound c.args.disk.now) (λ image left. (image, left, torn_same _ _ image)) in
      goes_on old old (g.D.Disk.told c.write_at.new.self) P at_start c.write_at.ensures.time
      (λ image left. let from = c.write_at.ensures.crash image left in (from.0, from.1, torn_twice c.args.start n from.0 image image from.2 (torn_same _ _ image)));
  tells = search rules;
  cause = search rules;
  calls_left = search rules;
  blows = search rules;
  covered = search rules;
  covered_then = search rules;
  stable = search rules;
}

pub returns : goal.returns
returns g c = record {
  durable = search rules;
  written = search rules;
  any_moment = let old = g.D.Disk.told c.args.disk.now in
      let mid = g.D.Disk.told c.write_at.new.self in
      let n = length c.args.frame.now in
      let P = MayTear old c.args.start (1 + n) in
      let at_start = began old P (g.met.D.Disk.sound c.args.disk.now) (λ image left. (image, left, torn_same _ _ image)) in
      let first = goes_on old old mid P at_start c.write_at.ensures.time
      (λ image left. let from = c.write_at.ensures.crash image left in (from.0, from.1, torn_twice c.args.start n from.0 image image from.2 (torn_same _ _ image))) in
      joined old mid (g.D.Disk.told c.put.new.disk) P first
      (weaker mid (g.D.Disk.told c.put.new.disk) (MayTear mid (c.args.start + 1) n) P c.put.ensures.any_moment
      (λ image may. let from = c.write_at.ensures.crash may.0 may.1 in (from.0, from.1, torn_twice c.args.start n from.0 may.0 image from.2 may.2)));
  tells = search rules;
  cause = search rules;
  calls_left = search rules;
  blows = search rules;
  covered = search rules;
  covered_then = search rules;
  stable = search rules;
}
