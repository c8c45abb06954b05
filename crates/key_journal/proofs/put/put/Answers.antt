use Rattle.std.proofs.Common.{rules, ◌≡◌, ◌-◌, ◌∙◌, suc, length, Some, None, ap, sym}
use Rattle.x_disk.specs.Disk.{one_less}
use Rattle.x_disk.proofs.Runs.{began, goes_on, torn_same}
use Rattle.key_journal.specs.States.{MayTear}
use Rattle.key_journal.proofs.put.put.Goals as goal

pub returns-in_err-write_at : goal.returns-in_err-write_at
returns-in_err-write_at g c = record {
  durable = search rules;
  written = search rules;
  any_moment = let old = g.D.Disk.told c.args.disk.now in
      let P = MayTear old c.args.at (length c.args.bytes.now) in
      let at_start = began old P (g.met.D.Disk.sound c.args.disk.now) (λ image left. (image, left, torn_same _ _ image)) in
      goes_on old old (g.D.Disk.told c.write_at.new.self) P at_start c.write_at.ensures.time c.write_at.ensures.crash;
  tells = search rules;
  stable = search rules;
  cause = search rules;
  calls_left = search rules;
  left = search rules;
  blows = search rules;
  pending = λ one fault blown.
      let some : Some 0 ≡ None = sym (ap one_less one) ∙ sym c.write_at.ensures.counted.calls_left ∙ blown in
      absurd (cc some);
  covered = λ end n calls covers le small none.
      c.in_err-write_at.ensures.covered.answers end n (suc calls) covers le small (search rules);
  covered_then = search rules;
}

pub returns : goal.returns
returns g c = record {
  durable = search rules;
  written = search rules;
  any_moment = let old = g.D.Disk.told c.args.disk.now in
      let written = g.D.Disk.told c.write_at.new.self in
      let P = MayTear old c.args.at (length c.args.bytes.now) in
      let at_start = began old P (g.met.D.Disk.sound c.args.disk.now) (λ image left. (image, left, torn_same _ _ image)) in
      let so_far = goes_on old old written P at_start c.write_at.ensures.time c.write_at.ensures.crash in
      goes_on old written (g.D.Disk.told c.sync.new.self) P so_far c.sync.ensures.time (λ image left. c.write_at.ensures.crash image (c.sync.ensures.crash image left));
  tells = search rules;
  stable = search rules;
  cause = search rules;
  calls_left = search rules;
  left = search rules;
  blows = search rules;
  pending = λ one fault blown image is. c.sync.ensures.now ∙ c.in_ok-write_at.ensures.written image is;
  covered = λ end n calls covers le small none.
      c.sync.ensures.covered.answers end (n - length c.args.bytes.now) calls (c.in_ok-write_at.ensures.covered.left end n (suc calls) covers le small) none;
  covered_then = search rules;
}
