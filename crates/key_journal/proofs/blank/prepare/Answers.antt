use Rattle.std.proofs.Common.{rules, ◌≤◌, ◌∙◌, ℕ, List, Some, length, ap, arith}
use Rattle.key_journal.proofs.MakeLemmas.{short_made, closed_written, prepare_moment, some_of, closed_is_blank}
use Rattle.key_journal.proofs.blank.prepare.Goals as goal

pub invariant_of-result-in-Ok-put : goal.invariant_of-result-in-Ok-put
invariant_of-result-in-Ok-put g c = closed_written (g.D.Disk.told c.look.new.disk) (g.D.Disk.told c.put.new.disk) 0 c.in-Ok-put.ensures.durable c.in-Ok-put.ensures.written c.put.ensures.tells

pub returns-in-Ok-put : goal.returns-in-Ok-put
returns-in-Ok-put g c = record {
  blank = search rules;
  exact = tt;
  names = tt;
  nothing_written = search rules;
  written = λ b now.
      let header = c.in-Ok.ensures.header b now in
      c.in-Ok-put.ensures.written b (c.look.ensures.now ∙ now) ∙ ap (λ (x : List ℕ). Some x) (short_made b (omega (arith, header.long, c.if-header-gt1.false)));
  durable = search rules;
  closed = λ b now. closed_is_blank b ((invariant_of-result-in-Ok-put g c).closed b now);
  any_moment = λ tells.
      let told = g.D.Disk.told in
      let b = some_of (told c.args.disk).now tells in
      let header = c.in-Ok.ensures.header b.0 b.1 in
      let short : length b.0 ≤ 1 = omega (arith, header.long, c.if-header-gt1.false) in
      prepare_moment (told c.args.disk) (told c.look.new.disk) (told c.put.new.disk) (told c.args.disk).may_leave c.look.ensures.any_moment c.in-Ok.ensures.durable b.0 (c.look.ensures.now ∙ b.1) short c.put.ensures.any_moment;
  fault = tt;
  faults = search rules;
  tells = search rules;
}

pub returns-in-Err-put : goal.returns-in-Err-put
returns-in-Err-put g c = record {
  blank = tt;
  exact = search rules;
  names = search rules;
  nothing_written = search rules;
  written = tt;
  durable = tt;
  closed = tt;
  any_moment = λ tells.
      let told = g.D.Disk.told in
      let b = some_of (told c.args.disk).now tells in
      let header = c.in-Ok.ensures.header b.0 b.1 in
      let short : length b.0 ≤ 1 = omega (arith, header.long, c.if-header-gt1.false) in
      prepare_moment (told c.args.disk) (told c.look.new.disk) (told c.put.new.disk) (told c.args.disk).may_leave c.look.ensures.any_moment c.in-Ok.ensures.durable b.0 (c.look.ensures.now ∙ b.1) short c.put.ensures.any_moment;
  fault = search rules;
  faults = search rules;
  tells = search rules;
}
