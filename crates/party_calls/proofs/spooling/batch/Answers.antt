use Rattle.std.proofs.Common.{◌≡◌, ℕ, List, length, inl, inr, ap, refl, subst, arith}
use Rattle.x_spool.specs.Inbox.{IsInbox, IsRefusedStream}
use Rattle.csm_feed.specs.declared.unheard.Unheard.TheVariants.{Text, Trailing}
use Rattle.call_ends.specs.declared.status.Refusal.TheVariants.{Unheard}
use Rattle.call_ends.specs.declared.status.Status.TheVariants as status
use Rattle.party_calls.specs.Spooled.{batch_limit}
use Rattle.party_calls.proofs.Inboxes.{ends, forgets, lines_all, lines_done, lines_fault, lines_silent, lines_unread, refused_all, refuses, short, takes, too_many}
use Rattle.party_calls.proofs.spooling.batch.Goals as goal

pub returns-in-Err-Fault : goal.returns-in-Err-Fault
returns-in-Err-Fault g c =
    let fault = λ (e : status.ReadFault ≡ status.ReadFault). c.gather.ensures.fault cc in
    record {
      made = inl (inl refl, refl);
      follows = λ read_quiet put_quiet. absurd (read_quiet (fault refl));
      input = record { most = c.gather.ensures.most; fault = fault };
      output = record { silent = λ silent. refl; fault = λ e. absurd (cc e) };
    }

pub returns-in-Err-NoMemory : goal.returns-in-Err-NoMemory
returns-in-Err-NoMemory g c = record {
  made = inl (inr refl, refl);
  follows = λ read_quiet put_quiet. forgets c.law_one_inbox.ensures (g.S.Source.left c.args.source.now);
  input = record { most = c.gather.ensures.most; fault = λ e. absurd (cc e) };
  output = record { silent = λ silent. refl; fault = λ e. absurd (cc e) };
}

pub returns-then-bytes-eq-BATCH_LIMIT : goal.returns-then-bytes-eq-BATCH_LIMIT
returns-then-bytes-eq-BATCH_LIMIT g c =
    let left = g.S.Source.left c.args.source.now in
    let all = too_many left c.in-Ok.input c.in-Ok.ensures.front (omega (arith, ap length c.bytes.ensures, c.if-bytes-eq-BATCH_LIMIT.true)) in
    record {
      made = inr (inl (Unheard (Trailing 1048576), refl, all, refl));
      follows = λ read_quiet put_quiet. refuses c.law_one_inbox.ensures left (Unheard (Trailing 1048576)) all;
      input = record { most = c.gather.ensures.most; fault = λ e. absurd (cc e) };
      output = record { silent = λ silent. refl; fault = λ e. absurd (cc e) };
    }

pub returns-in-Ok-inbox_lines : goal.returns-in-Ok-inbox_lines
returns-in-Ok-inbox_lines g c =
    let left = g.S.Source.left c.args.source.now in
    let rest = g.S.Source.left c.gather.new.source in
    let text = c.in-Ok.input in
    let took = c.in-Ok.ensures.took in
    let end = c.in-Ok.ensures.end in
    let bound = c.in-Ok.ensures.bound in
    let other : (length c.in-Ok.input ≡ batch_limit → ⊥) = (λ full. omega (arith, ap length c.bytes.ensures, c.if-bytes-eq-BATCH_LIMIT.false, full)) in
    let lines = c.in-Ok-inbox_lines.lines in
    let is = subst (λ (x : List ℕ). IsInbox c.args.moment x lines) c.bytes-2.ensures c.in-Ok-inbox_lines.ensures.lines in
    let s = c.put_text.result in
    let before = g.K.Sink.written c.args.sink.now in
    let after = g.K.Sink.written c.put_text.new.sink in
    let put = g.K.Sink.faults c.args.sink.now in
    let puts = g.K.Sink.faults c.put_text.new.sink in
    let p = c.put_text.ensures in
    record {
      made = inr (inr (lines, lines_all left rest text took end bound other c.args.moment lines is, p.puts));
      follows = λ read_quiet put_quiet. ends c.law_one_inbox.ensures left rest text (takes left rest text took end bound other) (short left rest text took end bound other) c.args.moment lines is s (lines_done s put puts p.fault put_quiet);
      input = record { most = c.gather.ensures.most; fault = λ e. absurd (lines_unread lines s before after p.puts e) };
      output = record { silent = λ silent. absurd (lines_silent lines s before after p.puts silent); fault = lines_fault s put puts p.fault };
    }

pub returns-in-Err-Refused : goal.returns-in-Err-Refused
returns-in-Err-Refused g c =
    let left = g.S.Source.left c.args.source.now in
    let rest = g.S.Source.left c.gather.new.source in
    let text = c.in-Ok.input in
    let other : (length c.in-Ok.input ≡ batch_limit → ⊥) = (λ full. omega (arith, ap length c.bytes.ensures, c.if-bytes-eq-BATCH_LIMIT.false, full)) in
    let r = c.in-Err-Refused.refusal in
    let is = subst (λ (x : List ℕ). IsRefusedStream x r) c.bytes-2.ensures (rw c.in-Err-Refused.field-0-is at c.in-Err-Refused.ensures.refused) in
    let all = refused_all left rest text c.in-Ok.ensures.took c.in-Ok.ensures.end c.in-Ok.ensures.bound other r is in
    record {
      made = inr (inl (Unheard (Text r), refl, all, refl));
      follows = λ read_quiet put_quiet. refuses c.law_one_inbox.ensures left (Unheard (Text r)) all;
      input = record { most = c.gather.ensures.most; fault = λ e. absurd (cc e) };
      output = record { silent = λ silent. refl; fault = λ e. absurd (cc e) };
    }
