use Rattle.std.proofs.Common.{rules, ◌≡◌, ◌+◌, ◌<◌, ◌^◌, nat_lt, length, drop, refl, arith}
use Rattle.x_spool.proofs.StreamTaking.{message, pushes, refused}
use Rattle.x_spool.proofs.inbox.inbox_lines.Goals as goal

pub returns-in-Refused : goal.returns-in-Refused
returns-in-Refused c = record {
  lines = tt;
  refused = refused c.args.moment c.args.stream.now c.taking.lines c.taking.at c.taking.goes_on c.taking-test.true c.taking.feed c.taking.invariant c.law_fault_stays.ensures c.in-Refused.refusal c.in-Refused.ensures.answers.0;
}

pub taking-preserved-in-Message : goal.taking-preserved-in-Message
taking-preserved-in-Message c =
    message c.args.moment c.args.stream.now c.taking.lines c.taking.at c.taking.goes_on c.taking-test.true c.taking.feed c.taking.invariant c.in-Message.arrival c.next.new.self c.push_line.new.lines
    c.in-Message.ensures.answers c.in-Message.ensures.fed c.in-Ok-push_line.ensures

pub taking-preserved : goal.taking-preserved
taking-preserved c =
    let rest_is : c.split_at.result.1.now ≡ drop c.taking.at c.args.stream.now = search rules in
    let short : length c.args.stream.now < 2 ^ 63 = search (rules, arith) in
    pushes c.args.moment c.args.stream.now c.taking.lines c.taking.at c.taking.goes_on c.taking-test.true c.taking.feed c.taking.invariant c.next.new.self c.push-count.new.self c.split_at.result.1.now c.push-count.result
    (c.taking.at + c.push-count.result) (nat_lt 0 c.push-count.result) c.in-NotYet.ensures.answers.0 c.in-NotYet.ensures.answers.1 rest_is c.push-count.ensures.within c.push-count.ensures.takes c.push-count.ensures.fed refl refl
    c.law_fault_ends.ensures short c.push-count.ensures.most
