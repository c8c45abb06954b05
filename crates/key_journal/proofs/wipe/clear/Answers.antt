use Rattle.std.proofs.Common.{rules, ◌+◌, ◌≤◌, replicate, refl, ◌∙◌, arith}
use Rattle.key_journal.proofs.WipeLemmas.{clear_more, clear_leaves}
use Rattle.key_journal.proofs.wipe.clear.Goals as goal

pub returns-in_err-put_zeros : goal.returns-in_err-put_zeros
returns-in_err-put_zeros g c = record {
  durable = search rules;
  zeros = search rules;
  any_moment = let told = g.D.Disk.told in
      clear_leaves (told c.args.disk.now) (told c.clearing.disk) (told c.put_zeros.new.disk) c.args.from c.args.to c.clearing.at c.min-count.result (replicate c.min-count.result 0)
      c.clearing.invariant.low (omega (arith, c.clearing-test.true, c.min-count.ensures)) refl c.clearing.invariant.leaves (g.met.D.Disk.sound c.clearing.disk)
      c.put_zeros.ensures.time c.put_zeros.ensures.crash;
  tells = search rules;
  cause = search rules;
}

pub clearing-preserved : goal.clearing-preserved
clearing-preserved g c =
    let told = g.D.Disk.told in
    let high : c.clearing.at + c.min-count.result ≤ c.args.to = omega (arith, c.clearing-test.true, c.min-count.ensures) in
    record {
      low = omega (arith, c.clearing.invariant.low);
      high = high;
      zeros = clear_more (told c.args.disk.now) (told c.clearing.disk) (told c.put_zeros.new.disk) c.args.from c.args.to c.clearing.at c.min-count.result (replicate c.min-count.result 0)
          c.clearing.invariant.low high refl c.clearing.invariant.zeros c.clearing.invariant.tells c.in_ok-put_zeros.ensures.written;
      leaves = clear_leaves (told c.args.disk.now) (told c.clearing.disk) (told c.put_zeros.new.disk) c.args.from c.args.to c.clearing.at c.min-count.result (replicate c.min-count.result 0)
          c.clearing.invariant.low high refl c.clearing.invariant.leaves (g.met.D.Disk.sound c.clearing.disk) c.put_zeros.ensures.time c.put_zeros.ensures.crash;
      tells = c.put_zeros.ensures.tells ∙ c.clearing.invariant.tells;
      later = omega (arith, c.clearing.invariant.later, c.put_zeros.ensures.cause.later);
    }
