use Rattle.pay_auth.proofs.Coded.{put_one}
use Rattle.pay_auth.proofs.body.put_entries.Goals as goal

pub loop-i-preserved : goal.loop-i-preserved
loop-i-preserved c = put_one c.loop-i.out _ c.args.out.now c.args.entries.now c.loop-i.i c.in-Some.entry.now (cc c.in-Some.ensures.found) c.in_ok-put_entry-in-Some.ensures c.loop-i.invariant
