use Rattle.x_disk.specs.Record.{ranges_of}
use Rattle.x_disk.proofs.ImageLemmas.{tear_more}
use Rattle.std.proofs.Common.{refl, arith}
use Rattle.x_disk.proofs.image.tear.Goals as goal

pub loop-place-preserved : goal.loop-place-preserved
loop-place-preserved c = tear_more c.args.choice (ranges_of c.args.entries.now) c.args.stable c.args.image.now c.loop-place.image c.loop-place.place _ _ (omega arith) c.loop-place.invariant refl c.torn_at.ensures
