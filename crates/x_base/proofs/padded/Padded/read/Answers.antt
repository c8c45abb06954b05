use Rattle.std.proofs.Common.{◌<◌, length, arith, sym, ◌∙◌}
use Rattle.std.proofs.lemmas.List.Folds.{list_all_more}
use Rattle.x_base.specs.Names.{is_name_byte}
use Rattle.x_base.proofs.Filling.{filled_more}
use Rattle.x_base.proofs.padded.Padded.read.Goals as goal

pub loop-i-preserved : goal.loop-i-preserved
loop-i-preserved c =
    let below : c.loop-i.i < length c.args.bytes.now = omega arith in
    record {
      named = rw (list_all_more is_name_byte c.args.bytes.now c.loop-i.i 0 below, c.loop-i.invariant.named) (sym c.is_name_byte.ensures ∙ c.if-not-is_name_byte.false);
      written = rw c.loop-i.invariant.written (filled_more c.args.bytes.now c.loop-i.i below (omega arith));
    }
