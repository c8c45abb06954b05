use Rattle.std.proofs.Common.{◌≤◌, ◌∙◌, length, ap, arith}
use Rattle.key_journal.proofs.OpenLemmas.{still_both, piece_long, piece_more}
use Rattle.key_journal.proofs.reader.Reader.body.Goals as goal

pub reading-preserved : goal.reading-preserved
reading-preserved g c =
    let told = g.D.Disk.told in
    let invariant = c.reading.invariant in
    let len = c.min-len.result in
    let within : len ≤ length c.window-piece.result.now = omega (arith, c.min-len.ensures) in
    record {
      within = omega (arith, c.reading-test.true, c.min-len.ensures);
      long = ap length c.in_ok-push.ensures.appends ∙ piece_long c.reading.text c.window-piece.result.now c.reading.done len invariant.long within;
      bytes = λ b is. c.in_ok-push.ensures.appends ∙ piece_more b c.reading.text c.window-piece.result.now c.args.at c.reading.done len (invariant.bytes b is) (c.window-piece.ensures.bytes b (c.hold.ensures.file.still.now ∙ invariant.still.now ∙ is)) within;
      size = c.hold.ensures.file.size ∙ invariant.size;
      still = still_both (told c.args.self.now.disk) (told c.reading.self.disk) (told c.hold.new.self.disk) invariant.still c.hold.ensures.file.still;
      later = omega (arith, invariant.later, c.hold.ensures.file.cause.later);
    }
