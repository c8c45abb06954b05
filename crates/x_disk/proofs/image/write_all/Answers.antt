use Rattle.std.proofs.Common.{◌≡◌, length, take, ap, arith}
use Rattle.x_disk.specs.HistoryLaw.{length-overwrite}
use Rattle.x_disk.proofs.RecordLemmas.{first_longer}
use Rattle.x_disk.proofs.image.write_all.Goals as goal

pub returns-in_err-write_over-clause-grows : goal.returns-in_err-write_over-clause-grows
returns-in_err-write_over-clause-grows c = record {
  capacity = omega (arith, c.loop-rest.invariant.2, c.write_over.ensures.grows.capacity);
  succeeds = λ le.
      let l = c.loop-rest in
      let new : length c.split_at.result.0.now ≡ length (take c.in-Write.len l.behind.now) = ap (λ l. length l) c.split_at.ensures.front in
      let made = ap (λ l. length l) l.invariant.1 in
      let fits = c.in_err-write_over.ensures.grows.succeeds (omega (
        arith,
        le,
        l.invariant.2,
        made,
        new,
        first_longer l.rest.now l.behind.now l.image.items c.in-Write.at c.in-Write.len c.in-len1-up.len_at_least c.in-Write.is,
        length-overwrite c.in-Write.at (take c.in-Write.len l.behind.now) l.image.items,
      )) in
      absurd (cc fits);
}
