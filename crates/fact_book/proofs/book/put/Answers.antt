use Rattle.std.proofs.Common.{rules, length}
use Rattle.fact_book.proofs.Adding.{put_latest}
use Rattle.fact_book.proofs.book.put.Goals as goal

pub returns-clause-latest : goal.returns-clause-latest
returns-clause-latest c =
    put_latest c.args.latest.now c.reserve-2.new.self c.insert.new.self c.args.under.now c.len-place.result (length c.args.entries.now.items) (search rules) (search rules) c.in-Ok.ensures.updates
