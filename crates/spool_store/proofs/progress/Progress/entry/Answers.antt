use Rattle.std.proofs.Common.{◌<◌, length, sym, subst}
use Rattle.spool_store.specs.Contents.{Progress}
use Rattle.spool_store.proofs.Entries.{short_at}
use Rattle.spool_store.proofs.progress.Progress.entry.Goals as goal

pub returns-clause-short : goal.returns-clause-short
returns-clause-short c =
    let less : c.args.k < length c.self.inside.batch.1 = subst (λ (s : Progress). c.args.k < length s.entries) (sym c.self.view_is) c.requires in
    short_at c.self.inside.batch.0 c.self.inside.batch.1 c.entries.result.now c.args.k c.index-entries-k.result c.entries.ensures.sized c.entries.ensures.entries less c.index-entries-k.is
