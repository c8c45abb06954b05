use Rattle.std.proofs.Common.{refl}
use Rattle.indexmap.specs.IndexMap.{get}
use Rattle.fact_book.specs.Facts.{same_full_name}
use Rattle.fact_book.proofs.Adding.{added_book, facts_push}
use Rattle.fact_book.proofs.book.FactBook.add.Goals as goal

pub invariant_of-self-2 : goal.invariant_of-self-2
invariant_of-self-2 c =
    rw (c.in_ok-put.ensures.entry, c.in_ok-put.ensures.text) (added_book c.self.inside.entries.items c.self.inside.texts (record { under = c.args.under; earlier = get same_full_name c.self.inside.latest c.args.under }) c.args.text.now (get same_full_name c.self.inside.latest) (get same_full_name c.put.new.latest) c.self.invariant refl c.in_ok-put.ensures.latest)

pub returns-clause-added : goal.returns-clause-added
returns-clause-added c =
    rw (c.in_ok-put.ensures.entry, c.in_ok-put.ensures.text, ← c.self.view_is) (facts_push c.self.inside.entries.items c.self.inside.texts _ c.args.text.now c.self.invariant.sizes)
