use Rattle.std.proofs.Common.{rules, ◌≡◌}
use Rattle.csm_grammar.specs.declared.refusal.ReadRefusal.TheVariants as refusal
use Rattle.csm_feed.proofs.Answering.{refused_other}
use Rattle.csm_feed.proofs.feed.Feed.finish.Goals as goal

pub returns-in-Some-clause-memory : goal.returns-in-Some-clause-memory
returns-in-Some-clause-memory c e =
    let refused = c.self.invariant.0.refused c.in-Some.refusal (search rules) in
    let same : c.in-Some.refusal ≡ refusal.NoMemory = cc in
    refused_other c.self.inside.before c.self.inside.held.items c.in-Some.refusal c.law_fault_ends.ensures refused same
