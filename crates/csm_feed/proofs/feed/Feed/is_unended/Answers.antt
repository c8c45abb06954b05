use Rattle.std.proofs.Common.{rules, arith, ◌≡◌, ◌≤◌, ◌<◌, true, length, drop, subst}
use Rattle.std.specs.List.{list_all}
use Rattle.csm_read.specs.Judging.{is_plain}
use Rattle.csm_feed.specs.Streams.{IsWaiting}
use Rattle.csm_feed.proofs.Waiting.{known_waiting}
use Rattle.csm_feed.proofs.feed.Feed.is_unended.Goals as goal

pub returns : goal.returns
returns c = λ t.
    let held = c.self.inside.held.items in
    let four : 4 ≤ c.self.inside.unended = omega arith in
    let short : length held < 1025 = search rules in
    let plain : list_all is_plain (drop c.self.inside.unended held) ≡ true = search rules in
    let same : held ≡ c.args.self.now.held = search rules in
    subst IsWaiting same (known_waiting c.self.inside.unended held c.law_unended_stays.ensures c.self.invariant.2 four short plain)
