use Rattle.x_spool.proofs.StreamTaking.{IsTaking, left_of}
use Rattle.x_spool.proofs.inbox.inbox_lines.Given as goal

abbrev pub invariant-taking : goal.invariant-taking
invariant-taking l = IsTaking l.moment l.stream l.lines l.at l.goes_on l.feed

abbrev pub decreases-taking : goal.decreases-taking
decreases-taking l = left_of l.stream l.at l.goes_on l.feed
