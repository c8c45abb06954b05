use Rattle.member.specs.Acts.{compacted_in, migrated_in}
use Rattle.x_party.proofs.AlwaysDue.{turn_due, show_due, asking_due, rewriting_due, wiping_due, creation_due}
use Rattle.x_party.proofs.laws.law_always_due.Goals as goal

pub returns : goal.returns
returns c =
    let one_of = c.law_one_finding.ensures.one_of in
    record {
      turn = turn_due one_of;
      show = show_due one_of;
      asking = asking_due one_of;
      compaction = rewriting_due one_of compacted_in;
      migration = rewriting_due one_of migrated_in;
      wiping = wiping_due one_of;
      creation = creation_due;
    }
