use Rattle.world_laws.proofs.Agreeing.Moments.{ready_at_both_ends, counts_meet, waiting_stands, twins_stand, twins_carried, made_by_senders, one_ksm_per_name, answers_were_taken, keys_were_taken}
use Rattle.world_laws.proofs.honest_ends.law_honest_ends.Goals as goal

pub returns-clause-ends : goal.returns-clause-ends
returns-clause-ends c = ready_at_both_ends

pub returns-clause-counts : goal.returns-clause-counts
returns-clause-counts c = counts_meet

pub returns-clause-waiting : goal.returns-clause-waiting
returns-clause-waiting c = waiting_stands

pub returns-clause-makers : goal.returns-clause-makers
returns-clause-makers c = made_by_senders

pub returns-clause-names : goal.returns-clause-names
returns-clause-names c = one_ksm_per_name

pub returns-clause-twins : goal.returns-clause-twins
returns-clause-twins c = twins_stand

pub returns-clause-carried : goal.returns-clause-carried
returns-clause-carried c = twins_carried

pub returns-clause-answers : goal.returns-clause-answers
returns-clause-answers c = answers_were_taken

pub returns-clause-taken : goal.returns-clause-taken
returns-clause-taken c = keys_were_taken
