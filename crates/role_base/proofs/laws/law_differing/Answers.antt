use Rattle.role_base.proofs.Unchanged.{unchanged, same_after}
use Rattle.role_base.proofs.Beginning.{begins_something}
use Rattle.role_base.proofs.LeftOut.{left_out}
use Rattle.role_base.proofs.laws.law_differing.Goals as goal

pub returns-clause-unchanged : goal.returns-clause-unchanged
returns-clause-unchanged c = unchanged c.law_found.ensures.link c.law_found.ensures.key c.law_found.ensures.answer (record {
  link = c.law_stands.ensures.link;
  key = c.law_stands.ensures.key;
  answer = c.law_stands.ensures.answer;
  no_link = c.law_stands.ensures.no_link;
  no_exchange = c.law_stands.ensures.no_exchange;
})

pub returns-clause-needed : goal.returns-clause-needed
returns-clause-needed c =
    same_after (record { same = c.law_same.ensures.link; found = c.law_found.ensures.link; put = c.law_put.ensures.link }) (record { same = c.law_same.ensures.key; found = c.law_found.ensures.key; put = c.law_put.ensures.key })
    (record { same = c.law_same.ensures.answer; put = c.law_put.ensures.answer }) (record { put = c.law_put.ensures.exchange; drop = c.law_drop.ensures.exchange }) c.law_drop.ensures.link c.law_counts.ensures.drop_ended

pub returns-clause-left_out : goal.returns-clause-left_out
returns-clause-left_out c = left_out (unchanged c.law_found.ensures.link c.law_found.ensures.key c.law_found.ensures.answer (record {
  link = c.law_stands.ensures.link;
  key = c.law_stands.ensures.key;
  answer = c.law_stands.ensures.answer;
  no_link = c.law_stands.ensures.no_link;
  no_exchange = c.law_stands.ensures.no_exchange;
}))

pub returns-clause-begun : goal.returns-clause-begun
returns-clause-begun c = begins_something (record { put = c.law_put.ensures.exchange; drop = c.law_drop.ensures.exchange })
