use Rattle.csm_feed.proofs.Answering.{comes_as, hands_out, exhausts, answer_other}
use Rattle.csm_feed.proofs.feed.Feed.next.Goals as goal

pub returns-clause-comes : goal.returns-clause-comes
returns-clause-comes c = comes_as c.args.self.now c.answer.new.self c.answer.result c.law_one_answer.ensures c.answer.ensures.kept c.answer.ensures.answers

pub returns-clause-memory : goal.returns-clause-memory
returns-clause-memory c = answer_other c.args.self.now c.answer.new.self c.answer.result c.law_fault_ends.ensures c.answer.ensures.answers

pub returns-clause-fed : goal.returns-clause-fed
returns-clause-fed c = hands_out c.args.self.now c.answer.new.self c.answer.result c.answer.ensures.answers

pub returns-clause-whole : goal.returns-clause-whole
returns-clause-whole c = exhausts c.args.self.now c.answer.new.self c.answer.result c.answer.ensures.kept c.answer.ensures.answers
