use Rattle.csm_read.proofs.ReadSteps.{found_clause, only_clause, faulted_clause, faults_clause}
use Rattle.csm_read.proofs.reading.read.Goals as goal

pub returns : goal.returns
returns c = record {
  found = found_clause c.args.bytes.now c.answer.result c.answer.ensures;
  only = only_clause c.args.bytes.now c.answer.result c.answer.ensures;
  faulted = faulted_clause c.args.bytes.now c.answer.result c.answer.ensures;
  faults = faults_clause c.args.bytes.now c.answer.result c.answer.ensures;
}
