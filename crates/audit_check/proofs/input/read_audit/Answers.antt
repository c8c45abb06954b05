use Rattle.audit_check.proofs.Reading.{only_one}
use Rattle.audit_check.proofs.input.read_audit.Goals as goal

pub returns-clause-only : goal.returns-clause-only
returns-clause-only c = only_one c.law_one_scenario.ensures c.law_one_first_bad.ensures c.law_never_both.ensures c.args.bytes.now c.read_parts.result c.read_parts.ensures
