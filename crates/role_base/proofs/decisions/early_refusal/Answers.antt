use Rattle.role_base.proofs.Decided.{refuses_before}
use Rattle.role_base.proofs.decisions.early_refusal.Goals as goal

pub returns : goal.returns
returns c = λ p r tests_after_code all fails e n. refuses_before p c.args.tests_before_code.now c.refusal.result c.verdict_of.result c.refusal.ensures all fails c.verdict_of.ensures r tests_after_code e n
