use Rattle.csm_grammar.proofs.ContentsReading.{halved_code, whole_code}
use Rattle.csm_grammar.proofs.contents.code.Goals as goal

pub returns-in-Some : goal.returns-in-Some
returns-in-Some c = halved_code c.args.contents.now c.in-Some.digits c.eight_digits.result c.in-Some.ensures.0 c.in-Some.ensures.1 c.eight_digits.ensures

pub returns-in-None : goal.returns-in-None
returns-in-None c = whole_code c.args.contents.now c.eight_digits-in-None.result c.in-None.ensures c.eight_digits-in-None.ensures
