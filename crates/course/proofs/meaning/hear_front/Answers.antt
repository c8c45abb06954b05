use Rattle.course.proofs.Meant.{heard_of}
use Rattle.course.proofs.meaning.hear_front.Goals as goal

pub returns : goal.returns
returns c = heard_of c.args.bytes.now c.input_bytes.result.now c.hear.result c.input_bytes.ensures.value c.hear.ensures.heard c.hear.ensures.text
