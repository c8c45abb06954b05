use Rattle.std.proofs.Common.{ap}
use Rattle.course.proofs.Meant.{meant_arrives, receives}
use Rattle.course.proofs.meaning.act_of.Goals as goal

pub returns-in-Pass : goal.returns-in-Pass
returns-in-Pass c = λ texts bytes there hears. meant_arrives c.args.line.now c.in-Pass.party texts bytes c.arrived.result (ap receives c.in-Pass.is) there (c.arrived.ensures bytes hears)

pub returns-in-Bytes : goal.returns-in-Bytes
returns-in-Bytes c = λ texts bytes there hears. meant_arrives c.args.line.now c.in-Bytes.party texts bytes c.arrived-in-Bytes.result (ap receives c.in-Bytes.is) there (c.arrived-in-Bytes.ensures bytes hears)
