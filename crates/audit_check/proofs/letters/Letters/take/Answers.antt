use Rattle.std.proofs.Common.{subst}
use Rattle.std.specs.List.{All}
use Rattle.std.proofs.lemmas.List.Elements.{All-tail}
use Rattle.audit_check.specs.Audits.{IsLetter}
use Rattle.audit_check.proofs.letters.Letters.take.Goals as goal

pub invariant_of-self : goal.invariant_of-self
invariant_of-self c = All-tail IsLetter c.in-Some.letter.now c.in-Some.rest.now (subst (All IsLetter) c.in-Some.ensures.cases.0 c.self.invariant)
