use Rattle.std.proofs.Common.{◌∙◌, sym, ap, bytes_eq}
use Rattle.std.specs.Prelude.{position}
use Rattle.audit_check.proofs.Results.{if_some, if_none}
use Rattle.audit_check.proofs.HeldMembers.{placed, nowhere}
use Rattle.audit_check.proofs.parties.Parties.place_of.Goals as goal

pub returns-clause-placed : goal.returns-clause-placed
returns-clause-placed c = if_some c.index_of.result _ _ (λ place is. λ members holds_each. (placed c.args.own.now members place (ap (position (bytes_eq c.args.own.now)) (sym holds_each.named) ∙ is)).1) c.index_of.ensures.some

pub returns-clause-none : goal.returns-clause-none
returns-clause-none c = if_none c.index_of.result _ _ (λ is. λ members holds_each. nowhere c.args.own.now members (ap (position (bytes_eq c.args.own.now)) (sym holds_each.named) ∙ is)) c.index_of.ensures.none
