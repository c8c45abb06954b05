use Rattle.std.proofs.Common.{◌≡◌, false, None, refl, subst}
use Rattle.audit_check.specs.Events.{IsNextLetter, IsWrongAt}
use Rattle.scenario.specs.declared.audit_fault.AuditFault.{AuditFault}
use Rattle.scenario.specs.declared.audit_fault.AuditFault.TheVariants as fault
use Rattle.audit_check.proofs.Carrying.{unheard_whole, unheard_cut, unheard_wrong}
use Rattle.audit_check.proofs.Planning.{old_taken, lacks_change}
use Rattle.audit_check.proofs.acting.unheard_at.Goals as goal

pub returns-in-Some-true-clause-wrong : goal.returns-in-Some-true-clause-wrong
returns-in-Some-true-clause-wrong c = λ f is.
    let s = c.args.state.now in
    let same : fault.Impossible s.now.number ≡ f = cc is in
    subst (λ (g : AuditFault). IsWrongAt s c.args.place None g) same
    (unheard_wrong s c.args.place c.args.number c.in-Some.field-0 c.in-Some.is (fault.Impossible s.now.number)
    (lacks_change s.letters c.take.new.self false s.now.number (subst (IsNextLetter s.letters c.take.new.self) c.in-Some-true.field-0-test c.in-Some-true.ensures.taken) refl))

pub returns-in-Some-false-clause-played : goal.returns-in-Some-false-clause-played
returns-in-Some-false-clause-played c =
    let s = c.args.state.now in
    unheard_cut s c.args.place c.args.number c.in-Some.field-0 c.in-Some.is c.take.new.self
    (old_taken s.letters c.take.new.self false (subst (IsNextLetter s.letters c.take.new.self) c.in-Some-false.field-0-test c.in-Some-false.ensures.taken))

pub returns-in-None-take-clause-wrong : goal.returns-in-None-take-clause-wrong
returns-in-None-take-clause-wrong c = λ f is.
    let s = c.args.state.now in
    let same : fault.Letters s.now.number ≡ f = cc is in
    subst (λ (g : AuditFault). IsWrongAt s c.args.place None g) same
    (unheard_wrong s c.args.place c.args.number c.in-Some.field-0 c.in-Some.is (fault.Letters s.now.number) (c.in-None-take.ensures.none, refl))

pub returns-in-None-clause-played : goal.returns-in-None-clause-played
returns-in-None-clause-played c = unheard_whole c.args.state.now c.args.place c.args.number c.in-None.is
