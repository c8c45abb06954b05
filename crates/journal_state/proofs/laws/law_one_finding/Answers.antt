use Rattle.journal_state.proofs.Findings.{one_state, one_damage, undamaged}
use Rattle.journal_state.proofs.Nothing.{never_nothing}
use Rattle.journal_state.proofs.laws.law_one_finding.Goals as goal

pub returns-clause-state : goal.returns-clause-state
returns-clause-state g c = one_state g.J.Judge.step g.J.Judge.start g.met.J.Judge.one_next c.law_one_list.ensures

pub returns-clause-not_blank : goal.returns-clause-not_blank
returns-clause-not_blank g c = λ image s stands. (c.law_gates.ensures.head image stands.bodies stands.holds).0

pub returns-clause-undamaged : goal.returns-clause-undamaged
returns-clause-undamaged g c =
    let law = c.law_gates.ensures in
    undamaged g.J.Judge.step g.J.Judge.start g.met.J.Judge.one_next law.next law.either law.begins law.end law.head

pub returns-clause-one_damage : goal.returns-clause-one_damage
returns-clause-one_damage g c =
    let law = c.law_gates.ensures in
    one_damage g.J.Judge.step g.J.Judge.start g.met.J.Judge.one_next law.next law.either

pub returns-clause-one_of : goal.returns-clause-one_of
returns-clause-one_of g c =
    let law = c.law_gates.ensures in
    never_nothing g.J.Judge.step g.J.Judge.start law.front law.next law.begins law.head c.law_blank_sound_or_damaged.ensures.one_of
