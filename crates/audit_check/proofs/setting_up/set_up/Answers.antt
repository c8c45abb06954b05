use Rattle.std.proofs.Common.{◌++◌, [], ◌∷◌, List, take, bytes_eq, sym, ◌∙◌, ap, subst}
use Rattle.scenario.specs.declared.line.Line.{Line}
use Rattle.member.specs.Member.{Member}
use Rattle.world_laws.specs.World.{own_of, member_at}
use Rattle.party_tables.specs.Tables.{Distinct}
use Rattle.course.specs.Starts.{members_by, start_members}
use Rattle.audit_check.specs.States.{HoldsMembers}
use Rattle.audit_check.proofs.SettingUp.{member_more, no_member_more, no_member_before}
use Rattle.audit_check.proofs.setting_up.set_up.Goals.{in-Some+in_ok-new_held+in_ok-add, in_default}
use Rattle.audit_check.proofs.setting_up.set_up.Goals as goal

pub setting-preserved : goal.setting-preserved
setting-preserved c =
    let lines = c.lines-lines.result.now in
    let l = c.line-item.result in
    elim c.match-new_party.branch [
      | in-Some+in_ok-new_held+in_ok-add w ↦ (
          let party = w.in-Some.party in
          let at = sym c.new_party.ensures ∙ w.in-Some.is in
          let held = w.in_ok-new_held.ensures in
          let distinct = subst (λ (ls : List Line). Distinct own_of bytes_eq (start_members ls)) (sym c.lines-lines.ensures.lines) c.law_scenario_starts.ensures.members in
          let none = ap (λ (m : Member). member_at m.party.own (members_by lines (take c.setting.line-index lines))) held ∙ no_member_before lines c.setting.line-index l c.setting-test.true c.line-item.is party at distinct in
          let added = w.in_ok-add.ensures (members_by lines (take c.setting.line-index lines)) c.setting.invariant none in
          subst (λ (ms : List Member). HoldsMembers c.match-new_party.parties ms) (ap (λ (m : Member). members_by lines (take c.setting.line-index lines) ++ m ∷ []) held ∙ sym (member_more lines c.setting.line-index l c.setting-test.true c.line-item.is party at))
          (subst (λ p. HoldsMembers p (members_by lines (take c.setting.line-index lines) ++ w.in_ok-new_held.field-0 ∷ [])) (sym w.parties-is) added))
      | in_default w ↦ (
          let at = sym c.new_party.ensures ∙ w.in_default.is in
          subst (λ (ms : List Member). HoldsMembers c.match-new_party.parties ms) (sym (no_member_more lines c.setting.line-index l c.setting-test.true c.line-item.is at))
          (subst (λ p. HoldsMembers p (members_by lines (take c.setting.line-index lines))) (sym w.parties-is) c.setting.invariant))
    ]
