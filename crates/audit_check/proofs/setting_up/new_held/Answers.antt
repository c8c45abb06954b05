use Rattle.std.proofs.Common.{take, sym, ◌∙◌, ap}
use Rattle.std.specs.Prelude.{Option, option_to_list}
use Rattle.party_tables.specs.declared.link.LinkRec.{LinkRec}
use Rattle.member.specs.Member.{Member}
use Rattle.course.specs.Parties.{new_member}
use Rattle.course.specs.Starts.{loads_of, with_load, with_loads}
use Rattle.audit_check.proofs.SettingUp.{loads_more}
use Rattle.audit_check.proofs.setting_up.new_held.Goals.{in-Some+in_ok-space-2, in_default}
use Rattle.audit_check.proofs.setting_up.new_held.Goals as goal

pub loading-preserved : goal.loading-preserved
loading-preserved c =
    let x = new_member c.args.party.now in
    let so_far = with_loads x (loads_of c.args.party.now.own (take c.loading.line-index c.args.lines.now)) in
    let more = loads_more x c.args.party.now.own c.args.lines.now c.loading.line-index c.line-item.result c.loading-test.true c.line-item.is in
    elim c.match-load_at.branch [
      | in-Some+in_ok-space-2 w ↦ record {
        loaded = (λ i. record { party = w.state-is i; space = w.space-is i })
            ∙ (w.in_ok-space-2.ensures ∙ (ap (λ (m : Member). with_load m w.in-Some.link) c.loading.invariant.loaded
            ∙ sym (more ∙ ap (λ (o : Option LinkRec). with_loads so_far (option_to_list o)) (sym c.load_at.ensures ∙ w.in-Some.is))));
      }
      | in_default w ↦ record {
        loaded = (λ i. record { party = w.state-is i; space = w.space-is i })
            ∙ (c.loading.invariant.loaded ∙ sym (more ∙ ap (λ (o : Option LinkRec). with_loads so_far (option_to_list o)) (sym c.load_at.ensures ∙ w.in_default.is)));
      }
    ]
