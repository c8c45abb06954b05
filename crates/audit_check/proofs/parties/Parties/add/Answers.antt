use Rattle.std.proofs.Common.{OnOk, sym, ◌∙◌, ap, subst}
use Rattle.std.specs.Prelude.{bytes_eq}
use Rattle.indexmap.specs.IndexSet.{insert_key}
use Rattle.party_state.specs.State.{Party}
use Rattle.audit_check.specs.States.{Adds}
use Rattle.audit_check.proofs.HeldMembers.{held_more}
use Rattle.audit_check.proofs.parties.Parties.add.Goals.{in-Ok-push, in-Err-push}
use Rattle.audit_check.proofs.parties.Parties.add.Goals as goal

pub returns : goal.returns
returns c = elim c.match-push.branch [
  | in-Ok-push w ↦ subst (λ r. OnOk r (Adds c.args.self.now (record { names = c.insert.new.self; members_held = c.push.new.self }) c.args.held)) (sym w.result-is)
      (λ members holds_each none. held_more c.args.self.now (record { names = c.insert.new.self; members_held = c.push.new.self }) members c.args.held holds_each none
      (c.in-Ok.ensures.keys ∙ ap (insert_key bytes_eq c.args.self.now.names.keys) (c.own-own.ensures.own ∙ ap (λ (p : Party). p.own) c.view.ensures)) w.in-Ok-push.ensures.items)
  | in-Err-push w ↦ subst (λ r. OnOk r (Adds c.args.self.now (record { names = c.insert.new.self; members_held = c.push.new.self }) c.args.held)) (sym w.result-is) tt
]
