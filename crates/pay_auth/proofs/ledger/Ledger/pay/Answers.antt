use Rattle.std.proofs.Common.{◌∙◌, refl, ap, subst}
use Rattle.x_mac.specs.Code.{mac_of}
use Rattle.pay_auth.specs.Texts.{pay_auth_text, pay_text}
use Rattle.pay_auth.specs.Decisions.{out_entry, PaysOut, RefusesOut}
use Rattle.pay_auth.proofs.Turned.{passed, pays_out}
use Rattle.pay_auth.proofs.ledger.Ledger.pay.Goals as goal

pub returns-in_default : goal.returns-in_default
returns-in_default g c =
    let pay = c.in-Ok.next.0 in
    let value = c.in-Ok.next.1 in
    let passes = c.in-Ok.ensures.passes in
    let text = pay_text pay (mac_of value (pay_auth_text pay)) in
    let entries = c.state.ensures.state ∙ ap (λ s. s.state) c.self.view_is in
    record {
      entry = out_entry pay;
      text = text;
      passes = subst (λ es. PaysOut c.args.state.now c.args.peer.now c.args.name.now c.args.amount es (out_entry pay) text) entries
          (pays_out c.args.state.now c.args.peer.now c.args.name.now c.args.amount c.state.result.now pay value text passes.0 passes.1 passes.2 refl);
      same = refl;
    }

pub returns : goal.returns
returns g c =
    let pay = c.in-Ok.next.0 in
    let text = c.in-Ok-write_pay.out in
    let passes = c.in-Ok.ensures.passes in
    let entries = c.state.ensures.state ∙ ap (λ s. s.state) c.self.view_is in
    passed g.D.Disk.told c.args.self (RefusesOut c.args.state.now c.args.peer.now c.args.name.now) (PaysOut c.args.state.now c.args.peer.now c.args.name.now c.args.amount) (out_entry pay) text c.keep.result
    (subst (λ es. PaysOut c.args.state.now c.args.peer.now c.args.name.now c.args.amount es (out_entry pay) text) entries
    (pays_out c.args.state.now c.args.peer.now c.args.name.now c.args.amount c.state.result.now pay c.in-Ok.next.1 text passes.0 passes.1 passes.2 c.in-Ok-write_pay.ensures))
    c.keep.ensures
