use Rattle.std.proofs.Common.{◌∙◌, refl, ap, subst}
use Rattle.pay_auth.specs.Decisions.{in_entry, receipt, PassesIn, RefusesIn, TakesIn}
use Rattle.pay_auth.proofs.Turned.{passed}
use Rattle.pay_auth.proofs.ledger.Ledger.accept.Goals as goal

pub returns-in_default : goal.returns-in_default
returns-in_default g c =
    let pay = c.in-Ok.pay in
    let entries = c.state.ensures.state ∙ ap (λ s. s.state) c.self.view_is in
    record {
      entry = in_entry pay;
      text = receipt pay;
      passes = record { pay = pay; passes = subst (λ es. PassesIn c.args.state.now c.args.bytes.now es pay) entries c.in-Ok.ensures.passes; entry_is = refl; text_is = refl };
      same = refl;
    }

pub returns : goal.returns
returns g c =
    let pay = c.in-Ok.pay in
    let entries = c.state.ensures.state ∙ ap (λ s. s.state) c.self.view_is in
    passed g.D.Disk.told c.args.self (RefusesIn c.args.state.now c.args.bytes.now) (TakesIn c.args.state.now c.args.bytes.now) (in_entry pay) c.in-Ok-write_receipt.out c.keep.result
    (record { pay = pay; passes = subst (λ es. PassesIn c.args.state.now c.args.bytes.now es pay) entries c.in-Ok.ensures.passes; entry_is = refl; text_is = c.in-Ok-write_receipt.ensures })
    c.keep.ensures
