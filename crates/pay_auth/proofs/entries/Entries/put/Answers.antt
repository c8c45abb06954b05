use Rattle.std.proofs.Common.{◌≡◌, false, sym, subst}
use Rattle.pay_auth.specs.Entries.{entry_key, is_full_for}
use Rattle.pay_auth.proofs.Sizing.{put_sized}
use Rattle.pay_auth.proofs.entries.Entries.put.Goals as goal

pub invariant_of-self : goal.invariant_of-self
invariant_of-self c =
    put_sized _ c.law_entry_test.ensures c.args.entry c.self.inside.table.0 c.put.new.self.0 c.put.result c.put.ensures.put c.put.ensures.kept
    (subst (λ l. is_full_for (entry_key c.args.entry) l ≡ false) (sym c.self.view_is) c.requires) c.self.invariant
