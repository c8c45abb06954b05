use Rattle.std.proofs.Common.{refl}
use Rattle.csm_read.proofs.BuiltMessages.{rsi_built}
use Rattle.csm_read.proofs.fields.Fields.rsi.Goals as goal

pub returns : goal.returns
returns c = record {
  form_is = refl;
  stands = λ fs shut h. rsi_built c.args.self.now.slots fs shut c.ident.result c.ident-2.result c.service.result c.ident_if_any.result h c.ident.ensures c.ident-2.ensures c.service.ensures c.ident_if_any.ensures;
}
