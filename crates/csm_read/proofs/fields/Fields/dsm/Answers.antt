use Rattle.std.proofs.Common.{refl}
use Rattle.csm_read.proofs.BuiltMessages.{dsm_built}
use Rattle.csm_read.proofs.fields.Fields.dsm.Goals as goal

pub returns : goal.returns
returns c = record {
  form_is = refl;
  stands = λ fs shut h. dsm_built c.args.self.now.slots fs shut c.ident.result c.ident-2.result c.name.result c.name_if_any.result h c.ident.ensures c.ident-2.ensures c.name.ensures c.name_if_any.ensures;
}
