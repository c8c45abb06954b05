use Rattle.std.proofs.Common.{refl}
use Rattle.csm_read.proofs.BuiltMessages.{rfs_built}
use Rattle.csm_read.proofs.fields.Fields.rfs.Goals as goal

pub returns : goal.returns
returns c = record {
  form_is = refl;
  stands = λ fs shut h. rfs_built c.args.self.now.slots fs shut c.ident.result c.ident-2.result c.ident-3.result c.key.result c.count.result h c.ident.ensures c.ident-2.ensures c.ident-3.ensures c.key.ensures c.count.ensures;
}
