use Rattle.std.proofs.Common.{refl}
use Rattle.csm_grammar.specs.declared.tag.Tag.TheVariants.{Rcv, Org, Idc, Kdu, Ctb}
use Rattle.csm_read.proofs.BuiltMessages.{ksm_centre_built}
use Rattle.csm_read.proofs.fields.Fields.ksm_of_centre.Goals as goal

pub ident-requires-clause-present : goal.ident-requires-clause-present
ident-requires-clause-present c = c.requires Rcv refl

pub ident-requires-2-clause-present : goal.ident-requires-2-clause-present
ident-requires-2-clause-present c = c.requires Org refl

pub ident-requires-3-clause-present : goal.ident-requires-3-clause-present
ident-requires-3-clause-present c = c.requires Idc refl

pub key-requires-clause-present : goal.key-requires-clause-present
key-requires-clause-present c = c.requires Kdu refl

pub count-requires-clause-present : goal.count-requires-clause-present
count-requires-clause-present c = c.requires Ctb refl

pub returns : goal.returns
returns c = record {
  form_is = refl;
  stands = λ fs shut h. ksm_centre_built c.args.self.now.slots fs shut c.ident.result c.ident-2.result c.ident-3.result c.key.result c.count.result c.in_ok-extras.extras.iv c.in_ok-extras.extras.edk c.in_ok-extras.extras.p h c.ident.ensures c.ident-2.ensures c.ident-3.ensures c.key.ensures c.count.ensures c.in_ok-extras.ensures.iv c.in_ok-extras.ensures.edk c.in_ok-extras.ensures.p;
}
