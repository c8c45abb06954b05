use Rattle.std.proofs.Common.{refl}
use Rattle.csm_grammar.specs.declared.tag.Tag.TheVariants.{Rcv, Org}
use Rattle.csm_read.proofs.BuiltMessages.{rsm_built}
use Rattle.csm_read.proofs.fields.Fields.rsm.Goals as goal

pub ident-requires-clause-present : goal.ident-requires-clause-present
ident-requires-clause-present c = c.requires Rcv refl

pub ident-requires-2-clause-present : goal.ident-requires-2-clause-present
ident-requires-2-clause-present c = c.requires Org refl

pub returns : goal.returns
returns c = record {
  form_is = refl;
  stands = λ fs shut h. rsm_built c.args.self.now.slots fs shut c.ident.result c.ident-2.result c.name_if_any.result c.in_ok-extras.extras.iv c.in_ok-extras.extras.edk c.in_ok-extras.extras.p h c.ident.ensures c.ident-2.ensures c.name_if_any.ensures c.in_ok-extras.ensures.iv c.in_ok-extras.ensures.edk c.in_ok-extras.ensures.p;
}
