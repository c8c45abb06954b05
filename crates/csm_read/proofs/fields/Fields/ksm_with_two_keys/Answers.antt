use Rattle.std.proofs.Common.{refl}
use Rattle.csm_grammar.specs.declared.tag.Tag.TheVariants.{Rcv, Org, Kd, Ctp}
use Rattle.csm_read.proofs.BuiltMessages.{ksm_twin_built}
use Rattle.csm_read.proofs.fields.Fields.ksm_with_two_keys.Goals as goal

pub ident-requires-clause-present : goal.ident-requires-clause-present
ident-requires-clause-present c = c.requires.present Rcv refl

pub ident-requires-2-clause-present : goal.ident-requires-2-clause-present
ident-requires-2-clause-present c = c.requires.present Org refl

pub key-requires-clause-present : goal.key-requires-clause-present
key-requires-clause-present c = c.requires.present Kd refl

pub count-requires-clause-present : goal.count-requires-clause-present
count-requires-clause-present c = c.requires.present Ctp refl

pub returns : goal.returns
returns c = record {
  form_is = refl;
  stands = λ fs shut h. ksm_twin_built c.args.self.now.slots fs shut c.ident.result c.ident-2.result c.label_if_any.result c.key.result c.second_key.result c.count.result c.in_ok-extras.extras.iv c.in_ok-extras.extras.edk c.in_ok-extras.extras.p h c.ident.ensures c.ident-2.ensures c.label_if_any.ensures c.key.ensures c.second_key.ensures c.count.ensures c.in_ok-extras.ensures.iv c.in_ok-extras.ensures.edk c.in_ok-extras.ensures.p;
}
