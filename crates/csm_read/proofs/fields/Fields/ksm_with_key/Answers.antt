use Rattle.std.proofs.Common.{refl}
use Rattle.csm_grammar.specs.declared.tag.Tag.TheVariants.{Rcv, Org, Idk1, Kk, Kd, Ctp}
use Rattle.csm_read.proofs.BuiltMessages.{ksm_single_built}
use Rattle.csm_read.proofs.fields.Fields.ksm_with_key.Goals as goal

pub ident-requires-clause-present : goal.ident-requires-clause-present
ident-requires-clause-present c = c.requires Rcv refl

pub ident-requires-2-clause-present : goal.ident-requires-2-clause-present
ident-requires-2-clause-present c = c.requires Org refl

pub label-requires-clause-present : goal.label-requires-clause-present
label-requires-clause-present c = c.requires Idk1 refl

pub key-requires-clause-present : goal.key-requires-clause-present
key-requires-clause-present c = c.requires Kk refl

pub key-requires-2-clause-present : goal.key-requires-2-clause-present
key-requires-2-clause-present c = c.requires Kd refl

pub count-requires-clause-present : goal.count-requires-clause-present
count-requires-clause-present c = c.requires Ctp refl

pub returns : goal.returns
returns c = record {
  form_is = refl;
  stands = λ fs shut h. ksm_single_built c.args.self.now.slots fs shut c.ident.result c.ident-2.result c.label.result c.label_if_any.result c.key.result c.key-2.result c.count.result c.in_ok-extras.extras.iv c.in_ok-extras.extras.edk c.in_ok-extras.extras.p h c.ident.ensures c.ident-2.ensures c.label.ensures c.label_if_any.ensures c.key.ensures c.key-2.ensures c.count.ensures c.in_ok-extras.ensures.iv c.in_ok-extras.ensures.edk c.in_ok-extras.ensures.p;
}
