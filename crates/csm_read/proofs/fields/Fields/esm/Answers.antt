use Rattle.std.proofs.Common.{refl}
use Rattle.csm_grammar.specs.declared.tag.Tag.TheVariants.{Rcv, Org, Erf}
use Rattle.csm_read.proofs.BuiltMessages.{esm_built}
use Rattle.csm_read.proofs.fields.Fields.esm.Goals as goal

pub ident-requires-clause-present : goal.ident-requires-clause-present
ident-requires-clause-present c = c.requires Rcv refl

pub ident-requires-2-clause-present : goal.ident-requires-2-clause-present
ident-requires-2-clause-present c = c.requires Org refl

pub returns : goal.returns
returns c = record {
  form_is = refl;
  stands = λ fs shut h. esm_built c.args.self.now.slots fs shut c.ident.result c.ident-2.result c.count_if_any.result c.count_if_any-2.result c.count_if_any-3.result c.count_if_any-4.result c.in_ok-erf.erf h c.ident.ensures c.ident-2.ensures c.count_if_any.ensures c.count_if_any-2.ensures c.count_if_any-3.ensures c.count_if_any-4.ensures c.in_ok-erf.ensures;
}

pub reason-requires : goal.reason-requires
reason-requires c = c.requires Erf refl
