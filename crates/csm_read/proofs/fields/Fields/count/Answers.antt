use Rattle.std.proofs.Common.{refl, sym, subst, ◌∙◌}
use Rattle.x_base.specs.Count.{IsCount}
use Rattle.csm_grammar.specs.Values.Kind.{OfCount}
use Rattle.csm_read.proofs.Denoting.{value_kept, is_of_kind, count_there, count_same}
use Rattle.csm_read.proofs.fields.Fields.count.Goals as goal

pub unwrap-requires : goal.unwrap-requires
unwrap-requires c = count_there c.of.result c.number.result c.of.ensures (subst IsCount (sym c.number.ensures) (is_of_kind c.args.self.now.slots c.args.self.now.numbers c.args.self.now.denoted c.args.tag c.requires.present OfCount refl c.requires.kind))

pub returns : goal.returns
returns c = value_kept c.args.self.now.slots c.args.self.now.numbers c.args.self.now.denoted c.args.tag c.requires.present OfCount refl c.requires.kind c.unwrap.result (count_same c.of.result c.number.result c.unwrap.result c.of.ensures c.unwrap.ensures ∙ c.number.ensures)
