use Rattle.std.proofs.Common.{inl, inr, refl, sym, ◌∙◌}
use Rattle.node_core.proofs.ByName.{other_name, same_name}
use Rattle.x_pair.proofs.comparing.of_parties.Goals as goal

pub returns-then-ne : goal.returns-then-ne
returns-then-ne c = inl ((λ same. other_name c.own-own.result c.own-other.result c.ne.result c.ne.ensures c.if-ne.true (c.own-own.ensures.own ∙ (same ∙ sym c.own-other.ensures.own))), refl)

pub returns : goal.returns
returns c = inr (c.compare-comparison.result, (sym c.own-own.ensures.own ∙ (same_name c.own-own.result c.own-other.result c.ne.result c.ne.ensures c.if-ne.false ∙ c.own-other.ensures.own)), c.compare-comparison.ensures, c.like.ensures)
