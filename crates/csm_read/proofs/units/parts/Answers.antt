use Rattle.csm_read.proofs.UnitLemmas.{no_slash, cut_at, is_tag_text, is_contents_text}
use Rattle.csm_read.proofs.units.parts.Goals as goal

pub returns-in-Some : goal.returns-in-Some
returns-in-Some c =
    let k = cut_at c.args.token.now c.in-Some.at c.in-Some.ensures in
    (k.has, is_tag_text c.args.token.now c.in-Some.at c.split_at.result.0.now k c.split_at.ensures.front, is_contents_text c.args.token.now c.in-Some.at c.split_at.result.1.now c.split_at-in-Some.result.1.now k c.split_at.ensures.back c.split_at-in-Some.ensures.back)

pub returns-in-None : goal.returns-in-None
returns-in-None c = no_slash c.args.token.now c.in-None.ensures
