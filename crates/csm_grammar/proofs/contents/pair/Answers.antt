use Rattle.csm_grammar.proofs.ContentsReading.{is_pair, no_pair_right}
use Rattle.csm_grammar.proofs.contents.pair.Goals as goal

pub returns-in_err-right : goal.returns-in_err-right
returns-in_err-right c =
    let none = no_pair_right c.args.contents.now c.split_at.result.1.now c.if-contents-ne32.false c.split_at.ensures.back c.in_err-right.ensures in
    let e = c.from_residual-in_err-right.ensures in cc

pub returns : goal.returns
returns c = is_pair c.args.contents.now c.split_at.result.0.now c.split_at.result.1.now c.in_ok-left.left c.in_ok-right.right c.if-contents-ne32.false c.split_at.ensures.front c.split_at.ensures.back c.in_ok-left.ensures c.in_ok-right.ensures
