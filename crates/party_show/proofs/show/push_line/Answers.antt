use Rattle.std.proofs.lemmas.Result.{on_ok_weaker}
use Rattle.party_show.proofs.Lines.{line_pushed}
use Rattle.party_show.proofs.show.push_line.Goals as goal

pub returns : goal.returns
returns c = on_ok_weaker c.push-2.result
    (line_pushed c.args.words.now (λ w. w.now) c.args.first.now c.args.out.now c.push.new.self c.push_words.new.out c.push-2.new.self c.in_ok-push.ensures.appends c.in_ok-push_words.ensures)
    c.push-2.ensures.appends
