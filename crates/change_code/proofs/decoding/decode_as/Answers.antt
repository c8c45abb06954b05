use Rattle.std.proofs.Common.{ℕ, List, subst}
use Rattle.change_code.specs.Reading.{IsAllRead, change_form}
use Rattle.change_code.proofs.Closings.{never_code}
use Rattle.change_code.proofs.decoding.decode_as.Goals as goal

pub returns-clause-bad : goal.returns-clause-bad
returns-clause-bad c =
    never_code c.change.result c.args.format c.args.bytes.now c.in-Some.text.now c.in-Some.ensures.text
    (subst (λ (l : List ℕ). IsAllRead change_form l c.change.result) c.new.ensures c.change.ensures)
