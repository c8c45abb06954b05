use Rattle.std.proofs.Common.{take, ap, ◌∙◌}
use Rattle.std.proofs.lemmas.List.{take_min}
use Rattle.course.proofs.arriving.input_bytes.Goals as goal

pub returns-clause-value : goal.returns-clause-value
returns-clause-value c = c.split_at.ensures.front ∙ (ap (λ n. take n c.args.bytes.now) c.min.ensures ∙ take_min 2049 c.args.bytes.now)
