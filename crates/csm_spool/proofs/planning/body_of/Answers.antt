use Rattle.std.proofs.Common.{◌-◌, List, ℕ, length, take, ap, ◌∙◌, arith}
use Rattle.csm_spool.proofs.Codes.{inside, frame_long}
use Rattle.csm_spool.proofs.planning.body_of.Goals as goal

pub split_at-requires : goal.split_at-requires
split_at-requires c = omega (arith, frame_long c.requires.0 c.args.frame.now c.requires.1)

pub overflow_sub-end : goal.overflow_sub-end
overflow_sub-end c = omega (arith, frame_long c.requires.0 c.args.frame.now c.requires.1)

pub split_at-requires-2 : goal.split_at-requires-2
split_at-requires-2 c = omega (arith, frame_long c.requires.0 c.args.frame.now c.requires.1, c.split_at.ensures.back_len)

pub returns : goal.returns
returns c = λ body is.
    c.split_at-2.ensures.front ∙ (ap (λ (l : List ℕ). take (length c.args.frame.now - 5) l) c.split_at.ensures.back ∙ inside body c.args.frame.now is)
