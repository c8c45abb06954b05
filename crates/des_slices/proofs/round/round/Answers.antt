use Rattle.std.proofs.Common.{ap, ◌∙◌}
use Rattle.x_des.specs.Des.{substituted}
use Rattle.x_des.specs.Tables.{s1, s2, s3, s4, s5, s6, s7, s8}
use Rattle.des_slices.specs.Vectors.{lane, words_of}
use Rattle.des_slices.proofs.Blocks.{length-lane}
use Rattle.des_slices.proofs.Rounds.{round_is, six}
use Rattle.des_slices.proofs.round.round.Goals as goal

pub returns-clause-lanes : goal.returns-clause-lanes
unfolding six
returns-clause-lanes c l h =
    round_is (lane l (words_of c.args.left.now)) (lane l (words_of c.args.right.now)) (lane l (words_of c.args.key.now)) _ _ _ _ _ _ _ _ _ _ _ _ _ _ _ _ (length-lane l 32 c.args.left.now c.told-left)
    (c.put.ensures.lanes l h) (c.box_1.ensures.lanes l h ∙ ap (substituted s1) (c.six_bits.ensures.lanes l h))
    (c.put-2.ensures.lanes l h) (c.box_2.ensures.lanes l h ∙ ap (substituted s2) (c.six_bits-2.ensures.lanes l h))
    (c.put-3.ensures.lanes l h) (c.box_3.ensures.lanes l h ∙ ap (substituted s3) (c.six_bits-3.ensures.lanes l h))
    (c.put-4.ensures.lanes l h) (c.box_4.ensures.lanes l h ∙ ap (substituted s4) (c.six_bits-4.ensures.lanes l h))
    (c.put-5.ensures.lanes l h) (c.box_5.ensures.lanes l h ∙ ap (substituted s5) (c.six_bits-5.ensures.lanes l h))
    (c.put-6.ensures.lanes l h) (c.box_6.ensures.lanes l h ∙ ap (substituted s6) (c.six_bits-6.ensures.lanes l h))
    (c.put-7.ensures.lanes l h) (c.box_7.ensures.lanes l h ∙ ap (substituted s7) (c.six_bits-7.ensures.lanes l h))
    (c.put-8.ensures.lanes l h) (c.box_8.ensures.lanes l h ∙ ap (substituted s8) (c.six_bits-8.ensures.lanes l h))
