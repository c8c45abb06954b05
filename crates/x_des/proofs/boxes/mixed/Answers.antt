use Rattle.std.proofs.Common.{ap, ◌∙◌}
use Rattle.x_des.specs.Bits.{bits_of}
use Rattle.x_des.specs.Block.{doubled}
use Rattle.x_des.specs.Combined.{box_and_permutation_of}
use Rattle.x_des.specs.Des.{cipher}
use Rattle.x_des.proofs.Apart.{in_order, or_2_0, or_3_1, or_6_4, or_7_5}
use Rattle.x_des.proofs.CombinedRound.{combined_is, doubled_sum, given, groups_of}
use Rattle.x_des.proofs.boxes.mixed.Goals as goal

pub six-requires-clause-zeros : goal.six-requires-clause-zeros
six-requires-clause-zeros c = (groups_of c.args.wide c.args.round_key c.requires).z8

pub six-requires-2-clause-zeros : goal.six-requires-2-clause-zeros
six-requires-2-clause-zeros c = (groups_of c.args.wide c.args.round_key c.requires).z6

pub six-requires-3-clause-zeros : goal.six-requires-3-clause-zeros
six-requires-3-clause-zeros c = (groups_of c.args.wide c.args.round_key c.requires).z4

pub six-requires-4-clause-zeros : goal.six-requires-4-clause-zeros
six-requires-4-clause-zeros c = (groups_of c.args.wide c.args.round_key c.requires).z2

pub six-requires-5-clause-zeros : goal.six-requires-5-clause-zeros
six-requires-5-clause-zeros c = (groups_of c.args.wide c.args.round_key c.requires).z7

pub six-requires-6-clause-zeros : goal.six-requires-6-clause-zeros
six-requires-6-clause-zeros c = (groups_of c.args.wide c.args.round_key c.requires).z5

pub six-requires-7-clause-zeros : goal.six-requires-7-clause-zeros
six-requires-7-clause-zeros c = (groups_of c.args.wide c.args.round_key c.requires).z3

pub six-requires-8-clause-zeros : goal.six-requires-8-clause-zeros
six-requires-8-clause-zeros c = (groups_of c.args.wide c.args.round_key c.requires).z1

pub returns : goal.returns
unfolding cipher
returns c =
    let wide = c.args.wide in
    let key = c.args.round_key in
    let g = groups_of wide key c.requires in
    let h = c.six.result in
    let f = c.six-2.result in
    let d = c.six-3.result in
    let b = c.six-4.result in
    let p = or_7_5 h f c.entry.result c.entry-2.result c.entry.ensures c.entry-2.ensures in
    let q = or_3_1 d b c.entry-3.result c.entry-4.result c.entry-3.ensures c.entry-4.ensures in
    let r = or_6_4 c.six-5.result c.six-6.result c.entry-5.result c.entry-6.result c.entry-5.ensures c.entry-6.ensures in
    let s = or_2_0 c.six-7.result c.six-8.result c.entry-7.result c.entry-8.result c.entry-7.ensures c.entry-8.ensures in
    doubled_sum _ _ _ _ (doubled_sum _ _ _ _ (doubled_sum _ _ _ _ p q) r) s
    ∙ ap (λ n. doubled (bits_of 32 n)) (in_order (box_and_permutation_of 0 c.six-8.result) (box_and_permutation_of 1 b) (box_and_permutation_of 2 c.six-7.result) (box_and_permutation_of 3 d) (box_and_permutation_of 4 c.six-6.result) (box_and_permutation_of 5 f) (box_and_permutation_of 6 c.six-5.result) (box_and_permutation_of 7 h))
    ∙ ap doubled (combined_is c.six-8.result b c.six-7.result d c.six-6.result f c.six-5.result h (given wide key)
    (c.six-8.ensures.bits ∙ g.s1) (c.six-4.ensures.bits ∙ g.s2) (c.six-7.ensures.bits ∙ g.s3) (c.six-3.ensures.bits ∙ g.s4)
    (c.six-6.ensures.bits ∙ g.s5) (c.six-2.ensures.bits ∙ g.s6) (c.six-5.ensures.bits ∙ g.s7) (c.six.ensures.bits ∙ g.s8))
