use Rattle.std.proofs.Common.{arith, ap, sym, ◌∙◌, map}
use Rattle.std.proofs.lemmas.List.{length-set, take_all}
use Rattle.x_des.specs.Bits.{bits_of}
use Rattle.x_des.specs.Des.{round_keys}
use Rattle.x_des.specs.RoundKey.{gathered}
use Rattle.x_des.proofs.KeyRows.{length-round_keys, round_key_is}
use Rattle.x_des.proofs.Steps.{key_more}
use Rattle.x_des.proofs.round_keys.round_keys.Goals as goal

pub loop-i-preserved : goal.loop-i-preserved
loop-i-preserved c =
    let l = c.loop-i in
    let all = round_keys (bits_of 64 c.args.key) in
    record {
      so_far = key_more (λ word. gathered (bits_of 64 word)) l.keys all l.i c.joined.result (omega (arith, l.invariant.sixteen)) (omega (arith, length-round_keys (bits_of 64 c.args.key))) l.invariant.so_far
          (round_key_is c.args.key l.i _ _ c.joined.result (omega arith) (c.sums-c.ensures l.i (omega arith)) (c.sums-d.ensures l.i (omega arith)) c.joined.ensures);
      sixteen = length-set l.keys l.i c.joined.result ∙ l.invariant.sixteen;
    }

pub returns : goal.returns
returns c =
    let l = c.loop-i in
    let all = round_keys (bits_of 64 c.args.key) in
    sym (ap (map (λ word. gathered (bits_of 64 word))) (take_all l.i l.keys (omega (arith, l.invariant.sixteen))))
    ∙ l.invariant.so_far ∙ take_all l.i all (omega (arith, length-round_keys (bits_of 64 c.args.key)))
