use Rattle.std.proofs.Common.{ap, ◌∙◌}
use Rattle.std.specs.Prelude.{bit_xor}
use Rattle.x_des.specs.Des.{enciphered}
use Rattle.x_mac.specs.Code.{word_of}
use Rattle.x_mac.proofs.running.Running.chain.Goals as goal

pub returns-clause-last : goal.returns-clause-last
unfolding word_of
returns-clause-last c =
    let s = c.args.self.now in
    c.encrypt_block-self.ensures.enciphered
    ∙ ap (enciphered s.schedule) (c.xor.ensures ∙ ap (bit_xor s.last) (c.new-block.ensures ∙ c.from_be_bytes.ensures))
