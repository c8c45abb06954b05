use Rattle.std.proofs.Common.{arith, ap, ◌∙◌, ◌≡◌}
use Rattle.x_des.specs.Des.{enciphered, deciphered}
use Rattle.x_des.proofs.Inverse.{enciphered-deciphered, deciphered_alike}
use Rattle.x_des.proofs.schedule.Schedule.decrypt.Goals as goal

pub returns : goal.returns
returns c =
    let k = c.args.self.now in
    let x = c.args.block in
    let word : c.word.result ≡ deciphered k x = c.word.ensures ∙ c.decrypt_block.ensures.deciphered ∙ ap (deciphered k) c.new.ensures in
    record {
      deciphered = word;
      undone = ap (enciphered k) word ∙ enciphered-deciphered k x (omega arith);
      parity = λ l e. word ∙ deciphered_alike k l x e;
    }
