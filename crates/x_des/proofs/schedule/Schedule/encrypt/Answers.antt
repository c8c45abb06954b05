use Rattle.std.proofs.Common.{arith, ap, ◌∙◌, ◌≡◌}
use Rattle.x_des.specs.Des.{enciphered, deciphered}
use Rattle.x_des.proofs.Inverse.{deciphered-enciphered, enciphered_alike}
use Rattle.x_des.proofs.schedule.Schedule.encrypt.Goals as goal

pub returns : goal.returns
returns c =
    let k = c.args.self.now in
    let x = c.args.block in
    let word : c.word.result ≡ enciphered k x = c.word.ensures ∙ c.encrypt_block.ensures.enciphered ∙ ap (enciphered k) c.new.ensures in
    record {
      enciphered = word;
      undone = ap (deciphered k) word ∙ deciphered-enciphered k x (omega arith);
      parity = λ l e. word ∙ enciphered_alike k l x e;
    }
