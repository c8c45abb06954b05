use Rattle.std.proofs.Common.{ap, sym, ◌∙◌, ◌≡◌, ◌<◌, arith, length, take, replicate, ◌++◌, ◌-◌}
use Rattle.std.specs.Prelude.{bit_xor}
use Rattle.std.proofs.lemmas.List.{length-take-le}
use Rattle.x_des.specs.Des.{enciphered}
use Rattle.x_mac.specs.Code.{code_from, word_of, chained}
use Rattle.x_mac.specs.Running.{Holds}
use Rattle.x_mac.proofs.ChainLemmas.{goes_on_end, code_none, code_short}
use Rattle.x_mac.proofs.running.Running.total.Goals as goal

pub returns-then-self-eq0 : goal.returns-then-self-eq0
unfolding Holds
returns-then-self-eq0 c = λ key text holds.
    let s = c.args.self.now in
    c.word.ensures
    ∙ sym (goes_on_end key s.last s.count text s.held holds.2 ∙ ap (λ n. code_from key s.last (take n s.held)) c.if-self-eq0.true ∙ code_none key s.last)

pub returns : goal.returns
unfolding Holds
returns c = λ key text holds.
    let s = c.args.self.now in
    let front = take s.count s.held in
    let size : length front ≡ s.count = length-take-le s.count s.held (omega (arith, holds.1, s.within)) in
    let some : 0 < length front = (let ne = c.if-self-eq0.false in omega (arith, size)) in
    c.word-3.ensures ∙ c.encrypt_block.ensures.enciphered
    ∙ ap (enciphered s.schedule) (c.xor.ensures ∙ ap (bit_xor s.last) (c.new-block.ensures ∙ c.word-2.ensures))
    ∙ ap (λ k. chained k s.last (word_of (front ++ replicate (8 - length front) 0))) holds.0
    ∙ sym (goes_on_end key s.last s.count text s.held holds.2 ∙ code_short key s.last front some (omega (arith, size, s.within)))
