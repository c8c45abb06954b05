use Rattle.std.proofs.Common.{ap, ◌∙◌, ◌≡◌, ◌+◌, ◌++◌, ◌∷◌, [], arith, length, set}
use Rattle.std.proofs.lemmas.List.{length-set}
use Rattle.x_mac.specs.Code.{chained, word_of}
use Rattle.x_mac.specs.Running.{Holds}
use Rattle.x_mac.proofs.ChainLemmas.{GoesOn, goes_on_byte, goes_on_full, holds_by}
use Rattle.x_mac.proofs.running.Running.hold.Goals as goal

pub returns-then-self-eq8 : goal.returns-then-self-eq8
unfolding Holds
returns-then-self-eq8 c = λ key text holds.
    let s = c.args.self.now in
    let b = c.args.byte in
    let held = set s.held s.count b in
    let size : length held ≡ 8 = length-set s.held s.count b ∙ holds.1 in
    let byte : GoesOn key (text ++ b ∷ []) s.last (s.count + 1) held = goes_on_byte key s.last s.count b text s.held (omega (arith, holds.1, s.within)) holds.2 in
    holds_by c.chain.new.self key (chained key s.last (word_of held)) 0 (text ++ b ∷ []) held
    (c.chain.ensures.schedule ∙ holds.0) (c.chain.ensures.last ∙ ap (λ k. chained k s.last (word_of held)) holds.0) c.chain.ensures.count c.chain.ensures.held size
    (goes_on_full key s.last (s.count + 1) (text ++ b ∷ []) held held c.if-self-eq8.true size byte)

pub returns-else-self-eq8 : goal.returns-else-self-eq8
unfolding Holds
returns-else-self-eq8 c = λ key text holds.
    let s = c.args.self.now in
    let b = c.args.byte in
    (holds.0, length-set s.held s.count b ∙ holds.1, goes_on_byte key s.last s.count b text s.held (omega (arith, holds.1, s.within)) holds.2)
