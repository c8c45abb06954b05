use Rattle.std.proofs.Common.{ap, ◌∙◌, ◌≡◌, length, replicate, drop, ◌++◌, ◌-◌}
use Rattle.std.specs.Int.{w64, from_be_bytes}
use Rattle.std.proofs.lemmas.List.{drop-replicate}
use Rattle.x_mac.specs.Code.{word_of}
use Rattle.x_mac.proofs.running.word.Goals as goal

pub returns : goal.returns
unfolding word_of
returns c =
    let bytes = c.args.bytes.now in
    let whole : c.copy_from_slice.new.self ++ drop (length bytes) (replicate 8 0) ≡ bytes ++ replicate (8 - length bytes) 0
    = ap (λ xs. xs ++ drop (length bytes) (replicate 8 0)) c.copy_from_slice.ensures.after ∙ ap (λ xs. bytes ++ xs) (drop-replicate (length bytes) 8 0) in
    c.from_be_bytes.ensures ∙ ap (from_be_bytes w64) whole
