use Rattle.std.proofs.Common.{ap, ◌∙◌, ◌≡◌, length, replicate, drop, ◌++◌}
use Rattle.std.specs.Int.{w64, from_be_bytes}
use Rattle.std.proofs.lemmas.List.{drop-replicate}
use Rattle.x_mac.specs.Code.{word_of}
use Rattle.edc_slices.specs.Chains.{block_at_step}
use Rattle.edc_slices.proofs.Blocks.{cut_block}
use Rattle.edc_slices.proofs.lanes.last_block.Goals as goal

pub returns : goal.returns
unfolding word_of
returns c =
    let bytes = c.args.bytes.now in
    let filled : c.copy_from_slice.new.self ++ drop (length bytes) (replicate 8 0) ≡ block_at_step bytes 0
    = ap (λ xs. xs ++ drop (length bytes) (replicate 8 0)) c.copy_from_slice.ensures.after ∙ ap (λ xs. bytes ++ xs) (drop-replicate (length bytes) 8 0) ∙ cut_block bytes c.requires in
    c.from_be_bytes.ensures ∙ ap (from_be_bytes w64) filled
