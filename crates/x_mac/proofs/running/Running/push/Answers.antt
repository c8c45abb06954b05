use Rattle.std.proofs.Common.{ℕ, List, ap, subst, sym, ◌∙◌, ◌≡◌, ◌++◌, ◌∷◌, [], arith, length, take, append_assoc}
use Rattle.std.proofs.lemmas.List.{length-take-le, take-append-drop}
use Rattle.x_mac.specs.Code.{chained, word_of}
use Rattle.x_mac.specs.Running.{Holds}
use Rattle.x_mac.proofs.ChainLemmas.{goes_on_block, holds_by}
use Rattle.x_mac.proofs.running.Running.push.Goals as goal

-- a piece more behind what is taken in
more : (front next rest rest' piece : List ℕ) → front ++ rest ≡ piece → rest ≡ next ++ rest' → (front ++ next) ++ rest' ≡ piece
more front next rest rest' piece e f = append_assoc front next rest' ∙ ap (λ xs. front ++ xs) (sym f) ∙ e

pub loop-first-preserved-in-Some-split_first_chunk :
    goal.loop-first-preserved-in-Some-split_first_chunk
unfolding Holds
loop-first-preserved-in-Some-split_first_chunk c =
    let front = c.loop-first.invariant.0 in
    let rest = c.loop-first.rest.now in
    let block = c.in-Some-split_first_chunk.block.now in
    let behind = c.in-Some-split_first_chunk.behind.now in
    let cut = c.in-Some-split_first_chunk.ensures.cases in
    let s = c.loop-first.self in
    let whole : rest ≡ block ++ behind = sym (ap (λ xs. xs ++ behind) cut.0 ∙ ap (λ xs. take 8 rest ++ xs) cut.1 ∙ take-append-drop 8 rest) in
    let size : length block ≡ 8 = ap length cut.0 ∙ length-take-le 8 rest (omega (arith, cut.2)) in (
      front ++ block,
      (
        more front block rest behind c.args.piece.now c.loop-first.invariant.1.0 whole,
        λ key text holds.
            let before = c.loop-first.invariant.1.1 key text holds in
            subst (Holds c.chain.new.self key) (append_assoc text front block)
            (holds_by c.chain.new.self key (chained key s.last (word_of block)) s.count ((text ++ front) ++ block) s.held
            (c.chain.ensures.schedule ∙ before.0) (c.chain.ensures.last ∙ ap (λ k. chained k s.last (word_of block)) before.0)
            c.chain.ensures.count c.chain.ensures.held before.1
            (goes_on_block key s.last s.count (text ++ front) s.held block c.if-self-eq0.true size before.2)),
      ),
    )

pub loop-first-preserved : goal.loop-first-preserved
loop-first-preserved c =
    let front = c.loop-first.invariant.0 in
    let byte = c.in-Some.first.now ∷ [] in (
      front ++ byte,
      (
        more front byte c.loop-first.rest.now c.in-Some.others.now c.args.piece.now c.loop-first.invariant.1.0 c.in-Some.ensures.cases.0,
        λ key text holds.
            subst (Holds c.hold.new.self key) (append_assoc text front byte) (c.hold.ensures key (text ++ front) (c.loop-first.invariant.1.1 key text holds)),
      ),
    )
