use Rattle.std.proofs.Common.{◌≡◌, ◌∷◌, ◌++◌, take}
use Rattle.std.specs.List.{flat_map}
use Rattle.party_show.proofs.show.push_words.Given as goal

-- the words gone over are appended, each behind a blank
abbrev pub invariant-loop-word : goal.invariant-loop-word
invariant-loop-word l = l.out ≡ l.initial.out ++ flat_map (λ w. 32 ∷ w.now) (take l.word-index l.words)
