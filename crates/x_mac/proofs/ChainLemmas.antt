-- The chain over a text, a block at a time.
use Rattle.std.proofs.Common.{◌≡◌, ℕ, suc, ◌+◌, ◌-◌, ◌/◌, ◌%◌, ◌<◌, List, [], ◌∷◌, ◌++◌, length, take, drop, set, replicate, refl, sym, ap, ◌∙◌, arith, append_assoc}
use Rattle.std.specs.Prelude.{fold}
use Rattle.std.proofs.lemmas.List.{take_at, drop_at, append-nil, length-append, length-replicate, take_all, take_more_set}
use Rattle.x_mac.specs.declared.running.Running.{Running}
use Rattle.x_mac.specs.Running.{Holds}
use Rattle.x_mac.specs.Code.{filled, blocks, word_of, chained, code_from}

pub length-filled : (t : List ℕ) → length (filled t) ≡ length t + (8 - length t % 8) % 8
unfolding filled
length-filled t = length-append t (replicate ((8 - length t % 8) % 8) 0) ∙ ap (λ n. length t + n) (length-replicate ((8 - length t % 8) % 8) 0)

-- a first block of eight bytes
pub code_long : (key y : ℕ) (front rest : List ℕ) → length front ≡ 8 → code_from key y (front ++ rest) ≡ code_from key (chained key y (word_of front)) rest
unfolding code_from blocks filled
code_long key y front rest e =
    let whole : length (front ++ rest) ≡ 8 + length rest = length-append front rest ∙ ap (λ n. n + length rest) e in
    let same : (8 - length (front ++ rest) % 8) % 8 ≡ (8 - length rest % 8) % 8 = omega (arith, whole) in
    let fill : filled (front ++ rest) ≡ front ++ filled rest
    = ap (λ n. (front ++ rest) ++ replicate n 0) same ∙ append_assoc front rest (replicate ((8 - length rest % 8) % 8) 0) in
    let count : length (front ++ filled rest) / 8 ≡ suc (length (filled rest) / 8)
    = (let f : length (front ++ filled rest) ≡ 8 + length (filled rest) = length-append front (filled rest) ∙ ap (λ n. n + length (filled rest)) e in omega (arith, f)) in
    ap (λ f. fold (chained key) y (blocks (length f / 8) f)) fill
    ∙ ap (λ n. fold (chained key) y (blocks n (front ++ filled rest))) count
    ∙ ap (λ b. fold (chained key) (chained key y (word_of b)) (blocks (length (filled rest) / 8) (drop 8 (front ++ filled rest)))) (take_at front (filled rest) 8 e)
    ∙ ap (λ r. fold (chained key) (chained key y (word_of front)) (blocks (length (filled rest) / 8) r)) (drop_at front (filled rest) 8 e)

-- a last block of fewer
pub code_short : (key y : ℕ) (t : List ℕ) → 0 < length t → length t < 8 → code_from key y t ≡ chained key y (word_of (t ++ replicate (8 - length t) 0))
unfolding code_from blocks filled
code_short key y t p q =
    let same : (8 - length t % 8) % 8 ≡ 8 - length t = omega arith in
    let fill : filled t ≡ t ++ replicate (8 - length t) 0 = ap (λ n. t ++ replicate n 0) same in
    let size : length (t ++ replicate (8 - length t) 0) ≡ 8
    = length-append t (replicate (8 - length t) 0) ∙ ap (λ n. length t + n) (length-replicate (8 - length t) 0) ∙ (omega arith) in
    let count : length (t ++ replicate (8 - length t) 0) / 8 ≡ 1 = ap (λ n. n / 8) size in
    ap (λ f. fold (chained key) y (blocks (length f / 8) f)) fill
    ∙ ap (λ n. fold (chained key) y (blocks n (t ++ replicate (8 - length t) 0))) count
    ∙ ap (λ b. chained key y (word_of b)) (take_all 8 (t ++ replicate (8 - length t) 0) (omega arith))

pub code_none : (key y : ℕ) → code_from key y [] ≡ y
unfolding code_from blocks filled
code_none key y = refl

-- a byte more in the buffer
pub held_more : (key y c b : ℕ) (held rest : List ℕ) → c < length held
    → code_from key y (take c held ++ (b ∷ rest)) ≡ code_from key y (take (c + 1) (set held c b) ++ rest)
held_more key y c b held rest h =
    ap (code_from key y) (sym (append_assoc (take c held) (b ∷ []) rest))
    ∙ ap (λ xs. code_from key y (xs ++ rest)) (sym (take_more_set held c b h))

-- the chain over a text goes on from `last` with the first c bytes that are held
abbrev pub GoesOn : ℕ → List ℕ → ℕ → ℕ → List ℕ → Type 0
GoesOn key text last c held = (rest : List ℕ) → code_from key 0 (text ++ rest) ≡ code_from key last (take c held ++ rest)

-- a byte more is held
pub goes_on_byte : (key last c b : ℕ) (text held : List ℕ) → c < length held → GoesOn key text last c held → GoesOn key (text ++ b ∷ []) last (c + 1) (set held c b)
goes_on_byte key last c b text held h before rest =
    ap (code_from key 0) (append_assoc text (b ∷ []) rest) ∙ before (b ∷ rest) ∙ held_more key last c b held rest h

-- a full buffer goes into the chain
pub goes_on_full : (key last c : ℕ) (text held others : List ℕ) → c ≡ 8 → length held ≡ 8 → GoesOn key text last c held
    → GoesOn key text (chained key last (word_of held)) 0 others
goes_on_full key last c text held others e size before rest =
    before rest
    ∙ ap (λ n. code_from key last (take n held ++ rest)) e
    ∙ ap (λ xs. code_from key last (xs ++ rest)) (take_all 8 held (omega arith))
    ∙ code_long key last held rest size

-- a whole block goes into the chain where nothing is held
pub goes_on_block : (key last c : ℕ) (text held block : List ℕ) → c ≡ 0 → length block ≡ 8 → GoesOn key text last c held
    → GoesOn key (text ++ block) (chained key last (word_of block)) c held
goes_on_block key last c text held block e size before rest =
    ap (code_from key 0) (append_assoc text block rest)
    ∙ before (block ++ rest)
    ∙ ap (λ n. code_from key last (take n held ++ (block ++ rest))) e
    ∙ code_long key last block rest size
    ∙ ap (λ n. code_from key (chained key last (word_of block)) (take n held ++ rest)) (sym e)

pub goes_on_end : (key last c : ℕ) (text held : List ℕ) → GoesOn key text last c held → code_from key 0 text ≡ code_from key last (take c held)
goes_on_end key last c text held before = ap (code_from key 0) (sym (append-nil text)) ∙ before [] ∙ ap (code_from key last) (append-nil (take c held))

-- what a running code holds, by its fields
pub holds_by : (r : Running) (key last count : ℕ) (text held : List ℕ) → r.schedule ≡ key → r.last ≡ last → r.count ≡ count → r.held ≡ held → length held ≡ 8
    → GoesOn key text last count held → Holds r key text
unfolding Holds
holds_by r key last count text held e f g h size goes = (
  e,
  ap length h ∙ size,
  λ rest. goes rest ∙ sym (ap (λ y. code_from key y (take r.count r.held ++ rest)) f
      ∙ ap (λ n. code_from key last (take n r.held ++ rest)) g ∙ ap (λ xs. code_from key last (take count xs ++ rest)) h),
)
