-- Chains in lanes.
use Rattle.std.proofs.Common.{◌≡◌, ◌∙◌, ℕ, ◌+◌, ◌*◌, ◌/◌, ◌^◌, ◌<◌, ◌≤◌, Bool, true, false, cond, Option, Some, None, List, length, map, drop, get_or, replicate, set, refl, sym, ap, subst, add-one, arith}
use Rattle.std.specs.Prelude.{bit_xor, IfSome}
use Rattle.std.specs.Simd.Lanes.{zip2}
use Rattle.std.proofs.lemmas.Option.{IfSome_then, MatchOption-from_none}
use Rattle.std.proofs.lemmas.Simd.{get_or-zip2, length-zip2}
use Rattle.std.proofs.lemmas.List.{drop-drop, get_or-map, get_or-replicate, get_or-set_same, get_or-set_other, length-drop}
use borrow.Author.Count.{below_more}
use Rattle.x_des.specs.Des.{enciphered}
use Rattle.x_mac.specs.Code.{chained, edc_of, word_of}
use Rattle.edc_slices.specs.Chains.{block_at_step, block_count, chain_after, edc_key, stepped}
use Rattle.edc_slices.specs.Lanes.{AreMade, HasChain, HaveChains, IsAtStart, IsChain, text_of}
use Rattle.edc_slices.specs.declared.lanes.Lane.{Lane}
use Rattle.edc_slices.proofs.Blocks.{code_is, same_block}

-- no block yet
chain_begins : (text rest : List ℕ) → rest ≡ text → IsChain text rest 0
unfolding chain_after
chain_begins text rest e = record { count = 0; left = e; so_far = refl; within = omega arith }

-- a block more
chain_more : (text rest left : List ℕ) (chain block : ℕ) → IsChain text rest chain → 0 < length rest → left ≡ drop 8 rest → block ≡ word_of (block_at_step rest 0)
    → IsChain text left (chained edc_key chain block)
unfolding chain_after
chain_more text rest left chain block k some e f =
    let n = k.count in
    let long = ap length k.left in record {
      count = n + 1;
      left = e ∙ ap (drop 8) k.left ∙ drop-drop 8 (8 * n) text ∙ ap (λ m. drop m text) (let g : 8 * n + 8 ≡ 8 * (n + 1) = omega arith in g);
      so_far = ap (λ y. chained edc_key y block) k.so_far ∙ ap (chained edc_key (chain_after text n)) (f ∙ ap word_of (same_block text rest n k.left)) ∙ ap (chain_after text) (sym (add-one n));
      within = omega (arith, some, long, k.within, length-drop (8 * n) text);
    }

-- no block left
code_at_end : (text rest : List ℕ) (chain : ℕ) → IsChain text rest chain → length rest ≡ 0 → chain / 2 ^ 32 ≡ edc_of text
code_at_end text rest chain k none =
    let long = ap length k.left in
    let all : k.count ≡ block_count text = omega (arith, none, long, k.within, length-drop (8 * k.count) text) in
    ap (λ y. y / 2 ^ 32) (k.so_far ∙ ap (chain_after text) all) ∙ code_is text

pub lane_at_end : (bodies : List (List ℕ)) (lane : Lane) (chain : ℕ) → HasChain bodies lane chain → length lane.rest.now ≡ 0 → IfSome lane.text (λ n. chain / 2 ^ 32 ≡ edc_of (text_of bodies n))
lane_at_end bodies lane chain has none = IfSome_then lane.text has (λ n k. code_at_end (text_of bodies n) lane.rest.now chain k.1 none)

-- a lane with a text that has a block left
abbrev pub GoesOn : List (List ℕ) → Lane → ℕ → Type 0
GoesOn bodies lane chain = IfSome lane.text (λ n. (n < length bodies) × IsChain (text_of bodies n) lane.rest.now chain × (0 < length lane.rest.now))

-- one that has begun, and one that hasn't ended
pub begun_goes_on : (bodies : List (List ℕ)) (lane next : Lane) (begun : Bool) (chain : ℕ) → begun ≡ true → lane ≡ next → IsAtStart bodies next → GoesOn bodies lane (cond begun 0 chain)
begun_goes_on bodies lane next begun chain e f start =
    IfSome_then lane.text (subst (IsAtStart bodies) (sym f) start)
    (λ n s. (s.0, subst (λ b. IsChain (text_of bodies n) lane.rest.now (cond b 0 chain)) (sym e) (chain_begins (text_of bodies n) lane.rest.now s.1), s.2))

pub kept_goes_on : (bodies : List (List ℕ)) (lane old : Lane) (begun : Bool) (chain : ℕ) → begun ≡ false → lane ≡ old → HasChain bodies old chain → 0 < length old.rest.now
    → GoesOn bodies lane (cond begun 0 chain)
kept_goes_on bodies lane old begun chain e f has some =
    IfSome_then lane.text (subst (λ (l : Lane). HasChain bodies l chain) (sym f) has)
    (λ n k. (k.0, subst (λ b. IsChain (text_of bodies n) lane.rest.now (cond b 0 chain)) (sym e) k.1, subst (λ (l : Lane). 0 < length l.rest.now) (sym f) some))

-- its chain behind the next block
pub has_chain : (bodies : List (List ℕ)) (lane after : Lane) (chain block : ℕ) → GoesOn bodies lane chain → after.text ≡ lane.text → after.rest.now ≡ drop 8 lane.rest.now
    → block ≡ word_of (block_at_step lane.rest.now 0) → HasChain bodies after (chained edc_key chain block)
has_chain bodies lane after chain block goes e f g =
    subst (λ o. IfSome o (λ n. (n < length bodies) × IsChain (text_of bodies n) after.rest.now (chained edc_key chain block))) (sym e)
    (IfSome_then lane.text goes (λ n k. (k.0, chain_more (text_of bodies n) lane.rest.now after.rest.now chain block k.1 k.2 f g)))

same_chain : (bodies : List (List ℕ)) (lane lane' : Lane) (chain chain' : ℕ) → lane ≡ lane' → chain ≡ chain' → HasChain bodies lane' chain' → HasChain bodies lane chain
same_chain bodies lane lane' chain chain' e f has =
    subst (λ (l : Lane). HasChain bodies l chain) (sym e) (subst (HasChain bodies lane') (sym f) has)

-- the lanes before this one have the chains that a step makes
abbrev pub AreStepped : List (List ℕ) → List Lane → List ℕ → List Bool → List ℕ → ℕ → Type 0
AreStepped bodies lanes chains begun blocks i =
    (k : ℕ) → k < i → (other : Lane) → HasChain bodies (get_or lanes k other) (stepped (get_or begun k false) (get_or chains k 0) (get_or blocks k 0))

-- the others those before the step
abbrev pub AreLeft : List (List ℕ) → List Lane → List ℕ → ℕ → Type 0
AreLeft bodies lanes chains i = (k : ℕ) → i ≤ k → k < 128 → (other : Lane) → HasChain bodies (get_or lanes k other) (get_or chains k 0)

pub stepped_more : (bodies : List (List ℕ)) (lanes : List Lane) (chains blocks : List ℕ) (begun : List Bool) (i : ℕ) (lane : Lane) (block : ℕ) (b : Bool)
    → i < length lanes → i < length blocks → i < length begun → HasChain bodies lane (stepped b (get_or chains i 0) block)
    → AreStepped bodies lanes chains begun blocks i → AreStepped bodies (set lanes i lane) chains (set begun i b) (set blocks i block) (i + 1)
stepped_more bodies lanes chains blocks begun i lane block b p q r here before =
    below_more (λ k. (other : Lane) → HasChain bodies (get_or (set lanes i lane) k other) (stepped (get_or (set begun i b) k false) (get_or chains k 0) (get_or (set blocks i block) k 0))) i
    (λ k h other. same_chain bodies (get_or (set lanes i lane) k other) (get_or lanes k other) _ (stepped (get_or begun k false) (get_or chains k 0) (get_or blocks k 0))
    (get_or-set_other lanes i k lane other (omega arith))
    (ap (λ x. stepped x (get_or chains k 0) (get_or (set blocks i block) k 0)) (get_or-set_other begun i k b false (omega arith))
    ∙ ap (stepped (get_or begun k false) (get_or chains k 0)) (get_or-set_other blocks i k block 0 (omega arith)))
    (before k h other))
    (λ other. same_chain bodies (get_or (set lanes i lane) i other) lane _ (stepped b (get_or chains i 0) block)
    (get_or-set_same lanes i lane other p)
    (ap (λ x. stepped x (get_or chains i 0) (get_or (set blocks i block) i 0)) (get_or-set_same begun i b false r)
    ∙ ap (stepped b (get_or chains i 0)) (get_or-set_same blocks i block 0 q))
    here)

pub left_fewer : (bodies : List (List ℕ)) (lanes : List Lane) (chains : List ℕ) (i : ℕ) (lane : Lane) → AreLeft bodies lanes chains i → AreLeft bodies (set lanes i lane) chains (i + 1)
left_fewer bodies lanes chains i lane before k from within other =
    same_chain bodies (get_or (set lanes i lane) k other) (get_or lanes k other) (get_or chains k 0) (get_or chains k 0) (get_or-set_other lanes i k lane other (omega arith)) refl
    (before k (omega arith) within other)

-- the chains after a step
abbrev pub cleared : List Bool → List ℕ → List ℕ
cleared begun chains = zip2 (λ b n. cond b 0 n) begun chains

length-cleared : (begun : List Bool) (chains : List ℕ) → length begun ≡ 128 → length chains ≡ 128 → length (cleared begun chains) ≡ 128
length-cleared begun chains p q = length-zip2 (λ (b : Bool) (n : ℕ). cond b 0 n) begun chains (p ∙ sym q) ∙ p

pub length-xored : (begun : List Bool) (chains blocks : List ℕ) → length begun ≡ 128 → length chains ≡ 128 → length blocks ≡ 128 → length (zip2 bit_xor (cleared begun chains) blocks) ≡ 128
length-xored begun chains blocks p q r =
    let size = length-cleared begun chains p q in
    length-zip2 bit_xor (cleared begun chains) blocks (size ∙ sym r) ∙ size

pub all_stepped : (bodies : List (List ℕ)) (lanes : List Lane) (begun : List Bool) (chains blocks : List ℕ) → length begun ≡ 128 → length chains ≡ 128 → length blocks ≡ 128
    → AreStepped bodies lanes chains begun blocks 128 → HaveChains bodies lanes (map (enciphered edc_key) (zip2 bit_xor (cleared begun chains) blocks))
all_stepped bodies lanes begun chains blocks p q r all l h other =
    let size = length-cleared begun chains p q in
    let xored = length-xored begun chains blocks p q r in
    same_chain bodies (get_or lanes l other) (get_or lanes l other) _ (stepped (get_or begun l false) (get_or chains l 0) (get_or blocks l 0)) refl
    (get_or-map (enciphered edc_key) (zip2 bit_xor (cleared begun chains) blocks) l 0 0 (omega (arith, xored))
    ∙ ap (enciphered edc_key) (get_or-zip2 bit_xor (cleared begun chains) blocks l 0 0 0 (omega (arith, size)) (omega arith)
    ∙ ap (λ y. bit_xor y (get_or blocks l 0)) (get_or-zip2 (λ (b : Bool) (n : ℕ). cond b 0 n) begun chains l false 0 0 (omega arith) (omega arith))))
    (all l h other)

-- no code yet
pub none_made : (n : ℕ) (bodies : List (List ℕ)) → length bodies ≤ n → AreMade (replicate n None) bodies
none_made n bodies few i code h e =
    let none : ◌≡◌ {A = Option ℕ} None (Some code) = sym (get_or-replicate n i None None (omega arith)) ∙ e in cc

-- no text yet
pub no_chains : (bodies : List (List ℕ)) (lane : Lane) (chains : List ℕ) → lane.text ≡ None → HaveChains bodies (replicate 128 lane) chains
no_chains bodies lane chains e l h other =
    same_chain bodies (get_or (replicate 128 lane) l other) lane (get_or chains l 0) (get_or chains l 0) (get_or-replicate 128 l lane other h) refl
    (MatchOption-from_none lane.text (λ n. (n < length bodies) × IsChain (text_of bodies n) lane.rest.now (get_or chains l 0)) e)
