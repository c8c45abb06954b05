-- The rows of the key schedule: each checked over its whole table, and then what their sums give.
use Rattle.std.proofs.Common.{◌≡◌, ℕ, zero, suc, ◌+◌, ◌-◌, ◌*◌, ◌/◌, ◌%◌, ◌^◌, ◌<◌, ◌≤◌, Bool, true, false, ◌&&◌, not, eqb, List, [], ◌∷◌, ◌++◌, map, length, take, drop, replicate, get_or, refl, sym, ap, ◌∙◌, arith}
use Rattle.std.specs.Prelude.{bit_and, bit_xor}
use Rattle.std.proofs.lemmas.Bool.{eqb-true, agree_below, agree_below_at}
use Rattle.std.proofs.lemmas.List.{append-nil, length-append, length-replicate, length-take-le, length-drop, take_all, get_or-take, get_or-drop}
use Rattle.std.proofs.lemmas.Nat.{and_mask, shr-shr}
use Rattle.x_des.specs.Bits.{bit, bits_of, pick, exclusive_or}
use Rattle.x_des.specs.Combined.{placed}
use Rattle.x_des.specs.Des.{keys_from, round_keys}
use Rattle.x_des.specs.RoundKey.{added, gathered}
use Rattle.x_des.specs.declared.rows_c.TheConstants.{C_ROWS}
use Rattle.x_des.specs.declared.rows_d.TheConstants.{D_ROWS}
use Rattle.x_des.proofs.BitsLemmas.{length-pick, length-bits, take-bits, drop-bits, bits_mod, bits-bit_xor}
use Rattle.x_des.proofs.ExclusiveOr.{pick-exclusive_or}
use Rattle.x_des.proofs.CombinedRound.{padded, placed_more}
use Rattle.x_des.proofs.KeyPlaces.{high_places, low_places, c_tables, d_tables}

-- the four groups of six bits in a word of a row, each at the end of a byte
abbrev pub grouped : List ℕ
grouped = 3 ∷ 4 ∷ 5 ∷ 6 ∷ 7 ∷ 8 ∷ 19 ∷ 20 ∷ 21 ∷ 22 ∷ 23 ∷ 24 ∷ 11 ∷ 12 ∷ 13 ∷ 14 ∷ 15 ∷ 16 ∷ 27 ∷ 28 ∷ 29 ∷ 30 ∷ 31 ∷ 32 ∷ []

-- the same bits of a word
abbrev pub grouped_bits : ℕ → List Bool
grouped_bits word = map (λ p. bit word (32 - p)) grouped

grouped_bits_are : (word : ℕ) → pick grouped (bits_of 32 word) ≡ grouped_bits word
unfolding pick bits_of
grouped_bits_are word = refl

abbrev pub same_bits : List Bool → List Bool → Bool
same_bits [] [] = true
same_bits [] (c ∷ cs) = false
same_bits (b ∷ bs) [] = false
same_bits (true ∷ bs) (c ∷ cs) = c && same_bits bs cs
same_bits (false ∷ bs) (c ∷ cs) = not c && same_bits bs cs

same_bits_true : (bs cs : List Bool) → same_bits bs cs ≡ true → bs ≡ cs
same_bits_true [] [] e = refl
same_bits_true [] (c ∷ cs) e = absurd (cc e)
same_bits_true (b ∷ bs) [] e = absurd (cc e)
same_bits_true (true ∷ bs) (true ∷ cs) e = ap (λ xs. true ∷ xs) (same_bits_true bs cs e)
same_bits_true (true ∷ bs) (false ∷ cs) e = absurd (cc e)
same_bits_true (false ∷ bs) (true ∷ cs) e = absurd (cc e)
same_bits_true (false ∷ bs) (false ∷ cs) e = ap (λ xs. false ∷ xs) (same_bits_true bs cs e)

-- whether each entry of a row gives what the places of its round pick of these bits
abbrev pub entry_agrees : List ℕ → List (List ℕ) → List Bool → ℕ → Bool
entry_agrees row tables bits i = same_bits (grouped_bits (get_or row i 0)) (pick (get_or tables i []) bits)

abbrev pub row_agrees : List ℕ → List (List ℕ) → List Bool → Bool
row_agrees row tables bits = agree_below (entry_agrees row tables bits) (λ i. true) 16

-- the same of row v of byte n, whose bits are the four of v
abbrev pub byte_agrees : List ℕ → List (List ℕ) → ℕ → Bool
byte_agrees rows tables n = agree_below (λ v. row_agrees (take 16 (drop (16 * v) rows)) tables (placed n (bits_of 4 v))) (λ v. true) 16

abbrev pub rows_agree : List (List ℕ) → List (List ℕ) → Bool
rows_agree rows tables = agree_below (λ n. byte_agrees (get_or rows n []) tables n) (λ n. true) 8

c_rows_agree : rows_agree C_ROWS c_tables ≡ true
unfolding pick bits_of
c_rows_agree = refl

d_rows_agree : rows_agree D_ROWS d_tables ≡ true
unfolding pick bits_of
d_rows_agree = refl

-- each round has 24 places
abbrev sized : List (List ℕ) → Bool
sized tables = agree_below (λ i. eqb (length (get_or tables i [])) 24) (λ i. true) 16

abbrev RowsAre : List (List ℕ) → List (List ℕ) → Type 0
RowsAre rows tables = (n v i : ℕ) → n < 8 → v < 16 → i < 16
    → pick grouped (bits_of 32 (get_or (get_or rows n []) (16 * v + i) 0)) ≡ pick (get_or tables i []) (placed n (bits_of 4 v))

rows_are : (rows tables : List (List ℕ)) → rows_agree rows tables ≡ true → RowsAre rows tables
rows_are rows tables agree = λ n v i p q r.
    let byte = get_or rows n [] in
    let row = take 16 (drop (16 * v) byte) in
    let bits = placed n (bits_of 4 v) in
    let all : byte_agrees byte tables n ≡ true = agree_below_at (λ n. byte_agrees (get_or rows n []) tables n) (λ n. true) 8 n agree p in
    let one : row_agrees row tables bits ≡ true = agree_below_at (λ v. row_agrees (take 16 (drop (16 * v) byte)) tables (placed n (bits_of 4 v))) (λ v. true) 16 v all q in
    let at : get_or row i 0 ≡ get_or byte (16 * v + i) 0 = get_or-take 16 (drop (16 * v) byte) i 0 r ∙ get_or-drop (16 * v) byte i 0 in
    ap (λ e. pick grouped (bits_of 32 e)) (sym at) ∙ grouped_bits_are (get_or row i 0)
    ∙ same_bits_true (grouped_bits (get_or row i 0)) (pick (get_or tables i []) bits) (agree_below_at (entry_agrees row tables bits) (λ i. true) 16 i one r)

-- ---- sums of rows

pick-zeros : (t : List ℕ) (n : ℕ) → pick t (replicate n false) ≡ replicate (length t) false
unfolding pick
pick-zeros [] n = refl
pick-zeros (p ∷ t) n = ap (λ b. b ∷ pick t (replicate n false)) (get_or-zeros n (p - 1)) ∙ ap (λ bs. false ∷ bs) (pick-zeros t n)
  where
    get_or-zeros : (n i : ℕ) → get_or (replicate n false) i false ≡ false
    get_or-zeros zero i = refl
    get_or-zeros (suc n) zero = refl
    get_or-zeros (suc n) (suc i) = get_or-zeros n i

-- the four bits that each byte of a word ends with
abbrev NibblesAre : ℕ → List Bool → Type 0
NibblesAre bits hs = (n : ℕ) → n < 8 → bits_of 4 (bits / 2 ^ (56 - 8 * n) % 16) ≡ take 4 (drop (4 * n) hs)

length-padded : (i : ℕ) (hs : List Bool) → i ≤ 8 → length hs ≡ 32 → length (padded (take (4 * i) hs)) ≡ 32
length-padded i hs h size =
    let taken : length (take (4 * i) hs) ≡ 4 * i = length-take-le (4 * i) hs (omega (arith, size)) in
    length-append (take (4 * i) hs) (replicate (32 - length (take (4 * i) hs)) false) ∙ omega (arith, taken, length-replicate (32 - length (take (4 * i) hs)) false)

length-placed : (i : ℕ) (four : List Bool) → i < 8 → length four ≡ 4 → length (placed i four) ≡ 32
length-placed i four h e =
    length-append (replicate (4 * i) false ++ four) (replicate (28 - 4 * i) false)
    ∙ omega (arith, e, length-append (replicate (4 * i) false) four, length-replicate (4 * i) false, length-replicate (28 - 4 * i) false)

no_sum : pick grouped (bits_of 32 0) ≡ replicate 24 false
unfolding pick bits_of
no_sum = refl

sum_is : (rows tables : List (List ℕ)) (bits : ℕ) (hs : List Bool) → RowsAre rows tables → NibblesAre bits hs → length hs ≡ 32
    → (n i : ℕ) → n ≤ 8 → i < 16 → length (get_or tables i []) ≡ 24 → pick grouped (bits_of 32 (added rows bits n i)) ≡ pick (get_or tables i []) (padded (take (4 * n) hs))
unfolding added
sum_is rows tables bits hs are nibbles size zero i p q wide =
    no_sum ∙ sym (pick-zeros (get_or tables i []) 32 ∙ ap (λ n. replicate n false) wide)
sum_is rows tables bits hs are nibbles size (suc n) i p q wide =
    let t = get_or tables i [] in
    let v = bits / 2 ^ (56 - 8 * n) % 16 in
    let entry = get_or (get_or rows n []) (16 * v + i) 0 in
    let four = take 4 (drop (4 * n) hs) in
    let lfour : length four ≡ 4 = length-take-le 4 (drop (4 * n) hs) (omega (arith, size, length-drop (4 * n) hs)) in
    ap (pick grouped) (bits-bit_xor 32 (added rows bits n i) entry)
    ∙ pick-exclusive_or grouped (bits_of 32 (added rows bits n i)) (bits_of 32 entry) (length-bits 32 (added rows bits n i) ∙ sym (length-bits 32 entry))
    ∙ ap (λ bs. exclusive_or bs (pick grouped (bits_of 32 entry))) (sum_is rows tables bits hs are nibbles size n i (omega arith) q wide)
    ∙ ap (exclusive_or (pick t (padded (take (4 * n) hs)))) (are n v i (omega arith) (omega arith) q ∙ ap (λ bs. pick t (placed n bs)) (nibbles n (omega arith)))
    ∙ sym (pick-exclusive_or t (padded (take (4 * n) hs)) (placed n four) (length-padded n hs (omega arith) size ∙ sym (length-placed n four (omega arith) lfour)))
    ∙ ap (pick t) (placed_more n hs (omega arith) size ∙ ap (λ k. padded (take (4 * k) hs)) (let e : n + 1 ≡ suc n = omega arith in e))

whole_sum : (rows tables : List (List ℕ)) (bits : ℕ) (hs : List Bool) → RowsAre rows tables → NibblesAre bits hs → length hs ≡ 32
    → (i : ℕ) → i < 16 → sized tables ≡ true → pick grouped (bits_of 32 (added rows bits 8 i)) ≡ pick (get_or tables i []) hs
whole_sum rows tables bits hs are nibbles size i q wide =
    sum_is rows tables bits hs are nibbles size 8 i (omega arith) q (eqb-true (length (get_or tables i [])) 24 (agree_below_at (λ i. eqb (length (get_or tables i [])) 24) (λ i. true) 16 i wide q))
    ∙ ap (λ bs. pick (get_or tables i []) (padded bs)) (take_all 32 hs (omega arith))
    ∙ ap (λ n. pick (get_or tables i []) (hs ++ replicate (32 - n) false)) size
    ∙ ap (pick (get_or tables i [])) (append-nil hs)

-- the bits from place 8 * n + k + 1 of a key on
four_bits : (key k n : ℕ) → k ≤ 4 → n < 8 → bits_of 4 (key / 2 ^ k / 2 ^ (56 - 8 * n) % 16) ≡ take 4 (drop (8 * n + 4 - k) (bits_of 64 key))
four_bits key k n p q =
    let low = k + (56 - 8 * n) in
    bits_mod 4 (key / 2 ^ k / 2 ^ (56 - 8 * n))
    ∙ ap (bits_of 4) (shr-shr key k (56 - 8 * n))
    ∙ sym (take-bits 4 low (4 + low) key refl)
    ∙ ap (take 4) (sym (drop-bits (8 * n + 4 - k) (4 + low) 64 key (omega arith)))

high_at : (key : ℕ) (n : ℕ) → n < 8 → take 4 (drop (8 * n + 4 - 4) (bits_of 64 key)) ≡ take 4 (drop (4 * n) (pick high_places (bits_of 64 key)))
unfolding pick bits_of
high_at key zero h = refl
high_at key (suc zero) h = refl
high_at key (suc (suc zero)) h = refl
high_at key (suc (suc (suc zero))) h = refl
high_at key (suc (suc (suc (suc zero)))) h = refl
high_at key (suc (suc (suc (suc (suc zero))))) h = refl
high_at key (suc (suc (suc (suc (suc (suc zero)))))) h = refl
high_at key (suc (suc (suc (suc (suc (suc (suc zero))))))) h = refl
high_at key (suc (suc (suc (suc (suc (suc (suc (suc n)))))))) h = absurd (omega arith)

high_nibbles : (key : ℕ) → NibblesAre (key / 2 ^ 4) (pick high_places (bits_of 64 key))
high_nibbles key = λ n h. four_bits key 4 n (omega arith) h ∙ high_at key n h

low_at : (key : ℕ) (n : ℕ) → n < 8 → take 4 (drop (8 * n + 4 - 1) (bits_of 64 key)) ≡ take 4 (drop (4 * n) (pick low_places (bits_of 64 key)))
unfolding pick bits_of
low_at key zero h = refl
low_at key (suc zero) h = refl
low_at key (suc (suc zero)) h = refl
low_at key (suc (suc (suc zero))) h = refl
low_at key (suc (suc (suc (suc zero)))) h = refl
low_at key (suc (suc (suc (suc (suc zero))))) h = refl
low_at key (suc (suc (suc (suc (suc (suc zero)))))) h = refl
low_at key (suc (suc (suc (suc (suc (suc (suc zero))))))) h = refl
low_at key (suc (suc (suc (suc (suc (suc (suc (suc n)))))))) h = absurd (omega arith)

low_nibbles : (key : ℕ) → NibblesAre (key / 2 ^ 1) (pick low_places (bits_of 64 key))
low_nibbles key = λ n h. four_bits key 1 n (omega arith) h ∙ low_at key n h

-- ---- round keys

-- round keys by the places of their two halves
unfoldable by_places : List (List ℕ) → List (List ℕ) → List Bool → List Bool → List (List Bool)
by_places [] us hs ls = []
by_places (t ∷ ts) [] hs ls = []
by_places (t ∷ ts) (u ∷ us) hs ls = (pick t hs ++ pick u ls) ∷ by_places ts us hs ls

get_or-by_places : (ts us : List (List ℕ)) (hs ls : List Bool) (i : ℕ) → i < length ts → i < length us
    → get_or (by_places ts us hs ls) i [] ≡ pick (get_or ts i []) hs ++ pick (get_or us i []) ls
unfolding by_places
get_or-by_places [] us hs ls i p q = absurd (omega arith)
get_or-by_places (t ∷ ts) [] hs ls i p q = absurd (omega arith)
get_or-by_places (t ∷ ts) (u ∷ us) hs ls zero p q = refl
get_or-by_places (t ∷ ts) (u ∷ us) hs ls (suc i) p q = get_or-by_places ts us hs ls i (omega arith) (omega arith)

round_keys_by_places : (key : ℕ) → round_keys (bits_of 64 key) ≡ by_places c_tables d_tables (pick high_places (bits_of 64 key)) (pick low_places (bits_of 64 key))
unfolding pick bits_of keys_from round_keys by_places
round_keys_by_places key = refl

gathered_quarters : (c d : ℕ) → gathered (((take 16 (bits_of 32 c) ++ take 16 (bits_of 32 d)) ++ drop 16 (bits_of 32 c)) ++ drop 16 (bits_of 32 d)) ≡ pick grouped (bits_of 32 c) ++ pick grouped (bits_of 32 d)
unfolding pick bits_of
gathered_quarters c d = refl

-- round key i of a key, from the two sums
pub round_key_is : (key i c d word : ℕ) → i < 16 → c ≡ added C_ROWS (key / 2 ^ 4) 8 i → d ≡ added D_ROWS (key / 2) 8 i
    → bits_of 64 word ≡ ((take 16 (bits_of 32 c) ++ take 16 (bits_of 32 d)) ++ drop 16 (bits_of 32 c)) ++ drop 16 (bits_of 32 d)
    → gathered (bits_of 64 word) ≡ get_or (round_keys (bits_of 64 key)) i []
round_key_is key i c d word h p q e =
    let hs = pick high_places (bits_of 64 key) in
    let ls = pick low_places (bits_of 64 key) in
    ap gathered e ∙ gathered_quarters c d
    ∙ ap (λ bs. bs ++ pick grouped (bits_of 32 d))
    (ap (λ n. pick grouped (bits_of 32 n)) p
    ∙ whole_sum C_ROWS c_tables (key / 2 ^ 4) hs (rows_are C_ROWS c_tables c_rows_agree) (high_nibbles key) (length-pick high_places (bits_of 64 key)) i h refl)
    ∙ ap (λ bs. pick (get_or c_tables i []) hs ++ bs)
    (ap (λ n. pick grouped (bits_of 32 n)) q
    ∙ whole_sum D_ROWS d_tables (key / 2) ls (rows_are D_ROWS d_tables d_rows_agree) (low_nibbles key) (length-pick low_places (bits_of 64 key)) i h refl)
    ∙ sym (ap (λ ks. get_or ks i []) (round_keys_by_places key) ∙ get_or-by_places c_tables d_tables hs ls i h h)

pub length-round_keys : (key : List Bool) → length (round_keys key) ≡ 16
unfolding round_keys keys_from
length-round_keys key = refl

-- ---- the loop that adds the rows

zero_at : (n i : ℕ) → get_or (replicate {A = ℕ} n 0) i 0 ≡ 0
zero_at zero i = refl
zero_at (suc n) zero = refl
zero_at (suc n) (suc i) = zero_at n i

pub sums_none : (rows : List (List ℕ)) (bits i : ℕ) → i < 16 → get_or (replicate {A = ℕ} 16 0) i 0 ≡ added rows bits 0 i
unfolding added
sums_none rows bits i h = zero_at 16 i

pub sums_more : (rows : List (List ℕ)) (bits n i s v : ℕ) → i < 16 → v ≡ bit_and (bits / 2 ^ (56 - 8 * n)) 15 → s ≡ added rows bits n i
    → bit_xor s (get_or (take (16 * v + 16 - 16 * v) (drop (16 * v) (get_or rows n []))) i 0) ≡ added rows bits (n + 1) i
unfolding added
sums_more rows bits n i s v h e so_far =
    let row = get_or rows n [] in
    let w = bits / 2 ^ (56 - 8 * n) % 16 in
    let same : v ≡ w = e ∙ and_mask (bits / 2 ^ (56 - 8 * n)) 4 in
    let entry : get_or (take (16 * v + 16 - 16 * v) (drop (16 * v) row)) i 0 ≡ get_or row (16 * w + i) 0
    = get_or-take (16 * v + 16 - 16 * v) (drop (16 * v) row) i 0 (omega arith) ∙ get_or-drop (16 * v) row i 0 ∙ ap (λ k. get_or row (16 * k + i) 0) same in
    ap (λ x. bit_xor x (get_or (take (16 * v + 16 - 16 * v) (drop (16 * v) row)) i 0)) so_far
    ∙ ap (bit_xor (added rows bits n i)) entry
    ∙ ap (λ k. added rows bits k i) (let f : suc n ≡ n + 1 = omega arith in f)
