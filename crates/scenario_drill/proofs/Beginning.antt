-- The lines of a drill's set-up.
use Rattle.std.proofs.Common.{◌≡◌, ℕ, ◌+◌, ◌%◌, ◌≤◌, ◌^◌, ◌&&◌, Bool, true, false, List, [], ◌∷◌, ◌++◌, length, Some, refl, arith}
use Rattle.std.specs.Prelude.{codes, bit_xor, nat_le}
use Rattle.std.proofs.lemmas.Bool.{leb-true}
use lib.Count.{ones}
use Rattle.hex.specs.Hex.{encode_with, decode_pairs}
use Rattle.x_base.specs.Ident.{repeated, expanded}
use Rattle.x_base.specs.declared.party.Role.{Role}
use Rattle.x_base.specs.declared.party.Role.TheVariants.{Bank, Distribution, Translation}
use Rattle.x_mac.specs.declared.pair.Pair.{Pair}
use Rattle.x_gen.specs.Parity.{odd_parity_of}
use Rattle.x_seal.specs.Offset.{spread_of}
use Rattle.x_values.specs.Words.{ident_of, key_of, pair_of}
use Rattle.scenario.specs.declared.line.Line.{Line}
use Rattle.scenario.specs.declared.line.Line.TheVariants as line
use Rattle.scenario.specs.Kinds.{line_of_words, party_line, role_of}
use Rattle.scenario.specs.Rules.{may_follow}
use Rattle.scenario_drill.specs.Drill.{key_digits, pair_digits, party, parties, link, links_of_banks, links_to_banks, links_from_banks, set_up}
use Rattle.scenario_drill.proofs.Spelling.{are_plain, all_plain, joined, five_pieces}
use Rattle.scenario_drill.proofs.Numbers.{key_read, key_plain}
use Rattle.scenario_drill.proofs.Gathered.{Sets, not_skipped, one_as, both}

abbrev pub pair_at : ℕ → Pair
pair_at i = record { left = odd_parity_of (bit_xor 0x0123456789ABCDEF (spread_of i)); right = odd_parity_of (bit_xor 0xFEDCBA9876543210 (spread_of i)) }

abbrev pub party_at : ℕ → ℕ → List ℕ → Role → Line
party_at seed p name role = line.Party name role (pair_at (15 + p)) ((seed + p) % 2 ^ 64)

abbrev pub link_at : ℕ → List ℕ → List ℕ → List ℕ → Line
link_at i origin recipient label = line.Link origin recipient label (pair_at i)

party_by : (a b c d name : List ℕ) (role : Role) (pair : Pair) (v : ℕ) → ident_of a ≡ Some name → role_of b ≡ Some role → pair_of c ≡ Some pair → key_of d ≡ Some v → party_line (a ∷ b ∷ c ∷ d ∷ []) ≡ Some (line.Party name role pair v)
party_by a b c d name role pair v e f g h = rw (e, f, g, h) refl

-- a PARTY line, whose key of the generator isn't fixed
party_set : (seed p : ℕ) (before : List Line) (name word : List ℕ) (role : Role) → ident_of name ≡ Some name → role_of word ≡ Some role → pair_of (pair_digits (15 + p)) ≡ Some (pair_at (15 + p))
    → (are_plain (codes "PARTY") && (are_plain name && (are_plain word && are_plain (pair_digits (15 + p))))) ≡ true → may_follow before (party_at seed p name role) ≡ true
    → length (joined (codes "PARTY") (name ∷ word ∷ pair_digits (15 + p) ∷ key_digits ((seed + p) % 2 ^ 64) ∷ [])) ≤ 99
    → Sets before (party seed p name word) (party_at seed p name role ∷ []) 1
unfolding party
party_set seed p before name word role named is_role paired plain follows size =
    one_as before (party seed p name word) (codes "PARTY") (name ∷ word ∷ pair_digits (15 + p) ∷ key_digits ((seed + p) % 2 ^ 64) ∷ []) (party_at seed p name role)
    (five_pieces (codes "PARTY" ++ 32 ∷ []) (name ++ 32 ∷ []) (word ++ 32 ∷ []) (pair_digits (15 + p) ++ 32 ∷ []) (key_digits ((seed + p) % 2 ^ 64) ++ 10 ∷ [])) (record {
      plain = plain_too (are_plain (codes "PARTY")) (are_plain name) (are_plain word) (are_plain (pair_digits (15 + p))) (are_plain (key_digits ((seed + p) % 2 ^ 64))) plain (key_plain ((seed + p) % 2 ^ 64));
      kept = not_skipped 80 (codes "ARTY" ++ 32 ∷ joined name (word ∷ pair_digits (15 + p) ∷ key_digits ((seed + p) % 2 ^ 64) ∷ [])) refl;
      reads = party_by name word (pair_digits (15 + p)) (key_digits ((seed + p) % 2 ^ 64)) name role (pair_at (15 + p)) ((seed + p) % 2 ^ 64) named is_role paired (key_read ((seed + p) % 2 ^ 64) (omega arith));
      follows = follows;
      size = size;
    })
  where
    plain_too : (a b c d e : Bool) → (a && (b && (c && d))) ≡ true → e ≡ true → (a && (b && (c && (d && e)))) ≡ true
    plain_too true true true true e both is = is
    plain_too true true true false e both is = absurd (cc both)
    plain_too true true false d e both is = absurd (cc both)
    plain_too true false c d e both is = absurd (cc both)
    plain_too false b c d e both is = absurd (cc both)

-- a LINK line, which is fixed
link_set : (i : ℕ) (before : List Line) (origin recipient label : List ℕ) → all_plain (codes "LINK") (origin ∷ recipient ∷ label ∷ pair_digits i ∷ []) ≡ true
    → line_of_words (codes "LINK" ∷ origin ∷ recipient ∷ label ∷ pair_digits i ∷ []) ≡ Some (link_at i origin recipient label) → may_follow before (link_at i origin recipient label) ≡ true
    → nat_le (length (joined (codes "LINK") (origin ∷ recipient ∷ label ∷ pair_digits i ∷ []))) 99 ≡ true → Sets before (link i origin recipient label) (link_at i origin recipient label ∷ []) 1
unfolding link
link_set i before origin recipient label plain reads follows size =
    one_as before (link i origin recipient label) (codes "LINK") (origin ∷ recipient ∷ label ∷ pair_digits i ∷ []) (link_at i origin recipient label)
    (five_pieces (codes "LINK" ++ 32 ∷ []) (origin ++ 32 ∷ []) (recipient ++ 32 ∷ []) (label ++ 32 ∷ []) (pair_digits i ++ 10 ∷ [])) (record {
      plain = plain;
      kept = not_skipped 76 (codes "INK" ++ 32 ∷ joined origin (recipient ∷ label ∷ pair_digits i ∷ [])) refl;
      reads = reads;
      follows = follows;
      size = leb-true _ 99 size;
    })

-- ---- the parties

abbrev first_parties : ℕ → List Line
first_parties seed = party_at seed 1 (codes "BANKA") Bank ∷ party_at seed 2 (codes "BANKB") Bank ∷ party_at seed 3 (codes "BANKC") Bank ∷ []

abbrev pub all_parties : ℕ → List Line
all_parties seed =
    party_at seed 1 (codes "BANKA") Bank ∷ party_at seed 2 (codes "BANKB") Bank ∷ party_at seed 3 (codes "BANKC") Bank
    ∷ party_at seed 4 (codes "CKDX") Distribution ∷ party_at seed 5 (codes "CKTX") Translation ∷ []

parties_set : (seed : ℕ) → Sets [] (parties seed) (all_parties seed) 5
unfolding parties encode_with decode_pairs odd_parity_of ones spread_of expanded repeated
parties_set seed =
    let a = party_at seed 1 (codes "BANKA") Bank in
    let b = party_at seed 2 (codes "BANKB") Bank in
    let c = party_at seed 3 (codes "BANKC") Bank in
    let d = party_at seed 4 (codes "CKDX") Distribution in
    let e = party_at seed 5 (codes "CKTX") Translation in
    both [] _ _ (a ∷ b ∷ c ∷ d ∷ []) (e ∷ []) 4 1
    (both [] _ _ (a ∷ b ∷ c ∷ []) (d ∷ []) 3 1
    (both [] _ _ (a ∷ b ∷ []) (c ∷ []) 2 1
    (both [] _ _ (a ∷ []) (b ∷ []) 1 1
    (party_set seed 1 [] (codes "BANKA") (codes "BANK") Bank refl refl refl refl refl (leb-true _ 99 refl))
    (party_set seed 2 (a ∷ []) (codes "BANKB") (codes "BANK") Bank refl refl refl refl refl (leb-true _ 99 refl)))
    (party_set seed 3 (a ∷ b ∷ []) (codes "BANKC") (codes "BANK") Bank refl refl refl refl refl (leb-true _ 99 refl)))
    (party_set seed 4 (a ∷ b ∷ c ∷ []) (codes "CKDX") (codes "DISTRIBUTION") Distribution refl refl refl refl refl (leb-true _ 99 refl)))
    (party_set seed 5 (a ∷ b ∷ c ∷ d ∷ []) (codes "CKTX") (codes "TRANSLATION") Translation refl refl refl refl refl (leb-true _ 99 refl))

-- ---- the links

abbrev bank_links : List Line
bank_links =
    link_at 1 (codes "BANKA") (codes "BANKB") (codes "K1") ∷ link_at 2 (codes "BANKA") (codes "BANKC") (codes "K1") ∷ link_at 3 (codes "BANKB") (codes "BANKA") (codes "K1")
    ∷ link_at 4 (codes "BANKB") (codes "BANKC") (codes "K1") ∷ link_at 5 (codes "BANKC") (codes "BANKA") (codes "K1") ∷ link_at 6 (codes "BANKC") (codes "BANKB") (codes "K1") ∷ []

abbrev links_to : ℕ → List ℕ → List Line
links_to i origin = link_at i origin (codes "BANKA") (codes "C") ∷ link_at (i + 1) origin (codes "BANKB") (codes "C") ∷ link_at (i + 2) origin (codes "BANKC") (codes "C") ∷ []

abbrev links_from : ℕ → List ℕ → List Line
links_from i recipient = link_at i (codes "BANKA") recipient (codes "C") ∷ link_at (i + 1) (codes "BANKB") recipient (codes "C") ∷ link_at (i + 2) (codes "BANKC") recipient (codes "C") ∷ []

-- three links, one behind the other
three : (before : List Line) (a b c : List ℕ) (x y z : Line) → Sets before a (x ∷ []) 1 → Sets (before ++ x ∷ []) b (y ∷ []) 1 → Sets (before ++ (x ∷ y ∷ [])) c (z ∷ []) 1 → Sets before (a ++ b ++ c) (x ∷ y ∷ z ∷ []) 3
three before a b c x y z first second third = both before (a ++ b) c (x ∷ y ∷ []) (z ∷ []) 2 1 (both before a b (x ∷ []) (y ∷ []) 1 1 first second) third

six_set : (seed : ℕ) → Sets (all_parties seed) links_of_banks bank_links 6
unfolding links_of_banks encode_with decode_pairs odd_parity_of ones spread_of
six_set seed =
    let p = all_parties seed in
    let l1 = link_at 1 (codes "BANKA") (codes "BANKB") (codes "K1") in
    let l2 = link_at 2 (codes "BANKA") (codes "BANKC") (codes "K1") in
    let l3 = link_at 3 (codes "BANKB") (codes "BANKA") (codes "K1") in
    let l4 = link_at 4 (codes "BANKB") (codes "BANKC") (codes "K1") in
    let l5 = link_at 5 (codes "BANKC") (codes "BANKA") (codes "K1") in
    let l6 = link_at 6 (codes "BANKC") (codes "BANKB") (codes "K1") in
    both p _ _ (l1 ∷ l2 ∷ l3 ∷ l4 ∷ l5 ∷ []) (l6 ∷ []) 5 1
    (both p _ _ (l1 ∷ l2 ∷ l3 ∷ l4 ∷ []) (l5 ∷ []) 4 1
    (both p _ _ (l1 ∷ l2 ∷ l3 ∷ []) (l4 ∷ []) 3 1
    (three p _ _ _ l1 l2 l3 (link_set 1 p (codes "BANKA") (codes "BANKB") (codes "K1") refl refl refl refl)
    (link_set 2 (p ++ l1 ∷ []) (codes "BANKA") (codes "BANKC") (codes "K1") refl refl refl refl)
    (link_set 3 (p ++ (l1 ∷ l2 ∷ [])) (codes "BANKB") (codes "BANKA") (codes "K1") refl refl refl refl))
    (link_set 4 (p ++ (l1 ∷ l2 ∷ l3 ∷ [])) (codes "BANKB") (codes "BANKC") (codes "K1") refl refl refl refl))
    (link_set 5 (p ++ (l1 ∷ l2 ∷ l3 ∷ l4 ∷ [])) (codes "BANKC") (codes "BANKA") (codes "K1") refl refl refl refl))
    (link_set 6 (p ++ (l1 ∷ l2 ∷ l3 ∷ l4 ∷ l5 ∷ [])) (codes "BANKC") (codes "BANKB") (codes "K1") refl refl refl refl)

to_set : (seed i : ℕ) (before : List Line) (origin : List ℕ) → Sets before (link i origin (codes "BANKA") (codes "C")) (link_at i origin (codes "BANKA") (codes "C") ∷ []) 1
    → Sets (before ++ link_at i origin (codes "BANKA") (codes "C") ∷ []) (link (i + 1) origin (codes "BANKB") (codes "C")) (link_at (i + 1) origin (codes "BANKB") (codes "C") ∷ []) 1
    → Sets (before ++ (link_at i origin (codes "BANKA") (codes "C") ∷ link_at (i + 1) origin (codes "BANKB") (codes "C") ∷ [])) (link (i + 2) origin (codes "BANKC") (codes "C")) (link_at (i + 2) origin (codes "BANKC") (codes "C") ∷ []) 1
    → Sets before (links_to_banks i origin) (links_to i origin) 3
unfolding links_to_banks
to_set seed i before origin first second third = three before _ _ _ _ _ _ first second third

from_set : (seed i : ℕ) (before : List Line) (recipient : List ℕ) → Sets before (link i (codes "BANKA") recipient (codes "C")) (link_at i (codes "BANKA") recipient (codes "C") ∷ []) 1
    → Sets (before ++ link_at i (codes "BANKA") recipient (codes "C") ∷ []) (link (i + 1) (codes "BANKB") recipient (codes "C")) (link_at (i + 1) (codes "BANKB") recipient (codes "C") ∷ []) 1
    → Sets (before ++ (link_at i (codes "BANKA") recipient (codes "C") ∷ link_at (i + 1) (codes "BANKB") recipient (codes "C") ∷ [])) (link (i + 2) (codes "BANKC") recipient (codes "C")) (link_at (i + 2) (codes "BANKC") recipient (codes "C") ∷ []) 1
    → Sets before (links_from_banks i recipient) (links_from i recipient) 3
unfolding links_from_banks
from_set seed i before recipient first second third = three before _ _ _ _ _ _ first second third

abbrev to_x : List Line
to_x = links_to 7 (codes "CKDX")

abbrev from_t : List Line
from_t = links_from 10 (codes "CKTX")

abbrev to_t : List Line
to_t = links_to 13 (codes "CKTX")

-- all lines of the set-up
abbrev pub set_lines : ℕ → List Line
set_lines seed = all_parties seed ++ bank_links ++ to_x ++ from_t ++ to_t

to_x_set : (seed : ℕ) → Sets (all_parties seed ++ bank_links) (links_to_banks 7 (codes "CKDX")) to_x 3
unfolding encode_with decode_pairs odd_parity_of ones spread_of
to_x_set seed =
    let p = all_parties seed ++ bank_links in
    to_set seed 7 p (codes "CKDX") (link_set 7 p (codes "CKDX") (codes "BANKA") (codes "C") refl refl refl refl)
    (link_set 8 (p ++ link_at 7 (codes "CKDX") (codes "BANKA") (codes "C") ∷ []) (codes "CKDX") (codes "BANKB") (codes "C") refl refl refl refl)
    (link_set 9 (p ++ (link_at 7 (codes "CKDX") (codes "BANKA") (codes "C") ∷ link_at 8 (codes "CKDX") (codes "BANKB") (codes "C") ∷ [])) (codes "CKDX") (codes "BANKC") (codes "C") refl refl refl refl)

from_t_set : (seed : ℕ) → Sets ((all_parties seed ++ bank_links) ++ to_x) (links_from_banks 10 (codes "CKTX")) from_t 3
unfolding encode_with decode_pairs odd_parity_of ones spread_of
from_t_set seed =
    let p = (all_parties seed ++ bank_links) ++ to_x in
    from_set seed 10 p (codes "CKTX") (link_set 10 p (codes "BANKA") (codes "CKTX") (codes "C") refl refl refl refl)
    (link_set 11 (p ++ link_at 10 (codes "BANKA") (codes "CKTX") (codes "C") ∷ []) (codes "BANKB") (codes "CKTX") (codes "C") refl refl refl refl)
    (link_set 12 (p ++ (link_at 10 (codes "BANKA") (codes "CKTX") (codes "C") ∷ link_at 11 (codes "BANKB") (codes "CKTX") (codes "C") ∷ [])) (codes "BANKC") (codes "CKTX") (codes "C") refl refl refl refl)

to_t_set : (seed : ℕ) → Sets (((all_parties seed ++ bank_links) ++ to_x) ++ from_t) (links_to_banks 13 (codes "CKTX")) to_t 3
unfolding encode_with decode_pairs odd_parity_of ones spread_of
to_t_set seed =
    let p = ((all_parties seed ++ bank_links) ++ to_x) ++ from_t in
    to_set seed 13 p (codes "CKTX") (link_set 13 p (codes "CKTX") (codes "BANKA") (codes "C") refl refl refl refl)
    (link_set 14 (p ++ link_at 13 (codes "CKTX") (codes "BANKA") (codes "C") ∷ []) (codes "CKTX") (codes "BANKB") (codes "C") refl refl refl refl)
    (link_set 15 (p ++ (link_at 13 (codes "CKTX") (codes "BANKA") (codes "C") ∷ link_at 14 (codes "CKTX") (codes "BANKB") (codes "C") ∷ [])) (codes "CKTX") (codes "BANKC") (codes "C") refl refl refl refl)

pub begins : (seed : ℕ) → Sets [] (set_up seed) (set_lines seed) 20
begins seed =
    both [] _ (links_to_banks 13 (codes "CKTX")) (all_parties seed ++ bank_links ++ to_x ++ from_t) to_t 17 3
    (both [] _ (links_from_banks 10 (codes "CKTX")) (all_parties seed ++ bank_links ++ to_x) from_t 14 3
    (both [] _ (links_to_banks 7 (codes "CKDX")) (all_parties seed ++ bank_links) to_x 11 3
    (both [] (parties seed) links_of_banks (all_parties seed) bank_links 5 6 (parties_set seed) (six_set seed))
    (to_x_set seed)) (from_t_set seed)) (to_t_set seed)
