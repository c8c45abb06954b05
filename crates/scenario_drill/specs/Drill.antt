-- The text of a drill: this project's profile.
use Rattle.std.specs.Prelude.{ℕ, zero, suc, ◌==◌, ◌+◌, ◌*◌, ◌/◌, ◌%◌, ◌^◌, nat_lt, List, [], ◌∷◌, ◌++◌, codes, bit_xor, if◌then◌else◌}
use Rattle.std.specs.Fmt.{decimal}
use Rattle.std.specs.Int.{w64, to_be_bytes}
use Rattle.hex.specs.Hex.{encode_upper}
use Rattle.x_gen.specs.Parity.{odd_parity_of}
use Rattle.x_seal.specs.Offset.{spread_of}

-- ---- the draws

-- the number behind this one
abbrev pub advanced : ℕ → ℕ
advanced x = (x * 6364136223846793005 + 1442695040888963407) % 2 ^ 64

-- the number after so many draws
unfoldable pub number_after : ℕ → ℕ → ℕ
number_after seed zero = seed
number_after seed (suc n) = advanced (number_after seed n)

-- draw n, from 1
abbrev pub draw : ℕ → ℕ → ℕ
draw seed n = number_after seed n / 2 ^ 33

-- ---- the words of a line

-- a word with a blank behind it, and the last word of a line
abbrev pub word : List ℕ → List ℕ
word w = w ++ 32 ∷ []

abbrev pub last : List ℕ → List ℕ
last w = w ++ 10 ∷ []

-- a key in sixteen digits
abbrev pub key_digits : ℕ → List ℕ
key_digits key = encode_upper (to_be_bytes w64 key)

-- pair i, in thirty-two digits: two fixed keys, each exclusive or the spread of i, with odd parity
abbrev pub pair_digits : ℕ → List ℕ
pair_digits i =
    key_digits (odd_parity_of (bit_xor 0x0123456789ABCDEF (spread_of i)))
    ++ key_digits (odd_parity_of (bit_xor 0xFEDCBA9876543210 (spread_of i)))

-- ---- parties and links

-- the first, second and third bank
abbrev pub bank : ℕ → List ℕ
bank zero = codes "BANKA"
bank (suc zero) = codes "BANKB"
bank n = codes "BANKC"

unfoldable pub party : ℕ → ℕ → List ℕ → List ℕ → List ℕ
party seed p name role =
    word (codes "PARTY") ++ word name ++ word role ++ word (pair_digits (15 + p)) ++ last (key_digits ((seed + p) % 2 ^ 64))

unfoldable pub parties : ℕ → List ℕ
parties seed =
    party seed 1 (codes "BANKA") (codes "BANK")
    ++ party seed 2 (codes "BANKB") (codes "BANK")
    ++ party seed 3 (codes "BANKC") (codes "BANK")
    ++ party seed 4 (codes "CKDX") (codes "DISTRIBUTION")
    ++ party seed 5 (codes "CKTX") (codes "TRANSLATION")

unfoldable pub link : ℕ → List ℕ → List ℕ → List ℕ → List ℕ
link i origin recipient label =
    word (codes "LINK") ++ word origin ++ word recipient ++ word label ++ last (pair_digits i)

unfoldable pub links_of_banks : List ℕ
links_of_banks =
    link 1 (codes "BANKA") (codes "BANKB") (codes "K1")
    ++ link 2 (codes "BANKA") (codes "BANKC") (codes "K1")
    ++ link 3 (codes "BANKB") (codes "BANKA") (codes "K1")
    ++ link 4 (codes "BANKB") (codes "BANKC") (codes "K1")
    ++ link 5 (codes "BANKC") (codes "BANKA") (codes "K1")
    ++ link 6 (codes "BANKC") (codes "BANKB") (codes "K1")

-- from one party to the three banks, and from the three banks to one party, numbered from i on
unfoldable pub links_to_banks : ℕ → List ℕ → List ℕ
links_to_banks i origin =
    link i origin (codes "BANKA") (codes "C")
    ++ link (i + 1) origin (codes "BANKB") (codes "C")
    ++ link (i + 2) origin (codes "BANKC") (codes "C")

unfoldable pub links_from_banks : ℕ → List ℕ → List ℕ
links_from_banks i recipient =
    link i (codes "BANKA") recipient (codes "C")
    ++ link (i + 1) (codes "BANKB") recipient (codes "C")
    ++ link (i + 2) (codes "BANKC") recipient (codes "C")

-- ---- events

abbrev pub end_of_key : List ℕ → List ℕ → ℕ → List ℕ
end_of_key p q c =
    word (codes "END") ++ word p ++ word q ++ p ++ codes "." ++ p ++ codes ".K1." ++ last (decimal (1 + c % 8))

abbrev pub start_kk : List ℕ → List ℕ → ℕ → List ℕ
start_kk p q c =
    word (codes "STARTKK") ++ word p ++ word q ++ word (codes "K1") ++ codes "N" ++ word (decimal (c % 10)) ++ last (codes "DOUBLE")

abbrev pub recent : ℕ → List ℕ
recent j = word (codes "RECENT") ++ last (decimal j)

abbrev pub stop : ℕ → ℕ → List ℕ
stop b c = word (codes "STOP") ++ word (decimal (1 + c % 5)) ++ last (decimal b) ++ recent 1

-- a line of the kind's word and two others
abbrev pub for_two : List ℕ → List ℕ → List ℕ → List ℕ
for_two kind p q = word kind ++ word p ++ last q

abbrev pub through_centre : List ℕ → List ℕ → List ℕ → List ℕ → List ℕ
through_centre kind p centre q = word kind ++ word p ++ word centre ++ last q

abbrev pub purge : List ℕ → List ℕ
purge p = word (codes "PURGE") ++ last p

-- the lines that the draws a, b and c give
abbrev pub act : ℕ → ℕ → ℕ → List ℕ
act a b c =
    let p = bank (b % 3) in
    let q = bank ((b + 1 + c % 2) % 3) in
    if nat_lt (a % 16) 2 then for_two (codes "START") p q
    else if a % 16 == 2 then through_centre (codes "ASK") p (codes "CKDX") q
    else if a % 16 == 3 then through_centre (codes "TRANSLATE") p (codes "CKTX") q
    else if a % 16 == 4 then for_two (codes "RESEND") p q
    else if a % 16 == 5 then for_two (codes "DROP") p q
    else if a % 16 == 6 then end_of_key p q c
    else if a % 16 == 7 then purge p
    else if a % 16 == 8 then start_kk p q c
    else if nat_lt (a % 16) 13 then recent 1
    else if nat_lt (a % 16) 15 then recent (1 + c % 4)
    else stop b c

-- event n + 1 with these draws
unfoldable pub event_with : ℕ → ℕ → ℕ → ℕ → List ℕ
event_with n a b c = word (codes "TIME") ++ last (decimal (n + 1)) ++ act a b c

-- event n + 1, whose draws are the three behind the first 3 n
abbrev pub event : ℕ → ℕ → List ℕ
event seed n = event_with n (draw seed (3 * n + 1)) (draw seed (3 * n + 2)) (draw seed (3 * n + 3))

-- the first n events
unfoldable pub events : ℕ → ℕ → List ℕ
events seed zero = []
events seed (suc n) = events seed n ++ event seed n

abbrev pub set_up : ℕ → List ℕ
set_up seed =
    parties seed ++ links_of_banks ++ links_to_banks 7 (codes "CKDX") ++ links_from_banks 10 (codes "CKTX") ++ links_to_banks 13 (codes "CKTX")

abbrev pub drill_text : ℕ → ℕ → List ℕ
drill_text seed n = set_up seed ++ events seed n
