-- What a line writes is short.
use Rattle.std.proofs.Common.{◌≡◌, ℕ, ◌*◌, ◌≤◌, ◌<◌, ◌^◌, Bool, true, false, List, [], ◌∷◌, length, Option, Some, None, Result, Ok, Err, refl, ap, subst, arith}
use Rattle.std.specs.Prelude.{◌&&◌, nat_le, nat_lt, if◌then◌else◌}
use Rattle.std.specs.Char.{is_ascii_digit}
use Rattle.std.specs.List.{All, cons_option, list_all}
use Rattle.std.specs.Result.{result_ok}
use Rattle.std.specs.Str.Parse.{digits_value}
use Rattle.std.proofs.lemmas.Bool.{and_parts, ltb-true, leb-true}
use Rattle.std.proofs.lemmas.List.Elements.{All-cons, All-nil}
use Rattle.hex.specs.Hex.{IsBytes, decode_of}
use Rattle.hex.specs.declared.error.FromHexError.{FromHexError}
use Rattle.hex.proofs.HexLemmas.{decode_of-ok}
use Rattle.x_values.specs.Words.{number_of}
use Rattle.scenario.specs.Kinds.{bytes_of}
use Rattle.scenario.specs.Rows.{Row}
use Rattle.scenario.specs.Words.{Word, words_of}
use Rattle.csm_batch.specs.declared.entry.Entry.{Entry}
use Rattle.csm_batch.specs.Batches.{IsShort, entry_at, entry_in, entry_with, entries_in}

some_if : {A : Type 0} (b : Bool) (o : Option A) (x : A) → (if b then o else None) ≡ Some x → (b ≡ true) × (o ≡ Some x)
some_if true o x e = (refl, e)
some_if false o x e = absurd cc

number_within : (digits : List ℕ) (n : ℕ) → number_of digits ≡ Some n → n < 2 ^ 64
number_within digits n e =
    let long = some_if (nat_le (length digits) 20) _ n e in
    let fits = some_if ((nat_le 1 (length digits) && list_all is_ascii_digit digits) && nat_lt (digits_value 10 digits) (2 ^ 64)) (Some (digits_value 10 digits)) n long.1 in
    let same : digits_value 10 digits ≡ n = cc (fits.1) in
    subst (λ (k : ℕ). k < 2 ^ 64) same (ltb-true (digits_value 10 digits) (2 ^ 64) (and_parts _ _ fits.0).1)

abbrev AreBytes : List ℕ → Type 0
AreBytes bytes = (1 ≤ length bytes) × (length bytes ≤ 1040) × IsBytes bytes

ok_of : (r : Result (List ℕ) FromHexError) (bytes : List ℕ) → result_ok r ≡ Some bytes → r ≡ Ok bytes
ok_of (Ok b) bytes e = let same : b ≡ bytes = cc (e) in ap (λ (l : List ℕ). Ok l) same
ok_of (Err f) bytes e = absurd cc

bytes_short : (digits bytes : List ℕ) → bytes_of digits ≡ Some bytes → AreBytes bytes
bytes_short digits bytes e =
    let sized = some_if (nat_le 1 (length digits) && nat_le (length digits) 2080) (result_ok (decode_of digits)) bytes e in
    let low : 1 ≤ length digits = leb-true 1 (length digits) (and_parts (nat_le 1 (length digits)) (nat_le (length digits) 2080) sized.0).0 in
    let high : length digits ≤ 2080 = leb-true (length digits) 2080 (and_parts (nat_le 1 (length digits)) (nat_le (length digits) 2080) sized.0).1 in
    let ok = decode_of-ok digits bytes (ok_of (decode_of digits) bytes sized.1) in
    let twice : length digits ≡ 2 * length bytes = ok.2 in
    (omega (arith, low, twice), omega (arith, high, twice), ok.3)

with_short : (moment : Option ℕ) (bytes : Option (List ℕ)) (entry : Entry) → entry_with moment bytes ≡ Some entry → ((n : ℕ) → moment ≡ Some n → n < 2 ^ 64) → ((b : List ℕ) → bytes ≡ Some b → AreBytes b) → IsShort entry
with_short (Some n) (Some b) entry e within short =
    let same : (record { moment = n; bytes = b }) ≡ entry = cc (e) in
    let s = short b refl in
    subst IsShort same (record { filled = s.0; short = s.1; values = s.2; within = within n refl })
with_short (Some n) None entry e within short = absurd cc
with_short None b entry e within short = absurd cc

words_short : (words : List Word) (entry : Entry) → entry_in words ≡ Some entry → IsShort entry
words_short (moment ∷ digits ∷ []) entry e = with_short (number_of moment) (bytes_of digits) entry e (number_within moment) (bytes_short digits)
words_short [] entry e = absurd cc
words_short (w ∷ []) entry e = absurd cc
words_short (w ∷ v ∷ u ∷ rest) entry e = absurd cc

more_short : (row : Row) (rows : List Row) (o : Option Entry) → entry_at row ≡ o → All IsShort (entries_in rows) → All IsShort (cons_option o (entries_in rows))
more_short row rows None e rest = rest
more_short row rows (Some entry) e rest = All-cons IsShort entry (entries_in rows) (words_short (words_of row.line) entry e) rest

-- the entries of lines are short
pub short_rows : (rows : List Row) → All IsShort (entries_in rows)
short_rows [] = All-nil IsShort
short_rows (row ∷ rows) = more_short row rows (entry_at row) refl (short_rows rows)
