-- The lines of entries are a batch of them.
use Rattle.std.proofs.Common.{◌≡◌, ◌==◌, ℕ, suc, ◌+◌, ◌*◌, ◌/◌, ◌%◌, ◌≤◌, ◌<◌, ◌^◌, Bool, true, false, List, [], ◌∷◌, ◌++◌, length, map, slice_index, Option, Some, None, rules, refl, sym, ap, subst, ◌∙◌, arith, append_assoc, length-append, true≢false}
use Rattle.std.specs.Prelude.{◌&&◌, is_some}
use Rattle.std.specs.Char.{is_ascii_digit}
use Rattle.std.specs.Fmt.{decimal}
use Rattle.std.specs.List.{All, cons_option, list_all}
use Rattle.std.specs.Str.Parse.{digits_value}
use Rattle.std.proofs.lemmas.Bool.{and_from, and_parts, eqb-true, le-leb, lt-ltb}
use Rattle.std.proofs.lemmas.Fmt.{decimal_nonempty, digits_decimal, digits_value-decimal, length-decimal-le}
use Rattle.std.proofs.lemmas.List.{length-map}
use Rattle.std.proofs.lemmas.List.Elements.{All-append, All-cons, All-head, All-nil, All-tail}
use Rattle.std.proofs.lemmas.List.Splits.{slice_split_at, slice_split_none}
use Rattle.std.proofs.lemmas.List.Sums.{sum_by-append, sum_by-cons}
use Rattle.std.proofs.lemmas.Str.Parse.{IsDigitsTest, IsNumeralModel, numerals_by_value}
use Rattle.hex.specs.Hex.{IsBytes, encode_upper, encode_with, hex_digit_value, upper_digits}
use Rattle.hex.proofs.HexLemmas.{IsDigits-upper_digits, decode_of-encode_upper, length-encode_with}
use Rattle.x_values.specs.Words.{number_of}
use Rattle.scenario.specs.Behind.{EachBehind}
use Rattle.scenario.specs.Kinds.{bytes_of}
use Rattle.scenario.specs.Rows.{Row, put_before, rows_of, size_of, total_of}
use Rattle.scenario.specs.Words.{is_blank, words_of}
use Rattle.scenario.proofs.Sizes.{total_is}
use Rattle.csm_batch.specs.declared.entry.Entry.{Entry}
use Rattle.csm_batch.specs.Batches.{IsShort, entries_in, entry_at, entry_of, is_good}
use Rattle.csm_batch.specs.Laws.{ReadsBack}
use Rattle.csm_batch.specs.Lines.{line_text, lines_text}

-- ---- neither a blank nor a line feed

pub record IsPlain (b : ℕ) : Type 0 where
  pub no_blank : (b == 32) ≡ false
  pub no_feed : (b == 10) ≡ false

differs : (b c : ℕ) → (b ≡ c → ⊥) → (b == c) ≡ false
differs b c apart = by (b == c) refl
  where
    by : (t : Bool) → (b == c) ≡ t → t ≡ false
    by false e = refl
    by true e = absurd (apart (eqb-true b c e))

digit_plain : (b : ℕ) → is_ascii_digit b ≡ true → IsPlain b
digit_plain b e = record {
  no_blank = differs b 32 (λ h. true≢false (sym e ∙ ap is_ascii_digit h));
  no_feed = differs b 10 (λ h. true≢false (sym e ∙ ap is_ascii_digit h));
}

digits_plain : (ds : List ℕ) → list_all is_ascii_digit ds ≡ true → All IsPlain ds
digits_plain [] e = All-nil IsPlain
digits_plain (d ∷ ds) e = let k = and_parts _ _ e in All-cons IsPlain d ds (digit_plain d k.0) (digits_plain ds k.1)

value_plain : (c d : ℕ) → hex_digit_value c ≡ Some d → IsPlain c
value_plain c d e = record {
  no_blank = differs c 32 (λ h. (let k : None ≡ Some d = ap hex_digit_value (sym h) ∙ e in cc));
  no_feed = differs c 10 (λ h. (let k : None ≡ Some d = ap hex_digit_value (sym h) ∙ e in cc));
}

encoded_plain : (bytes : List ℕ) → IsBytes bytes → All IsPlain (encode_upper bytes)
unfolding encode_with
encoded_plain [] are = All-nil IsPlain
encoded_plain (b ∷ bytes) are =
    let small : b < 256 = are 0 in
    let high : IsPlain (slice_index upper_digits (b / 16)) = value_plain (slice_index upper_digits (b / 16)) (b / 16) (IsDigits-upper_digits (b / 16) (omega (arith, small))) in
    let low : IsPlain (slice_index upper_digits (b % 16)) = value_plain (slice_index upper_digits (b % 16)) (b % 16) (IsDigits-upper_digits (b % 16) (omega arith)) in
    let rest = encoded_plain bytes (λ i. are (suc i)) in
    All-cons IsPlain (slice_index upper_digits (b / 16)) (slice_index upper_digits (b % 16) ∷ encode_upper bytes) high
    (All-cons IsPlain (slice_index upper_digits (b % 16)) (encode_upper bytes) low rest)

-- ---- the digits of a moment

abbrev AreDigits : List ℕ → Type 0
AreDigits ds = list_all is_ascii_digit ds ≡ true

tests : IsDigitsTest AreDigits
tests = search rules

own : IsNumeralModel AreDigits (digits_value 10)
own = numerals_by_value AreDigits tests

number_back : (n : ℕ) → n < 2 ^ 64 → number_of (decimal n) ≡ Some n
number_back n lt =
    let filled : 1 ≤ length (decimal n) = decimal_nonempty n lt in
    let wide : n < 10 ^ 20 = omega (arith, lt) in
    let short : length (decimal n) ≤ 20 = length-decimal-le 20 n (omega arith) wide lt in
    rw (le-leb _ _ short, le-leb _ _ filled, digits_decimal own n lt, digits_value-decimal own n lt, lt-ltb n (2 ^ 64) lt) refl

bytes_back : (bytes : List ℕ) → 1 ≤ length bytes → length bytes ≤ 1040 → IsBytes bytes → bytes_of (encode_upper bytes) ≡ Some bytes
bytes_back bytes filled short are =
    let twice : length (encode_upper bytes) ≡ 2 * length bytes = length-encode_with upper_digits bytes in
    let low : 1 ≤ length (encode_upper bytes) = omega (arith, twice, filled) in
    let high : length (encode_upper bytes) ≤ 2080 = omega (arith, twice, short) in
    rw (le-leb _ _ low, le-leb _ _ high, decode_of-encode_upper bytes are) refl

-- ---- the line of an entry

abbrev line_of : Entry → List ℕ
line_of e = decimal e.moment ++ 32 ∷ encode_upper e.bytes

abbrev row_of : Entry → Row
row_of e = record { line = line_of e; ended = true }

moment_plain : (e : Entry) → IsShort e → All IsPlain (decimal e.moment)
moment_plain e h = digits_plain (decimal e.moment) (digits_decimal own e.moment h.within)

entry_back : (e : Entry) → IsShort e → entry_of (line_of e) ≡ Some e
entry_back e h =
    let first : words_of (line_of e) ≡ decimal e.moment ∷ words_of (encode_upper e.bytes) =
    slice_split_at is_blank (decimal e.moment) 32 (encode_upper e.bytes) (λ k d lt. (moment_plain e h k d lt).no_blank) refl in
    let second : words_of (encode_upper e.bytes) ≡ encode_upper e.bytes ∷ [] =
    slice_split_none is_blank (encode_upper e.bytes) (λ k d lt. (encoded_plain e.bytes h.values k d lt).no_blank) in
    rw (first, second, number_back e.moment h.within, bytes_back e.bytes h.filled h.short h.values) refl

-- ---- the lines of entries

row_step : (b : ℕ) (t : Bool) (front rest : List ℕ) → (b == 10) ≡ t → t ≡ false
    → rows_of (front ++ 10 ∷ rest) ≡ record { line = front; ended = true } ∷ rows_of rest
    → rows_of (b ∷ front ++ 10 ∷ rest) ≡ record { line = b ∷ front; ended = true } ∷ rows_of rest
row_step b false front rest e no_feed next = rw e (ap (put_before b) next)
row_step b true front rest e no_feed next = absurd cc

abbrev NoFeed : ℕ → Type 0
NoFeed b = (b == 10) ≡ false

row_first : (front rest : List ℕ) → All NoFeed front → rows_of (front ++ 10 ∷ rest) ≡ record { line = front; ended = true } ∷ rows_of rest
row_first [] rest none = refl
row_first (b ∷ front) rest none = row_step b (b == 10) front rest refl (All-head NoFeed b front none) (row_first front rest (All-tail NoFeed b front none))

line_plain : (e : Entry) → IsShort e → All NoFeed (line_of e)
line_plain e h =
    All-append NoFeed (decimal e.moment) (32 ∷ encode_upper e.bytes) (λ k d lt. (moment_plain e h k d lt).no_feed)
    (All-cons NoFeed 32 (encode_upper e.bytes) refl (λ k d lt. (encoded_plain e.bytes h.values k d lt).no_feed))

fed : (e : Entry) (rest : List ℕ) → line_text e.moment e.bytes ++ rest ≡ line_of e ++ 10 ∷ rest
fed e rest = append_assoc (line_of e) (10 ∷ []) rest

rows_back : (es : List Entry) → All IsShort es → rows_of (lines_text es) ≡ map row_of es
unfolding lines_text
rows_back [] h = refl
rows_back (e ∷ es) h =
    let one = All-head IsShort e es h in
    ap rows_of (fed e (lines_text es)) ∙ row_first (line_of e) (lines_text es) (line_plain e one)
    ∙ ap (λ (rows : List Row). row_of e ∷ rows) (rows_back es (All-tail IsShort e es h))

entries_back : (es : List Entry) → All IsShort es → es ≡ entries_in (map row_of es)
entries_back [] h = refl
entries_back (e ∷ es) h =
    let first : entry_at (row_of e) ≡ Some e = entry_back e (All-head IsShort e es h) in
    let rest = entries_back es (All-tail IsShort e es h) in
    ap (λ (l : List Entry). e ∷ l) rest ∙ sym (ap (λ (o : Option Entry). cons_option o (entries_in (map row_of es))) first)

-- ---- they pass no limit

-- the line ends and writes an entry
abbrev Writes : Row → Type 0
Writes row = (row.ended && is_some (entry_at row)) ≡ true

all_write : (es : List Entry) → All IsShort es → All Writes (map row_of es)
all_write [] h = All-nil Writes
all_write (e ∷ es) h =
    let first : entry_at (row_of e) ≡ Some e = entry_back e (All-head IsShort e es h) in
    All-cons Writes (row_of e) (map row_of es) (ap is_some first) (all_write es (All-tail IsShort e es h))

in_middle : {A : Type 0} (P : A → Type 0) (before after : List A) (x : A) → All P (before ++ x ∷ after) → P x
in_middle P [] after x h = All-head P x after h
in_middle P (b ∷ before) after x h = in_middle P before after x (All-tail P b (before ++ x ∷ after) h)

good_rows : (rows : List Row) → All Writes rows → length rows ≤ 2048 → total_of rows ≤ 1048576 → EachBehind is_good rows
good_rows rows write few sized before after x e =
    let count : length rows ≡ length before + length (x ∷ after) = ap length e ∙ length-append before (x ∷ after) in
    let total : total_of rows ≡ total_of (before ++ x ∷ after) = ap (λ (l : List Row). total_of l) e in
    let below : length before < 2048 = omega (arith, few, count) in
    let within : total_of before + size_of x ≤ 1048576 = omega (arith, sized, total, sum_by-append size_of before (x ∷ after), sum_by-cons size_of x after) in
    and_from _ _ (and_from _ _ (lt-ltb _ _ below) (le-leb _ _ within)) (in_middle Writes before after x (subst (λ (l : List Row). All Writes l) e write))

pub reads_back : ReadsBack
reads_back es short few sized =
    let rows : rows_of (lines_text es) ≡ map row_of es = rows_back es short in
    let count : length (map row_of es) ≤ 2048 = subst (λ (n : ℕ). n ≤ 2048) (sym (length-map es row_of)) few in
    let total : total_of (map row_of es) ≤ 1048576 = subst (λ (n : ℕ). n ≤ 1048576) (sym (ap (λ (l : List Row). total_of l) (sym rows) ∙ total_is (lines_text es))) sized in
    record {
      good = subst (λ (l : List Row). EachBehind is_good l) (sym rows) (good_rows (map row_of es) (all_write es short) count total);
      values = entries_back es short ∙ ap entries_in (sym rows);
    }
