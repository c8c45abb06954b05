-- Codes as runs of eight upper-case digits.
use Rattle.std.proofs.Common.{◌≡◌, ℕ, zero, suc, ◌+◌, ◌*◌, ◌/◌, ◌%◌, ◌-◌, ◌<◌, ◌≤◌, ◌^◌, nat_le, nat_lt, ◌&&◌, Bool, true, false, if◌then◌else◌, List, [], ◌∷◌, ◌++◌, length, Some, Ok, Err, refl, sym, ap, ◌∙◌, arith, inl, inr, get_or}
use Rattle.std.specs.Prelude.{◌==◌, ◌||◌, not, slice_index}
use Rattle.std.specs.Int.{w32, from_be_bytes, to_be_bytes}
use Rattle.std.specs.Str.Parse.{digits_value}
use Rattle.std.proofs.lemmas.Bool.{and_parts, and_from, lt-ltb, eqb-true, cases_lt}
use Rattle.std.proofs.lemmas.Bool.Decides.{nat_tests}
use Rattle.std.proofs.lemmas.Nat.{be_bytes_4}
use Rattle.hex.specs.declared.error.FromHexError.{FromHexError}
use Rattle.hex.specs.Hex.{encode_upper, encode_with, upper_digits, hex_digit_value, decode_pairs, decode_sized}
use Rattle.hex.proofs.HexLemmas.{decode_sized-twice, decode_of-even}
use Rattle.csm_grammar.proofs.Hexing.{decoded, be_four}
use Rattle.csm_write.specs.Canon.{code_digits}
use Rattle.csm_write.proofs.Hexadecimal.{code_value, high_length}
use Rattle.change_code.specs.Reading.{StartsWith}
use Rattle.pay_auth.specs.declared.scanner.Run.TheVariants as run
use Rattle.pay_auth.specs.Scanning.{is_of, allows, AreAllowed, IsRun, run_form, code_form}
use Rattle.pay_auth.proofs.Stopping.{Recode}

-- the value of an upper-case digit
abbrev half : ℕ → ℕ
half a = if nat_le 65 a then a - 55 else a - 48

abbrev is_right : ℕ → Bool
is_right a = not (is_of run.Code 0 a) || (slice_index upper_digits (half a) == a)

abbrev all_right : ℕ → Bool
all_right zero = true
all_right (suc a) = is_right a && all_right a

right_below : (n a : ℕ) → all_right n ≡ true → a < n → is_right a ≡ true
right_below zero a all less = absurd (omega arith)
right_below (suc n) a all less =
    let parts = and_parts (is_right n) (all_right n) all in
    elim (cases_lt a n) [
      | inl below ↦ right_below n a parts.1 below
      | inr top ↦ let same : a ≡ n = omega arith in rw same parts.0
    ]

-- a digit of a run of digits
pub record IsDigit (a : ℕ) : Type 0 where
  pub value : hex_digit_value a ≡ Some (half a)
  pub small : half a < 16
  pub back : slice_index upper_digits (half a) ≡ a

digit_below : (p a : ℕ) → allows run.Code p a ≡ true → a < 71
digit_below p a allowed = grind (arith, nat_tests)

digit_value_is : (p a : ℕ) → allows run.Code p a ≡ true → hex_digit_value a ≡ Some (half a)
digit_value_is p a allowed = grind (arith, nat_tests)

digit_small : (p a : ℕ) → allows run.Code p a ≡ true → half a < 16
digit_small p a allowed = grind (arith, nat_tests)

or_right : (a b : Bool) → a ≡ true → (not a || b) ≡ true → b ≡ true
or_right true b set is = is
or_right false b set is = absurd (cc set)

digit : (p a : ℕ) → allows run.Code p a ≡ true → IsDigit a
digit p a allowed = record {
  value = digit_value_is p a allowed;
  small = digit_small p a allowed;
  back = eqb-true (slice_index upper_digits (half a)) a
      (or_right (is_of run.Code 0 a) _ (and_parts (nat_lt p 8) (is_of run.Code p a) allowed).1 (right_below 71 a refl (digit_below p a allowed)));
}

abbrev Bytes : List ℕ → Type 0
Bytes [] = Unit {0}
Bytes (b ∷ bytes) = (b < 256) × Bytes bytes

-- what digits decode to, and that these are its digits
record Pairs (i : ℕ) (u : List ℕ) : Type 0 where
  pub bytes : List ℕ
  pub decoded : decode_pairs i u ≡ Ok bytes
  pub encoded : encode_upper bytes ≡ u
  pub small : Bytes bytes
  pub twice : length u ≡ 2 * length bytes

pairs_more : (i p a b : ℕ) (rest : List ℕ) → IsDigit a → IsDigit b → Pairs (i + 2) rest → Pairs i (a ∷ b ∷ rest)
unfolding decode_pairs encode_with
pairs_more i p a b rest da db more =
    let high : (half a * 16 + half b) / 16 ≡ half a = omega (arith, db.small) in
    let low : (half a * 16 + half b) % 16 ≡ half b = omega (arith, db.small) in
    record {
      bytes = (half a * 16 + half b) ∷ more.bytes;
      decoded = rw (da.value, db.value, more.decoded) refl;
      encoded = rw (high, low, da.back, db.back, more.encoded) refl;
      small = (omega (arith, da.small, db.small), more.small);
      twice = omega (arith, more.twice);
    }

pairs_none : (i : ℕ) → Pairs i []
unfolding decode_pairs encode_with
pairs_none i = record { bytes = []; decoded = refl; encoded = refl; small = tt; twice = refl }

pairs : (i p : ℕ) (k : ℕ) (u : List ℕ) → length u ≡ 2 * k → AreAllowed run.Code p u → Pairs i u
pairs i p k [] even allowed = pairs_none i
pairs i p zero (a ∷ u) even allowed = absurd (omega (arith, even))
pairs i p (suc k) (a ∷ []) even allowed = absurd (omega (arith, even))
pairs i p (suc k) (a ∷ b ∷ rest) even allowed =
    pairs_more i p a b rest (digit p a allowed.0) (digit (p + 1) b allowed.1.0) (pairs (i + 2) (p + 1 + 1) k rest (omega (arith, even)) allowed.1.1)

eight_long : (p : ℕ) (u : List ℕ) → AreAllowed run.Code p u → p ≤ 8 → p + length u ≤ 8
eight_long p [] allowed le = omega (arith, le)
eight_long p (b ∷ u) allowed le = let rest = eight_long (p + 1) u allowed.1 (next p b allowed.0) in omega (arith, rest)
  where
    next : (p b : ℕ) → allows run.Code p b ≡ true → p + 1 ≤ 8
    next p b allowed = grind (arith, nat_tests)

run_long : (u : List ℕ) → IsRun run.Code u → length u ≡ 2 * 4
run_long u is = let most_is = eight_long 0 u is.allowed (omega arith) in omega (arith, is.long, most_is)

get_small : (bytes : List ℕ) → Bytes bytes → (i : ℕ) → get_or bytes i 0 < 256
get_small [] small i = omega arith
get_small (b ∷ bytes) small zero = small.0
get_small (b ∷ bytes) small (suc i) = get_small bytes small.1 i

-- four bytes make a number of 32 bits
four_small : (bytes : List ℕ) → length bytes ≡ 4 → Bytes bytes → from_be_bytes w32 bytes < 2 ^ 32
four_small (a ∷ b ∷ c ∷ d ∷ []) four small = omega (arith, small.0, small.1.0, small.1.1.0, small.1.1.1.0)
four_small [] four small = absurd (omega (arith, four))
four_small (a ∷ []) four small = absurd (omega (arith, four))
four_small (a ∷ b ∷ []) four small = absurd (omega (arith, four))
four_small (a ∷ b ∷ c ∷ []) four small = absurd (omega (arith, four))
four_small (a ∷ b ∷ c ∷ d ∷ e ∷ rest) four small = absurd (omega (arith, four))

-- what eight digits say
record Says (u : List ℕ) : Type 0 where
  pub bytes : List ℕ
  pub sized : decode_sized u 4 ≡ Ok bytes
  pub value : digits_value 16 u ≡ from_be_bytes w32 bytes
  pub small : from_be_bytes w32 bytes < 2 ^ 32
  pub digits : code_digits (from_be_bytes w32 bytes) ≡ u

says : (u : List ℕ) → IsRun run.Code u → Says u
says u is =
    let long = run_long u is in
    let even : length u % 2 ≡ 0 = omega (arith, long) in
    let p = pairs 0 0 4 u long is.allowed in
    let sized : decode_sized u 4 ≡ Ok p.bytes = decode_sized-twice u 4 long ∙ (decode_of-even u even ∙ p.decoded) in
    let four : length p.bytes ≡ 4 = omega (arith, p.twice, long) in
    let d = decoded u p.bytes 4 (sym sized) in
    record {
      bytes = p.bytes;
      sized = sized;
      value = d.value ∙ sym (be_four p.bytes four);
      small = four_small p.bytes four p.small;
      digits = ap encode_upper (be_bytes_4 p.bytes (from_be_bytes w32 p.bytes) four (get_small p.bytes p.small) refl) ∙ p.encoded;
    }

-- the digits of a number

abbrev are_allowed : ℕ → Bool
are_allowed zero = true
are_allowed (suc k) = is_of run.Code 0 (slice_index upper_digits k) && are_allowed k

allowed_below : (n k : ℕ) → are_allowed n ≡ true → k < n → is_of run.Code 0 (slice_index upper_digits k) ≡ true
allowed_below zero k all less = absurd (omega arith)
allowed_below (suc n) k all less =
    let parts = and_parts (is_of run.Code 0 (slice_index upper_digits n)) (are_allowed n) all in
    elim (cases_lt k n) [
      | inl below ↦ allowed_below n k parts.1 below
      | inr top ↦ let same : k ≡ n = omega arith in rw same parts.0
    ]

allowed_digit : (p k : ℕ) → p < 8 → k < 16 → allows run.Code p (slice_index upper_digits k) ≡ true
allowed_digit p k few small = and_from (nat_lt p 8) (is_of run.Code p (slice_index upper_digits k)) (lt-ltb p 8 few) (allowed_below 16 k refl small)

encoded_allowed : (p : ℕ) (bytes : List ℕ) → Bytes bytes → p + 2 * length bytes ≤ 8 → AreAllowed run.Code p (encode_upper bytes)
unfolding encode_with
encoded_allowed p [] small few = tt
encoded_allowed p (b ∷ bytes) small few = (
  allowed_digit p (b / 16) (omega (arith, few)) (omega (arith, small.0)),
  (allowed_digit (p + 1) (b % 16) (omega (arith, few)) (omega arith), encoded_allowed (p + 1 + 1) bytes small.1 (omega (arith, few))),
)

code_bytes : (n : ℕ) → Bytes (to_be_bytes w32 n)
code_bytes n = (omega arith, (omega arith, (omega arith, (omega arith, tt))))

code_run : (n : ℕ) → n < 2 ^ 32 → IsRun run.Code (code_digits n)
code_run n small = record { long = omega (arith, high_length 4 n); allowed = encoded_allowed 0 (to_be_bytes w32 n) (code_bytes n) (omega arith) }

pub code_recode : (last : ℕ) → Recode (code_form last) (run_form run.Code last)
code_recode last = record {
  to = code_digits;
  from = digits_value 16;
  fits = code_run;
  gives = λ u is. let s = says u is in omega (arith, s.value, s.small);
  code = λ n small. refl;
  same = λ u is. let s = says u is in ap (λ (l : List ℕ). l ++ last ∷ []) (sym (ap code_digits s.value ∙ s.digits));
  back = code_value;
}

-- a run that is decoded
pub code_read : (last : ℕ) (old rest front bytes : List ℕ) (n : ℕ) → StartsWith (run_form run.Code last) old rest front → Ok bytes ≡ decode_sized front 4 → n ≡ from_be_bytes w32 bytes → StartsWith (code_form last) old rest n
code_read last old rest front bytes n starts decodes value =
    let s = says front starts.fits in
    let both : Ok bytes ≡ Ok s.bytes = decodes ∙ s.sized in
    let same : bytes ≡ s.bytes = cc both in
    let is : n ≡ from_be_bytes w32 s.bytes = value ∙ ap (from_be_bytes w32) same in
    record {
      fits = omega (arith, is, s.small);
      is = starts.is ∙ ap (λ (l : List ℕ). (l ++ last ∷ []) ++ rest) (sym (ap code_digits is ∙ s.digits));
    }

pub code_decoded : (last : ℕ) (old rest front : List ℕ) (e : FromHexError) → StartsWith (run_form run.Code last) old rest front → Err e ≡ decode_sized front 4 → ⊥
code_decoded last old rest front e starts fails =
    let s = says front starts.fits in
    let both : Err e ≡ Ok s.bytes = fails ∙ s.sized in
    cc both
