-- The formats of codes: their numbers, and what closes a text.
use Rattle.std.proofs.Common.{◌≡◌, ℕ, ◌-◌, ◌≤◌, ◌<◌, ◌^◌, List, ◌∷◌, ◌++◌, length, take, drop, Result, Ok, Err, IfErr, refl, sym, ap, ◌∙◌, arith, append-nil, length-append, lit≤}
use Rattle.std.specs.Int.{w32, from_be_bytes}
use Rattle.std.proofs.lemmas.List.{take-append-drop}
use Rattle.std.proofs.lemmas.Nat.{from_be_bytes-to_be_bytes_4}
use Rattle.x_mac.specs.Code.{edc_of}
use Rattle.party_state.specs.declared.edit.Edit.{Edit}
use Rattle.change_code.specs.declared.format.Format.{Format}
use Rattle.change_code.specs.declared.format.Format.TheVariants.{One, Two}
use Rattle.change_code.specs.declared.fault.CodeFault.{CodeFault}
use Rattle.change_code.specs.declared.fault.CodeFault.TheVariants.{Bad, NoMemory}
use Rattle.change_code.specs.Code.{four, number_of, closing, closed, change_text, IsCode, end_length, longest_end}
use Rattle.change_code.specs.Reading.{IsAllRead, change_form}
use Rattle.change_code.proofs.Numbers.{same_fronts}

pub number_apart : (f g : Format) → number_of f ≡ number_of g → f ≡ g
number_apart One One is = refl
number_apart Two Two is = refl
number_apart One Two is = absurd (cc is)
number_apart Two One is = absurd (cc is)

four_long : (n : ℕ) → length (four n) ≡ 4
unfolding four
four_long n = refl

four_same : (m n : ℕ) → m < 2 ^ 32 → n < 2 ^ 32 → four m ≡ four n → m ≡ n
unfolding four
four_same m n small small' is = sym (from_be_bytes-to_be_bytes_4 m small) ∙ (ap (from_be_bytes w32) is ∙ from_be_bytes-to_be_bytes_4 n small')

pub closing_long : (format : Format) (text : List ℕ) → length (closing format text) ≡ end_length format
closing_long One text = refl
closing_long Two text = four_long (edc_of text)

pub short_end : (format : Format) → end_length format ≤ longest_end
short_end One = lit≤ tt
short_end Two = lit≤ tt

-- a closed text is closed in one way
pub same_text : (format : Format) (a b : List ℕ) → closed format a ≡ closed format b → a ≡ b
same_text One a b is = sym (append-nil a) ∙ (is ∙ append-nil b)
same_text Two a b is = (same_fronts a b _ _ (same_length (ap length is)) is).0
  where
    same_length : length (closed Two a) ≡ length (closed Two b) → length a ≡ length b
    same_length e = omega (arith, e, length-append a (closing Two a), length-append b (closing Two b), four_long (edc_of a), four_long (edc_of b))

-- bytes that end in a number of four bytes
pub ends_in : (bytes text end : List ℕ) (code : ℕ) → text ≡ take (length bytes - 4) bytes → end ≡ drop (length bytes - 4) bytes → four code ≡ end → bytes ≡ text ++ four code
ends_in bytes text end code front back is =
    sym (take-append-drop (length bytes - 4) bytes) ∙ (ap (λ (l : List ℕ). l ++ drop (length bytes - 4) bytes) (sym front) ∙ ap (λ (l : List ℕ). text ++ l) (sym back ∙ sym is))

-- they aren't closed where that isn't the code of what stands before it
pub not_closed : (bytes text : List ℕ) (given code : ℕ) → given < 2 ^ 32 → code < 2 ^ 32 → given ≡ edc_of text → bytes ≡ text ++ four code → (given ≡ code → ⊥) → (other : List ℕ) → bytes ≡ closed Two other → ⊥
not_closed bytes text given code small small' gives is differs other closes =
    let both = same_fronts text other (four code) (four (edc_of other)) (same_length (ap length (sym is ∙ closes))) (sym is ∙ closes) in
    let same : four given ≡ four code = ap four gives ∙ (ap (λ (t : List ℕ). four (edc_of t)) both.0 ∙ sym both.1) in
    differs (four_same given code small small' same)
  where
    same_length : length (text ++ four code) ≡ length (closed Two other) → length text ≡ length other
    same_length e = omega (arith, e, length-append text (four code), length-append other (closing Two other), four_long code, four_long (edc_of other))

-- nor are too few bytes
pub too_short : (bytes : List ℕ) → length bytes < 4 → (other : List ℕ) → bytes ≡ closed Two other → ⊥
too_short bytes few other closes = omega (arith, few, ap length closes, length-append other (closing Two other), four_long (edc_of other))

-- nor are bytes that close an empty text: it begins with no number
pub not_empty : (format : Format) (bytes text other : List ℕ) → bytes ≡ closed format text → length text ≡ 0 → bytes ≡ closed format (number_of format ∷ other) → ⊥
not_empty format bytes text other closes none code =
    let one = same_text format text (number_of format ∷ other) (sym closes ∙ code) in
    omega (arith, none, ap length one)

-- bytes whose text holds no change are the code of none
pub never_code : (result : Result (List Edit) CodeFault) (format : Format) (bytes text : List ℕ) → bytes ≡ closed format (number_of format ∷ text) → IsAllRead change_form text result
    → IfErr result (λ fault. fault ≡ Bad → (edits : List Edit) → IsCode format bytes edits → ⊥)
never_code (Ok edits) format bytes text closes read = tt
never_code (Err NoMemory) format bytes text closes read = λ bad. absurd (cc bad)
never_code (Err Bad) format bytes text closes none = λ bad edits code.
    let one : number_of format ∷ text ≡ number_of format ∷ change_text edits = same_text format (number_of format ∷ text) (number_of format ∷ change_text edits) (sym closes ∙ code.is) in
    none edits (code.few, code.in_range) (cc one)
