-- What the contents of a field stand for (ANSI X9.17; the sets of bytes are this project's profile).
use Rattle.std.specs.Prelude.{◌≡◌, ℕ, ◌==◌, ◌&&◌, ◌||◌, not, nat_le, nat_lt, Bool, List, [], ◌∷◌, ◌++◌, length, take, drop, Option, Some, None, option_map, codes, bytes_eq, if◌then◌else◌}
use Rattle.std.specs.List.{list_all, list_any, find}
use Rattle.std.specs.Char.{digit_value}
use Rattle.std.specs.Str.Parse.{digits_value}
use Rattle.x_base.specs.Names.{is_name}
use Rattle.x_base.specs.KeyName.{parts_of}
use Rattle.x_base.specs.declared.key_name.KeyName.{KeyName}
use Rattle.csm_grammar.specs.declared.tag.Tag.{Tag}
use Rattle.csm_grammar.specs.declared.tag.Tag.TheVariants.{Mcl, Rcv, Org, Svr, Idu, Idc, Idd, Ida, Idk1, Idk2, DoubleKk, Kk, Kd, Kdu, Ctp, Cta, Ctb, Ctr, Erf, Iv, Edk, P, Mac, Edc, Kku, DoubleKku, Nos}
use Rattle.csm_grammar.specs.declared.message.Service.{Service}
use Rattle.csm_grammar.specs.declared.message.Service.TheVariants as service
use Rattle.csm_grammar.specs.Classes.{class_text, forms}

-- a value in a message: bytes as they stand (a class, an identity, a label, a text), a key name, a
-- service, a number (a key, a count, a code), or a pair of keys
pub data Value : Type 0 where
  AText : List ℕ → Value
  AName : KeyName → Value
  AService : Service → Value
  ANumber : ℕ → Value
  APair : ℕ → ℕ → Value

-- the kinds of contents
pub data Kind : Type 0 where
  OfClass OfIdent OfService OfName OfLabel OfPair OfKey OfCount OfReason OfText OfCode Unsupported : Kind

abbrev pub kind_of : Tag → Kind
kind_of Mcl = OfClass
kind_of Rcv = OfIdent
kind_of Org = OfIdent
kind_of Svr = OfService
kind_of Idu = OfIdent
kind_of Idc = OfIdent
kind_of Idd = OfName
kind_of Ida = OfName
kind_of Idk1 = OfLabel
kind_of Idk2 = OfLabel
kind_of DoubleKk = OfPair
kind_of Kk = OfKey
kind_of Kd = OfKey
kind_of Kdu = OfKey
kind_of Ctp = OfCount
kind_of Cta = OfCount
kind_of Ctb = OfCount
kind_of Ctr = OfCount
kind_of Erf = OfReason
kind_of Iv = OfText
kind_of Edk = OfText
kind_of P = OfText
kind_of Mac = OfCode
kind_of Edc = OfCode
kind_of Kku = Unsupported
kind_of DoubleKku = Unsupported
kind_of Nos = Unsupported

abbrev pub services : List Service
services = service.Kd ∷ service.KdKd ∷ service.Kk ∷ service.DoubleKk ∷ service.KkKd ∷ service.DoubleKkKd ∷ []

abbrev pub service_text : Service → List ℕ
service_text service.Kd = codes "KD"
service_text service.KdKd = codes "KD.KD"
service_text service.Kk = codes "KK"
service_text service.DoubleKk = codes "*KK"
service_text service.KkKd = codes "KK.KD"
service_text service.DoubleKkKd = codes "*KK.KD"

-- n hexadecimal digits of either case
abbrev pub is_hex : ℕ → List ℕ → Bool
is_hex n c = (length c == n) && list_all (λ b. nat_lt (digit_value b) 16) c

abbrev pub is_capital_or_digit : ℕ → Bool
is_capital_or_digit b = (nat_le 65 b && nat_le b 90) || (nat_le 48 b && nat_le b 57)

-- a capital letter, a digit or a period
abbrev pub is_reason_byte : ℕ → Bool
is_reason_byte b = is_capital_or_digit b || (b == 46)

-- a letter, a digit, a period, a dash or an asterisk
abbrev pub is_text_byte : ℕ → Bool
is_text_byte b = (is_capital_or_digit b || (nat_le 97 b && nat_le b 122)) || ((b == 46) || ((b == 45) || (b == 42)))

-- a count: 1 to 14 digits, not all of them zero
abbrev pub is_count : List ℕ → Bool
is_count c = (nat_le 1 (length c) && nat_le (length c) 14) && (list_all (λ b. nat_lt (digit_value b) 10) c && not (digits_value 10 c == 0))

-- the key name of four parts: issuer, originator, label and count
abbrev pub name_of_parts : List (List ℕ) → Option KeyName
name_of_parts (i ∷ o ∷ l ∷ n ∷ []) =
    if (is_name 4 16 i && is_name 4 16 o) && (is_name 1 16 l && is_count n)
    then Some (record { issuer = i; originator = o; label = l; count = digits_value 10 n })
    else None
name_of_parts parts = None

-- the key name that the parts between periods make
abbrev pub name_of : List ℕ → Option KeyName
name_of c = name_of_parts (parts_of c)

-- the digits of a code: eight, or four, a blank and four
abbrev pub code_digits : List ℕ → Option (List ℕ)
code_digits c =
    if is_hex 8 c then Some c
    else if is_hex 4 (take 4 c) && (bytes_eq (take 1 (drop 4 c)) (codes " ") && is_hex 4 (drop 5 c)) then Some (take 4 c ++ drop 5 c)
    else None

-- the value where the test holds
abbrev pub value_if : Bool → Value → Option Value
value_if b v = if b then Some v else None

-- the value that contents of a kind stand for, if they are of that kind
abbrev pub value_of : Kind → List ℕ → Option Value
value_of OfClass c = value_if (list_any (λ f. bytes_eq (class_text f) c) forms) (AText c)
value_of OfIdent c = value_if (is_name 4 16 c) (AText c)
value_of OfService c = option_map AService (find (λ s. bytes_eq (service_text s) c) services)
value_of OfName c = option_map AName (name_of c)
value_of OfLabel c = value_if (is_name 1 16 c) (AText c)
value_of OfPair c = value_if (is_hex 32 c) (APair (digits_value 16 (take 16 c)) (digits_value 16 (drop 16 c)))
value_of OfKey c = value_if (is_hex 16 c) (ANumber (digits_value 16 c))
value_of OfCount c = value_if (is_count c) (ANumber (digits_value 10 c))
value_of OfReason c = value_if ((nat_le 1 (length c) && nat_le (length c) 16) && list_all is_reason_byte c) (AText c)
value_of OfText c = value_if (nat_le 1 (length c) && list_all is_text_byte c) (AText c)
value_of OfCode c = option_map (λ d. ANumber (digits_value 16 d)) (code_digits c)
value_of Unsupported c = None

-- the contents stand for the value
abbrev pub Denotes : Kind → List ℕ → Value → Type 0
Denotes k c v = value_of k c ≡ Some v
