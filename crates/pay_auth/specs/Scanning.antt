-- What a scanner of a payment finds in front of its bytes (this project's profile).
use Rattle.std.specs.Prelude.{◌≡◌, ℕ, ◌+◌, ◌≤◌, ◌<◌, ◌^◌, nat_le, nat_lt, ◌==◌, ◌&&◌, ◌||◌, Bool, true, false, List, [], ◌∷◌, ◌++◌, length, slice_index, take, codes, Option, Some, None}
use Rattle.std.specs.Fmt.{decimal}
use Rattle.x_base.specs.Names.{IsIdent, IsLabel, is_name_byte}
use Rattle.x_base.specs.Count.{IsCount}
use Rattle.x_base.specs.KeyName.{IsKeyName, written}
use Rattle.x_base.specs.declared.key_name.KeyName.{KeyName}
use Rattle.change_code.specs.Reading.{Form, Lacks, StartsWith}
use Rattle.csm_write.specs.Canon.{code_digits}
use Rattle.pay_auth.specs.declared.pay.Pay.{Pay}
use Rattle.pay_auth.specs.declared.scanner.Run.{Run}
use Rattle.pay_auth.specs.declared.scanner.Run.TheVariants as run
use Rattle.pay_auth.specs.Texts.{pay_auth_text, IsPay, SpellsPay, BeginsPay}

-- the bytes are a prefix of a value's code
pub record Extends {T : Type 0} (form : Form T) (bytes : List ℕ) : Type 0 where
  pub value : T
  pub rest : List ℕ
  pub fits : form.Fits value
  pub is : bytes ++ rest ≡ form.code value

-- the bytes begin with the code of no value, and their longest prefix that is a prefix of one ends where the rest begins
pub record Stops {T : Type 0} (form : Form T) (bytes rest : List ℕ) : Type 0 where
  pub lacks : Lacks form bytes
  pub front : List ℕ
  pub is : bytes ≡ front ++ rest
  pub begins : Extends form front
  pub longest : (b : ℕ) (after : List ℕ) → rest ≡ b ∷ after → Extends form (front ++ b ∷ []) → ⊥

-- the value with whose code the bytes begin, and the rest; or where they stop
abbrev pub IsScanned : {T : Type 0} → Form T → List ℕ → List ℕ → Option T → Type 0
IsScanned form bytes rest None = Stops form bytes rest
IsScanned form bytes rest (Some x) = StartsWith form bytes rest x

-- runs

abbrev pub least : Run → ℕ
least run.Ident = 4
least run.Label = 1
least run.Count = 1
least run.Code = 8

abbrev pub most : Run → ℕ
most run.Ident = 16
most run.Label = 16
most run.Count = 14
most run.Code = 8

-- the byte is one of the run's, at a place of it
abbrev pub is_of : Run → ℕ → ℕ → Bool
is_of run.Ident place b = is_name_byte b
is_of run.Label place b = is_name_byte b
is_of run.Count place b = (nat_le 49 b && nat_le b 57) || (nat_lt 0 place && b == 48)
is_of run.Code place b = (nat_le 48 b && nat_le b 57) || (nat_le 65 b && nat_le b 70)

abbrev pub allows : Run → ℕ → ℕ → Bool
allows r place b = nat_lt place (most r) && is_of r place b

-- each byte may stand at its place, from this one on
abbrev pub AreAllowed : Run → ℕ → List ℕ → Type 0
AreAllowed r place [] = Unit {0}
AreAllowed r place (b ∷ bytes) = (allows r place b ≡ true) × AreAllowed r (place + 1) bytes

pub record IsRun (r : Run) (bytes : List ℕ) : Type 0 where
  pub long : least r ≤ length bytes
  pub allowed : AreAllowed r 0 bytes

-- the byte stands at no place of such a run
abbrev pub IsEnd : Run → ℕ → Type 0
IsEnd r last = (place : ℕ) → is_of r place last ≡ false

-- so many of the bytes are the longest run from the front
pub record IsLongest (r : Run) (bytes : List ℕ) (n : ℕ) : Type 0 where
  pub within : n ≤ length bytes
  pub allowed : AreAllowed r 0 (take n bytes)
  pub ends : n < length bytes → allows r n (slice_index bytes n) ≡ false

-- the longest run is taken from the front
pub record IsRunTaken (r : Run) (bytes rest front : List ℕ) : Type 0 where
  pub is : bytes ≡ front ++ rest
  pub allowed : AreAllowed r 0 front
  pub longest : (b : ℕ) (after : List ℕ) → rest ≡ b ∷ after → allows r (length front) b ≡ false

-- forms

abbrev pub literal_form : List ℕ → Form Unit
literal_form text = record { code = λ x. text; Fits = λ x. Unit {0} }

abbrev pub run_form : Run → ℕ → Form (List ℕ)
run_form r last = record { code = λ bytes. bytes ++ last ∷ []; Fits = IsRun r }

abbrev pub ident_form : ℕ → Form (List ℕ)
ident_form last = record { code = λ i. i ++ last ∷ []; Fits = IsIdent }

abbrev pub label_form : ℕ → Form (List ℕ)
label_form last = record { code = λ l. l ++ last ∷ []; Fits = IsLabel }

abbrev pub count_form : ℕ → Form ℕ
count_form last = record { code = λ n. decimal n ++ last ∷ []; Fits = IsCount }

abbrev pub code_form : ℕ → Form ℕ
code_form last = record { code = λ n. code_digits n ++ last ∷ []; Fits = λ n. n < 2 ^ 32 }

-- an identity or a count behind its tag
abbrev pub ident_field : List ℕ → Form (List ℕ)
ident_field tag = record { code = λ i. tag ++ (i ++ 32 ∷ []); Fits = IsIdent }

abbrev pub count_field : List ℕ → Form ℕ
count_field tag = record { code = λ n. tag ++ (decimal n ++ 32 ∷ []); Fits = IsCount }

abbrev pub name_form : Form KeyName
name_form = record { code = λ n. written n ++ 32 ∷ []; Fits = IsKeyName }

abbrev pub pay_form : Form Pay
pay_form = record { code = pay_auth_text; Fits = IsPay }

abbrev pub mac_form : Form ℕ
mac_form = record { code = λ n. codes "MAC/" ++ (code_digits n ++ codes ")"); Fits = λ n. n < 2 ^ 32 }

-- the bytes are no payment, and their longest prefix that is a prefix of one ends where the rest begins
pub record StopsPay (bytes rest : List ℕ) : Type 0 where
  pub none : (p : Pay) (mac : ℕ) → SpellsPay bytes p mac → ⊥
  pub front : List ℕ
  pub is : bytes ≡ front ++ rest
  pub begins : BeginsPay front
  pub longest : (b : ℕ) (after : List ℕ) → rest ≡ b ∷ after → BeginsPay (front ++ b ∷ []) → ⊥

-- the bytes are this payment, of which so many bytes are authenticated
pub record IsWholePay (bytes : List ℕ) (p : Pay) (mac auth_len : ℕ) : Type 0 where
  pub spells : SpellsPay bytes p mac
  pub auth : auth_len ≡ length (pay_auth_text p)
