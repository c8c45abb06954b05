-- What a ledger's owner decides of a payment, by its keys and its ledger (this project's profile).
use Rattle.std.specs.Prelude.{◌≡◌, ◌⊎◌, ℕ, ◌+◌, ◌==◌, nat_le, if◌then◌else◌, Bool, true, false, not, ◌||◌, is_none, List, ◌++◌, bytes_eq, codes, Option, Some, None}
use Rattle.std.specs.Fmt.{decimal}
use Rattle.x_base.specs.Count.{count_limit}
use Rattle.x_base.specs.declared.key_name.KeyName.{KeyName}
use Rattle.x_base.specs.declared.party.Side.TheVariants.{Sends, Takes}
use Rattle.x_mac.specs.Code.{mac_of}
use Rattle.party_tables.specs.declared.key.KeyRec.{KeyRec}
use Rattle.party_tables.specs.declared.key.KeyStatus.{KeyStatus}
use Rattle.party_tables.specs.declared.key.KeyStatus.TheVariants.{Live, Held}
use Rattle.party_state.specs.State.{Party, record_with}
use Rattle.pay_auth.specs.declared.pay.Pay.{Pay}
use Rattle.pay_auth.specs.declared.entry.Entry.{Entry}
use Rattle.pay_auth.specs.declared.entry.EntryKey.{EntryKey}
use Rattle.pay_auth.specs.declared.refusal.PayRefusal.{PayRefusal}
use Rattle.pay_auth.specs.declared.refusal.PayRefusal.TheVariants.{BadPay, NotForMe, UnknownKey, BadMac, CountSpent, PayLow, LedgerFull}
use Rattle.pay_auth.specs.Entries.{last_number, is_full_for}
use Rattle.pay_auth.specs.Texts.{pay_auth_text, pay_text, without_line_end, SpellsPay, IsNoPay}

-- its originator knows that the recipient holds the key, or it is the recipient that holds it
abbrev pub is_usable : KeyStatus → Bool
is_usable Live = true
is_usable Held = true
is_usable _ = false

abbrev pub value_in : Option KeyRec → Option ℕ
value_in None = None
value_in (Some k) = if is_usable k.status then Some k.value else None

-- the value of the key of that name that is shared with that peer, where it is live or held
abbrev pub live_value : List ℕ → KeyName → Party → Option ℕ
live_value peer name p = value_in (record_with (record { peer = peer; name = name }) p)

-- the code of a payment under a key
abbrev pub code_under : Option ℕ → Pay → ℕ
code_under None pay = 0
code_under (Some value) pay = mac_of value (pay_auth_text pay)

-- paid out

abbrev pub out_key : List ℕ → KeyName → EntryKey
out_key peer name = record { peer = peer; name = name; side = Sends }

-- the first test that fails where a payment is to be paid out
abbrev pub out_refusal : Party → List Entry → List ℕ → KeyName → Option PayRefusal
out_refusal p entries peer name =
    if is_none (live_value peer name p) then Some UnknownKey
    else if last_number (out_key peer name) entries == count_limit then Some CountSpent
    else if is_full_for (out_key peer name) entries then Some LedgerFull
    else None

-- the payment: its number is the one behind the last
abbrev pub out_pay : Party → List Entry → List ℕ → KeyName → ℕ → Pay
out_pay p entries peer name amount = record { from = p.own; to = peer; key = name; number = last_number (out_key peer name) entries + 1; amount = amount }

abbrev pub out_entry : Pay → Entry
out_entry pay = record { peer = pay.to; name = pay.key; side = Sends; last = pay.number }

-- no test fails: this entry is kept, and this text handed out
pub record PaysOut (p : Party) (peer : List ℕ) (name : KeyName) (amount : ℕ) (entries : List Entry) (entry : Entry) (text : List ℕ) : Type 0 where
  pub passes : out_refusal p entries peer name ≡ None
  pub entry_is : entry ≡ out_entry (out_pay p entries peer name amount)
  pub text_is : text ≡ pay_text (out_pay p entries peer name amount) (code_under (live_value peer name p) (out_pay p entries peer name amount))

-- taken in

abbrev pub in_key : Pay → EntryKey
in_key pay = record { peer = pay.from; name = pay.key; side = Takes }

-- the first test that fails of a payment's number
abbrev pub number_refusal : List Entry → Pay → Option PayRefusal
number_refusal entries pay =
    if last_number (in_key pay) entries == count_limit then Some CountSpent
    else if nat_le pay.number (last_number (in_key pay) entries) then Some (PayLow (last_number (in_key pay) entries + 1))
    else if is_full_for (in_key pay) entries then Some LedgerFull
    else None

-- the first test that fails of a payment with this code
abbrev pub in_refusal : Party → List Entry → Pay → ℕ → Option PayRefusal
in_refusal p entries pay mac =
    if not (bytes_eq pay.to p.own) || bytes_eq pay.from p.own then Some NotForMe
    else if is_none (live_value pay.from pay.key p) then Some UnknownKey
    else if not (code_under (live_value pay.from pay.key p) pay == mac) then Some BadMac
    else number_refusal entries pay

abbrev pub in_entry : Pay → Entry
in_entry pay = record { peer = pay.from; name = pay.key; side = Takes; last = pay.number }

-- what is told of a payment that is taken in
abbrev pub receipt : Pay → List ℕ
receipt pay = codes "PAID " ++ (pay.from ++ (codes " " ++ (decimal pay.number ++ (codes " " ++ decimal pay.amount))))

-- the bytes spell this payment, and no test fails of it
pub record PassesIn (p : Party) (bytes : List ℕ) (entries : List Entry) (pay : Pay) : Type 0 where
  pub mac : ℕ
  pub spells : SpellsPay (without_line_end bytes) pay mac
  pub passes : in_refusal p entries pay mac ≡ None

-- no test fails of these bytes: this entry is kept, and this text handed out
pub record TakesIn (p : Party) (bytes : List ℕ) (entries : List Entry) (entry : Entry) (text : List ℕ) : Type 0 where
  pub pay : Pay
  pub passes : PassesIn p bytes entries pay
  pub entry_is : entry ≡ in_entry pay
  pub text_is : text ≡ receipt pay

-- the bytes are no payment
pub record IsBadPay (bytes : List ℕ) (cause : PayRefusal) : Type 0 where
  pub place : ℕ
  pub no_pay : IsNoPay (without_line_end bytes) place
  pub cause_is : cause ≡ BadPay place

-- they are one, and this is the first test that fails of it
pub record IsRefusedPay (p : Party) (bytes : List ℕ) (entries : List Entry) (cause : PayRefusal) : Type 0 where
  pub pay : Pay
  pub mac : ℕ
  pub spells : SpellsPay (without_line_end bytes) pay mac
  pub fails : in_refusal p entries pay mac ≡ Some cause

-- the first test that fails of these bytes
abbrev pub RefusesIn : Party → List ℕ → List Entry → PayRefusal → Type 0
RefusesIn p bytes entries cause = IsBadPay bytes cause ⊎ IsRefusedPay p bytes entries cause

-- the same where a payment is to be paid out
abbrev pub RefusesOut : Party → List ℕ → KeyName → List Entry → PayRefusal → Type 0
RefusesOut p peer name entries cause = out_refusal p entries peer name ≡ Some cause
