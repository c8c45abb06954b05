-- What a reader of pieces finds in front of its bytes (this project's profile).
use Rattle.std.specs.Prelude.{◌≡◌, ℕ, ◌≤◌, ◌<◌, ◌^◌, Bool, Option, Some, None, IfSome, Result, Ok, Err, List, ◌++◌, length}
use Rattle.x_base.specs.Count.{IsCount}
use Rattle.x_base.specs.KeyName.{IsKeyName}
use Rattle.x_base.specs.Names.{IsIdent, IsLabel}
use Rattle.x_base.specs.declared.key_name.KeyName.{KeyName}
use Rattle.x_base.specs.declared.party.Role.{Role}
use Rattle.x_base.specs.declared.party.Side.{Side}
use Rattle.x_mac.specs.declared.pair.Pair.{Pair}
use Rattle.x_gen.specs.declared.generator.Gen.{Gen}
use Rattle.party_tables.specs.declared.link.LinkRec.{LinkRec}
use Rattle.party_tables.specs.declared.key.KeyRec.{KeyRec}
use Rattle.party_tables.specs.declared.key.KeyStatus.{KeyStatus}
use Rattle.party_tables.specs.declared.exchange.Via.{Via}
use Rattle.party_tables.specs.declared.exchange.Kind.{Kind}
use Rattle.party_tables.specs.declared.exchange.Exchange.{Exchange}
use Rattle.party_tables.specs.declared.answer.Answer.{Answer}
use Rattle.party_state.specs.declared.edit.Edit.{Edit}
use Rattle.party_tables.specs.Names.{name_behind}
use Rattle.party_tables.specs.Ranges.{IsWord, IsPair, IsNextCount, IsLink, IsRecord, IsVia, IsKind, IsExchange, IsCentreAnswer, longest_text}
use Rattle.party_state.specs.Ranges.{IsGen, InRange, AreInRange}
use Rattle.change_code.specs.declared.fault.CodeFault.{CodeFault}
use Rattle.change_code.specs.declared.fault.CodeFault.TheVariants.{Bad, NoMemory}
use Rattle.change_code.specs.Code.{eight, short, long, name_code, pair_code, gen_code, role_code, side_code, status_code, flag_code, maybe_code, link_code, key_code, via_code, kind_code, exchange_code, answer_code, edit_code, edits_code, change_text, most_edits}

-- how a kind of value is coded, and its range
pub record Form (T : Type 0) : Type 1 where
  pub code : T → List ℕ
  pub Fits : T → Type 0

-- the bytes begin with the code of no value in range
pub record Lacks {T : Type 0} (form : Form T) (bytes : List ℕ) : Type 0 where
  pub none : (x : T) (rest : List ℕ) → form.Fits x → bytes ≡ form.code x ++ rest → ⊥

-- the bytes are the code of this value in range, and then the rest
pub record StartsWith {T : Type 0} (form : Form T) (bytes rest : List ℕ) (x : T) : Type 0 where
  pub fits : form.Fits x
  pub is : bytes ≡ form.code x ++ rest

-- the value in range with whose code the bytes begin, and the rest; or that there is none
abbrev pub IsPieceRead : {T : Type 0} → Form T → List ℕ → List ℕ → Option T → Type 0
IsPieceRead form bytes rest None = Lacks form bytes
IsPieceRead form bytes rest (Some x) = StartsWith form bytes rest x

-- the same where memory may be wanting
abbrev pub IsDecoded : {T : Type 0} → Form T → List ℕ → List ℕ → Result T CodeFault → Type 0
IsDecoded form bytes rest (Ok x) = StartsWith form bytes rest x
IsDecoded form bytes rest (Err Bad) = Lacks form bytes
IsDecoded form bytes rest (Err NoMemory) = Unit {0}

-- any value
abbrev pub Any : {T : Type 0} → T → Type 0
Any x = Unit {0}

abbrev pub IsShortText : List ℕ → Type 0
IsShortText text = length text ≤ longest_text

abbrev pub IsMaybe : Option (List ℕ) → Type 0
IsMaybe label = IfSome label IsLabel

-- the bytes don't begin with a byte that tells a length, and so many bytes behind it
abbrev pub LacksShort : List ℕ → Type 0
LacksShort bytes = (name rest : List ℕ) → bytes ≡ short name ++ rest → ⊥

-- the bytes don't begin with two bytes that tell a length, and so many bytes behind them
abbrev pub LacksLong : List ℕ → Type 0
LacksLong bytes = (text rest : List ℕ) → length text < 2 ^ 16 → bytes ≡ long text ++ rest → ⊥

abbrev pub ident_form : Form (List ℕ)
ident_form = record { code = short; Fits = IsIdent }

abbrev pub label_form : Form (List ℕ)
label_form = record { code = short; Fits = IsLabel }

abbrev pub word_form : Form ℕ
word_form = record { code = eight; Fits = IsWord }

abbrev pub count_form : Form ℕ
count_form = record { code = eight; Fits = IsCount }

abbrev pub next_form : Form ℕ
next_form = record { code = eight; Fits = IsNextCount }

abbrev pub text_form : Form (List ℕ)
text_form = record { code = long; Fits = IsShortText }

abbrev pub name_form : Form KeyName
name_form = record { code = name_code; Fits = IsKeyName }

-- the first of two names
abbrev pub first_name_form : Form KeyName
first_name_form = record { code = name_code; Fits = λ name. IsKeyName name × IsKeyName (name_behind name) }

abbrev pub pair_form : Form Pair
pair_form = record { code = pair_code; Fits = IsPair }

abbrev pub gen_form : Form Gen
gen_form = record { code = gen_code; Fits = IsGen }

abbrev pub role_form : Form Role
role_form = record { code = role_code; Fits = Any }

abbrev pub side_form : Form Side
side_form = record { code = side_code; Fits = Any }

abbrev pub status_form : Form KeyStatus
status_form = record { code = status_code; Fits = Any }

abbrev pub flag_form : Form Bool
flag_form = record { code = flag_code; Fits = Any }

abbrev pub maybe_form : Form (Option (List ℕ))
maybe_form = record { code = maybe_code; Fits = IsMaybe }

abbrev pub link_form : Form LinkRec
link_form = record { code = link_code; Fits = IsLink }

abbrev pub key_form : Form KeyRec
key_form = record { code = key_code; Fits = IsRecord }

abbrev pub via_form : Form Via
via_form = record { code = via_code; Fits = IsVia }

abbrev pub kind_form : Form Kind
kind_form = record { code = kind_code; Fits = IsKind }

abbrev pub exchange_form : Form Exchange
exchange_form = record { code = exchange_code; Fits = IsExchange }

abbrev pub answer_form : Form Answer
answer_form = record { code = answer_code; Fits = IsCentreAnswer }

abbrev pub edit_form : Form Edit
edit_form = record { code = edit_code; Fits = InRange }

-- so many edits
abbrev pub edits_form : ℕ → Form (List Edit)
edits_form n = record { code = edits_code; Fits = λ edits. (length edits ≡ n) × AreInRange edits }

-- a change, which all bytes are
abbrev pub change_form : Form (List Edit)
change_form = record { code = change_text; Fits = λ edits. (length edits ≤ most_edits) × AreInRange edits }

-- the bytes are the code of this value in range, and nothing stands behind it; or there is none
abbrev pub IsAllRead : {T : Type 0} → Form T → List ℕ → Result T CodeFault → Type 0
IsAllRead form bytes (Ok x) = form.Fits x × (bytes ≡ form.code x)
IsAllRead {T} form bytes (Err Bad) = (x : T) → form.Fits x → bytes ≡ form.code x → ⊥
IsAllRead form bytes (Err NoMemory) = Unit {0}
