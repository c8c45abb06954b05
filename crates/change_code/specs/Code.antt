-- The code of a change (this project's profile). Numbers are most significant byte first.
use Rattle.std.specs.Prelude.{◌≡◌, ◌≤◌, ◌-◌, ℕ, Bool, true, false, Option, Some, None, List, [], ◌∷◌, ◌++◌, length, take}
use Rattle.std.specs.Int.{w16, w32, w64, to_be_bytes}
use Rattle.std.specs.List.{flat_map}
use Rattle.x_base.specs.declared.key_name.KeyName.{KeyName}
use Rattle.x_base.specs.declared.party.Role.{Role}
use Rattle.x_base.specs.declared.party.Role.TheVariants as role
use Rattle.x_base.specs.declared.party.Side.{Side}
use Rattle.x_base.specs.declared.party.Side.TheVariants.{Sends, Takes}
use Rattle.x_mac.specs.Code.{edc_of}
use Rattle.x_mac.specs.declared.pair.Pair.{Pair}
use Rattle.x_gen.specs.declared.generator.Gen.{Gen}
use Rattle.party_tables.specs.declared.link.LinkRec.{LinkRec}
use Rattle.party_tables.specs.declared.key.KeyRec.{KeyRec}
use Rattle.party_tables.specs.declared.key.KeyStatus.{KeyStatus}
use Rattle.party_tables.specs.declared.key.KeyStatus.TheVariants.{Pending, Live, Held, Closing, Ended}
use Rattle.party_tables.specs.declared.exchange.Via.{Via}
use Rattle.party_tables.specs.declared.exchange.Via.TheVariants as via
use Rattle.party_tables.specs.declared.exchange.Kind.{Kind}
use Rattle.party_tables.specs.declared.exchange.Kind.TheVariants as kind
use Rattle.party_tables.specs.declared.exchange.Exchange.{Exchange}
use Rattle.party_tables.specs.declared.answer.Answer.{Answer}
use Rattle.party_state.specs.declared.edit.Edit.{Edit}
use Rattle.party_state.specs.declared.edit.Edit.TheVariants.{Begin, PutLink, DropLink, PutKey, DropEnded, PutExchange, DropExchange, PutAnswer, SetGen}
use Rattle.party_state.specs.Ranges.{AreInRange}
use Rattle.change_code.specs.declared.format.Format.{Format}
use Rattle.change_code.specs.declared.format.Format.TheVariants.{One, Two}

-- pieces

unfoldable pub two : ℕ → List ℕ
two n = to_be_bytes w16 n

unfoldable pub four : ℕ → List ℕ
four n = to_be_bytes w32 n

unfoldable pub eight : ℕ → List ℕ
eight n = to_be_bytes w64 n

-- an identity or a label: its length, and its bytes
abbrev pub short : List ℕ → List ℕ
short name = length name ∷ name

-- a text: its length in two bytes, and its bytes
abbrev pub long : List ℕ → List ℕ
long text = two (length text) ++ text

abbrev pub name_code : KeyName → List ℕ
name_code name = short name.issuer ++ (short name.originator ++ (short name.label ++ eight name.count))

abbrev pub pair_code : Pair → List ℕ
pair_code pair = eight pair.left ++ eight pair.right

abbrev pub gen_code : Gen → List ℕ
gen_code generator = pair_code generator.key ++ eight generator.v

abbrev pub role_code : Role → List ℕ
role_code role.Bank = 1 ∷ []
role_code role.Distribution = 2 ∷ []
role_code role.Translation = 3 ∷ []

abbrev pub side_code : Side → List ℕ
side_code Sends = 1 ∷ []
side_code Takes = 2 ∷ []

abbrev pub status_code : KeyStatus → List ℕ
status_code Pending = 1 ∷ []
status_code Live = 2 ∷ []
status_code Held = 3 ∷ []
status_code Closing = 4 ∷ []
status_code Ended = 5 ∷ []

abbrev pub flag_code : Bool → List ℕ
flag_code false = 0 ∷ []
flag_code true = 1 ∷ []

-- a label that may be missing: 0, or 1 and the label
abbrev pub maybe_code : Option (List ℕ) → List ℕ
maybe_code None = 0 ∷ []
maybe_code (Some label) = 1 ∷ short label

-- rows

abbrev pub link_code : LinkRec → List ℕ
link_code link = short link.peer ++ (short link.label ++ (side_code link.side ++ (pair_code link.pair ++ (eight link.next ++ flag_code link.ready))))

abbrev pub key_code : KeyRec → List ℕ
key_code key = short key.peer ++ (name_code key.name ++ (eight key.value ++ status_code key.status))

abbrev pub via_code : Via → List ℕ
via_code (via.Direct label new) = 1 ∷ (short label ++ maybe_code new)
via_code (via.Distribution centre cta) = 2 ∷ (short centre ++ eight cta)
via_code (via.Translation centre) = 3 ∷ short centre

abbrev pub kind_code : Kind → List ℕ
kind_code (kind.Asked ultimate) = 1 ∷ short ultimate
kind_code (kind.Translating ultimate value cta) = 2 ∷ (short ultimate ++ (eight value ++ eight cta))
kind_code (kind.KeySent name via) = 3 ∷ (name_code name ++ via_code via)
kind_code (kind.Ending name) = 4 ∷ name_code name
kind_code (kind.PairSent name) = 5 ∷ name_code name

abbrev pub exchange_code : Exchange → List ℕ
exchange_code exchange = short exchange.peer ++ (kind_code exchange.kind ++ long exchange.text)

abbrev pub answer_code : Answer → List ℕ
answer_code answer = short answer.requester ++ (short answer.ultimate ++ (eight answer.cta ++ eight answer.value))

-- an edit: the byte of its kind, and its fields
abbrev pub edit_code : Edit → List ℕ
edit_code (Begin own role generator) = 1 ∷ (short own ++ (role_code role ++ gen_code generator))
edit_code (PutLink link) = 2 ∷ link_code link
edit_code (DropLink peer label side) = 3 ∷ (short peer ++ (short label ++ side_code side))
edit_code (PutKey key) = 4 ∷ key_code key
edit_code DropEnded = 5 ∷ []
edit_code (PutExchange exchange) = 6 ∷ exchange_code exchange
edit_code (DropExchange peer) = 7 ∷ short peer
edit_code (PutAnswer answer) = 8 ∷ answer_code answer
edit_code (SetGen v) = 9 ∷ eight v

-- one edit after another
abbrev pub edits_code : List Edit → List ℕ
edits_code edits = flat_map edit_code edits

-- how many edits a change has at most that has a code
abbrev pub most_edits : ℕ
most_edits = 65535

-- how many bytes an edit has at most
abbrev pub longest_edit : ℕ
longest_edit = 1200

-- the number of edits, and the edits
abbrev pub change_text : List Edit → List ℕ
change_text edits = two (length edits) ++ edits_code edits

-- the byte with which a code in a format begins
abbrev pub number_of : Format → ℕ
number_of One = 1
number_of Two = 2

-- what stands behind a text in a format: nothing, or its error detection code
abbrev pub closing : Format → List ℕ → List ℕ
closing One text = []
closing Two text = four (edc_of text)

-- a text, and what stands behind it
abbrev pub closed : Format → List ℕ → List ℕ
closed format text = text ++ closing format text

-- the number is, in format 2, the error detection code of all of the bytes but the last four; in format 1 any number
abbrev pub IsClosingEdc : Format → List ℕ → ℕ → Type 0
IsClosingEdc format bytes edc = format ≡ Two → edc ≡ edc_of (take (length bytes - 4) bytes)

-- a change in a format
abbrev pub code_of_change : Format → List Edit → List ℕ
code_of_change format edits = closed format (number_of format ∷ change_text edits)

-- how many bytes stand in front of the edits, and how many behind them
abbrev pub head_length : ℕ
head_length = 3

abbrev pub end_length : Format → ℕ
end_length One = 0
end_length Two = 4

abbrev pub longest_end : ℕ
longest_end = 4

-- the bytes are the code in this format of this change, in which each part is in its range
pub record IsCode (format : Format) (bytes : List ℕ) (edits : List Edit) : Type 0 where
  pub few : length edits ≤ most_edits
  pub in_range : AreInRange edits
  pub is : bytes ≡ code_of_change format edits

-- the bytes are the code of no change, in either format
abbrev pub IsNoCode : List ℕ → Type 0
IsNoCode bytes = (format : Format) (edits : List Edit) → IsCode format bytes edits → ⊥
