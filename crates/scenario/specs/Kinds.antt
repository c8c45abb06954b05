-- The line that bytes write: this project's profile.
use Rattle.std.specs.Prelude.{ℕ, ◌&&◌, nat_le, Bool, true, false, List, [], ◌∷◌, length, Option, Some, None, option_map, codes, bytes_eq, if◌then◌else◌}
use Rattle.std.specs.List.{find}
use Rattle.std.specs.Result.{result_ok}
use Rattle.hex.specs.Hex.{decode_of}
use Rattle.x_base.specs.declared.party.Role.{Role}
use Rattle.x_base.specs.declared.party.Role.TheVariants as role
use Rattle.x_values.specs.Words.{ident_of, key_name_of, key_of, label_of, number_of, pair_of, plain_number_of, plain_number_within}
use Rattle.scenario.specs.declared.kind.Kind.{Kind}
use Rattle.scenario.specs.declared.kind.Kind.TheVariants as kind
use Rattle.scenario.specs.declared.line.Line.{Line}
use Rattle.scenario.specs.declared.line.Line.TheVariants as line
use Rattle.scenario.specs.Words.{Word, one_of, one_or_two_of, two_of, two_or_three_of, three_of, four_of, five_of, words_of}

infixl 10 ◌>>=◌
abbrev pub ◌>>=◌ : {A B : Type 0} → Option A → (A → Option B) → Option B
(Some x) >>= f = f x
None >>= f = None

-- ---- single words

-- what a party is
abbrev pub role_of : Word → Option Role
role_of word =
    if bytes_eq word (codes "BANK") then Some role.Bank
    else if bytes_eq word (codes "DISTRIBUTION") then Some role.Distribution
    else if bytes_eq word (codes "TRANSLATION") then Some role.Translation
    else None

-- whether the new key-encrypting key is a single one
abbrev pub is_single_of : Word → Option Bool
is_single_of word =
    if bytes_eq word (codes "SINGLE") then Some true
    else if bytes_eq word (codes "DOUBLE") then Some false
    else None

-- bytes: 2 to 2,080 hexadecimal digits of either case, two for each byte
abbrev pub bytes_of : Word → Option (List ℕ)
bytes_of digits =
    if nat_le 1 (length digits) && nat_le (length digits) 2080 then result_ok (decode_of digits)
    else None

-- the value of a word, if it is there
abbrev pub if_there : {A : Type 0} → (Word → Option A) → Option Word → Option (Option A)
if_there reading None = Some None
if_there reading (Some word) = option_map Some (reading word)

-- the bytes; none where there are no digits
abbrev pub bytes_if_there : Option Word → Option (List ℕ)
bytes_if_there None = Some []
bytes_if_there (Some digits) = bytes_of digits

-- ---- the words behind the kind

abbrev pub party_line : List Word → Option Line
party_line words = do
  w ← four_of words
  name ← ident_of w.0
  role ← role_of w.1
  pair ← pair_of w.2
  v ← key_of w.3
  Some (line.Party name role pair v)

abbrev pub link_line : List Word → Option Line
link_line words = do
  w ← four_of words
  origin ← ident_of w.0
  recipient ← ident_of w.1
  label ← label_of w.2
  pair ← pair_of w.3
  Some (line.Link origin recipient label pair)

abbrev pub time_line : List Word → Option Line
time_line words = do
  w ← one_of words
  moment ← number_of w
  Some (line.Time moment)

abbrev pub start_line : List Word → Option Line
start_line words = do
  w ← two_or_three_of words
  party ← ident_of w.0
  peer ← ident_of w.1
  label ← if_there label_of w.2
  Some (line.Start party peer label)

abbrev pub start_kk_line : List Word → Option Line
start_kk_line words = do
  w ← five_of words
  party ← ident_of w.0
  peer ← ident_of w.1
  label ← label_of w.2
  new ← label_of w.3
  single ← is_single_of w.4
  Some (line.StartKk party peer label new single)

abbrev pub ask_line : List Word → Option Line
ask_line words = do
  w ← two_or_three_of words
  party ← ident_of w.0
  peer ← ident_of w.1
  ultimate ← if_there ident_of w.2
  Some (line.Ask party peer ultimate)

abbrev pub translate_line : List Word → Option Line
translate_line words = do
  w ← three_of words
  party ← ident_of w.0
  centre ← ident_of w.1
  ultimate ← ident_of w.2
  Some (line.Translate party centre ultimate)

abbrev pub resend_line : List Word → Option Line
resend_line words = do
  w ← two_of words
  party ← ident_of w.0
  peer ← ident_of w.1
  Some (line.Resend party peer)

abbrev pub end_line : List Word → Option Line
end_line words = do
  w ← three_of words
  party ← ident_of w.0
  peer ← ident_of w.1
  name ← key_name_of w.2
  Some (line.End party peer name)

abbrev pub drop_line : List Word → Option Line
drop_line words = do
  w ← two_of words
  party ← ident_of w.0
  peer ← ident_of w.1
  Some (line.Drop party peer)

abbrev pub purge_line : List Word → Option Line
purge_line words = do
  w ← one_of words
  party ← ident_of w
  Some (line.Purge party)

abbrev pub pass_line : List Word → Option Line
pass_line words = do
  w ← two_of words
  k ← plain_number_within 1 65536 w.0
  party ← ident_of w.1
  Some (line.Pass k party)

abbrev pub recent_line : List Word → Option Line
recent_line words = do
  w ← one_of words
  j ← plain_number_within 1 65536 w
  Some (line.Recent j)

-- without digits there is no second word
abbrev pub bytes_line : List Word → Option Line
bytes_line words = do
  w ← one_or_two_of words
  party ← ident_of w.0
  bytes ← bytes_if_there w.1
  Some (line.Bytes party bytes)

abbrev pub stop_line : List Word → Option Line
stop_line words = do
  w ← two_of words
  n ← plain_number_within 1 5 w.0
  choice ← plain_number_of w.1
  Some (line.Stop n choice)

-- ---- the line

abbrev pub name_of_kind : Kind → Word
name_of_kind kind.Party = codes "PARTY"
name_of_kind kind.Link = codes "LINK"
name_of_kind kind.Time = codes "TIME"
name_of_kind kind.Start = codes "START"
name_of_kind kind.StartKk = codes "STARTKK"
name_of_kind kind.Ask = codes "ASK"
name_of_kind kind.Translate = codes "TRANSLATE"
name_of_kind kind.Resend = codes "RESEND"
name_of_kind kind.End = codes "END"
name_of_kind kind.Drop = codes "DROP"
name_of_kind kind.Purge = codes "PURGE"
name_of_kind kind.Pass = codes "PASS"
name_of_kind kind.Recent = codes "RECENT"
name_of_kind kind.Bytes = codes "BYTES"
name_of_kind kind.Stop = codes "STOP"

abbrev pub kinds : List Kind
kinds = kind.Party ∷ kind.Link ∷ kind.Time ∷ kind.Start ∷ kind.StartKk ∷ kind.Ask ∷ kind.Translate
    ∷ kind.Resend ∷ kind.End ∷ kind.Drop ∷ kind.Purge ∷ kind.Pass ∷ kind.Recent ∷ kind.Bytes ∷ kind.Stop ∷ []

-- the kind of this name
abbrev pub kind_of : Word → Option Kind
kind_of word = find (λ k. bytes_eq (name_of_kind k) word) kinds

abbrev pub line_of_kind : Kind → List Word → Option Line
line_of_kind kind.Party words = party_line words
line_of_kind kind.Link words = link_line words
line_of_kind kind.Time words = time_line words
line_of_kind kind.Start words = start_line words
line_of_kind kind.StartKk words = start_kk_line words
line_of_kind kind.Ask words = ask_line words
line_of_kind kind.Translate words = translate_line words
line_of_kind kind.Resend words = resend_line words
line_of_kind kind.End words = end_line words
line_of_kind kind.Drop words = drop_line words
line_of_kind kind.Purge words = purge_line words
line_of_kind kind.Pass words = pass_line words
line_of_kind kind.Recent words = recent_line words
line_of_kind kind.Bytes words = bytes_line words
line_of_kind kind.Stop words = stop_line words

-- the line of these words, the first of which names its kind
abbrev pub line_of_words : List Word → Option Line
line_of_words [] = None
line_of_words (word ∷ words) = do
  k ← kind_of word
  line_of_kind k words

-- the line that these bytes write, if they write one
abbrev pub line_of : List ℕ → Option Line
line_of bytes = line_of_words (words_of bytes)
