-- Edits that are apart: none touches what an earlier one changed, so that each stays done (this project's profile).
use Rattle.std.specs.Prelude.{ℕ, ◌≡◌, Bool, true, false, List, [], ◌∷◌, bytes_eq}
use Rattle.std.specs.List.{AllByRecursion}
use Rattle.party_tables.specs.declared.link.LinkKey.{LinkKey}
use Rattle.party_tables.specs.declared.key.RecordKey.{RecordKey}
use Rattle.party_tables.specs.declared.answer.AnswerKey.{AnswerKey}
use Rattle.party_state.specs.declared.edit.Edit.{Edit}
use Rattle.party_state.specs.declared.edit.Edit.TheVariants.{Begin, PutLink, DropLink, PutKey, DropEnded, PutExchange, DropExchange, PutAnswer, SetGen}
use Rattle.party_tables.specs.Keys.{same_link, same_record, same_answer, link_key, record_key, exchange_key, answer_key}
use Rattle.party_state.specs.State.{Party, apply_edit}

-- an edit that begins a party touches everything
abbrev pub begins : Edit → Bool
begins (Begin own role generator) = true
begins _ = false

-- the edit touches the link under this key
abbrev pub touches_link : LinkKey → Edit → Bool
touches_link k (PutLink l) = same_link (link_key l) k
touches_link k (DropLink peer label side) = same_link (record { peer = peer; label = label; side = side }) k
touches_link k e = begins e

-- the record under this key
abbrev pub touches_record : RecordKey → Edit → Bool
touches_record k (PutKey r) = same_record (record_key r) k
touches_record k DropEnded = true
touches_record k e = begins e

-- some record
abbrev pub touches_records : Edit → Bool
touches_records (PutKey r) = true
touches_records DropEnded = true
touches_records e = begins e

-- the exchange with this peer
abbrev pub touches_exchange : List ℕ → Edit → Bool
touches_exchange peer (PutExchange e) = bytes_eq (exchange_key e) peer
touches_exchange peer (DropExchange other) = bytes_eq other peer
touches_exchange peer e = begins e

-- the answer under this key
abbrev pub touches_answer : AnswerKey → Edit → Bool
touches_answer k (PutAnswer a) = same_answer (answer_key a) k
touches_answer k e = begins e

-- the state of the generator
abbrev pub touches_generator : Edit → Bool
touches_generator (SetGen v) = true
touches_generator e = begins e

-- the later edit touches what the earlier one changed
abbrev pub touches : Edit → Edit → Bool
touches (Begin own role generator) later = true
touches (PutLink l) later = touches_link (link_key l) later
touches (DropLink peer label side) later = touches_link (record { peer = peer; label = label; side = side }) later
touches (PutKey k) later = touches_record (record_key k) later
touches DropEnded later = touches_records later
touches (PutExchange e) later = touches_exchange (exchange_key e) later
touches (DropExchange peer) later = touches_exchange peer later
touches (PutAnswer a) later = touches_answer (answer_key a) later
touches (SetGen v) later = touches_generator later

-- none of the edits touches what this one changed
abbrev pub AllLeave : Edit → List Edit → Type 0
AllLeave e es = AllByRecursion (λ (later : Edit). touches e later ≡ false) es

-- none touches what an earlier one changed
abbrev pub AreApart : List Edit → Type 0
AreApart [] = Unit {0}
AreApart (e ∷ es) = AllLeave e es × AreApart es

-- each edit is done: it changes nothing
abbrev pub AreDone : Party → List Edit → Type 0
AreDone p es = AllByRecursion (λ (e : Edit). apply_edit e p ≡ p) es

-- none is done: each changes something
abbrev pub NoneDone : Party → List Edit → Type 0
NoneDone p es = AllByRecursion (λ (e : Edit). apply_edit e p ≡ p → ⊥) es
