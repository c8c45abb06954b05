-- The edits that make a difference to a party.
use Rattle.std.specs.Prelude.{◌==◌, Bool, true, false, not, ◌&&◌, is_some, Option, Some, None, List, filter}
use Rattle.std.specs.List.{list_any}
use Rattle.party_tables.specs.declared.link.LinkRec.{LinkRec}
use Rattle.party_tables.specs.declared.key.KeyRec.{KeyRec}
use Rattle.party_tables.specs.declared.key.KeyStatus.{KeyStatus}
use Rattle.party_tables.specs.declared.key.KeyStatus.TheVariants.{Pending, Live, Held, Closing, Ended}
use Rattle.party_tables.specs.declared.answer.Answer.{Answer}
use Rattle.party_state.specs.declared.edit.Edit.{Edit}
use Rattle.party_state.specs.declared.edit.Edit.TheVariants.{Begin, PutLink, DropLink, PutKey, DropEnded, PutExchange, DropExchange, PutAnswer, SetGen}
use Rattle.party_tables.specs.Keys.{link_key, record_key, answer_key}
use Rattle.party_tables.specs.Statuses.{is_ended}
use Rattle.party_state.specs.State.{Party, same_pair, link_with, record_with, exchange_with, answer_with}

abbrev pub same_bool : Bool → Bool → Bool
same_bool true b = b
same_bool false b = not b

abbrev pub same_status : KeyStatus → KeyStatus → Bool
same_status Pending Pending = true
same_status Live Live = true
same_status Held Held = true
same_status Closing Closing = true
same_status Ended Ended = true
same_status _ _ = false

-- a link that stands under this key has these contents
abbrev pub has_link : Option LinkRec → LinkRec → Bool
has_link None l = false
has_link (Some old) l = same_pair old.pair l.pair && ((old.next == l.next) && same_bool old.ready l.ready)

abbrev pub has_record : Option KeyRec → KeyRec → Bool
has_record None k = false
has_record (Some old) k = (old.value == k.value) && same_status old.status k.status

abbrev pub has_answer : Option Answer → Answer → Bool
has_answer None a = false
has_answer (Some old) a = (old.cta == a.cta) && (old.value == a.value)

abbrev pub ended_in : Option KeyRec → Bool
ended_in None = false
ended_in (Some k) = is_ended k.status

-- the record of an ended key stands
abbrev pub has_ended : Party → Bool
has_ended p = list_any (λ (k : KeyRec). is_ended k.status) p.keys

-- an exchange that is put is new
abbrev pub differs : Party → Edit → Bool
differs p (Begin own role generator) = true
differs p (PutLink l) = not (has_link (link_with (link_key l) p) l)
differs p (DropLink peer label side) = is_some (link_with (record { peer = peer; label = label; side = side }) p)
differs p (PutKey k) = not (has_record (record_with (record_key k) p) k)
differs p DropEnded = has_ended p
differs p (PutExchange e) = true
differs p (DropExchange peer) = is_some (exchange_with peer p)
differs p (PutAnswer a) = not (has_answer (answer_with (answer_key a) p) a)
differs p (SetGen v) = not (v == p.generator.v)

-- an edit that differs at each party
abbrev pub always_differs : Edit → Bool
always_differs (Begin own role generator) = true
always_differs (PutExchange e) = true
always_differs _ = false

-- the edits that make a difference
unfoldable pub differing : Party → List Edit → List Edit
differing p es = filter (differs p) es
