-- The keys of the four tables of a party (this project's profile).
use Rattle.std.specs.Prelude.{ℕ, ◌==◌, Bool, true, false, ◌&&◌, List, bytes_eq}
use Rattle.x_base.specs.declared.key_name.KeyName.{KeyName}
use Rattle.x_base.specs.declared.party.Side.{Side}
use Rattle.x_base.specs.declared.party.Side.TheVariants.{Sends, Takes}
use Rattle.party_tables.specs.declared.link.LinkKey.{LinkKey}
use Rattle.party_tables.specs.declared.link.LinkRec.{LinkRec}
use Rattle.party_tables.specs.declared.key.RecordKey.{RecordKey}
use Rattle.party_tables.specs.declared.key.KeyRec.{KeyRec}
use Rattle.party_tables.specs.declared.exchange.Exchange.{Exchange}
use Rattle.party_tables.specs.declared.answer.AnswerKey.{AnswerKey}
use Rattle.party_tables.specs.declared.answer.Answer.{Answer}

abbrev pub same_side : Side → Side → Bool
same_side Sends Sends = true
same_side Sends Takes = false
same_side Takes Sends = false
same_side Takes Takes = true

abbrev pub same_link : LinkKey → LinkKey → Bool
same_link a b = bytes_eq a.peer b.peer && (bytes_eq a.label b.label && same_side a.side b.side)

abbrev pub same_name : KeyName → KeyName → Bool
same_name a b = bytes_eq a.issuer b.issuer && (bytes_eq a.originator b.originator && (bytes_eq a.label b.label && (a.count == b.count)))

abbrev pub same_record : RecordKey → RecordKey → Bool
same_record a b = bytes_eq a.peer b.peer && same_name a.name b.name

abbrev pub same_answer : AnswerKey → AnswerKey → Bool
same_answer a b = bytes_eq a.requester b.requester && bytes_eq a.ultimate b.ultimate

-- a link's key: its peer, its label and its side
abbrev pub link_key : LinkRec → LinkKey
link_key l = record { peer = l.peer; label = l.label; side = l.side }

-- a key record's key: its peer and its name
abbrev pub record_key : KeyRec → RecordKey
record_key k = record { peer = k.peer; name = k.name }

-- an exchange's key: its peer
abbrev pub exchange_key : Exchange → List ℕ
exchange_key e = e.peer

-- an answer's key: who asked, and for whom
abbrev pub answer_key : Answer → AnswerKey
answer_key a = record { requester = a.requester; ultimate = a.ultimate }

abbrev pub sends : List ℕ → List ℕ → LinkKey
sends peer label = record { peer = peer; label = label; side = Sends }

abbrev pub takes : List ℕ → List ℕ → LinkKey
takes peer label = record { peer = peer; label = label; side = Takes }
