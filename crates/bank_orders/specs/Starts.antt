-- When a bank starts with a new data key, alone or with a new key-encrypting key (ANSI X9.17, point to point; the bounds
-- are this project's profile). "After" is the party with the edits of the row.
use Rattle.std.specs.Prelude.{ℕ, ◌≡◌, ◌≢◌, ◌+◌, ◌≤◌, IsTrue, Bool, true, false, cond, is_some, List, length, Option, Some, None}
use Rattle.x_base.specs.Count.{count_limit}
use Rattle.x_base.specs.declared.party.Side.TheVariants.{Sends}
use Rattle.x_mac.specs.declared.pair.Pair.{Pair}
use Rattle.x_gen.specs.declared.generator.Gen.{Gen}
use Rattle.x_gen.specs.Gen.{good_draw}
use Rattle.party_tables.specs.declared.link.LinkRec.{LinkRec}
use Rattle.party_tables.specs.declared.key.RecordKey.{RecordKey}
use Rattle.party_state.specs.Limits.{most_links, most_keys}
use Rattle.party_state.specs.State.{Party, centre_label, link_with, first_link, record_with, exchange_with, knows}
use Rattle.party_state.specs.Rows.{Row}
use Rattle.role_base.specs.Sends.{SendsKey}

-- the link to send under: the ready one with that label, which isn't a centre's, or the first where none is asked for
abbrev pub SendsUnder : Party → List ℕ → Option (List ℕ) → LinkRec → Type 0
SendsUnder p peer None l = first_link peer Sends p ≡ Some l
SendsUnder p peer (Some label) l = (label ≢ centre_label) × ((link_with (record { peer = peer; label = label; side = Sends }) p ≡ Some l) × (l.ready ≡ true))

-- what the record of the key that goes next under a link is found by
abbrev pub next_record : Party → LinkRec → RecordKey
next_record p l = record { peer = l.peer; name = record { issuer = p.own; originator = p.own; label = l.label; count = l.next } }

-- with that record 1,024 stand at most
abbrev pub HasRoomNext : Party → LinkRec → Type 0
HasRoomNext p l = length p.keys + cond (is_some (record_with (next_record p l) p)) 0 1 ≤ most_keys

pub record CanStart (p : Party) (peer : List ℕ) (label : Option (List ℕ)) (moment : ℕ) : Type 0 where
  pub known : IsTrue (knows peer p)
  -- no exchange with the peer stands
  pub free : exchange_with peer p ≡ None
  pub link : LinkRec
  pub in_use : SendsUnder p peer label link
  pub left : link.next ≤ count_limit
  pub room : HasRoomNext p link
  pub drawn : ℕ × Gen
  pub draws : good_draw p.generator moment ≡ Some drawn

-- the key goes out under that link, which is one with the peer
pub record Starts (p after : Party) (r : Row) (peer : List ℕ) (label : Option (List ℕ)) (moment : ℕ) : Type 0 where
  pub link : LinkRec
  pub in_use : SendsUnder p peer label link
  pub to : link.peer ≡ peer
  pub sends : SendsKey p after r link moment

-- what is drawn for a new key-encrypting key, one after another at one moment: its left half, its right half unless it is
-- single, when both halves are one, and a data key
abbrev pub Draws : Gen → ℕ → Bool → Pair → ℕ → Gen → Type 0
Draws g moment true pair key last = (next : Gen) × ((good_draw g moment ≡ Some (pair.left, next)) × ((pair.right ≡ pair.left) × (good_draw next moment ≡ Some (key, last))))
Draws g moment false pair key last = (next : Gen) × ((behind : Gen) × ((good_draw g moment ≡ Some (pair.left, next)) × ((good_draw next moment ≡ Some (pair.right, behind)) × (good_draw behind moment ≡ Some (key, last)))))

pub record CanStartKk (p : Party) (peer : List ℕ) (label : Option (List ℕ)) (new : List ℕ) (single : Bool) (moment : ℕ) : Type 0 where
  pub known : IsTrue (knows peer p)
  -- no exchange with the peer stands
  pub free : exchange_with peer p ≡ None
  pub link : LinkRec
  pub in_use : SendsUnder p peer label link
  pub left : link.next ≤ count_limit
  -- the new label is no centre's, and no link for sending to the peer has it
  pub proper : new ≢ centre_label
  pub absent : link_with (record { peer = peer; label = new; side = Sends }) p ≡ None
  -- with its link 64 stand at most
  pub place : length p.links + 1 ≤ most_links
  pub room : HasRoomNext p link
  pub pair : Pair
  pub key : ℕ
  pub last : Gen
  pub draws : Draws p.generator moment single pair key last
