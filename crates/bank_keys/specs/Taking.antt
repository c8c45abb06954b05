-- When the key of a key service message is taken (ANSI X9.17; the bounds are this project's profile).
use Rattle.std.specs.Prelude.{ℕ, ◌+◌, ◌≡◌, ◌≢◌, ◌<◌, ◌≤◌, ◌↔◌, bit_xor, IsTrue, true, false, IfSome, List, length, Option, Some, None}
use Rattle.x_base.specs.Count.{count_limit}
use Rattle.x_base.specs.declared.party.Side.TheVariants.{Takes}
use Rattle.x_base.specs.declared.verdict.Verdict.TheVariants.{Accept}
use Rattle.csm_grammar.specs.declared.message.Message.TheVariants as message
use Rattle.csm_grammar.specs.declared.message.Ksm.{Ksm}
use Rattle.csm_grammar.specs.declared.message.NewKk.{NewKk}
use Rattle.csm_grammar.specs.declared.arrival.Arrival.{Arrival}
use Rattle.party_state.specs.declared.command.Input.{Input}
use Rattle.party_state.specs.declared.command.Input.TheVariants as input
use Rattle.party_tables.specs.declared.link.LinkRec.{LinkRec}
use Rattle.party_tables.specs.declared.key.KeyRec.{KeyRec}
use Rattle.party_state.specs.declared.decision.Decision.{Decision}
use Rattle.party_state.specs.declared.edit.Edit.TheVariants.{PutLink, PutKey}
use Rattle.party_tables.specs.declared.key.KeyStatus.TheVariants.{Held}
use Rattle.party_tables.specs.Keys.{takes, link_key}
use Rattle.party_state.specs.Rows.{Row, Coded}
use Rattle.party_state.specs.State.{Party, centre_label, link_with, record_with, has_pair, knows, apply_edit}
use Rattle.party_state.specs.Limits.{most_links, most_keys}
use Rattle.x_seal.specs.Wrapped.{unwrap_of}
use Rattle.role_base.specs.Texts.{direct_name, no_extras, is_verified}
use Rattle.role_base.specs.Conditions.{body_issuer}
use Rattle.bank_keys.specs.Ksm.{link_in_use, IsCounted, body_link, body_count, body_new, body_code, body_record, body_second, opened_kk, taken_link}

-- the input is a key service message that arrived
pub record Brings (i : Input) (a : Arrival) (m : Ksm) : Type 0 where
  pub arrived : i ≡ input.Arrived a
  pub message : a.parsed.message ≡ message.Ksm m

-- with this record 1,024 stand at most
abbrev pub HasRoomFor : Party → KeyRec → Type 0
HasRoomFor p k = length (apply_edit (PutKey k) p).keys ≤ most_keys

-- with the record of the key that comes, or with those of two, 1,024 stand at most
abbrev pub HasRoomForKeys : Party → KeyRec → Option KeyRec → Type 0
HasRoomForKeys p first None = HasRoomFor p first
HasRoomForKeys p first (Some second) = HasRoomFor (apply_edit (PutKey first) p) second

-- a new key-encrypting key that comes at this count can be taken, under this label
pub record CanAdd (p : Party) (originator : List ℕ) (l : LinkRec) (count : ℕ) (new : List ℕ × NewKk) : Type 0 where
  -- the label is no centre's, and free
  pub label : new.0 ≢ centre_label
  pub free : link_with (takes originator new.0) p ≡ None
  -- no link has the pair
  pub other : has_pair (opened_kk l.pair count new.1) p ≡ false
  -- with its link 64 stand at most
  pub room : length (apply_edit (PutLink (taken_link originator l count new)) p).links ≤ most_links

pub record CanTake (p : Party) (a : Arrival) (m : Ksm) : Type 0 where
  pub receiver : m.receiver ≡ p.own
  pub originator : m.originator ≢ p.own
  pub known : IsTrue (knows (body_issuer m.originator m.body) p)
  pub link : LinkRec
  pub in_use : body_link p m.originator m.body ≡ Some link
  -- the code is made under the key that came, or under the exclusive-or of two
  pub code : IsTrue (is_verified a (body_code link.pair m.originator p.own m.body))
  -- the count is not below the expected one, which is a count
  pub fresh : link.next ≤ body_count m.body
  pub left : link.next ≤ count_limit
  -- the count behind the first of two keys is one
  pub counted : IsCounted m.body
  pub added : IfSome (body_new m.body) (CanAdd p m.originator link (body_count m.body))
  pub room : HasRoomForKeys p (body_record p m m.body link) (body_second p m m.body link)

-- a key that a key service message brings, or two of them, is accepted exactly where it can be taken
abbrev pub TakesKeys : Party → Input → Decision → Type 0
TakesKeys p i d = (a : Arrival) (m : Ksm) → Brings i a m → (d.verdict ≡ Accept) ↔ CanTake p a m

-- the new key-encrypting key that came with an accepted message is ready for taking: its first count is used. "After" is
-- the party with the edits of the row
pub record TakesNew (p after : Party) (m : Ksm) (new : List ℕ × NewKk) : Type 0 where
  pub link : LinkRec
  pub in_use : body_link p m.originator m.body ≡ Some link
  pub taken : link_with (takes m.originator new.0) after ≡ Some (record {
    peer = m.originator;
    label = new.0;
    side = Takes;
    pair = opened_kk link.pair (body_count m.body) new.1;
    next = 2;
    ready = true;
  })

-- the two data keys that came with an accepted message are held: the first came at CTP, the second at the count behind it.
-- The message's code is made under the exclusive-or of the two. The link in use expects the count behind both, and the
-- response goes back under that exclusive-or
pub record TakesTwo (p after : Party) (a : Arrival) (m : Ksm) (r : Row) (idk2 : Option (List ℕ)) (first second ctp : ℕ) : Type 0 where
  pub link : LinkRec
  pub in_use : link_in_use p m.originator idk2 ≡ Some link
  pub counted : ctp < count_limit
  pub code : IsTrue (is_verified a (bit_xor (unwrap_of link.pair ctp first) (unwrap_of link.pair (ctp + 1) second)))
  pub first_held : record_with (record { peer = m.originator; name = direct_name link.peer link.label ctp }) after ≡ Some (record {
    peer = m.originator;
    name = direct_name link.peer link.label ctp;
    value = unwrap_of link.pair ctp first;
    status = Held;
  })
  pub second_held : record_with (record { peer = m.originator; name = direct_name link.peer link.label (ctp + 1) }) after ≡ Some (record {
    peer = m.originator;
    name = direct_name link.peer link.label (ctp + 1);
    value = unwrap_of link.pair (ctp + 1) second;
    status = Held;
  })
  pub expected : link_with (link_key link) after ≡ Some (record link { next = ctp + 2 })
  pub answered : r.reply ≡ Some (Coded
      (message.Rsm (record { receiver = m.originator; originator = p.own; idd = None; extras = no_extras }))
      (record { name = direct_name link.peer link.label ctp; recipient = p.own })
      (bit_xor (unwrap_of link.pair ctp first) (unwrap_of link.pair (ctp + 1) second)))
