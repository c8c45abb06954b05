-- The tests that several rows have in common (this project's profile).
use Rattle.std.specs.Prelude.{ℕ, ◌+◌, Bool, true, false, not, ◌&&◌, ◌||◌, nat_le, nat_lt, Option, Some, None, List, [], ◌∷◌, length, bytes_eq}
use Rattle.x_base.specs.Count.{count_limit}
use Rattle.x_base.specs.declared.verdict.Verdict.TheVariants.{NotForMe, UnknownPeer, WrongClass, NoExchange, CountLow, CountSpent}
use Rattle.csm_grammar.specs.declared.message.Service.{Service}
use Rattle.csm_grammar.specs.declared.message.Service.TheVariants as service
use Rattle.csm_grammar.specs.declared.message.KsmBody.{KsmBody}
use Rattle.csm_grammar.specs.declared.message.KsmBody.TheVariants as body
use Rattle.party_tables.specs.declared.link.LinkKey.{LinkKey}
use Rattle.party_tables.specs.declared.link.LinkRec.{LinkRec}
use Rattle.party_tables.specs.declared.key.RecordKey.{RecordKey}
use Rattle.party_state.specs.State.{Party, link_with, record_with, knows}
use Rattle.party_state.specs.Verdicts.{Test, verdict_of}
use Rattle.party_state.specs.Rows.{Row, refused}
use Rattle.party_state.specs.Limits.{most_links, most_keys}

-- the receiver is this party, and the originator isn't
abbrev pub is_for : Party → List ℕ → List ℕ → Bool
is_for p receiver originator = bytes_eq receiver p.own && not (bytes_eq originator p.own)

-- a message that isn't served, whose sender, or the centre that it names, is to be known
abbrev pub other_class : Party → List ℕ → List ℕ → List ℕ → Row
other_class p receiver originator known =
    refused (verdict_of ((is_for p receiver originator, NotForMe) ∷ (knows known p, UnknownPeer) ∷ (false, WrongClass) ∷ []))

-- a request for a data key
abbrev pub is_data_key : Service → Bool
is_data_key service.Kd = true
is_data_key service.KdKd = false
is_data_key service.Kk = false
is_data_key service.DoubleKk = false
is_data_key service.KkKd = false
is_data_key service.DoubleKkKd = false

-- a request for two data keys
abbrev pub is_two_keys : Service → Bool
is_two_keys service.Kd = false
is_two_keys service.KdKd = true
is_two_keys service.Kk = false
is_two_keys service.DoubleKk = false
is_two_keys service.KkKd = false
is_two_keys service.DoubleKkKd = false

-- who shares the key-encrypting key under which a key comes: its originator, or the centre
abbrev pub body_issuer : List ℕ → KsmBody → List ℕ
body_issuer originator (body.Direct idk2 new kd ctp) = originator
body_issuer originator (body.Centre centre kdu ctb) = centre
body_issuer originator (body.Twin idk2 first second ctp) = originator

-- an answer is for this party, and belongs to an exchange that stands
abbrev pub answer_front : Party → List ℕ → List ℕ → Bool → List Test
answer_front p receiver originator stands = (is_for p receiver originator, NotForMe) ∷ (stands, NoExchange) ∷ []

-- a count is left
abbrev pub has_count : LinkRec → Bool
has_count l = nat_le l.next count_limit

-- two counts are left
abbrev pub has_two_counts : LinkRec → Bool
has_two_counts l = nat_lt l.next count_limit

-- a count that arrived, against the expected one
abbrev pub count_tests : LinkRec → ℕ → List Test
count_tests l count = (not (has_count l) || nat_le l.next count, CountLow l.next) ∷ (has_count l, CountSpent) ∷ []

-- how many rows stand after one is put, which takes the place of the one that was found
abbrev pub count_after : {R : Type 0} → Option R → List R → ℕ
count_after None rows = length rows + 1
count_after (Some old) rows = length rows

-- 1,024 key records stand at most after this one is put
abbrev pub has_key_room : Party → RecordKey → Bool
has_key_room p key = nat_le (count_after (record_with key p) p.keys) most_keys

-- how many rows more stand after one is put, which takes the place of the one that was found
abbrev pub one_more : {R : Type 0} → Option R → ℕ
one_more None = 1
one_more (Some old) = 0

-- 1,024 key records stand at most after these two are put
abbrev pub has_room_for_two : Party → RecordKey → RecordKey → Bool
has_room_for_two p j k = nat_le (length p.keys + (one_more (record_with j p) + one_more (record_with k p))) most_keys

-- 64 links stand at most after this one is put
abbrev pub has_link_room : Party → LinkKey → Bool
has_link_room p key = nat_le (count_after (link_with key p) p.links) most_links
