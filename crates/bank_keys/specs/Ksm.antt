-- A key service message arrives (ANSI X9.17): from a partner, without or with a new key-encrypting key, or with a key
-- of a centre. Its key is held, a new key-encrypting key is ready for taking, and a response goes back under the key;
-- a refusal for a count, a label, a pair or want of room is answered by an error message. A partner may send two keys in
-- one message. One row has all four.
use Rattle.std.specs.Prelude.{ℕ, ◌+◌, nat_lt, bit_xor, true, not, ◌&&◌, Bool, is_none, is_some, cond, List, [], ◌∷◌, ◌++◌, Option, Some, None, option_map, bytes_eq}
use Rattle.x_base.specs.Count.{IsCount, count_limit}
use Rattle.x_base.specs.declared.key_name.FullName.{FullName}
use Rattle.x_base.specs.declared.party.Side.TheVariants.{Takes}
use Rattle.x_base.specs.declared.verdict.Verdict.{Verdict}
use Rattle.x_base.specs.declared.verdict.Verdict.TheVariants as verdict
use Rattle.x_mac.specs.declared.pair.Pair.{Pair}
use Rattle.x_seal.specs.Wrapped.{unwrap_of, unseal_of}
use Rattle.csm_grammar.specs.declared.message.Message.{Message}
use Rattle.csm_grammar.specs.declared.message.Message.TheVariants as message
use Rattle.csm_grammar.specs.declared.message.KsmBody.{KsmBody}
use Rattle.csm_grammar.specs.declared.message.KsmBody.TheVariants as body
use Rattle.csm_grammar.specs.declared.message.Ksm.{Ksm}
use Rattle.csm_grammar.specs.declared.message.NewKk.{NewKk}
use Rattle.csm_grammar.specs.declared.message.NewKk.TheVariants as new_kk
use Rattle.csm_grammar.specs.declared.arrival.Arrival.{Arrival}
use Rattle.party_tables.specs.declared.link.LinkRec.{LinkRec}
use Rattle.party_tables.specs.declared.key.KeyRec.{KeyRec}
use Rattle.party_tables.specs.declared.key.KeyStatus.TheVariants.{Held}
use Rattle.party_state.specs.declared.edit.Edit.{Edit}
use Rattle.party_state.specs.declared.edit.Edit.TheVariants.{PutLink, PutKey}
use Rattle.party_state.specs.declared.decision.Lead.{Lead}
use Rattle.party_tables.specs.declared.key.RecordKey.{RecordKey}
use Rattle.party_tables.specs.Names.{name_behind, full_behind}
use Rattle.party_tables.specs.Keys.{takes, record_key}
use Rattle.party_state.specs.State.{Party, centre_label, link_with, first_link, has_pair, knows}
use Rattle.party_state.specs.Verdicts.{Test, verdict_of, tests_pass}
use Rattle.party_state.specs.Rows.{Row, Coded, OfKsm, refused}
use Rattle.role_base.specs.declared.errors.ErrorCounts.{ErrorCounts}
use Rattle.role_base.specs.Texts.{direct_name, no_extras, is_verified, lead_under}
use Rattle.role_base.specs.Conditions.{is_for, body_issuer, count_tests, has_key_room, has_room_for_two, has_link_room}
use Rattle.role_base.specs.Load.{odd_pair}
use Rattle.role_base.specs.Errors.{error_message, error_letter, expected_count, coded_under}

-- a key without a centre

-- the link in use: the one with that label, which isn't a centre's, or the first
abbrev pub link_in_use : Party → List ℕ → Option (List ℕ) → Option LinkRec
link_in_use p originator None = first_link originator Takes p
link_in_use p originator (Some label) = cond (bytes_eq label centre_label) None (link_with (takes originator label) p)

-- the full name of the key that arrives under a link
abbrev pub arriving : Party → LinkRec → ℕ → FullName
arriving p l ctp = record { name = direct_name l.peer l.label ctp; recipient = p.own }

abbrev pub response : Party → List ℕ → Message
response p originator = message.Rsm (record { receiver = originator; originator = p.own; idd = None; extras = no_extras })

-- what each form brings: the link in use, the count, and the full name of the key, of two keys the first; two keys have no
-- link in use at the last count

abbrev pub body_link : Party → List ℕ → KsmBody → Option LinkRec
body_link p originator (body.Direct idk2 new kd ctp) = link_in_use p originator idk2
body_link p originator (body.Centre centre kdu ctb) = link_with (takes centre centre_label) p
body_link p originator (body.Twin idk2 first second ctp) = cond (nat_lt ctp count_limit) (link_in_use p originator idk2) None

abbrev pub body_count : KsmBody → ℕ
body_count (body.Direct idk2 new kd ctp) = ctp
body_count (body.Centre centre kdu ctb) = ctb
body_count (body.Twin idk2 first second ctp) = ctp

-- the count behind the first of two keys is a count
abbrev pub IsCounted : KsmBody → Type 0
IsCounted (body.Direct idk2 new kd ctp) = Unit {0}
IsCounted (body.Centre centre kdu ctb) = Unit {0}
IsCounted (body.Twin idk2 first second ctp) = IsCount (ctp + 1)

-- the second of two keys, as encrypted
abbrev pub body_twin : KsmBody → Option ℕ
body_twin (body.Direct idk2 new kd ctp) = None
body_twin (body.Centre centre kdu ctb) = None
body_twin (body.Twin idk2 first second ctp) = Some second

abbrev pub next_behind : ℕ → Option ℕ → ℕ
next_behind count None = count + 1
next_behind count (Some kd) = count + 2

-- the count behind those of the keys
abbrev pub body_next : KsmBody → ℕ
body_next b = next_behind (body_count b) (body_twin b)

abbrev pub body_name : Party → List ℕ → KsmBody → LinkRec → FullName
body_name p originator (body.Direct idk2 new kd ctp) l = arriving p l ctp
body_name p originator (body.Centre centre kdu ctb) l = record { name = record { issuer = centre; originator = originator; label = centre_label; count = ctb }; recipient = p.own }
body_name p originator (body.Twin idk2 first second ctp) l = arriving p l ctp

-- the names of all keys of a message, by that of the first
abbrev pub key_names : FullName → Option ℕ → List FullName
key_names u None = u ∷ []
key_names u (Some kd) = u ∷ full_behind u ∷ []

-- the new key-encrypting key that a text brings under a pair at a count, with odd parity; a single key is both halves
abbrev pub opened_kk : Pair → ℕ → NewKk → Pair
opened_kk pair count (new_kk.Double left right) = odd_pair (record { left = unwrap_of pair count left; right = unwrap_of pair count right })
opened_kk pair count (new_kk.Single key) = odd_pair (record { left = unwrap_of pair count key; right = unwrap_of pair count key })

abbrev pub body_new : KsmBody → Option (List ℕ × NewKk)
body_new (body.Direct idk2 new kd ctp) = new
body_new (body.Centre centre kdu ctb) = None
body_new (body.Twin idk2 first second ctp) = None

-- the new key-encrypting key, opened
abbrev pub body_opened : Pair → KsmBody → Option Pair
body_opened pair b = option_map (λ n. opened_kk pair (body_count b) n.1) (body_new b)

-- the key that a text brings from an originator to a receiver, under the pair of the link in use; of two the first
abbrev pub body_value : Pair → List ℕ → List ℕ → KsmBody → ℕ
body_value pair originator receiver (body.Direct idk2 None kd ctp) = unwrap_of pair ctp kd
body_value pair originator receiver (body.Direct idk2 (Some new) kd ctp) = unwrap_of (opened_kk pair ctp new.1) 1 kd
body_value pair originator receiver (body.Centre centre kdu ctb) = unseal_of pair originator receiver ctb kdu
body_value pair originator receiver (body.Twin idk2 first second ctp) = unwrap_of pair ctp first

-- the second of two keys
abbrev pub second_value : Pair → KsmBody → ℕ → ℕ
second_value pair b kd = unwrap_of pair (body_count b + 1) kd

abbrev pub joined_value : ℕ → Pair → KsmBody → Option ℕ → ℕ
joined_value first pair b None = first
joined_value first pair b (Some kd) = bit_xor first (second_value pair b kd)

-- the key under which the message and its answers are closed: the one that it brings, or the exclusive-or of the two
abbrev pub body_code : Pair → List ℕ → List ℕ → KsmBody → ℕ
body_code pair originator receiver b = joined_value (body_value pair originator receiver b) pair b (body_twin b)

abbrev pub body_front : Party → Ksm → KsmBody → Option LinkRec → List Test
body_front p m b found =
    (is_for p m.receiver m.originator, verdict.NotForMe) ∷ (knows (body_issuer m.originator b) p, verdict.UnknownPeer) ∷ (is_some found, verdict.UnknownKk) ∷ []

-- the link of a new key-encrypting key, and the tests for it

abbrev pub taken_link : List ℕ → LinkRec → ℕ → List ℕ × NewKk → LinkRec
taken_link originator l count new = record { peer = originator; label = new.0; side = Takes; pair = opened_kk l.pair count new.1; next = 2; ready = true }

abbrev pub link_edits : Option LinkRec → List Edit
link_edits None = []
link_edits (Some t) = PutLink t ∷ []

-- its label is free and isn't a centre's, its pair is new, and it has room
abbrev pub link_tests : Party → Option LinkRec → List Test
link_tests p None = []
link_tests p (Some t) =
    (not (bytes_eq t.label centre_label) && is_none (link_with (takes t.peer t.label) p), verdict.LabelTaken)
    ∷ (not (has_pair t.pair p), verdict.SameKey) ∷ (has_link_room p (takes t.peer t.label), verdict.LinksFull) ∷ []

abbrev pub taken_edits : List ℕ → LinkRec → ℕ → Option (List ℕ × NewKk) → List Edit
taken_edits originator l count new = link_edits (option_map (λ n. taken_link originator l count n) new)

abbrev pub new_tests : Party → List ℕ → LinkRec → ℕ → Option (List ℕ × NewKk) → List Test
new_tests p originator l count new = link_tests p (option_map (λ n. taken_link originator l count n) new)

abbrev pub body_taken : List ℕ → LinkRec → KsmBody → Option LinkRec
body_taken originator l b = option_map (λ n. taken_link originator l (body_count b) n) (body_new b)

-- the key that is held
abbrev pub body_record : Party → Ksm → KsmBody → LinkRec → KeyRec
body_record p m b l = record { peer = m.originator; name = (body_name p m.originator b l).name; value = body_value l.pair m.originator p.own b; status = Held }

-- the second of two keys that are held
abbrev pub second_record : Party → Ksm → KsmBody → LinkRec → ℕ → KeyRec
second_record p m b l kd = record { peer = m.originator; name = name_behind (body_name p m.originator b l).name; value = second_value l.pair b kd; status = Held }

abbrev pub second_edits : Option KeyRec → List Edit
second_edits None = []
second_edits (Some k) = PutKey k ∷ []

abbrev pub body_second : Party → Ksm → KsmBody → LinkRec → Option KeyRec
body_second p m b l = option_map (λ kd. second_record p m b l kd) (body_twin b)

-- one record fits, or two do
abbrev pub have_room : Party → RecordKey → Option KeyRec → Bool
have_room p key None = has_key_room p key
have_room p key (Some k) = has_room_for_two p key (record_key k)

abbrev pub body_rest : Party → Ksm → KsmBody → LinkRec → List Test
body_rest p m b l =
    count_tests l (body_count b) ++ (new_tests p m.originator l (body_count b) (body_new b) ++ (have_room p (record_key (body_record p m b l)) (body_second p m b l), verdict.KeysFull) ∷ [])

abbrev pub body_tests : Party → Arrival → Ksm → KsmBody → LinkRec → List Test
body_tests p a m b l = body_front p m b (Some l) ++ (is_verified a (body_code l.pair m.originator p.own b), verdict.BadMac) ∷ body_rest p m b l

abbrev pub body_edits : Party → Ksm → KsmBody → LinkRec → List Edit
body_edits p m b l = PutLink (record l { next = body_next b }) ∷ (taken_edits m.originator l (body_count b) (body_new b) ++ PutKey (body_record p m b l) ∷ second_edits (body_second p m b l))

-- the refused count, under the tag of the message
abbrev pub body_counts : KsmBody → ErrorCounts
body_counts (body.Direct idk2 new kd ctp) = record { ctp = Some ctp; cta = None; ctb = None }
body_counts (body.Centre centre kdu ctb) = record { ctp = None; cta = None; ctb = Some ctb }
body_counts (body.Twin idk2 first second ctp) = record { ctp = Some ctp; cta = None; ctb = None }

-- the error message to a refusal that is answered
abbrev pub body_message : Party → List ℕ → KsmBody → List ℕ → Option ℕ → Message
body_message p originator b erf ctr = error_message p originator (body_counts b) erf ctr

abbrev pub body_error : Party → List ℕ → KsmBody → Verdict → Option Message
body_error p originator b v = option_map (λ erf. body_message p originator b erf (expected_count v)) (error_letter v)

abbrev pub key_row : Party → Arrival → Ksm → KsmBody → Option LinkRec → Row
key_row p a m b None = refused (verdict_of (body_front p m b None))
key_row p a m b (Some l) = record {
  verdict = verdict_of (body_tests p a m b l);
  edits = body_edits p m b l;
  reply = Some (Coded (response p m.originator) (body_name p m.originator b l) (body_code l.pair m.originator p.own b));
  uses = [];
  makes = None;
  accepts = Some (record { class = OfKsm; names = key_names (body_name p m.originator b l) (body_twin b) });
  answer = coded_under (body_name p m.originator b l) (body_code l.pair m.originator p.own b) (body_error p m.originator b (verdict_of (body_tests p a m b l)));
}

abbrev pub key_arrives : Party → Arrival → Ksm → Row
key_arrives p a m = key_row p a m m.body (body_link p m.originator m.body)

-- the key under which its code is tested, with the new key-encrypting key

abbrev pub key_found : Party → Arrival → Ksm → KsmBody → LinkRec → Lead
key_found p a m b l = record (lead_under a (body_name p m.originator b l) (body_code l.pair m.originator p.own b)) { opened = body_opened l.pair b }

abbrev pub key_lead_with : Party → Arrival → Ksm → KsmBody → Option LinkRec → Option Lead
key_lead_with p a m b None = None
key_lead_with p a m b (Some l) = cond (tests_pass (body_front p m b (Some l))) (Some (key_found p a m b l)) None

abbrev pub key_lead : Party → Arrival → Ksm → Option Lead
key_lead p a m = key_lead_with p a m m.body (body_link p m.originator m.body)
