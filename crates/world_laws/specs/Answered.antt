-- When a party accepts a key service message, a disconnection, or the answer to the end of a key (ANSI X9.17), and of which keys:
-- read from the message, from what the member plans, and from the link in use, by the word of the rows.
use Rattle.std.specs.Prelude.{◌≡◌, ℕ, Bool, true, false, cond, ◌&&◌, List, [], ◌∷◌, ◌++◌, map, Option, Some, None, bytes_eq}
use Rattle.std.specs.List.{filter}
use Rattle.x_base.specs.declared.key_name.KeyName.{KeyName}
use Rattle.x_base.specs.declared.key_name.FullName.{FullName}
use Rattle.csm_grammar.specs.declared.arrival.Arrival.{Arrival}
use Rattle.csm_grammar.specs.declared.message.Dsm.{Dsm}
use Rattle.csm_grammar.specs.declared.message.Ksm.{Ksm}
use Rattle.csm_grammar.specs.declared.message.Message.{Message}
use Rattle.csm_grammar.specs.declared.message.Message.TheVariants as message
use Rattle.csm_grammar.specs.Arrivals.{authenticated_text}
use Rattle.party_tables.specs.declared.link.LinkRec.{LinkRec}
use Rattle.party_state.specs.declared.command.Input.TheVariants as input
use Rattle.party_state.specs.Rows.{Class, OfKsm, OfAnswer, OfDsm}
use Rattle.party_state.specs.State.{Party}
use Rattle.party_state.specs.Verdicts.{is_accept}
use Rattle.change_code.specs.Cost.{is_change}
use Rattle.bank_keys.specs.Ksm.{body_link}
use Rattle.member.specs.Member.{Member, Plan, plan_at}
use Rattle.world_laws.specs.World.{Acceptance, World}
use Rattle.world_laws.specs.Events.{Action, Hears, Completion, Whole, CutOld, CutNew}
use Rattle.world_laws.specs.Carried.{carried_keys, carried_name}

abbrev pub is_end_answer : Class → Bool
is_end_answer OfAnswer = true
is_end_answer _ = false

-- those of the acceptances that are of answers to the end of a key
abbrev pub answers_in : List Acceptance → List Acceptance
answers_in accs = filter (λ a. is_end_answer a.class) accs

-- a key service message, a disconnection, or the answer to one
abbrev pub is_key_or_end : Class → Bool
is_key_or_end OfKsm = true
is_key_or_end OfAnswer = true
is_key_or_end OfDsm = true
is_key_or_end _ = false

-- those of the acceptances that are of these
abbrev pub keys_and_ends : List Acceptance → List Acceptance
keys_and_ends accs = filter (λ a. is_key_or_end a.class) accs

-- the full name of a key that the originator of a message names to this party
abbrev pub named_key : Party → List ℕ → KeyName → FullName
named_key p originator name = record { name = name; recipient = cond (bytes_eq name.originator p.own) originator p.own }

-- the answer of the other party, as this one accepts it: of the key that it names
abbrev pub answer_of : Party → Arrival → List ℕ → Option KeyName → List Acceptance
answer_of p a originator None = []
answer_of p a originator (Some name) =
    record { party = p.own; text = authenticated_text a; class = OfAnswer; names = named_key p originator name ∷ [] } ∷ []

-- a response service message that names a key is one, and no other message
abbrev pub message_answers : Party → Arrival → Message → List Acceptance
message_answers p a (message.Rsm m) = answer_of p a m.originator m.idd
message_answers p a _ = []

-- a disconnection, as this party accepts it: of the key that IDD names
abbrev pub dsm_acceptance : Party → Arrival → Dsm → List Acceptance
dsm_acceptance p a m = record { party = p.own; text = authenticated_text a; class = OfDsm; names = named_key p m.originator m.idd ∷ [] } ∷ []

-- the keys that a key service message carries, by the label of the link in use; none without one
abbrev pub carried_names : Ksm → Option LinkRec → List FullName
carried_names m None = []
carried_names m (Some l) = map (λ k. carried_name l.label m k.count) (carried_keys l.pair m)

-- a key service message, as this party accepts it: of the keys that it carries
abbrev pub ksm_acceptance : Party → Arrival → Ksm → Option LinkRec → List Acceptance
ksm_acceptance p a m link = record { party = p.own; text = authenticated_text a; class = OfKsm; names = carried_names m link } ∷ []

-- the acceptance for which a message calls: of a key service message, of the keys that it carries; of a disconnection, of the key
-- that IDD names; of a response that names a key, of that key; of no other message one
abbrev pub message_acceptances : Party → Arrival → Message → List Acceptance
message_acceptances p a (message.Ksm m) = ksm_acceptance p a m (body_link p m.originator m.body)
message_acceptances p a (message.Rsm m) = answer_of p a m.originator m.idd
message_acceptances p a (message.Dsm m) = dsm_acceptance p a m
message_acceptances p a _ = []

-- the input is accepted, and what is kept of it stands: done whole, or cut off with the new state, where something changes
abbrev pub stands : Plan → Completion → Bool
stands plan Whole = is_accept plan.verdict
stands plan CutOld = false
stands plan CutNew = is_accept plan.verdict && is_change plan.edits

-- an event at this member adds the acceptance for which its message calls, and no other of these, exactly where the message is
-- accepted and stands; a command, bytes of which nothing is heard, a compaction and a migration add none
abbrev pub AcceptancesAdded : World → World → Member → ℕ → Completion → Action → Type 0
AcceptancesAdded w after x moment how (Hears bytes (Some a)) =
    keys_and_ends after.acceptances ≡ keys_and_ends w.acceptances ++ cond (stands (plan_at x (input.Arrived a) moment) how) (message_acceptances x.party a a.parsed.message) []
AcceptancesAdded w after x moment how action = keys_and_ends after.acceptances ≡ keys_and_ends w.acceptances

-- of these the answers to the end of a key
abbrev pub AnswersAdded : World → World → Member → ℕ → Completion → Action → Type 0
AnswersAdded w after x moment how (Hears bytes (Some a)) =
    answers_in after.acceptances ≡ answers_in w.acceptances ++ cond (stands (plan_at x (input.Arrived a) moment) how) (message_answers x.party a a.parsed.message) []
AnswersAdded w after x moment how action = answers_in after.acceptances ≡ answers_in w.acceptances
