-- What one event makes of the network (this project's profile).
use Rattle.std.specs.Prelude.{ℕ, suc, Bool, cond, ◌&&◌, Option, Some, None, List, [], ◌∷◌, ◌++◌, map, bytes_eq}
use Rattle.csm_write.specs.Canon.{auth_of}
use Rattle.party_state.specs.declared.command.Input.{Input}
use Rattle.party_state.specs.declared.command.Input.TheVariants as input
use Rattle.party_tables.specs.Tables.{put_row}
use Rattle.party_state.specs.Verdicts.{is_accept}
use Rattle.party_state.specs.Rows.{Row, Reply, Coded, Plain, Again, Use, Made, Accepted}
use Rattle.csm_grammar.specs.Arrivals.{authenticated_text}
use Rattle.role_base.specs.Texts.{text_of}
use Rattle.role_base.specs.Differing.{differing}
use Rattle.change_code.specs.Cost.{fits, is_change, can_compact, space_of_whole}
use Rattle.change_code.specs.declared.format.Format.{Format}
use Rattle.change_code.specs.declared.space.Space.{Space}
use Rattle.member.specs.Member.{Member, after}
use Rattle.member.specs.Acts.{compacted_in, migrated_in}
use Rattle.world_laws.specs.World.{Fact, Kk, Birth, KkUse, Acceptance, World, own_of, member_at}
use Rattle.member.specs.Rows.{row_at}
use Rattle.world_laws.specs.Events.{Action, Orders, Hears, Compacts, Migrates, Completion, Whole, CutOld, CutNew, Event}

-- the authenticated text of an input
abbrev pub received_text : Input → List ℕ
received_text (input.Ordered c) = []
received_text (input.Arrived a) = authenticated_text a

-- what a row adds to the lists: a text, a fact, a birth, uses and an acceptance

abbrev pub texts_of : Option Reply → List (List ℕ)
texts_of None = []
texts_of (Some reply) = text_of reply ∷ []

-- a fact wherever a code is made anew under a key
abbrev pub facts_of : List ℕ → Option Reply → List Fact
facts_of maker None = []
facts_of maker (Some (Coded message under value)) = record { under = under; text = auth_of message; maker = maker } ∷ []
facts_of maker (Some (Plain message)) = []
facts_of maker (Some (Again text)) = []

abbrev pub births_of : ℕ → List ℕ → Option Made → List Birth
births_of n own None = []
births_of n own (Some m) = record { originator = own; recipient = m.recipient; label = m.label; event = n } ∷ []

abbrev pub is_birth : List ℕ → List ℕ → List ℕ → Birth → Bool
is_birth originator recipient label b = bytes_eq originator b.originator && (bytes_eq recipient b.recipient && bytes_eq label b.label)

-- the number of the last birth with these names, or the one that is given
abbrev pub last_birth : ℕ → List ℕ → List ℕ → List ℕ → List Birth → ℕ
last_birth n originator recipient label [] = n
last_birth n originator recipient label (b ∷ bs) = last_birth (cond (is_birth originator recipient label b) b.event n) originator recipient label bs

-- the key-encrypting key that has these names now
abbrev pub current_kk : List Birth → List ℕ → List ℕ → List ℕ → Kk
current_kk bs originator recipient label = record { originator = originator; recipient = recipient; label = label; birth = last_birth 0 originator recipient label bs }

abbrev pub kk_use : List Birth → List ℕ → Use → KkUse
kk_use bs own u = record { kk = current_kk bs own u.recipient u.label; count = u.count; sealed = u.sealed }

abbrev pub acceptances_of : List ℕ → List ℕ → Option Accepted → List Acceptance
acceptances_of own text None = []
acceptances_of own text (Some a) = record { party = own; text = text; class = a.class; names = a.names } ∷ []

-- the member after a row: only the edits that make a difference are kept
abbrev pub member_after : Member → Row → Member
member_after x r = after x (differing x.party r.edits)

-- the network after a row, but for its text: the number of the event, who took the input, the authenticated text of the
-- input, the row, and the member afterwards
abbrev pub world_after_row : ℕ → World → List ℕ → List ℕ → Row → Member → World
world_after_row n w own text r y = record {
  members = put_row own_of bytes_eq y w.members;
  texts = w.texts;
  facts = w.facts ++ facts_of own r.reply;
  births = w.births ++ births_of n own r.makes;
  uses = w.uses ++ map (kk_use (w.births ++ births_of n own r.makes) own) r.uses;
  acceptances = w.acceptances ++ acceptances_of own text r.accepts;
}

-- a refusal may be answered, and the answer has a code of its own
abbrev pub world_with_answer : World → List ℕ → Row → World
world_with_answer w own r = record w { facts = w.facts ++ facts_of own r.answer }

abbrev pub world_with_text : World → Option Reply → World
world_with_text w reply = record w { texts = w.texts ++ texts_of reply }

-- whole and accepted: the row, if its change fits, and its text; whole and refused: the answer. Cut with the old state:
-- nothing. Cut with the new state, which only a change that fits can leave: the row, and no text
abbrev pub world_by_row : ℕ → World → Member → List ℕ → Row → Completion → World
world_by_row n w x text r Whole = cond (is_accept r.verdict)
    (cond (fits x.space (differing x.party r.edits)) (world_with_text (world_after_row n w x.party.own text r (member_after x r)) r.reply) w)
    (world_with_text (world_with_answer w x.party.own r) r.answer)
world_by_row n w x text r CutOld = w
world_by_row n w x text r CutNew = cond (is_accept r.verdict && (is_change (differing x.party r.edits) && fits x.space (differing x.party r.edits)))
    (world_after_row n w x.party.own text r (member_after x r)) w

abbrev pub world_with_space : World → Member → Space → World
world_with_space w x space = record w { members = put_row own_of bytes_eq (record { party = x.party; space = space }) w.members }

-- the party is written whole in this format, where it isn't too large for it, and has the room behind one frame of it then; where
-- there is no format in which it is to be written, nothing changes. Cut, that or nothing
abbrev pub world_rewritten : Option Format → World → Member → Completion → World
world_rewritten None w x completion = w
world_rewritten (Some f) w x CutOld = w
world_rewritten (Some f) w x completion = cond (can_compact f x.party) (world_with_space w x (space_of_whole f x.party)) w

-- a compaction keeps the format
abbrev pub world_after_compaction : World → Member → Completion → World
world_after_compaction w x completion = world_rewritten (compacted_in x.space.format) w x completion

-- a migration turns format 1 into format 2; in format 2 nothing changes
abbrev pub world_after_migration : World → Member → Completion → World
world_after_migration w x completion = world_rewritten (migrated_in x.space.format) w x completion

abbrev pub world_after_input : ℕ → World → Member → Input → ℕ → Completion → World
world_after_input n w x i moment completion = world_by_row n w x (received_text i) (row_at x.party i moment) completion

-- bytes of which nothing is heard change nothing
abbrev pub world_after_action : ℕ → World → Member → ℕ → Completion → Action → World
world_after_action n w x moment completion (Orders c) = world_after_input n w x (input.Ordered c) moment completion
world_after_action n w x moment completion (Hears bytes (Some a)) = world_after_input n w x (input.Arrived a) moment completion
world_after_action n w x moment completion (Hears bytes None) = w
world_after_action n w x moment completion Compacts = world_after_compaction w x completion
world_after_action n w x moment completion Migrates = world_after_migration w x completion

abbrev pub step_at : ℕ → World → Event → Option Member → World
step_at n w e None = w
step_at n w e (Some x) = world_after_action n w x e.moment e.completion e.action

-- the network after the event of this number
abbrev pub step : ℕ → World → Event → World
step n w e = step_at n w e (member_at e.party w.members)

-- the end of a run whose first event has this number
abbrev pub run : ℕ → World → List Event → World
run n w [] = w
run n w (e ∷ es) = run (suc n) (step n w e) es

-- the number of the event behind these
abbrev pub number_after : ℕ → List Event → ℕ
number_after n [] = n
number_after n (e ∷ es) = number_after (suc n) es
