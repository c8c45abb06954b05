-- An order that is obeyed is an event of a network.
use Rattle.std.proofs.Common.{◌≡◌, inl, inr, ℕ, Bool, true, false, List, [], ◌∷◌, Option, Some, None, IfSome, refl, subst}
use Rattle.std.specs.Prelude.{if◌then◌else◌, option_and_then}
use Rattle.clap.specs.Words.{Row, first_of}
use Rattle.x_base.specs.Names.{IsIdent, IsLabel, is_name}
use Rattle.csm_grammar.specs.declared.arrival.Arrival.{Arrival}
use Rattle.x_disk.specs.Disk.{View}
use Rattle.x_values.specs.Words.{ident_of, label_of}
use Rattle.member.specs.Acts.{compacted_in, migrated_in}
use Rattle.x_line.specs.declared.opt.Opt.TheVariants as opt
use Rattle.x_line.specs.declared.order.Order.{Order}
use Rattle.x_line.specs.declared.order.Order.TheVariants as order
use Rattle.x_line.specs.Options.{name_of}
use Rattle.x_line.specs.Orders.{HasValues}
use Rattle.party_state.specs.declared.command.Command.{Command}
use Rattle.party_state.specs.declared.command.Command.TheVariants as command
use Rattle.party_state.specs.declared.command.Input.TheVariants.{Ordered, Arrived}
use Rattle.x_party.specs.Outcomes.{TakesTurn, IsSafe, RewritesParty, IsSafeRewriting}
use Rattle.x_party.specs.declared.outcome.Outcome.{Outcome}
use Rattle.x_party.specs.declared.outcome.Outcome.TheVariants as outcome
use Rattle.world_laws.specs.Events.{Action, Orders, Hears, Compacts, Migrates, IsAction, IsCommand}
use Rattle.call_laws.specs.Calls.{IsCall, IsNamedCall, AnswersOther}
use Rattle.call_ends.specs.declared.status.Status.{Status}
use Rattle.call_ends.specs.Listening.{taken, IsHeard}
use Rattle.party_calls.specs.Ends.{Ends}
use Rattle.party_calls.specs.Obeys.{Obeys, IsPartyTurn, IsTaken}
use Rattle.x917.specs.Network.{IsNamedEvent, IsArrivalEvent, IsNetworkEvent}

-- a value that an option gives

name_given : (least : ℕ) (text new : List ℕ) → (if is_name least 16 text then Some text else None) ≡ Some new → is_name least 16 new ≡ true
name_given least text new h = go (is_name least 16 text) refl h
  where
    go : (b : Bool) → is_name least 16 text ≡ b → (if b then Some text else None) ≡ Some new → is_name least 16 new ≡ true
    go true is h = let same : text ≡ new = cc in subst (λ (t : List ℕ). is_name least 16 t ≡ true) same is
    go false is h = absurd (cc)

pub label_given : (o : Option (List ℕ)) (new : List ℕ) → option_and_then label_of o ≡ Some new → IsLabel new
label_given None new h = absurd (cc)
label_given (Some text) new h = name_given 1 text new h

pub ident_given : (o : Option (List ℕ)) (new : List ℕ) → option_and_then ident_of o ≡ Some new → IsIdent new
ident_given None new h = absurd (cc)
ident_given (Some text) new h = name_given 4 text new h

-- a party of another name writes nothing
unwritten : (name own : List ℕ) (o : Outcome) (ending : List ℕ) (s : Status) (before after : Option (List ℕ)) → AnswersOther name own o → Ends o ending s before after → after ≡ before
unwritten name own (outcome.Done reply) ending s before after other ends = absurd other
unwritten name own (outcome.Refused verdict reply) ending s before after other ends = absurd other
unwritten name own (outcome.OtherParty asked found) ending s before after other ends = ends.1
unwritten name own (outcome.Damaged place) ending s before after other ends = absurd other
unwritten name own outcome.Fault ending s before after other ends = ends.1
unwritten name own outcome.NoMemory ending s before after other ends = ends.1

-- over a shelf

module _ {S : Type 0} (entry : S → List ℕ → View)
    (commands : (old new : S) (name : List ℕ) (c : Command) (moment : ℕ) (o : Outcome) → TakesTurn name (entry old name) (entry new name) (Ordered c) moment o → IsSafe name (entry old name) (entry new name) (Ordered c) moment
    → IsNamedCall name (entry old name) (entry new name) (Orders c) moment o)
    (arrivals : (old new : S) (name bytes : List ℕ) (a : Arrival) (moment : ℕ) (o : Outcome) → TakesTurn name (entry old name) (entry new name) (Arrived a) moment o → IsSafe name (entry old name) (entry new name) (Arrived a) moment
    → IsNamedCall name (entry old name) (entry new name) (Hears bytes (Some a)) moment o)
    (compactions : (old new : S) (name : List ℕ) (moment : ℕ) (o : Outcome) → RewritesParty compacted_in (entry old name) (entry new name) o → IsSafeRewriting compacted_in (entry old name) (entry new name)
    → IsCall (entry old name) (entry new name) Compacts moment o)
    (migrations : (old new : S) (name : List ℕ) (moment : ℕ) (o : Outcome) → RewritesParty migrated_in (entry old name) (entry new name) o → IsSafeRewriting migrated_in (entry old name) (entry new name)
    → IsCall (entry old name) (entry new name) Migrates moment o)
    (moment : ℕ) (s : Status) (left rest before after : Option (List ℕ)) (old new : S) where
  named_event : (action : Action) (name : List ℕ) (o : Outcome) → IsAction action → IsNamedCall name (entry old name) (entry new name) action moment o → Ends o (10 ∷ []) s before after
      → IsNamedEvent name action moment (10 ∷ []) (entry old name) (entry new name) s before after
  named_event action name o is call ends = record {
    is_action = is;
    outcome = o;
    event = call;
    ends = ends;
    other = λ image p now stood differs. (let other = call.other image p now stood differs in (other.0, unwritten name p.own o (10 ∷ []) s before after other.1 ends));
  }

  arrival_event : (name : List ℕ) → IsTaken name moment left rest (entry old name) (entry new name) s before after → IsArrivalEvent name moment left (entry old name) (entry new name) s before after
  arrival_event name (inl unheard) = inl unheard
  arrival_event name (inr (a, heard, turned)) = inr (by_source left heard)
    where
      by_source : (o : Option (List ℕ)) → IfSome o (λ all. IsHeard all a × (rest ≡ Some []))
          → IfSome o (λ all. (arrival : Arrival) × IsNamedEvent name (Hears (taken all) (Some arrival)) moment (10 ∷ []) (entry old name) (entry new name) s before after)
      by_source None heard = tt
      by_source (Some all) heard =
          let call = arrivals old new name (taken all) a moment turned.outcome turned.turned turned.safe in
          (a, named_event (Hears (taken all) (Some a)) name turned.outcome (heard.0.heard, heard.0.text) call turned.ends)

  command_event : (c : Command) (name : List ℕ) → IsCommand c → IsPartyTurn name (Ordered c) moment (entry old name) (entry new name) s before after → IsNamedEvent name (Orders c) moment (10 ∷ []) (entry old name) (entry new name) s before after
  command_event c name is turned = named_event (Orders c) name turned.outcome is (commands old new name c moment turned.outcome turned.turned turned.safe) turned.ends

  pub network_event : (rows : List Row) (o : Order) → HasValues rows o → Obeys o moment s left rest before after (entry old) (entry new) → IsNetworkEvent o moment s left before after (entry old) (entry new)
  network_event rows order.Check values obeys = tt
  network_event rows (order.Init party role key v) values obeys = tt
  network_event rows (order.Load party peer label side pair) values obeys = tt
  network_event rows (order.Create party role) values obeys = tt
  network_event rows (order.Enter party peer label side) values obeys = tt
  network_event rows (order.Value party peer label side) values obeys = tt
  network_event rows (order.Show party) values obeys = tt
  network_event rows (order.Wipe party) values obeys = tt
  network_event rows (order.Compare party mirror) values obeys = tt
  network_event rows order.Replay values obeys = tt
  network_event rows order.Audit values obeys = tt
  network_event rows (order.Drill seed events) values obeys = tt
  network_event rows (order.Pay party peer name ledger amount) values obeys = tt
  network_event rows (order.Accept party ledger) values obeys = tt
  network_event rows (order.Spool party spool) values obeys = tt
  network_event rows (order.Outbox spool) values obeys = tt
  network_event rows order.Batch values obeys = tt
  network_event rows (order.Compact party) values obeys = record {
    is_action = tt;
    outcome = obeys.outcome;
    event = compactions old new party moment obeys.outcome obeys.rewritten obeys.safe;
    ends = obeys.ends;
  }
  network_event rows (order.Migrate party) values obeys = record {
    is_action = tt;
    outcome = obeys.outcome;
    event = migrations old new party moment obeys.outcome obeys.rewritten obeys.safe;
    ends = obeys.ends;
  }
  network_event rows (order.Take party) values obeys = arrival_event party obeys
  network_event rows (order.Start party peer label) values obeys = command_event (command.Start peer label) party tt obeys
  network_event rows (order.StartKk party peer label_new label single) values obeys = command_event (command.StartKk peer label label_new single) party (label_given (first_of (name_of opt.New) rows) label_new values.2) obeys
  network_event rows (order.Ask party peer ultimate) values obeys = command_event (command.Ask peer ultimate) party tt obeys
  network_event rows (order.Translate party peer ultimate) values obeys = command_event (command.Translate peer ultimate) party (ident_given (first_of (name_of opt.Ultimate) rows) ultimate values.2) obeys
  network_event rows (order.Resend party peer) values obeys = command_event (command.Resend peer) party tt obeys
  network_event rows (order.End party peer name) values obeys = command_event (command.End peer name) party tt obeys
  network_event rows (order.Drop party peer) values obeys = command_event (command.Drop peer) party tt obeys
  network_event rows (order.Purge party) values obeys = command_event command.Purge party tt obeys
