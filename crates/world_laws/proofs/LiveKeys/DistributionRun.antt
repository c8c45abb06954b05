-- A bank asks a distribution centre for a key, and passes it on to another bank, by whose answer the key is live.
use Rattle.std.proofs.Common.{arith, ◌≡◌, ◌+◌, ℕ, true, Some, [], ◌∷◌, refl, ◌∙◌, ap, subst, sym}
use Rattle.std.proofs.lemmas.List.Elements.{All-from_recursion}
use Rattle.x_base.specs.declared.party.Role.TheVariants.{Distribution}
use Rattle.x_seal.specs.Wrapped.{wrap_of, unwrap_of, seal_of, unseal_of}
use Rattle.x_seal.proofs.Undoing.{unwraps, unseals, sealed_below}
use Rattle.csm_grammar.specs.declared.arrival.Arrival.{Arrival}
use Rattle.csm_grammar.specs.declared.message.Message.{Message}
use Rattle.csm_grammar.specs.declared.message.Message.TheVariants as message
use Rattle.csm_grammar.specs.declared.message.Rtr.{Rtr}
use Rattle.party_state.specs.declared.command.Command.{Command}
use Rattle.party_state.specs.declared.command.Command.TheVariants as command
use Rattle.party_state.specs.declared.command.Input.TheVariants as input
use Rattle.party_state.specs.State.{Party, apply}
use Rattle.party_state.specs.Verdicts.{is_accept}
use Rattle.party_state.specs.Rows.{Row}
use Rattle.role_base.specs.Differing.{differing}
use Rattle.csm_write.specs.Writable.{IsProperText, IsTypedField}
use Rattle.csm_grammar.specs.Values.{kind_of}
use Rattle.bank_keys.specs.Ksm.{response}
use Rattle.member.specs.Member.{Member}
use Rattle.world_laws.specs.World.{World}
use Rattle.member.specs.Rows.{row_at}
use Rattle.change_code.specs.Cost.{cost}
use Rattle.change_code.specs.declared.format.Format.TheVariants.{Two}
use Rattle.world_laws.specs.Events.{Event, Orders, Hears, Whole}
use Rattle.world_laws.specs.Steps.{step, run}
use Rattle.world_laws.specs.Honest.{HonestArrival, HonestRun}
use Rattle.world_laws.specs.Reached.{HasLiveKey, IsIssuedBy, EndsWithLive, LiveRunOf}
use Rattle.world_laws.proofs.Texts.Own.{IsOwn}
use Rattle.world_laws.proofs.LiveKeys.Drawing.{key, generator, moment, draws_key}
use Rattle.world_laws.proofs.LiveKeys.Networks.{beginning}
use Rattle.world_laws.proofs.LiveKeys.Parties.{space, banka, bankb, centre, first_pair, second_pair}
use Rattle.bank_orders.specs.Ask.{centre_request}
use Rattle.bank_keys.specs.Rtr.{centre_ksm, centre_name}
use Rattle.distribution_role.specs.Answering.{rtr_of, answering}
use Rattle.distribution_role.specs.Requests.{rsi_tests}
use Rattle.csm_grammar.specs.Messages.{fields_of}
use Rattle.csm_grammar.specs.declared.message.Rsi.{Rsi}
use Rattle.csm_grammar.specs.declared.message.Service.TheVariants as service
use Rattle.world_laws.proofs.Texts.OwnMessages.{rtr_own, centre_ksm_own, response_own}
use Rattle.world_laws.proofs.LiveKeys.Written.{arrival, heard, auth_is, verified_as, IsRequest, request, request_heard, request_right}
use Rattle.world_laws.proofs.LiveKeys.Stepping.{room_left, next_member, next_world, row_step, honest_on, run_on, fact_at}
use Rattle.world_laws.proofs.LiveKeys.DistributionStart.{with_a, with_b, first, second, middle, member_a, member_b, member_c, started}

-- the first bank asks the centre

abbrev ask_command : Command
ask_command = command.Ask centre (Some bankb)

abbrev ask_row : Row
ask_row = row_at first (input.Ordered ask_command) 0

abbrev ask_message : Message
ask_message = centre_request first centre bankb

abbrev ask : Rsi
ask = record { receiver = centre; originator = banka; service = service.Kd; ultimate = Some bankb }

ask_own : IsRequest ask_message
ask_own = record {
  fields = All-from_recursion IsTypedField (fields_of ask_message) (refl, (refl, (tt, (refl, tt))));
  texts = All-from_recursion (λ v. IsProperText (kind_of v.tag) v.value) (fields_of ask_message) (tt, (tt, (tt, (tt, tt))));
  allowed = refl;
  free = omega arith;
}

abbrev first_asked : Party
first_asked = apply ask_row.edits first

-- the centre draws a key and answers

abbrev ask_arrives : Arrival
ask_arrives = request ask_message ask_own

abbrev centre_row : Row
centre_row = answering middle banka bankb (rsi_tests middle ask_arrives ask bankb with_a with_b) with_a with_b (Some (key, generator))

answered : row_at middle (input.Arrived ask_arrives) moment ≡ centre_row
answered = ap (answering middle banka bankb (rsi_tests middle ask_arrives ask bankb with_a with_b) with_a with_b) draws_key

served : is_accept centre_row.verdict ≡ true
served = rw (request_right ask_message ask_own) refl

abbrev rtr : Rtr
rtr = rtr_of middle banka bankb with_a with_b key

rtr_is_own : IsOwn (message.Rtr rtr)
rtr_is_own = rtr_own middle banka bankb with_a with_b key refl refl refl (record { low = omega arith; high = omega arith }) (record { low = omega arith; high = omega arith })

-- the first bank passes the key on

abbrev rtr_arrives : Arrival
rtr_arrives = arrival (message.Rtr rtr) key rtr_is_own

abbrev brought : ℕ
brought = unwrap_of first_pair 1 (wrap_of first_pair 1 key)

brought_is : brought ≡ key
brought_is = unwraps first_pair 1 key (omega arith)

abbrev pass_row : Row
pass_row = row_at first_asked (input.Arrived rtr_arrives) 0

passed : is_accept pass_row.verdict ≡ true
passed = rw (verified_as (message.Rtr rtr) key rtr_is_own brought brought_is) refl

abbrev first_passed : Party
first_passed = apply pass_row.edits first_asked

abbrev ksm_message : Message
ksm_message = message.Ksm (centre_ksm first_asked rtr)

ksm_is_own : IsOwn ksm_message
ksm_is_own = centre_ksm_own first_asked rtr refl refl refl (sealed_below second_pair banka bankb 1 key) (record { low = omega arith; high = omega arith })

-- the second takes it

abbrev ksm_arrives : Arrival
ksm_arrives = arrival ksm_message brought ksm_is_own

abbrev taken_value : ℕ
taken_value = unseal_of second_pair banka bankb 1 (seal_of second_pair banka bankb 1 key)

taken_is : taken_value ≡ brought
taken_is = unseals second_pair banka bankb 1 key (omega arith) ∙ sym brought_is

abbrev take_row : Row
take_row = row_at second (input.Arrived ksm_arrives) 0

taken : is_accept take_row.verdict ≡ true
taken = rw (verified_as ksm_message brought ksm_is_own taken_value taken_is) refl

abbrev second_taken : Party
second_taken = apply take_row.edits second

abbrev last_message : Message
last_message = response second banka

last_own : IsOwn last_message
last_own = response_own second banka refl refl

-- and the first hears its answer

abbrev last_arrives : Arrival
last_arrives = arrival last_message taken_value last_own

abbrev live_row : Row
live_row = row_at first_passed (input.Arrived last_arrives) 0

live : is_accept live_row.verdict ≡ true
live = rw (verified_as last_message taken_value last_own brought (sym taken_is)) refl

-- rooms

abbrev length1 : ℕ
length1 = cost Two (differing first ask_row.edits)

abbrev length2 : ℕ
length2 = cost Two (differing middle centre_row.edits)

abbrev length3 : ℕ
length3 = cost Two (differing first_asked pass_row.edits)

abbrev length4 : ℕ
length4 = cost Two (differing second take_row.edits)

abbrev length5 : ℕ
length5 = cost Two (differing first_passed live_row.edits)

abbrev room : ℕ
room = length1 + length2 + length3 + length4 + length5 + 40

-- the networks

abbrev begin : World
begin = beginning (member_a room ∷ member_b room ∷ member_c room ∷ [])

abbrev asked_member : Member
asked_member = next_member (member_a room) ask_row

abbrev passed_member : Member
passed_member = next_member asked_member pass_row

abbrev taken_member : Member
taken_member = next_member (member_b room) take_row

abbrev world1 : World
world1 = next_world 1 begin (member_a room) (input.Ordered ask_command) ask_row

abbrev world2 : World
world2 = next_world 2 world1 (member_c room) (input.Arrived ask_arrives) centre_row

abbrev world3 : World
world3 = next_world 3 world2 asked_member (input.Arrived rtr_arrives) pass_row

abbrev world4 : World
world4 = next_world 4 world3 (member_b room) (input.Arrived ksm_arrives) take_row

abbrev world5 : World
world5 = next_world 5 world4 passed_member (input.Arrived last_arrives) live_row

-- the events

abbrev event1 : Event
event1 = record { party = banka; moment = 0; action = Orders ask_command; completion = Whole }

abbrev event2 : Event
event2 = record { party = centre; moment = moment; action = Hears ask_arrives.text (Some ask_arrives); completion = Whole }

abbrev event3 : Event
event3 = record { party = banka; moment = 0; action = Hears rtr_arrives.text (Some rtr_arrives); completion = Whole }

abbrev event4 : Event
event4 = record { party = bankb; moment = 0; action = Hears ksm_arrives.text (Some ksm_arrives); completion = Whole }

abbrev event5 : Event
event5 = record { party = banka; moment = 0; action = Hears last_arrives.text (Some last_arrives); completion = Whole }

step1 : step 1 begin event1 ≡ world1
step1 = row_step 1 begin (member_a room) (input.Ordered ask_command) 0 ask_row tt (refl, tt) refl refl (omega arith)

step2 : step 2 world1 event2 ≡ world2
step2 = row_step 2 world1 (member_c room) (input.Arrived ask_arrives) moment centre_row tt (refl, (refl, tt)) answered served (omega arith)

step3 : step 3 world2 event3 ≡ world3
step3 = row_step 3 world2 asked_member (input.Arrived rtr_arrives) 0 pass_row tt (refl, tt) refl passed (room_left (differing first ask_row.edits) (space room) (length3 + 1) (omega arith))

step4 : step 4 world3 event4 ≡ world4
step4 = row_step 4 world3 (member_b room) (input.Arrived ksm_arrives) 0 take_row tt (refl, tt) refl taken (omega arith)

step5 : step 5 world4 event5 ≡ world5
step5 = row_step 5 world4 passed_member (input.Arrived last_arrives) 0 live_row tt (refl, tt) refl live
    (room_left (differing first_asked pass_row.edits) asked_member.space (length5 + 1) (room_left (differing first ask_row.edits) (space room) (length3 + (length5 + 1)) (omega arith)))

-- each code that agrees was made

honest3 : HonestArrival world2.facts first_asked rtr_arrives
honest3 = fact_at world2.facts first_asked rtr_arrives _ brought _ centre refl (0, omega arith, refl) (auth_is (message.Rtr rtr) key rtr_is_own)

honest4 : HonestArrival world3.facts second ksm_arrives
honest4 = fact_at world3.facts second ksm_arrives _ taken_value _ banka refl (1, omega arith, refl) (auth_is ksm_message brought ksm_is_own)

honest5 : HonestArrival world4.facts first_passed last_arrives
honest5 = fact_at world4.facts first_passed last_arrives _ brought _ bankb refl (2, omega arith, refl) (auth_is last_message taken_value last_own)

honest_run : HonestRun 1 begin (event1 ∷ event2 ∷ event3 ∷ event4 ∷ event5 ∷ [])
honest_run =
    honest_on 1 begin world1 event1 (event2 ∷ event3 ∷ event4 ∷ event5 ∷ []) step1 tt
    (honest_on 2 world1 world2 event2 (event3 ∷ event4 ∷ event5 ∷ []) step2 (λ l e v. absurd (cc e))
    (honest_on 3 world2 world3 event3 (event4 ∷ event5 ∷ []) step3 honest3
    (honest_on 4 world3 world4 event4 (event5 ∷ []) step4 honest4
    (honest_on 5 world4 world5 event5 [] step5 honest5 tt))))

end_is : run 1 begin (event1 ∷ event2 ∷ event3 ∷ event4 ∷ event5 ∷ []) ≡ world5
end_is =
    run_on 1 begin world1 world5 event1 (event2 ∷ event3 ∷ event4 ∷ event5 ∷ []) step1
    (run_on 2 world1 world2 world5 event2 (event3 ∷ event4 ∷ event5 ∷ []) step2
    (run_on 3 world2 world3 world5 event3 (event4 ∷ event5 ∷ []) step3
    (run_on 4 world3 world4 world5 event4 (event5 ∷ []) step4
    (run_on 5 world4 world5 world5 event5 [] step5 refl))))

abbrev live_at_end : HasLiveKey world5
live_at_end = record {
  member = next_member passed_member live_row;
  at = refl;
  key = record { peer = bankb; name = centre_name first_asked rtr };
  mine = refl;
  entry = _;
  found = refl;
  live = refl;
  held = record { member = taken_member; at = refl; entry = _; found = refl; held = tt; value_is = taken_is };
}

pub distribution_run : LiveRunOf (IsIssuedBy Distribution)
distribution_run = record {
  start = begin;
  events = event1 ∷ event2 ∷ event3 ∷ event4 ∷ event5 ∷ [];
  is_start = started room;
  are_events = (tt, (request_heard ask_message ask_own, (heard (message.Rtr rtr) key rtr_is_own, (heard ksm_message brought ksm_is_own, (heard last_message taken_value last_own, tt)))));
  honest = honest_run;
  end = subst (EndsWithLive (IsIssuedBy Distribution)) (sym end_is) (record { live = live_at_end; kind = record { centre = _; at = refl; role_is = refl } });
}
