-- A bank is asked for two data keys and sends both in one message; by the answer to it both are live. Both draws are the same
-- key here, so that the message is closed under the key 0: nothing in the rows is against that.
use Rattle.std.proofs.Common.{arith, ◌≡◌, ◌+◌, ℕ, true, Some, None, [], ◌∷◌, refl, ◌∙◌, ap, subst, sym}
use Rattle.std.specs.Prelude.{bit_xor}
use Rattle.std.proofs.lemmas.List.Elements.{All-from_recursion}
use Rattle.x_seal.specs.Wrapped.{wrap_of, unwrap_of}
use Rattle.x_seal.proofs.Undoing.{unwraps}
use Rattle.csm_grammar.specs.declared.arrival.Arrival.{Arrival}
use Rattle.csm_grammar.specs.declared.message.Message.{Message}
use Rattle.csm_grammar.specs.declared.message.Message.TheVariants as message
use Rattle.csm_grammar.specs.declared.message.Rsi.{Rsi}
use Rattle.csm_grammar.specs.declared.message.Service.TheVariants as service
use Rattle.csm_grammar.specs.Messages.{fields_of}
use Rattle.csm_grammar.specs.Values.{kind_of}
use Rattle.csm_write.specs.Writable.{IsProperText, IsTypedField}
use Rattle.party_state.specs.declared.command.Input.TheVariants as input
use Rattle.party_state.specs.State.{Party, apply}
use Rattle.party_state.specs.Verdicts.{is_accept}
use Rattle.party_state.specs.Rows.{Row}
use Rattle.role_base.specs.Texts.{direct_name}
use Rattle.role_base.specs.Differing.{differing}
use Rattle.bank_arrivals.specs.declared.draws.TwinsDrawn.{TwinsDrawn}
use Rattle.bank_arrivals.specs.SendingTwins.{first_drawn, second_drawn, twins_drawn, twins_message, twins_sending_drawn}
use Rattle.bank_arrivals.specs.Rsi.{rsi_tests}
use Rattle.bank_keys.specs.Ksm.{response}
use Rattle.member.specs.Member.{Member}
use Rattle.world_laws.specs.World.{World}
use Rattle.member.specs.Rows.{row_at}
use Rattle.change_code.specs.Cost.{cost}
use Rattle.change_code.specs.declared.format.Format.TheVariants.{Two}
use Rattle.world_laws.specs.Events.{Event, Hears, Whole}
use Rattle.world_laws.specs.Steps.{step, run}
use Rattle.world_laws.specs.Honest.{HonestArrival, HonestRun}
use Rattle.world_laws.specs.Reached.{HasLiveKey, IsFirstOfTwo, EndsWithLive, LiveRunOf}
use Rattle.world_laws.proofs.Texts.Own.{IsOwn}
use Rattle.world_laws.proofs.Texts.OwnMessages.{twins_own, response_own}
use Rattle.world_laws.proofs.LiveKeys.Drawing.{key, generator, moment, draws_key}
use Rattle.world_laws.proofs.LiveKeys.Parties.{space, banka, bankb, first_pair, member_with}
use Rattle.world_laws.proofs.LiveKeys.TwoBanks.{label, out, first, second, two_banks, two_banks_start}
use Rattle.world_laws.proofs.LiveKeys.Written.{arrival, heard, auth_is, verified_as, IsRequest, request, request_heard, request_right}
use Rattle.world_laws.proofs.LiveKeys.Stepping.{room_left, next_member, next_world, row_step, honest_on, run_on, fact_at}

-- the second bank asks for two keys, by a text from elsewhere

abbrev pub asked : Rsi
asked = record { receiver = banka; originator = bankb; service = service.KdKd; ultimate = None }

abbrev pub ask_message : Message
ask_message = message.Rsi asked

pub ask_own : IsRequest ask_message
ask_own = record {
  fields = All-from_recursion IsTypedField (fields_of ask_message) (refl, (refl, (tt, tt)));
  texts = All-from_recursion (λ v. IsProperText (kind_of v.tag) v.value) (fields_of ask_message) (tt, (tt, (tt, tt)));
  allowed = refl;
  free = omega arith;
}

abbrev pub ask_arrives : Arrival
ask_arrives = request ask_message ask_own

-- the first draws and sends them

abbrev pub both : TwinsDrawn
both = record { first = key; second = key; v = generator.v }

drawn_is : twins_drawn generator moment ≡ Some both
unfolding twins_drawn
drawn_is = ap (first_drawn moment) draws_key ∙ ap (second_drawn key) draws_key

abbrev pub send_row : Row
send_row = twins_sending_drawn first (rsi_tests first ask_arrives asked (Some out)) out (Some both)

pub sent : row_at first (input.Arrived ask_arrives) moment ≡ send_row
sent = ap (twins_sending_drawn first (rsi_tests first ask_arrives asked (Some out)) out) drawn_is

pub served : is_accept send_row.verdict ≡ true
served = rw (request_right ask_message ask_own) refl

abbrev pub key_message : Message
key_message = twins_message first out both

pub key_own : IsOwn key_message
key_own = twins_own first out both refl (record { peer = refl; label = refl; next = record { low = omega arith; high = omega arith } }) (record { low = omega arith; high = omega arith })

abbrev pub first_sent : Party
first_sent = apply send_row.edits first

-- the second takes them

abbrev pub code : ℕ
code = bit_xor key key

abbrev pub key_arrives : Arrival
key_arrives = arrival key_message code key_own

abbrev pub value1 : ℕ
value1 = unwrap_of first_pair 1 (wrap_of first_pair 1 key)

abbrev pub value2 : ℕ
value2 = unwrap_of first_pair 2 (wrap_of first_pair 2 key)

pub value1_is : value1 ≡ key
value1_is = unwraps first_pair 1 key (omega arith)

pub value2_is : value2 ≡ key
value2_is = unwraps first_pair 2 key (omega arith)

abbrev pub taken_code : ℕ
taken_code = bit_xor value1 value2

pub code_is : taken_code ≡ code
code_is = λ i. bit_xor (value1_is i) (value2_is i)

abbrev pub take_row : Row
take_row = row_at second (input.Arrived key_arrives) 0

pub taken : is_accept take_row.verdict ≡ true
taken = rw (verified_as key_message code key_own taken_code code_is) refl

abbrev pub answer_message : Message
answer_message = response second banka

pub answer_own : IsOwn answer_message
answer_own = response_own second banka refl refl

-- and the first hears its answer

abbrev pub answer_arrives : Arrival
answer_arrives = arrival answer_message taken_code answer_own

abbrev pub live_row : Row
live_row = row_at first_sent (input.Arrived answer_arrives) 0

answered : is_accept live_row.verdict ≡ true
answered = rw (verified_as answer_message taken_code answer_own code (sym code_is)) refl

-- rooms

abbrev pub length1 : ℕ
length1 = cost Two (differing first send_row.edits)

abbrev pub length2 : ℕ
length2 = cost Two (differing second take_row.edits)

abbrev pub length3 : ℕ
length3 = cost Two (differing first_sent live_row.edits)

abbrev pub room : ℕ
room = length1 + length2 + length3 + 20

-- the networks

abbrev pub sent_member : Member
sent_member = next_member (member_with room first) send_row

abbrev pub taken_member : Member
taken_member = next_member (member_with room second) take_row

abbrev pub world1 : World
world1 = next_world 1 (two_banks room) (member_with room first) (input.Arrived ask_arrives) send_row

abbrev pub world2 : World
world2 = next_world 2 world1 (member_with room second) (input.Arrived key_arrives) take_row

abbrev pub world3 : World
world3 = next_world 3 world2 sent_member (input.Arrived answer_arrives) live_row

-- the events

abbrev pub event1 : Event
event1 = record { party = banka; moment = moment; action = Hears ask_arrives.text (Some ask_arrives); completion = Whole }

abbrev pub event2 : Event
event2 = record { party = bankb; moment = 0; action = Hears key_arrives.text (Some key_arrives); completion = Whole }

abbrev pub event3 : Event
event3 = record { party = banka; moment = 0; action = Hears answer_arrives.text (Some answer_arrives); completion = Whole }

step1 : step 1 (two_banks room) event1 ≡ world1
step1 = row_step 1 (two_banks room) (member_with room first) (input.Arrived ask_arrives) moment send_row tt (refl, tt) sent served (omega arith)

step2 : step 2 world1 event2 ≡ world2
step2 = row_step 2 world1 (member_with room second) (input.Arrived key_arrives) 0 take_row tt (refl, tt) refl taken (omega arith)

step3 : step 3 world2 event3 ≡ world3
step3 = row_step 3 world2 sent_member (input.Arrived answer_arrives) 0 live_row tt (refl, tt) refl answered (room_left (differing first send_row.edits) (space room) (length3 + 1) (omega arith))

-- each code that agrees was made

honest2 : HonestArrival world1.facts second key_arrives
honest2 = fact_at world1.facts second key_arrives _ taken_code _ banka refl (0, omega arith, refl) (auth_is key_message code key_own)

honest3 : HonestArrival world2.facts first_sent answer_arrives
honest3 = fact_at world2.facts first_sent answer_arrives _ code _ bankb refl (1, omega arith, refl) (auth_is answer_message taken_code answer_own)

honest_run : HonestRun 1 (two_banks room) (event1 ∷ event2 ∷ event3 ∷ [])
honest_run =
    honest_on 1 (two_banks room) world1 event1 (event2 ∷ event3 ∷ []) step1 (λ l e v. absurd (cc e))
    (honest_on 2 world1 world2 event2 (event3 ∷ []) step2 honest2
    (honest_on 3 world2 world3 event3 [] step3 honest3 tt))

end_is : run 1 (two_banks room) (event1 ∷ event2 ∷ event3 ∷ []) ≡ world3
end_is =
    run_on 1 (two_banks room) world1 world3 event1 (event2 ∷ event3 ∷ []) step1
    (run_on 2 world1 world2 world3 event2 (event3 ∷ []) step2
    (run_on 3 world2 world3 world3 event3 [] step3 refl))

abbrev pub live_at_end : HasLiveKey world3
live_at_end = record {
  member = next_member sent_member live_row;
  at = refl;
  key = record { peer = bankb; name = direct_name banka label 1 };
  mine = refl;
  entry = _;
  found = refl;
  live = refl;
  held = record { member = taken_member; at = refl; entry = _; found = refl; held = tt; value_is = value1_is };
}

second_live : IsFirstOfTwo world3 live_at_end
second_live = record {
  entry = _;
  found = refl;
  live = refl;
  held = record { member = taken_member; at = refl; entry = _; found = refl; held = tt; value_is = value2_is };
  taken = record { party = bankb; text = _; class = _; names = _ };
  stands = (0, omega arith, refl);
  class_is = refl;
  names_are = refl;
}

pub twin_run : LiveRunOf IsFirstOfTwo
twin_run = record {
  start = two_banks room;
  events = event1 ∷ event2 ∷ event3 ∷ [];
  is_start = two_banks_start room;
  are_events = (request_heard ask_message ask_own, (heard key_message code key_own, (heard answer_message taken_code answer_own, tt)));
  honest = honest_run;
  end = subst (EndsWithLive IsFirstOfTwo) (sym end_is) (record { live = live_at_end; kind = second_live });
}
