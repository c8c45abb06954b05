-- One bank starts a data key with the other, which takes it and answers; by the answer the key is live.
use Rattle.std.proofs.Common.{arith, ◌≡◌, ◌+◌, ℕ, true, Some, None, [], ◌∷◌, refl, ap, subst, sym}
use Rattle.x_seal.specs.Wrapped.{wrap_of, unwrap_of}
use Rattle.x_seal.proofs.Undoing.{unwraps}
use Rattle.csm_grammar.specs.declared.arrival.Arrival.{Arrival}
use Rattle.csm_grammar.specs.declared.message.Message.{Message}
use Rattle.party_state.specs.declared.command.Command.TheVariants as command
use Rattle.party_state.specs.declared.command.Input.TheVariants as input
use Rattle.party_state.specs.State.{Party, apply}
use Rattle.party_state.specs.Verdicts.{is_accept}
use Rattle.party_state.specs.Rows.{Row}
use Rattle.role_base.specs.Texts.{direct_name}
use Rattle.role_base.specs.Sending.{data_key_message, sending_drawn}
use Rattle.role_base.specs.Differing.{differing}
use Rattle.bank_orders.specs.Start.{start_tests}
use Rattle.bank_keys.specs.Ksm.{response}
use Rattle.member.specs.Member.{Member}
use Rattle.world_laws.specs.World.{World}
use Rattle.member.specs.Rows.{row_at}
use Rattle.change_code.specs.Cost.{cost}
use Rattle.change_code.specs.declared.format.Format.TheVariants.{Two}
use Rattle.world_laws.specs.Events.{Event, Orders, Hears, Whole}
use Rattle.world_laws.specs.Steps.{step, run}
use Rattle.world_laws.specs.Honest.{HonestArrival, HonestRun}
use Rattle.world_laws.specs.Reached.{HasLiveKey, LiveRun}
use Rattle.world_laws.proofs.Texts.Own.{IsOwn}
use Rattle.world_laws.proofs.Texts.OwnMessages.{data_key_own, response_own}
use Rattle.world_laws.proofs.LiveKeys.Drawing.{key, generator, moment, draws_key}
use Rattle.world_laws.proofs.LiveKeys.Parties.{space, banka, bankb, first_pair, member_with}
use Rattle.world_laws.proofs.LiveKeys.TwoBanks.{label, out, first, second, two_banks, two_banks_start}
use Rattle.world_laws.proofs.LiveKeys.Written.{arrival, heard, auth_is, verified_as}
use Rattle.world_laws.proofs.LiveKeys.Stepping.{room_left, next_member, next_world, row_step, honest_on, run_on, fact_at}

-- the first bank sends the key

abbrev pub start_row : Row
start_row = sending_drawn first (start_tests first bankb (Some out)) out (Some (key, generator))

pub started : row_at first (input.Ordered (command.Start bankb None)) moment ≡ start_row
started = ap (sending_drawn first (start_tests first bankb (Some out)) out) draws_key

abbrev pub key_message : Message
key_message = data_key_message first out key

pub key_own : IsOwn key_message
key_own = data_key_own first out key refl (record { peer = refl; label = refl; next = record { low = omega arith; high = omega arith } }) (record { low = omega arith; high = omega arith })

abbrev pub first_sent : Party
first_sent = apply start_row.edits first

-- the second takes it

abbrev pub key_arrives : Arrival
key_arrives = arrival key_message key key_own

abbrev pub taken_value : ℕ
taken_value = unwrap_of first_pair 1 (wrap_of first_pair 1 key)

pub value_is : taken_value ≡ key
value_is = unwraps first_pair 1 key (omega arith)

abbrev pub take_row : Row
take_row = row_at second (input.Arrived key_arrives) 0

pub taken : is_accept take_row.verdict ≡ true
taken = rw (verified_as key_message key key_own taken_value value_is) refl

abbrev pub second_taken : Party
second_taken = apply take_row.edits second

abbrev pub answer_message : Message
answer_message = response second banka

pub answer_own : IsOwn answer_message
answer_own = response_own second banka refl refl

-- and the first hears its answer

abbrev pub answer_arrives : Arrival
answer_arrives = arrival answer_message taken_value answer_own

abbrev pub live_row : Row
live_row = row_at first_sent (input.Arrived answer_arrives) 0

pub answered : is_accept live_row.verdict ≡ true
answered = rw (verified_as answer_message taken_value answer_own key (sym value_is)) refl

-- rooms

abbrev sent_length : ℕ
sent_length = cost Two (differing first start_row.edits)

abbrev taken_length : ℕ
taken_length = cost Two (differing second take_row.edits)

abbrev live_length : ℕ
live_length = cost Two (differing first_sent live_row.edits)

abbrev room : ℕ
room = sent_length + taken_length + live_length + 20

-- the networks

abbrev sent_member : Member
sent_member = next_member (member_with room first) start_row

abbrev taken_member : Member
taken_member = next_member (member_with room second) take_row

abbrev world_sent : World
world_sent = next_world 1 (two_banks room) (member_with room first) (input.Ordered (command.Start bankb None)) start_row

abbrev world_taken : World
world_taken = next_world 2 world_sent (member_with room second) (input.Arrived key_arrives) take_row

abbrev world_live : World
world_live = next_world 3 world_taken sent_member (input.Arrived answer_arrives) live_row

-- the events

abbrev starts : Event
starts = record { party = banka; moment = moment; action = Orders (command.Start bankb None); completion = Whole }

abbrev takes_it : Event
takes_it = record { party = bankb; moment = 0; action = Hears key_arrives.text (Some key_arrives); completion = Whole }

abbrev hears_answer : Event
hears_answer = record { party = banka; moment = 0; action = Hears answer_arrives.text (Some answer_arrives); completion = Whole }

first_step : step 1 (two_banks room) starts ≡ world_sent
first_step = row_step 1 (two_banks room) (member_with room first) (input.Ordered (command.Start bankb None)) moment start_row tt (refl, tt) started refl (omega arith)

second_step : step 2 world_sent takes_it ≡ world_taken
second_step = row_step 2 world_sent (member_with room second) (input.Arrived key_arrives) 0 take_row tt (refl, tt) refl taken (omega arith)

third_step : step 3 world_taken hears_answer ≡ world_live
third_step = row_step 3 world_taken sent_member (input.Arrived answer_arrives) 0 live_row tt (refl, tt) refl answered (room_left (differing first start_row.edits) (space room) (live_length + 1) (omega arith))

-- each code that agrees was made

key_honest : HonestArrival world_sent.facts second key_arrives
key_honest = fact_at world_sent.facts second key_arrives _ taken_value _ banka refl (0, omega arith, refl) (auth_is key_message key key_own)

answer_honest : HonestArrival world_taken.facts first_sent answer_arrives
answer_honest = fact_at world_taken.facts first_sent answer_arrives _ key _ bankb refl (1, omega arith, refl) (auth_is answer_message taken_value answer_own)

honest_run : HonestRun 1 (two_banks room) (starts ∷ takes_it ∷ hears_answer ∷ [])
honest_run =
    honest_on 1 (two_banks room) world_sent starts (takes_it ∷ hears_answer ∷ []) first_step tt
    (honest_on 2 world_sent world_taken takes_it (hears_answer ∷ []) second_step key_honest
    (honest_on 3 world_taken world_live hears_answer [] third_step answer_honest tt))

end_is : run 1 (two_banks room) (starts ∷ takes_it ∷ hears_answer ∷ []) ≡ world_live
end_is =
    run_on 1 (two_banks room) world_sent world_live starts (takes_it ∷ hears_answer ∷ []) first_step
    (run_on 2 world_sent world_taken world_live takes_it (hears_answer ∷ []) second_step
    (run_on 3 world_taken world_live world_live hears_answer [] third_step refl))

live_at_end : HasLiveKey world_live
live_at_end = record {
  member = next_member sent_member live_row;
  at = refl;
  key = record { peer = bankb; name = direct_name banka label 1 };
  mine = refl;
  entry = _;
  found = refl;
  live = refl;
  held = record { member = taken_member; at = refl; entry = _; found = refl; held = tt; value_is = value_is };
}

pub live_run : LiveRun
live_run = record {
  start = two_banks room;
  events = starts ∷ takes_it ∷ hears_answer ∷ [];
  is_start = two_banks_start room;
  are_events = (tt, (heard key_message key key_own, (heard answer_message taken_value answer_own, tt)));
  honest = honest_run;
  live = subst HasLiveKey (sym end_is) live_at_end;
}
