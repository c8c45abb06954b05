-- Two keys go in one message, and the partner ends the first before its answer is heard: its originator ends both, and the
-- partner goes on holding the second.
use Rattle.std.proofs.Common.{arith, ◌≡◌, ◌+◌, ℕ, true, Some, [], ◌∷◌, refl, subst, sym}
use Rattle.x_base.specs.declared.key_name.KeyName.{KeyName}
use Rattle.csm_grammar.specs.declared.arrival.Arrival.{Arrival}
use Rattle.csm_grammar.specs.declared.message.Message.{Message}
use Rattle.party_state.specs.declared.command.Command.{Command}
use Rattle.party_state.specs.declared.command.Command.TheVariants as command
use Rattle.party_state.specs.declared.command.Input.TheVariants as input
use Rattle.party_tables.specs.declared.key.KeyRec.{KeyRec}
use Rattle.party_tables.specs.declared.key.KeyStatus.TheVariants.{Held}
use Rattle.party_state.specs.State.{Party, apply}
use Rattle.party_state.specs.Verdicts.{is_accept}
use Rattle.party_state.specs.Rows.{Row}
use Rattle.role_base.specs.Texts.{direct_name}
use Rattle.role_base.specs.Differing.{differing}
use Rattle.bank_orders.specs.Ending.{end_message}
use Rattle.member.specs.Member.{Member}
use Rattle.world_laws.specs.World.{World}
use Rattle.member.specs.Rows.{row_at}
use Rattle.change_code.specs.Cost.{cost}
use Rattle.change_code.specs.declared.format.Format.TheVariants.{Two}
use Rattle.world_laws.specs.Events.{Event, Orders, Hears, Whole}
use Rattle.world_laws.specs.Steps.{step, run}
use Rattle.world_laws.specs.Honest.{HonestArrival, HonestRun}
use Rattle.world_laws.specs.Reached.{HonestRunTo, LeavesSecond}
use Rattle.world_laws.proofs.Texts.Own.{IsOwn}
use Rattle.world_laws.proofs.Texts.OwnMessages.{end_own}
use Rattle.world_laws.proofs.LiveKeys.Drawing.{key, moment}
use Rattle.world_laws.proofs.LiveKeys.Parties.{space, banka, bankb, member_with}
use Rattle.world_laws.proofs.LiveKeys.TwoBanks.{label, first, second, two_banks, two_banks_start}
use Rattle.world_laws.proofs.LiveKeys.Written.{arrival, heard, auth_is, verified_as, request_heard}
use Rattle.world_laws.proofs.LiveKeys.Stepping.{room_left, next_member, next_world, row_step, honest_on, run_on, fact_at}
use Rattle.world_laws.proofs.LiveKeys.TwinRun.{ask_message, ask_own, ask_arrives, send_row, sent, served, key_message, key_own, first_sent, code, key_arrives, value1, value1_is, value2_is, taken_code, take_row, taken}

abbrev second_taken : Party
second_taken = apply take_row.edits second

abbrev name1 : KeyName
name1 = direct_name banka label 1

abbrev held_first : KeyRec
held_first = record { peer = banka; name = name1; value = value1; status = Held }

-- the partner ends the first

abbrev end_command : Command
end_command = command.End banka name1

abbrev end_row : Row
end_row = row_at second_taken (input.Ordered end_command) 0

abbrev dsm_message : Message
dsm_message = end_message second_taken held_first

dsm_own : IsOwn dsm_message
dsm_own = end_own second_taken held_first refl (record { peer = refl; name = record { issuer = refl; originator = refl; label = refl; count = record { low = omega arith; high = omega arith } } })

-- and the originator hears of it

abbrev dsm_arrives : Arrival
dsm_arrives = arrival dsm_message value1 dsm_own

abbrev left_row : Row
left_row = row_at first_sent (input.Arrived dsm_arrives) 0

left : is_accept left_row.verdict ≡ true
left = rw (verified_as dsm_message value1 dsm_own key (sym value1_is)) refl

abbrev length1 : ℕ
length1 = cost Two (differing first send_row.edits)

abbrev length2 : ℕ
length2 = cost Two (differing second take_row.edits)

abbrev length3 : ℕ
length3 = cost Two (differing second_taken end_row.edits)

abbrev length4 : ℕ
length4 = cost Two (differing first_sent left_row.edits)

abbrev room : ℕ
room = length1 + length2 + length3 + length4 + 30

abbrev sent_member : Member
sent_member = next_member (member_with room first) send_row

abbrev taken_member : Member
taken_member = next_member (member_with room second) take_row

abbrev closing_member : Member
closing_member = next_member taken_member end_row

abbrev world1 : World
world1 = next_world 1 (two_banks room) (member_with room first) (input.Arrived ask_arrives) send_row

abbrev world2 : World
world2 = next_world 2 world1 (member_with room second) (input.Arrived key_arrives) take_row

abbrev world3 : World
world3 = next_world 3 world2 taken_member (input.Ordered end_command) end_row

abbrev world4 : World
world4 = next_world 4 world3 sent_member (input.Arrived dsm_arrives) left_row

abbrev event1 : Event
event1 = record { party = banka; moment = moment; action = Hears ask_arrives.text (Some ask_arrives); completion = Whole }

abbrev event2 : Event
event2 = record { party = bankb; moment = 0; action = Hears key_arrives.text (Some key_arrives); completion = Whole }

abbrev event3 : Event
event3 = record { party = bankb; moment = 0; action = Orders end_command; completion = Whole }

abbrev event4 : Event
event4 = record { party = banka; moment = 0; action = Hears dsm_arrives.text (Some dsm_arrives); completion = Whole }

step1 : step 1 (two_banks room) event1 ≡ world1
step1 = row_step 1 (two_banks room) (member_with room first) (input.Arrived ask_arrives) moment send_row tt (refl, tt) sent served (omega arith)

step2 : step 2 world1 event2 ≡ world2
step2 = row_step 2 world1 (member_with room second) (input.Arrived key_arrives) 0 take_row tt (refl, tt) refl taken (omega arith)

step3 : step 3 world2 event3 ≡ world3
step3 = row_step 3 world2 taken_member (input.Ordered end_command) 0 end_row tt (refl, tt) refl refl (room_left (differing second take_row.edits) (space room) (length3 + 1) (omega arith))

step4 : step 4 world3 event4 ≡ world4
step4 = row_step 4 world3 sent_member (input.Arrived dsm_arrives) 0 left_row tt (refl, tt) refl left (room_left (differing first send_row.edits) (space room) (length4 + 1) (omega arith))

honest2 : HonestArrival world1.facts second key_arrives
honest2 = fact_at world1.facts second key_arrives _ taken_code _ banka refl (0, omega arith, refl) (auth_is key_message code key_own)

honest4 : HonestArrival world3.facts first_sent dsm_arrives
honest4 = fact_at world3.facts first_sent dsm_arrives _ key _ bankb refl (2, omega arith, refl) (auth_is dsm_message value1 dsm_own)

honest_run : HonestRun 1 (two_banks room) (event1 ∷ event2 ∷ event3 ∷ event4 ∷ [])
honest_run =
    honest_on 1 (two_banks room) world1 event1 (event2 ∷ event3 ∷ event4 ∷ []) step1 (λ l e v. absurd (cc e))
    (honest_on 2 world1 world2 event2 (event3 ∷ event4 ∷ []) step2 honest2
    (honest_on 3 world2 world3 event3 (event4 ∷ []) step3 tt
    (honest_on 4 world3 world4 event4 [] step4 honest4 tt)))

end_is : run 1 (two_banks room) (event1 ∷ event2 ∷ event3 ∷ event4 ∷ []) ≡ world4
end_is =
    run_on 1 (two_banks room) world1 world4 event1 (event2 ∷ event3 ∷ event4 ∷ []) step1
    (run_on 2 world1 world2 world4 event2 (event3 ∷ event4 ∷ []) step2
    (run_on 3 world2 world3 world4 event3 (event4 ∷ []) step3
    (run_on 4 world3 world4 world4 event4 [] step4 refl)))

left_at_end : LeavesSecond world4
left_at_end = record {
  member = next_member sent_member left_row;
  at = refl;
  peer = bankb;
  name = name1;
  first = _;
  first_found = refl;
  first_ended = refl;
  second = _;
  second_found = refl;
  second_ended = refl;
  held = record { member = closing_member; at = refl; entry = _; found = refl; held = tt; value_is = value2_is };
}

pub end_run : HonestRunTo LeavesSecond
end_run = record {
  start = two_banks room;
  events = event1 ∷ event2 ∷ event3 ∷ event4 ∷ [];
  is_start = two_banks_start room;
  are_events = (request_heard ask_message ask_own, (heard key_message code key_own, (tt, (heard dsm_message value1 dsm_own, tt))));
  honest = honest_run;
  end = subst LeavesSecond (sym end_is) left_at_end;
}
