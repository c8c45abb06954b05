-- One bank sends the other a new key-encrypting key, and then starts a data key under it, which becomes live.
use Rattle.std.proofs.Common.{arith, ◌≡◌, ◌+◌, ℕ, Some, [], ◌∷◌, refl, subst, sym}
use Rattle.party_state.specs.declared.command.Input.TheVariants as input
use Rattle.role_base.specs.Texts.{direct_name}
use Rattle.role_base.specs.Differing.{differing}
use Rattle.member.specs.Member.{Member}
use Rattle.world_laws.specs.World.{World}
use Rattle.change_code.specs.Cost.{cost}
use Rattle.change_code.specs.declared.format.Format.TheVariants.{Two}
use Rattle.world_laws.specs.Events.{Event, Orders, Hears, Whole}
use Rattle.world_laws.specs.Steps.{step, run}
use Rattle.world_laws.specs.Honest.{HonestArrival, HonestRun}
use Rattle.world_laws.specs.Reached.{HasLiveKey, IsUnderNewKk, EndsWithLive, LiveRunOf}
use Rattle.world_laws.proofs.LiveKeys.Drawing.{key, moment}
use Rattle.world_laws.proofs.LiveKeys.Parties.{space, banka, bankb, member_with}
use Rattle.world_laws.proofs.LiveKeys.TwoBanks.{first, second, two_banks, two_banks_start}
use Rattle.world_laws.proofs.LiveKeys.Written.{heard, auth_is}
use Rattle.world_laws.proofs.LiveKeys.Stepping.{room_left, next_member, next_world, row_step, honest_on, run_on, fact_at}
use Rattle.world_laws.proofs.LiveKeys.NewKkTexts.{new_label, kk_row, kk_command, kk_started, started, kk_text, kk_text_own, first_sent, kk_arrives, kk_value, take_row, taken, second_taken, answer_message, answer_own, answer_arrives, ready_row, answered, first_ready, start_row, start_command, key_message, key_own, first_again, key_arrives, key_value, key_value_is, held_row, held, last_message, last_own, last_arrives, live, live_row}

-- rooms

abbrev length1 : ℕ
length1 = cost Two (differing first kk_row.edits)

abbrev length2 : ℕ
length2 = cost Two (differing second take_row.edits)

abbrev length3 : ℕ
length3 = cost Two (differing first_sent ready_row.edits)

abbrev length4 : ℕ
length4 = cost Two (differing first_ready start_row.edits)

abbrev length5 : ℕ
length5 = cost Two (differing second_taken held_row.edits)

abbrev length6 : ℕ
length6 = cost Two (differing first_again live_row.edits)

abbrev room : ℕ
room = length1 + length2 + length3 + length4 + length5 + length6 + 40

-- the networks

abbrev begin : World
begin = two_banks room

abbrev sent_member : Member
sent_member = next_member (member_with room first) kk_row

abbrev taken_member : Member
taken_member = next_member (member_with room second) take_row

abbrev ready_member : Member
ready_member = next_member sent_member ready_row

abbrev again_member : Member
again_member = next_member ready_member start_row

abbrev held_member : Member
held_member = next_member taken_member held_row

abbrev world1 : World
world1 = next_world 1 begin (member_with room first) (input.Ordered kk_command) kk_row

abbrev world2 : World
world2 = next_world 2 world1 (member_with room second) (input.Arrived kk_arrives) take_row

abbrev world3 : World
world3 = next_world 3 world2 sent_member (input.Arrived answer_arrives) ready_row

abbrev world4 : World
world4 = next_world 4 world3 ready_member (input.Ordered start_command) start_row

abbrev world5 : World
world5 = next_world 5 world4 taken_member (input.Arrived key_arrives) held_row

abbrev world6 : World
world6 = next_world 6 world5 again_member (input.Arrived last_arrives) live_row

-- the events

abbrev event1 : Event
event1 = record { party = banka; moment = moment; action = Orders kk_command; completion = Whole }

abbrev event2 : Event
event2 = record { party = bankb; moment = 0; action = Hears kk_arrives.text (Some kk_arrives); completion = Whole }

abbrev event3 : Event
event3 = record { party = banka; moment = 0; action = Hears answer_arrives.text (Some answer_arrives); completion = Whole }

abbrev event4 : Event
event4 = record { party = banka; moment = moment; action = Orders start_command; completion = Whole }

abbrev event5 : Event
event5 = record { party = bankb; moment = 0; action = Hears key_arrives.text (Some key_arrives); completion = Whole }

abbrev event6 : Event
event6 = record { party = banka; moment = 0; action = Hears last_arrives.text (Some last_arrives); completion = Whole }

step1 : step 1 begin event1 ≡ world1
step1 = row_step 1 begin (member_with room first) (input.Ordered kk_command) moment kk_row refl (refl, tt) kk_started refl (omega arith)

step2 : step 2 world1 event2 ≡ world2
step2 = row_step 2 world1 (member_with room second) (input.Arrived kk_arrives) 0 take_row tt (refl, tt) refl taken (omega arith)

step3 : step 3 world2 event3 ≡ world3
step3 = row_step 3 world2 sent_member (input.Arrived answer_arrives) 0 ready_row tt (refl, (refl, tt)) refl answered (room_left (differing first kk_row.edits) (space room) (length3 + 1) (omega arith))

step4 : step 4 world3 event4 ≡ world4
step4 = row_step 4 world3 ready_member (input.Ordered start_command) moment start_row tt (refl, (refl, tt)) started refl
    (room_left (differing first_sent ready_row.edits) sent_member.space (length4 + 1) (room_left (differing first kk_row.edits) (space room) (length3 + (length4 + 1)) (omega arith)))

step5 : step 5 world4 event5 ≡ world5
step5 = row_step 5 world4 taken_member (input.Arrived key_arrives) 0 held_row tt (refl, (refl, tt)) refl held (room_left (differing second take_row.edits) (space room) (length5 + 1) (omega arith))

step6 : step 6 world5 event6 ≡ world6
step6 = row_step 6 world5 again_member (input.Arrived last_arrives) 0 live_row tt (refl, (refl, tt)) refl live
    (room_left (differing first_ready start_row.edits) ready_member.space (length6 + 1)
    (room_left (differing first_sent ready_row.edits) sent_member.space (length4 + (length6 + 1))
    (room_left (differing first kk_row.edits) (space room) (length3 + (length4 + (length6 + 1))) (omega arith))))

-- each code that agrees was made

honest2 : HonestArrival world1.facts second kk_arrives
honest2 = fact_at world1.facts second kk_arrives _ kk_value _ banka refl (0, omega arith, refl) (auth_is kk_text key kk_text_own)

honest3 : HonestArrival world2.facts first_sent answer_arrives
honest3 = fact_at world2.facts first_sent answer_arrives _ key _ bankb refl (1, omega arith, refl) (auth_is answer_message kk_value answer_own)

honest5 : HonestArrival world4.facts second_taken key_arrives
honest5 = fact_at world4.facts second_taken key_arrives _ key_value _ banka refl (2, omega arith, refl) (auth_is key_message key key_own)

honest6 : HonestArrival world5.facts first_again last_arrives
honest6 = fact_at world5.facts first_again last_arrives _ key _ bankb refl (3, omega arith, refl) (auth_is last_message key_value last_own)

honest_run : HonestRun 1 begin (event1 ∷ event2 ∷ event3 ∷ event4 ∷ event5 ∷ event6 ∷ [])
honest_run =
    honest_on 1 begin world1 event1 (event2 ∷ event3 ∷ event4 ∷ event5 ∷ event6 ∷ []) step1 tt
    (honest_on 2 world1 world2 event2 (event3 ∷ event4 ∷ event5 ∷ event6 ∷ []) step2 honest2
    (honest_on 3 world2 world3 event3 (event4 ∷ event5 ∷ event6 ∷ []) step3 honest3
    (honest_on 4 world3 world4 event4 (event5 ∷ event6 ∷ []) step4 tt
    (honest_on 5 world4 world5 event5 (event6 ∷ []) step5 honest5
    (honest_on 6 world5 world6 event6 [] step6 honest6 tt)))))

end_is : run 1 begin (event1 ∷ event2 ∷ event3 ∷ event4 ∷ event5 ∷ event6 ∷ []) ≡ world6
end_is =
    run_on 1 begin world1 world6 event1 (event2 ∷ event3 ∷ event4 ∷ event5 ∷ event6 ∷ []) step1
    (run_on 2 world1 world2 world6 event2 (event3 ∷ event4 ∷ event5 ∷ event6 ∷ []) step2
    (run_on 3 world2 world3 world6 event3 (event4 ∷ event5 ∷ event6 ∷ []) step3
    (run_on 4 world3 world4 world6 event4 (event5 ∷ event6 ∷ []) step4
    (run_on 5 world4 world5 world6 event5 (event6 ∷ []) step5
    (run_on 6 world5 world6 world6 event6 [] step6 refl)))))

abbrev live_at_end : HasLiveKey world6
live_at_end = record {
  member = next_member again_member live_row;
  at = refl;
  key = record { peer = bankb; name = direct_name banka new_label 2 };
  mine = refl;
  entry = _;
  found = refl;
  live = refl;
  held = record { member = held_member; at = refl; entry = _; found = refl; held = tt; value_is = key_value_is };
}

pub new_kk_run : LiveRunOf IsUnderNewKk
new_kk_run = record {
  start = begin;
  events = event1 ∷ event2 ∷ event3 ∷ event4 ∷ event5 ∷ event6 ∷ [];
  is_start = two_banks_start room;
  are_events = (refl, (heard kk_text key kk_text_own, (heard answer_message kk_value answer_own, (tt, (heard key_message key key_own, (heard last_message key_value last_own, tt))))));
  honest = honest_run;
  end = subst (EndsWithLive IsUnderNewKk) (sym end_is) (record { live = live_at_end; kind = record { birth = _; stands = (0, omega arith, refl); originator = refl; recipient = refl; label = refl } });
}
