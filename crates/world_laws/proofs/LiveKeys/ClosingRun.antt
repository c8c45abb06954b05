-- A bank's command is cut off, with the new state; the key that it sent becomes live, and is ended by its originator: the partner
-- accepts its end, and its answer is heard. And a key service message that nobody wrote agrees with its code.
use Rattle.std.proofs.Common.{arith, ◌≡◌, ◌+◌, ℕ, true, Some, None, List, [], ◌∷◌, refl, ap, subst, sym, Contains}
use Rattle.x_base.specs.declared.key_name.KeyName.{KeyName}
use Rattle.csm_grammar.specs.declared.arrival.Arrival.{Arrival}
use Rattle.csm_grammar.specs.declared.message.Message.{Message}
use Rattle.csm_write.specs.Canon.{auth_of}
use Rattle.party_tables.specs.declared.key.KeyRec.{KeyRec}
use Rattle.party_tables.specs.declared.link.LinkRec.{LinkRec}
use Rattle.party_tables.specs.declared.key.KeyStatus.TheVariants.{Live, Held}
use Rattle.party_state.specs.declared.command.Command.{Command}
use Rattle.party_state.specs.declared.command.Command.TheVariants as command
use Rattle.party_state.specs.declared.command.Input.TheVariants as input
use Rattle.party_state.specs.State.{Party, apply}
use Rattle.party_state.specs.Verdicts.{is_accept}
use Rattle.party_state.specs.Rows.{Row}
use Rattle.role_base.specs.Texts.{direct_name, lead_under}
use Rattle.role_base.specs.Differing.{differing}
use Rattle.bank_orders.specs.Ending.{end_message}
use Rattle.bank_arrivals.specs.Dsm.{dsm_response}
use Rattle.member.specs.Member.{Member}
use Rattle.member.specs.Rows.{row_at}
use Rattle.change_code.specs.Cost.{cost}
use Rattle.change_code.specs.declared.format.Format.TheVariants.{Two}
use Rattle.world_laws.specs.World.{World, Fact}
use Rattle.world_laws.specs.Events.{Event, Orders, Hears, Whole, CutNew, AreEvents}
use Rattle.world_laws.specs.Steps.{step, run}
use Rattle.world_laws.specs.Honest.{HonestArrival, HonestRun}
use Rattle.world_laws.specs.Reached.{HasLiveKey, HonestRunTo, RunAfterCut, PartnerEnded, EndsAnswered, ForgedRun}
use Rattle.world_laws.proofs.Texts.Own.{IsOwn}
use Rattle.world_laws.proofs.Texts.OwnMessages.{end_own, dsm_response_own}
use Rattle.world_laws.proofs.LiveKeys.Drawing.{key, moment}
use Rattle.world_laws.proofs.LiveKeys.Parties.{space, banka, bankb, member_with}
use Rattle.world_laws.proofs.LiveKeys.TwoBanks.{label, first, second, two_banks, two_banks_start}
use Rattle.world_laws.proofs.LiveKeys.Written.{arrival, heard, auth_is, verified_as}
use Rattle.world_laws.proofs.LiveKeys.Stepping.{room_left, next_member, next_world, cut_world, row_step, row_cut, honest_on, run_on, fact_at}
use Rattle.world_laws.proofs.LiveKeys.DirectRun.{start_row, started, key_message, key_own, first_sent, key_arrives, taken_value, value_is, take_row, taken, second_taken, answer_message, answer_own, answer_arrives, live_row, answered}

abbrev first_live : Party
first_live = apply live_row.edits first_sent

abbrev name1 : KeyName
name1 = direct_name banka label 1

-- the fact of the message that was cut off
abbrev key_fact : Fact
key_fact = record { under = record { name = name1; recipient = bankb }; text = auth_of key_message; maker = banka }

-- the originator ends the key

abbrev live_record : KeyRec
live_record = record { peer = bankb; name = name1; value = key; status = Live }

abbrev end_command : Command
end_command = command.End bankb name1

abbrev end_row : Row
end_row = row_at first_live (input.Ordered end_command) 0

abbrev dsm_message : Message
dsm_message = end_message first_live live_record

dsm_own : IsOwn dsm_message
dsm_own = end_own first_live live_record refl (record { peer = refl; name = record { issuer = refl; originator = refl; label = refl; count = record { low = omega arith; high = omega arith } } })

abbrev first_closing : Party
first_closing = apply end_row.edits first_live

-- the partner hears of it

abbrev dsm_arrives : Arrival
dsm_arrives = arrival dsm_message key dsm_own

abbrev ended_row : Row
ended_row = row_at second_taken (input.Arrived dsm_arrives) 0

ended : is_accept ended_row.verdict ≡ true
ended = rw (verified_as dsm_message key dsm_own taken_value value_is) refl

abbrev held_record : KeyRec
held_record = record { peer = banka; name = name1; value = taken_value; status = Held }

abbrev rsm_message : Message
rsm_message = dsm_response second_taken held_record

rsm_own : IsOwn rsm_message
rsm_own = dsm_response_own second_taken held_record refl (record { peer = refl; name = record { issuer = refl; originator = refl; label = refl; count = record { low = omega arith; high = omega arith } } })

-- and the originator its answer

abbrev rsm_arrives : Arrival
rsm_arrives = arrival rsm_message taken_value rsm_own

abbrev last_row : Row
last_row = row_at first_closing (input.Arrived rsm_arrives) 0

last : is_accept last_row.verdict ≡ true
last = rw (verified_as rsm_message taken_value rsm_own key (sym value_is)) refl

abbrev length1 : ℕ
length1 = cost Two (differing first start_row.edits)

abbrev length2 : ℕ
length2 = cost Two (differing second take_row.edits)

abbrev length3 : ℕ
length3 = cost Two (differing first_sent live_row.edits)

abbrev length4 : ℕ
length4 = cost Two (differing first_live end_row.edits)

abbrev length5 : ℕ
length5 = cost Two (differing second_taken ended_row.edits)

abbrev length6 : ℕ
length6 = cost Two (differing first_closing last_row.edits)

abbrev room : ℕ
room = length1 + length2 + length3 + length4 + length5 + length6 + 30

abbrev sent_member : Member
sent_member = next_member (member_with room first) start_row

abbrev taken_member : Member
taken_member = next_member (member_with room second) take_row

abbrev live_member : Member
live_member = next_member sent_member live_row

abbrev closing_member : Member
closing_member = next_member live_member end_row

abbrev ended_member : Member
ended_member = next_member taken_member ended_row

abbrev world1 : World
world1 = cut_world 1 (two_banks room) (member_with room first) (input.Ordered (command.Start bankb None)) start_row

abbrev world2 : World
world2 = next_world 2 world1 (member_with room second) (input.Arrived key_arrives) take_row

abbrev world3 : World
world3 = next_world 3 world2 sent_member (input.Arrived answer_arrives) live_row

abbrev world4 : World
world4 = next_world 4 world3 live_member (input.Ordered end_command) end_row

abbrev world5 : World
world5 = next_world 5 world4 taken_member (input.Arrived dsm_arrives) ended_row

abbrev world6 : World
world6 = next_world 6 world5 closing_member (input.Arrived rsm_arrives) last_row

abbrev event1 : Event
event1 = record { party = banka; moment = moment; action = Orders (command.Start bankb None); completion = CutNew }

abbrev event2 : Event
event2 = record { party = bankb; moment = 0; action = Hears key_arrives.text (Some key_arrives); completion = Whole }

abbrev event3 : Event
event3 = record { party = banka; moment = 0; action = Hears answer_arrives.text (Some answer_arrives); completion = Whole }

abbrev event4 : Event
event4 = record { party = banka; moment = 0; action = Orders end_command; completion = Whole }

abbrev event5 : Event
event5 = record { party = bankb; moment = 0; action = Hears dsm_arrives.text (Some dsm_arrives); completion = Whole }

abbrev event6 : Event
event6 = record { party = banka; moment = 0; action = Hears rsm_arrives.text (Some rsm_arrives); completion = Whole }

-- a count of the first link is used
abbrev next_of : List LinkRec → ℕ
next_of [] = 0
next_of (l ∷ ls) = l.next

first_differs : first_sent ≡ first → ⊥
first_differs same = let e : 2 ≡ 1 = ap (λ (p : Party). next_of p.links) same in omega (arith, e)

step1 : step 1 (two_banks room) event1 ≡ world1
step1 = row_cut 1 (two_banks room) (member_with room first) (input.Ordered (command.Start bankb None)) moment start_row tt (refl, tt) started refl first_differs (omega arith)

step2 : step 2 world1 event2 ≡ world2
step2 = row_step 2 world1 (member_with room second) (input.Arrived key_arrives) 0 take_row tt (refl, tt) refl taken (omega arith)

step3 : step 3 world2 event3 ≡ world3
step3 = row_step 3 world2 sent_member (input.Arrived answer_arrives) 0 live_row tt (refl, tt) refl answered (room_left (differing first start_row.edits) (space room) (length3 + 1) (omega arith))

step4 : step 4 world3 event4 ≡ world4
step4 = row_step 4 world3 live_member (input.Ordered end_command) 0 end_row tt (refl, tt) refl refl
    (room_left (differing first_sent live_row.edits) sent_member.space (length4 + 1) (room_left (differing first start_row.edits) (space room) (length3 + (length4 + 1)) (omega arith)))

step5 : step 5 world4 event5 ≡ world5
step5 = row_step 5 world4 taken_member (input.Arrived dsm_arrives) 0 ended_row tt (refl, tt) refl ended (room_left (differing second take_row.edits) (space room) (length5 + 1) (omega arith))

step6 : step 6 world5 event6 ≡ world6
step6 = row_step 6 world5 closing_member (input.Arrived rsm_arrives) 0 last_row tt (refl, tt) refl last
    (room_left (differing first_live end_row.edits) live_member.space (length6 + 1)
    (room_left (differing first_sent live_row.edits) sent_member.space (length4 + (length6 + 1))
    (room_left (differing first start_row.edits) (space room) (length3 + (length4 + (length6 + 1))) (omega arith))))

honest2 : HonestArrival world1.facts second key_arrives
honest2 = fact_at world1.facts second key_arrives _ taken_value _ banka refl (0, omega arith, refl) (auth_is key_message key key_own)

honest3 : HonestArrival world2.facts first_sent answer_arrives
honest3 = fact_at world2.facts first_sent answer_arrives _ key _ bankb refl (1, omega arith, refl) (auth_is answer_message taken_value answer_own)

honest5 : HonestArrival world4.facts second_taken dsm_arrives
honest5 = fact_at world4.facts second_taken dsm_arrives _ taken_value _ banka refl (2, omega arith, refl) (auth_is dsm_message key dsm_own)

honest6 : HonestArrival world5.facts first_closing rsm_arrives
honest6 = fact_at world5.facts first_closing rsm_arrives _ key _ bankb refl (3, omega arith, refl) (auth_is rsm_message taken_value rsm_own)

-- the runs, which begin alike

begins : (es : List Event) → HonestRun 4 world3 es → HonestRun 1 (two_banks room) (event1 ∷ event2 ∷ event3 ∷ es)
begins es rest =
    honest_on 1 (two_banks room) world1 event1 (event2 ∷ event3 ∷ es) step1 tt
    (honest_on 2 world1 world2 event2 (event3 ∷ es) step2 honest2
    (honest_on 3 world2 world3 event3 es step3 honest3 rest))

goes_to : (es : List Event) (w : World) → run 4 world3 es ≡ w → run 1 (two_banks room) (event1 ∷ event2 ∷ event3 ∷ es) ≡ w
goes_to es w rest =
    run_on 1 (two_banks room) world1 w event1 (event2 ∷ event3 ∷ es) step1
    (run_on 2 world1 world2 w event2 (event3 ∷ es) step2
    (run_on 3 world2 world3 w event3 es step3 rest))

are_begun : (es : List Event) → AreEvents es → AreEvents (event1 ∷ event2 ∷ event3 ∷ es)
are_begun es rest = (tt, (heard key_message key key_own, (heard answer_message taken_value answer_own, rest)))

live_at_end : HasLiveKey world3
live_at_end = record {
  member = live_member;
  at = refl;
  key = record { peer = bankb; name = name1 };
  mine = refl;
  entry = _;
  found = refl;
  live = refl;
  held = record { member = taken_member; at = refl; entry = _; found = refl; held = tt; value_is = value_is };
}

pub cut_run : RunAfterCut
cut_run = record {
  start = two_banks room;
  events = event1 ∷ event2 ∷ event3 ∷ [];
  is_start = two_banks_start room;
  are_events = are_begun [] tt;
  honest = begins [] tt;
  lives = record {
    first = event1;
    rest = event2 ∷ event3 ∷ [];
    events_are = refl;
    cut = refl;
    fact = key_fact;
    made = subst (λ (w : World). Contains w.facts key_fact) (sym step1) (0, omega arith, refl);
    unwritten = subst (λ (w : World). w.texts ≡ []) (sym step1) refl;
    live = subst HasLiveKey (sym (goes_to [] world3 refl)) live_at_end;
  };
}

closing_at_end : PartnerEnded world5
closing_at_end = record {
  member = closing_member;
  at = refl;
  key = record { peer = bankb; name = name1 };
  mine = refl;
  entry = _;
  found = refl;
  counts = tt;
  accepted = record { acceptance = _; stands = (2, omega arith, refl); class_is = refl; party_is = refl; among = (0, omega arith, refl) };
  partner = ended_member;
  partner_at = refl;
  other = _;
  other_found = refl;
  ended = refl;
}

pub closing_run : HonestRunTo PartnerEnded
closing_run = record {
  start = two_banks room;
  events = event1 ∷ event2 ∷ event3 ∷ event4 ∷ event5 ∷ [];
  is_start = two_banks_start room;
  are_events = are_begun (event4 ∷ event5 ∷ []) (tt, (heard dsm_message key dsm_own, tt));
  honest = begins (event4 ∷ event5 ∷ []) (honest_on 4 world3 world4 event4 (event5 ∷ []) step4 tt (honest_on 5 world4 world5 event5 [] step5 honest5 tt));
  end = subst PartnerEnded (sym (goes_to (event4 ∷ event5 ∷ []) world5 (run_on 4 world3 world4 world5 event4 (event5 ∷ []) step4 (run_on 5 world4 world5 world5 event5 [] step5 refl)))) closing_at_end;
}

closed_at_end : EndsAnswered world6
closed_at_end = record {
  member = next_member closing_member last_row;
  at = refl;
  key = record { peer = bankb; name = name1 };
  under = record { name = name1; recipient = bankb };
  under_is = refl;
  answered = record { acceptance = _; stands = (3, omega arith, refl); class_is = refl; party_is = refl; among = (0, omega arith, refl) };
  entry = _;
  found = refl;
  ended = refl;
  partner = ended_member;
  partner_at = refl;
  other = _;
  other_found = refl;
  other_ended = refl;
}

pub closed_run : HonestRunTo EndsAnswered
closed_run = record {
  start = two_banks room;
  events = event1 ∷ event2 ∷ event3 ∷ event4 ∷ event5 ∷ event6 ∷ [];
  is_start = two_banks_start room;
  are_events = are_begun (event4 ∷ event5 ∷ event6 ∷ []) (tt, (heard dsm_message key dsm_own, (heard rsm_message taken_value rsm_own, tt)));
  honest = begins (event4 ∷ event5 ∷ event6 ∷ [])
      (honest_on 4 world3 world4 event4 (event5 ∷ event6 ∷ []) step4 tt (honest_on 5 world4 world5 event5 (event6 ∷ []) step5 honest5 (honest_on 6 world5 world6 event6 [] step6 honest6 tt)));
  end = subst EndsAnswered (sym (goes_to (event4 ∷ event5 ∷ event6 ∷ []) world6
      (run_on 4 world3 world4 world6 event4 (event5 ∷ event6 ∷ []) step4 (run_on 5 world4 world5 world6 event5 (event6 ∷ []) step5 (run_on 6 world5 world6 world6 event6 [] step6 refl))))) closed_at_end;
}

-- a message that nobody wrote, whose code agrees
forged_at : HonestArrival [] second key_arrives → ⊥
forged_at h =
    let none = h (lead_under key_arrives _ taken_value) refl (verified_as key_message key key_own taken_value value_is) in
    omega (arith, none.stands.1)

pub forged_run : ForgedRun
forged_run = record {
  start = two_banks room;
  events = event2 ∷ [];
  is_start = two_banks_start room;
  are_events = (heard key_message key key_own, tt);
  number = 0;
  forged = forged_at;
}
