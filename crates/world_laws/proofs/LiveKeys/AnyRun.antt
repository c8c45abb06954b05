-- One bank starts a data key with another, which takes it and answers; by the answer the key is live: whatever their generators,
-- the pair that they share, and their rooms, where those are large enough.
use Rattle.std.proofs.Common.{arith, ◌≡◌, ◌≤◌, ◌<◌, ◌^◌, ◌+◌, ℕ, true, Some, None, [], ◌∷◌, List, length, refl, ap, subst, sym, ◌∙◌, lit≤}
use Rattle.x_mac.specs.declared.pair.Pair.{Pair}
use Rattle.x_gen.specs.declared.generator.Gen.{Gen}
use Rattle.x_gen.specs.Gen.{good_draw}
use Rattle.x_seal.specs.Wrapped.{wrap_of, unwrap_of}
use Rattle.x_seal.proofs.Undoing.{unwraps}
use Rattle.x_base.specs.declared.party.Side.TheVariants.{Sends, Takes}
use Rattle.csm_grammar.specs.declared.arrival.Arrival.{Arrival}
use Rattle.csm_grammar.specs.declared.message.Message.{Message}
use Rattle.party_tables.specs.declared.link.LinkRec.{LinkRec}
use Rattle.party_tables.specs.declared.exchange.Exchange.{Exchange}
use Rattle.party_tables.specs.declared.key.KeyStatus.TheVariants.{Pending}
use Rattle.party_tables.specs.declared.exchange.Kind.TheVariants as kind
use Rattle.party_tables.specs.declared.exchange.Via.TheVariants as vias
use Rattle.party_state.specs.declared.command.Command.TheVariants as command
use Rattle.party_state.specs.declared.command.Input.TheVariants as input
use Rattle.party_state.specs.declared.edit.Edit.{Edit}
use Rattle.party_state.specs.declared.edit.Edit.TheVariants.{SetGen, PutLink, PutKey, PutExchange}
use Rattle.party_state.specs.State.{Party, apply}
use Rattle.party_state.specs.Verdicts.{is_accept}
use Rattle.party_state.specs.Rows.{Row}
use Rattle.role_base.specs.Texts.{text_of, direct_name}
use Rattle.role_base.specs.Sending.{data_key_message, data_key_reply, sending_drawn}
use Rattle.role_base.specs.Differing.{differing}
use Rattle.bank_orders.specs.Start.{start_tests}
use Rattle.bank_keys.specs.Ksm.{response}
use Rattle.member.specs.Member.{Member}
use Rattle.member.specs.Rows.{row_at}
use Rattle.change_code.specs.Code.{eight, kind_code, edits_code}
use Rattle.change_code.specs.Cost.{cost}
use Rattle.change_code.specs.declared.space.Space.{Space}
use Rattle.world_laws.specs.World.{World, member_at}
use Rattle.world_laws.specs.Steps.{step, run}
use Rattle.world_laws.specs.Honest.{HonestArrival, HonestRun}
use Rattle.world_laws.specs.Reached.{HasLiveKey}
use Rattle.world_laws.specs.Exchanged.{started, arrived, exchange_events, KeyExchanged, sender_name, receiver_name, kk_label, loaded_link, bank_with, banks_with, HasRoom}
use Rattle.world_laws.proofs.Texts.Own.{IsOwn}
use Rattle.world_laws.proofs.Texts.OwnMessages.{data_key_own, response_own}
use Rattle.world_laws.proofs.Texts.Drawn.{drawn_below}
use Rattle.world_laws.proofs.LiveKeys.Written.{arrival, heard, auth_is, verified_as, writable_own}
use Rattle.world_laws.proofs.LiveKeys.Stepping.{room_left, next_member, next_world, row_step, honest_on, run_on, fact_at}
use Rattle.world_laws.proofs.LiveKeys.Costs.{behind_edits, cost_short, exchange_long}

module _ (g h : Gen) (pair : Pair) (s t : Space) (moment : ℕ) (drawn : ℕ × Gen) (draws : good_draw g moment ≡ Some drawn) (roomy : HasRoom s) (roomy' : HasRoom t) where
  abbrev key : ℕ
  key = drawn.0

  below : key < 2 ^ 64
  below = drawn_below g moment drawn draws

  abbrev out : LinkRec
  out = loaded_link receiver_name Sends pair

  abbrev first : Party
  first = bank_with sender_name g out

  abbrev second : Party
  second = bank_with receiver_name h (loaded_link sender_name Takes pair)

  abbrev first_member : Member
  first_member = record { party = first; space = s }

  abbrev second_member : Member
  second_member = record { party = second; space = t }

  abbrev start : World
  start = banks_with g h pair s t

  -- the first sends the key

  abbrev start_row : Row
  start_row = sending_drawn first (start_tests first receiver_name (Some out)) out (Some drawn)

  starts : row_at first (input.Ordered (command.Start receiver_name None)) moment ≡ start_row
  starts = ap (sending_drawn first (start_tests first receiver_name (Some out)) out) draws

  abbrev key_message : Message
  key_message = data_key_message first out key

  key_own : IsOwn key_message
  key_own = data_key_own first out key refl (record { peer = refl; label = refl; next = record { low = omega arith; high = omega arith } }) (record { low = omega arith; high = omega arith })

  abbrev first_sent : Party
  first_sent = apply start_row.edits first

  -- the second takes it

  abbrev key_arrives : Arrival
  key_arrives = arrival key_message key key_own

  abbrev taken_value : ℕ
  taken_value = unwrap_of pair 1 (wrap_of pair 1 key)

  value_is : taken_value ≡ key
  value_is = unwraps pair 1 key below

  abbrev take_row : Row
  take_row = row_at second (input.Arrived key_arrives) moment

  taken : is_accept take_row.verdict ≡ true
  taken = rw (verified_as key_message key key_own taken_value value_is) refl

  abbrev answer_message : Message
  answer_message = response second sender_name

  answer_own : IsOwn answer_message
  answer_own = response_own second sender_name refl refl

  -- and the first hears its answer

  abbrev answer_arrives : Arrival
  answer_arrives = arrival answer_message taken_value answer_own

  abbrev live_row : Row
  live_row = row_at first_sent (input.Arrived answer_arrives) moment

  answered : is_accept live_row.verdict ≡ true
  answered = rw (verified_as answer_message taken_value answer_own key (sym value_is)) refl

  -- rooms

  abbrev sent_exchange : Exchange
  sent_exchange = record { peer = receiver_name; kind = kind.KeySent (direct_name sender_name kk_label 1) (vias.Direct kk_label None); text = text_of (data_key_reply first out key) }

  text_short : length (text_of (data_key_reply first out key)) ≤ 1024
  unfolding text_of
  text_short = (writable_own key_message key key_own).short

  -- the edits in front of the exchange
  abbrev others : List Edit
  others = SetGen drawn.1.v ∷ PutLink (record out { next = 2 }) ∷ PutKey (record { peer = receiver_name; name = direct_name sender_name kk_label 1; value = key; status = Pending }) ∷ []

  others_long : length (edits_code others) ≤ 2000
  unfolding eight
  others_long = lit≤ tt

  kind_long : length (kind_code sent_exchange.kind) ≤ 500
  unfolding eight
  kind_long = lit≤ tt

  sent_long : length (edits_code start_row.edits) ≤ 4000
  sent_long = omega (arith, behind_edits others (PutExchange sent_exchange), others_long, exchange_long sent_exchange, kind_long, text_short)

  taken_long : length (edits_code take_row.edits) ≤ 4000
  unfolding eight
  taken_long = lit≤ tt

  live_long : length (edits_code live_row.edits) ≤ 4000
  unfolding eight
  live_long = lit≤ tt

  sent_fits : cost s.format (differing first start_row.edits) ≤ 4012
  sent_fits = cost_short s.format first start_row.edits 4000 sent_long

  taken_fits : cost t.format (differing second take_row.edits) ≤ 4012
  taken_fits = cost_short t.format second take_row.edits 4000 taken_long

  live_fits : cost s.format (differing first_sent live_row.edits) ≤ 4012
  live_fits = cost_short s.format first_sent live_row.edits 4000 live_long

  -- the networks

  abbrev sent_member : Member
  sent_member = next_member first_member start_row

  abbrev taken_member : Member
  taken_member = next_member second_member take_row

  abbrev world_sent : World
  world_sent = next_world 1 start first_member (input.Ordered (command.Start receiver_name None)) start_row

  abbrev world_taken : World
  world_taken = next_world 2 world_sent second_member (input.Arrived key_arrives) take_row

  abbrev world_live : World
  world_live = next_world 3 world_taken sent_member (input.Arrived answer_arrives) live_row

  first_step : step 1 start (started sender_name receiver_name moment) ≡ world_sent
  first_step = row_step 1 start first_member (input.Ordered (command.Start receiver_name None)) moment start_row tt (refl, tt) starts refl (omega (arith, sent_fits, roomy))

  second_step : step 2 world_sent (arrived receiver_name moment key_arrives) ≡ world_taken
  second_step = row_step 2 world_sent second_member (input.Arrived key_arrives) moment take_row tt (refl, tt) refl taken (omega (arith, taken_fits, roomy'))

  third_step : step 3 world_taken (arrived sender_name moment answer_arrives) ≡ world_live
  third_step =
      let rest : cost s.format (differing first_sent live_row.edits) + 1 ≤ 5000 = omega (arith, live_fits) in
      row_step 3 world_taken sent_member (input.Arrived answer_arrives) moment live_row tt (refl, tt) refl answered
      (room_left (differing first start_row.edits) s (cost s.format (differing first_sent live_row.edits) + 1) (omega (arith, sent_fits, rest, roomy)))

  -- each code that agrees was made

  key_honest : HonestArrival world_sent.facts second key_arrives
  key_honest = fact_at world_sent.facts second key_arrives _ taken_value _ sender_name refl (0, omega arith, refl) (auth_is key_message key key_own)

  answer_honest : HonestArrival world_taken.facts first_sent answer_arrives
  answer_honest = fact_at world_taken.facts first_sent answer_arrives _ key _ receiver_name refl (1, omega arith, refl) (auth_is answer_message taken_value answer_own)

  honest_run : HonestRun 1 start (exchange_events sender_name receiver_name moment key_arrives answer_arrives)
  honest_run =
      honest_on 1 start world_sent (started sender_name receiver_name moment) (arrived receiver_name moment key_arrives ∷ arrived sender_name moment answer_arrives ∷ []) first_step tt
      (honest_on 2 world_sent world_taken (arrived receiver_name moment key_arrives) (arrived sender_name moment answer_arrives ∷ []) second_step key_honest
      (honest_on 3 world_taken world_live (arrived sender_name moment answer_arrives) [] third_step answer_honest tt))

  end_is : run 1 start (exchange_events sender_name receiver_name moment key_arrives answer_arrives) ≡ world_live
  end_is =
      run_on 1 start world_sent world_live (started sender_name receiver_name moment) (arrived receiver_name moment key_arrives ∷ arrived sender_name moment answer_arrives ∷ []) first_step
      (run_on 2 world_sent world_taken world_live (arrived receiver_name moment key_arrives) (arrived sender_name moment answer_arrives ∷ []) second_step
      (run_on 3 world_taken world_live world_live (arrived sender_name moment answer_arrives) [] third_step refl))

  two_steps : step 2 (step 1 start (started sender_name receiver_name moment)) (arrived receiver_name moment key_arrives) ≡ world_taken
  two_steps = ap (λ (w : World). step 2 w (arrived receiver_name moment key_arrives)) first_step ∙ second_step

  live_at_end : HasLiveKey world_live
  live_at_end = record {
    member = next_member sent_member live_row;
    at = refl;
    key = record { peer = receiver_name; name = direct_name sender_name kk_label 1 };
    mine = refl;
    entry = _;
    found = refl;
    live = refl;
    held = record { member = taken_member; at = refl; entry = _; found = refl; held = tt; value_is = value_is };
  }

  pub exchanged : KeyExchanged start sender_name receiver_name moment
  unfolding text_of
  exchanged = record {
    key = key_arrives;
    answer = answer_arrives;
    first = first_member;
    second = second_member;
    third = sent_member;
    key_heard = heard key_message key key_own;
    answer_heard = heard answer_message taken_value answer_own;
    key_short = (writable_own key_message key key_own).short;
    answer_short = (writable_own answer_message taken_value answer_own).short;
    first_at = refl;
    second_at = ap (λ (w : World). member_at receiver_name w.members) first_step;
    third_at = ap (λ (w : World). member_at sender_name w.members) two_steps;
    key_written = ap (λ (w : World). w.texts) first_step;
    answer_written = ap (λ (w : World). w.texts) two_steps;
    honest = honest_run;
    live = subst HasLiveKey (sym end_is) live_at_end;
  }
