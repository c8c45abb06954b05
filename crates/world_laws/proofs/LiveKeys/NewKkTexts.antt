-- The messages by which a new key-encrypting key goes to a bank, and then a data key under it; and what they make of both.
use Rattle.std.proofs.Common.{arith, ◌≡◌, ℕ, true, false, Some, None, List, refl, ◌∙◌, ap, sym, codes}
use Rattle.x_mac.specs.declared.pair.Pair.{Pair}
use Rattle.x_seal.specs.Wrapped.{wrap_of, unwrap_of}
use Rattle.x_seal.proofs.Undoing.{unwraps}
use Rattle.csm_grammar.specs.declared.arrival.Arrival.{Arrival}
use Rattle.csm_grammar.specs.declared.message.Message.{Message}
use Rattle.party_state.specs.declared.command.Command.{Command}
use Rattle.party_state.specs.declared.command.Command.TheVariants as command
use Rattle.party_state.specs.declared.command.Input.TheVariants as input
use Rattle.party_tables.specs.declared.link.LinkRec.{LinkRec}
use Rattle.party_state.specs.State.{Party, apply, has_pair}
use Rattle.party_state.specs.Verdicts.{is_accept}
use Rattle.party_state.specs.Rows.{Row}
use Rattle.role_base.specs.Sending.{data_key_message, sending_drawn}
use Rattle.bank_orders.specs.Start.{start_tests}
use Rattle.bank_keys.specs.Ksm.{response}
use Rattle.bank_orders.specs.declared.draws.KkDrawn.{KkDrawn}
use Rattle.bank_orders.specs.Draws.{key_drawn, right_drawn, left_drawn, kk_drawn}
use Rattle.bank_orders.specs.StartKk.{sealed_kk, fresh_link, kk_message, kk_sending}
use Rattle.bank_keys.specs.Ksm.{opened_kk}
use Rattle.member.specs.Rows.{row_at}
use Rattle.world_laws.proofs.Texts.Own.{IsOwn}
use Rattle.world_laws.proofs.Texts.OwnMessages.{kk_own, data_key_own, response_own}
use Rattle.world_laws.proofs.Agreeing.SendingRows.{kk_draw_sound, opened_is}
use Rattle.world_laws.proofs.LiveKeys.Drawing.{key, generator, moment, draws_key}
use Rattle.world_laws.proofs.LiveKeys.Parties.{banka, bankb, first_pair}
use Rattle.world_laws.proofs.LiveKeys.TwoBanks.{out, first, second}
use Rattle.world_laws.proofs.LiveKeys.Written.{arrival, verified_as}

abbrev pub new_label : List ℕ
new_label = codes "K2"

-- both halves of the new pair and the data key are drawn

abbrev pub new_kk : KkDrawn
new_kk = record { pair = record { left = key; right = key }; key = key; v = generator.v }

kk_is : kk_drawn generator moment false ≡ Some new_kk
unfolding kk_drawn
kk_is = ap (left_drawn moment false) draws_key ∙ (ap (right_drawn moment key) draws_key ∙ ap (key_drawn (record { left = key; right = key })) draws_key)

-- the first bank sends them

abbrev pub kk_row : Row
kk_row = kk_sending first (start_tests first bankb (Some out)) out new_label false (Some new_kk)

abbrev pub kk_command : Command
kk_command = command.StartKk bankb None new_label false

pub kk_started : row_at first (input.Ordered kk_command) moment ≡ kk_row
kk_started = ap (kk_sending first (start_tests first bankb (Some out)) out new_label false) kk_is

abbrev pub kk_text : Message
kk_text = kk_message first out new_label false new_kk

pub kk_text_own : IsOwn kk_text
kk_text_own = kk_own first out new_label false new_kk refl (record { peer = refl; label = refl; next = record { low = omega arith; high = omega arith } }) refl (record { low = omega arith; high = omega arith })

abbrev pub first_sent : Party
first_sent = apply kk_row.edits first

-- the second takes them

abbrev pub kk_arrives : Arrival
kk_arrives = arrival kk_text key kk_text_own

abbrev pub opened : Pair
opened = opened_kk first_pair 1 (sealed_kk first_pair 1 false new_kk.pair)

opened_pair : opened ≡ new_kk.pair
opened_pair = opened_is first_pair 1 false new_kk (kk_draw_sound generator moment false new_kk kk_is)

abbrev pub kk_value : ℕ
kk_value = unwrap_of opened 1 (wrap_of new_kk.pair 1 key)

kk_value_is : kk_value ≡ key
kk_value_is = ap (λ (p : Pair). unwrap_of p 1 (wrap_of new_kk.pair 1 key)) opened_pair ∙ unwraps new_kk.pair 1 key (omega arith)

pair_fresh : has_pair opened second ≡ false
pair_fresh = ap (λ (p : Pair). has_pair p second) opened_pair

abbrev pub take_row : Row
take_row = row_at second (input.Arrived kk_arrives) 0

pub taken : is_accept take_row.verdict ≡ true
taken = rw (verified_as kk_text key kk_text_own kk_value kk_value_is, pair_fresh) refl

abbrev pub second_taken : Party
second_taken = apply take_row.edits second

abbrev pub answer_message : Message
answer_message = response second banka

pub answer_own : IsOwn answer_message
answer_own = response_own second banka refl refl

-- and the first hears its answer

abbrev pub answer_arrives : Arrival
answer_arrives = arrival answer_message kk_value answer_own

abbrev pub ready_row : Row
ready_row = row_at first_sent (input.Arrived answer_arrives) 0

pub answered : is_accept ready_row.verdict ≡ true
answered = rw (verified_as answer_message kk_value answer_own key (sym kk_value_is)) refl

abbrev pub first_ready : Party
first_ready = apply ready_row.edits first_sent

-- it sends a key under the new key-encrypting key

abbrev pub new_out : LinkRec
new_out = record (fresh_link out new_label new_kk.pair) { ready = true }

abbrev pub start_row : Row
start_row = sending_drawn first_ready (start_tests first_ready bankb (Some new_out)) new_out (Some (key, generator))

abbrev pub start_command : Command
start_command = command.Start bankb (Some new_label)

pub started : row_at first_ready (input.Ordered start_command) moment ≡ start_row
started = ap (sending_drawn first_ready (start_tests first_ready bankb (Some new_out)) new_out) draws_key

abbrev pub key_message : Message
key_message = data_key_message first_ready new_out key

pub key_own : IsOwn key_message
key_own = data_key_own first_ready new_out key refl (record { peer = refl; label = refl; next = record { low = omega arith; high = omega arith } }) (record { low = omega arith; high = omega arith })

abbrev pub first_again : Party
first_again = apply start_row.edits first_ready

-- the second takes it

abbrev pub key_arrives : Arrival
key_arrives = arrival key_message key key_own

abbrev pub key_value : ℕ
key_value = unwrap_of opened 2 (wrap_of new_kk.pair 2 key)

pub key_value_is : key_value ≡ key
key_value_is = ap (λ (p : Pair). unwrap_of p 2 (wrap_of new_kk.pair 2 key)) opened_pair ∙ unwraps new_kk.pair 2 key (omega arith)

abbrev pub held_row : Row
held_row = row_at second_taken (input.Arrived key_arrives) 0

pub held : is_accept held_row.verdict ≡ true
held = rw (verified_as key_message key key_own key_value key_value_is) refl

abbrev pub last_message : Message
last_message = response second_taken banka

pub last_own : IsOwn last_message
last_own = response_own second_taken banka refl refl

-- and the first hears its answer

abbrev pub last_arrives : Arrival
last_arrives = arrival last_message key_value last_own

abbrev pub live_row : Row
live_row = row_at first_again (input.Arrived last_arrives) 0

pub live : is_accept live_row.verdict ≡ true
live = rw (verified_as last_message key_value last_own key (sym key_value_is)) refl
