-- A data key that one bank sends another: the command, the arrival of its text, and that of the answer's text (ANSI X9.17).
use Rattle.std.specs.Prelude.{◌≡◌, ◌≤◌, ℕ, true, List, [], ◌∷◌, length, Some, None, codes}
use Rattle.x_base.specs.declared.party.Role.TheVariants.{Bank}
use Rattle.x_base.specs.declared.party.Side.{Side}
use Rattle.x_base.specs.declared.party.Side.TheVariants.{Sends, Takes}
use Rattle.x_mac.specs.declared.pair.Pair.{Pair}
use Rattle.x_gen.specs.declared.generator.Gen.{Gen}
use Rattle.x_gen.specs.Parity.{odd_parity_of}
use Rattle.x_gen.specs.Gen.{good_draw}
use Rattle.csm_grammar.specs.declared.arrival.Arrival.{Arrival}
use Rattle.party_tables.specs.declared.link.LinkRec.{LinkRec}
use Rattle.party_state.specs.declared.command.Command.TheVariants as command
use Rattle.party_state.specs.State.{Party}
use Rattle.change_code.specs.declared.space.Space.{Space}
use Rattle.member.specs.Member.{Member}
use Rattle.world_laws.specs.World.{World, member_at}
use Rattle.world_laws.specs.Hearing.{IsHeard}
use Rattle.world_laws.specs.Events.{Action, Orders, Hears, Whole, Event}
use Rattle.world_laws.specs.Steps.{step, run}
use Rattle.world_laws.specs.Honest.{HonestRun}
use Rattle.world_laws.specs.Reached.{HasLiveKey}

-- ---- the events

abbrev pub whole_event : List ℕ → ℕ → Action → Event
whole_event own moment action = record { party = own; moment = moment; action = action; completion = Whole }

abbrev pub started : List ℕ → List ℕ → ℕ → Event
started own peer moment = whole_event own moment (Orders (command.Start peer None))

abbrev pub arrived : List ℕ → ℕ → Arrival → Event
arrived own moment a = whole_event own moment (Hears a.text (Some a))

abbrev pub exchange_events : List ℕ → List ℕ → ℕ → Arrival → Arrival → List Event
exchange_events own peer moment key answer = started own peer moment ∷ arrived peer moment key ∷ arrived own moment answer ∷ []

-- the two texts are those that were written, each event is honest, and at the end the key is live and held
pub record KeyExchanged (start : World) (own peer : List ℕ) (moment : ℕ) : Type 0 where
  pub key : Arrival
  pub answer : Arrival
  pub first : Member
  pub second : Member
  pub third : Member
  pub key_heard : IsHeard key.text (Some key)
  pub answer_heard : IsHeard answer.text (Some answer)
  pub key_short : length key.text ≤ 1024
  pub answer_short : length answer.text ≤ 1024
  pub first_at : member_at own start.members ≡ Some first
  pub second_at : member_at peer (step 1 start (started own peer moment)).members ≡ Some second
  pub third_at : member_at own (step 2 (step 1 start (started own peer moment)) (arrived peer moment key)).members ≡ Some third
  pub key_written : (step 1 start (started own peer moment)).texts ≡ key.text ∷ []
  pub answer_written : (step 2 (step 1 start (started own peer moment)) (arrived peer moment key)).texts ≡ key.text ∷ answer.text ∷ []
  pub honest : HonestRun 1 start (exchange_events own peer moment key answer)
  pub live : HasLiveKey (run 1 start (exchange_events own peer moment key answer))

-- ---- a start

abbrev pub sender_name : List ℕ
sender_name = codes "BANKA"

abbrev pub receiver_name : List ℕ
receiver_name = codes "BANKB"

abbrev pub kk_label : List ℕ
kk_label = codes "K1"

abbrev pub loaded_link : List ℕ → Side → Pair → LinkRec
loaded_link peer side pair = record { peer = peer; label = kk_label; side = side; pair = pair; next = 1; ready = true }

abbrev pub bank_with : List ℕ → Gen → LinkRec → Party
bank_with own generator link = record { own = own; role = Bank; generator = generator; links = link ∷ []; keys = []; exchanges = []; answers = [] }

-- two banks with a key-encrypting key that was just loaded: of each its generator and its space
abbrev pub banks_with : Gen → Gen → Pair → Space → Space → World
banks_with g h pair s t = record {
  members = record { party = bank_with sender_name g (loaded_link receiver_name Sends pair); space = s }
      ∷ record { party = bank_with receiver_name h (loaded_link sender_name Takes pair); space = t } ∷ [];
  texts = [];
  facts = [];
  births = [];
  uses = [];
  acceptances = [];
}

-- room for some ten changes
abbrev pub HasRoom : Space → Type 0
HasRoom s = 10000 ≤ s.room

-- a generator under a weak key, with the seed 0
abbrev pub weak_generator : Gen
weak_generator = record { key = record { left = 0x0101010101010101; right = 0x0101010101010101 }; v = 0 }

-- at this moment it draws the moment itself, with odd parity
pub record DrawsMoment (moment : ℕ) : Type 0 where
  pub after : Gen
  pub draws : good_draw weak_generator moment ≡ Some (odd_parity_of moment, after)
