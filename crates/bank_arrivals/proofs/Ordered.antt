-- The tests of the other arrivals at a bank are made in the order, and a response writes nothing.
use Rattle.std.proofs.Common.{◌≡◌, ℕ, true, Option, Some, None, [], ◌∷◌, ◌++◌, refl}
use Rattle.x_base.specs.declared.key_name.KeyName.{KeyName}
use Rattle.x_base.specs.declared.verdict.Verdict.TheVariants.{BadMac}
use Rattle.x_gen.specs.declared.generator.Gen.{Gen}
use Rattle.csm_grammar.specs.declared.message.Rsi.{Rsi}
use Rattle.csm_grammar.specs.declared.message.Rsm.{Rsm}
use Rattle.csm_grammar.specs.declared.message.Esm.{Esm}
use Rattle.csm_grammar.specs.declared.message.Dsm.{Dsm}
use Rattle.csm_grammar.specs.declared.arrival.Arrival.{Arrival}
use Rattle.party_tables.specs.declared.key.KeyRec.{KeyRec}
use Rattle.party_tables.specs.declared.link.LinkRec.{LinkRec}
use Rattle.party_state.specs.State.{Party}
use Rattle.role_base.specs.declared.exchanges.Sent.{Sent}
use Rattle.role_base.specs.declared.exchanges.Twins.{Twins}
use Rattle.role_base.specs.Exchanges.{sent_to, twins_to, ending_with}
use Rattle.role_base.specs.Order.{InOrder}
use Rattle.role_base.specs.Sending.{sending_tests}
use Rattle.role_base.specs.Texts.{is_verified}
use Rattle.bank_arrivals.specs.declared.error_message.ErrorSubject.{ErrorSubject}
use Rattle.bank_arrivals.specs.declared.draws.TwinsDrawn.{TwinsDrawn}
use Rattle.bank_arrivals.specs.SendingTwins.{twins_tests}
use Rattle.bank_arrivals.specs.Rsi.{rsi_tests}
use Rattle.bank_arrivals.specs.Rsm.{rsm_front, twins_front, end_front, rsm_to, rsm_by, answer_to, rsm_with, rsm}
use Rattle.bank_arrivals.specs.Esm.{esm_front, plain_tests}
use Rattle.bank_arrivals.specs.Dsm.{dsm_front}

pub rsi_order : (p : Party) (a : Arrival) (m : Rsi) (found : Option LinkRec) (l : LinkRec) (drawn : Option (ℕ × Gen)) → InOrder (rsi_tests p a m found ++ sending_tests p l drawn)
rsi_order p a m found l drawn = refl

pub rsi_for_two_order : (p : Party) (a : Arrival) (m : Rsi) (found : Option LinkRec) (l : LinkRec) (drawn : Option TwinsDrawn) → InOrder (rsi_tests p a m found ++ twins_tests p l drawn)
rsi_for_two_order p a m found l drawn = refl

pub rsm_order : (p : Party) (a : Arrival) (m : Rsm) (found : Option Sent) (value : ℕ) → InOrder (rsm_front p m found ++ (is_verified a value, BadMac) ∷ [])
rsm_order p a m found value = refl

pub rsm_to_two_order : (p : Party) (a : Arrival) (m : Rsm) (value : ℕ) → InOrder (twins_front p m ++ (is_verified a value, BadMac) ∷ [])
rsm_to_two_order p a m value = refl

pub end_order : (p : Party) (a : Arrival) (m : Rsm) (name : KeyName) (found : Option KeyRec) (value : ℕ) → InOrder (end_front p m name found ++ (is_verified a value, BadMac) ∷ [])
end_order p a m name found value = refl

pub esm_order : (p : Party) (a : Arrival) (m : Esm) (found : Option ErrorSubject) (value : ℕ) → InOrder (esm_front p m found ++ (is_verified a value, BadMac) ∷ [])
esm_order p a m found value = refl

pub plain_order : (p : Party) (a : Arrival) (m : Esm) → InOrder (plain_tests p a m)
plain_order p a m = refl

pub dsm_order : (p : Party) (a : Arrival) (m : Dsm) (value : ℕ) → InOrder (dsm_front p m true ++ (is_verified a value, BadMac) ∷ [])
dsm_order p a m value = refl

-- what a response writes

abbrev Silent : Party → Arrival → Rsm → Option KeyName → Type 0
Silent p a m o = ((rsm_with p a m o).reply ≡ None) × ((rsm_with p a m o).answer ≡ None)

silent_with : (p : Party) (a : Arrival) (m : Rsm) (o : Option KeyName) → Silent p a m o
silent_with p a m None = by_twins (twins_to p m.originator)
  where
    by_sent : (s : Option Sent) → ((rsm_to p a m s).reply ≡ None) × ((rsm_to p a m s).answer ≡ None)
    by_sent None = (refl, refl)
    by_sent (Some s) = (refl, refl)

    by_twins : (t : Option Twins) → ((rsm_by p a m t).reply ≡ None) × ((rsm_by p a m t).answer ≡ None)
    by_twins None = by_sent (sent_to p m.originator)
    by_twins (Some t) = (refl, refl)
silent_with p a m (Some name) = by_record (ending_with p m.originator)
  where
    by_record : (k : Option KeyRec) → ((answer_to p a m name k).reply ≡ None) × ((answer_to p a m name k).answer ≡ None)
    by_record None = (refl, refl)
    by_record (Some k) = (refl, refl)

pub rsm_silent : (p : Party) (a : Arrival) (m : Rsm) → ((rsm p a m).reply ≡ None) × ((rsm p a m).answer ≡ None)
rsm_silent p a m = silent_with p a m m.idd
