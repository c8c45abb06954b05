-- A distribution centre is asked again, with the count that the ultimate recipient expects (ANSI X9.17, error
-- recovery service), where an error message is about a key of its.
use Rattle.std.specs.Prelude.{ℕ, cond, is_none, List, [], ◌∷◌, Option, Some, None}
use Rattle.csm_grammar.specs.declared.message.Message.{Message}
use Rattle.csm_grammar.specs.declared.message.Message.TheVariants as message
use Rattle.csm_grammar.specs.declared.message.Esm.{Esm}
use Rattle.party_tables.specs.declared.exchange.Via.{Via}
use Rattle.party_tables.specs.declared.exchange.Via.TheVariants as vias
use Rattle.party_tables.specs.declared.exchange.Kind.TheVariants as kind
use Rattle.party_state.specs.declared.edit.Edit.{Edit}
use Rattle.party_state.specs.declared.edit.Edit.TheVariants.{PutExchange}
use Rattle.party_state.specs.State.{Party, centre_label, exchange_with}
use Rattle.party_state.specs.Rows.{Reply, Coded}
use Rattle.bank_arrivals.specs.declared.asking_again.Retry.{Retry}
use Rattle.bank_arrivals.specs.declared.error_message.ErrorSubject.{ErrorSubject}
use Rattle.bank_arrivals.specs.declared.error_message.ErrorSubject.TheVariants.{SentKey, SentTwins, Translated}
use Rattle.role_base.specs.Texts.{text_of, direct_name}

-- what the centre is asked, by the way of the key: where no exchange with the centre stands
abbrev pub retry_by : Party → Via → Option ℕ → Option Retry
retry_by p (vias.Distribution centre cta) (Some ctr) = cond (is_none (exchange_with centre p)) (Some (record { centre = centre; cta = cta; ctr = ctr })) None
retry_by p (vias.Distribution centre cta) None = None
retry_by p (vias.Direct label new) ctr = None
retry_by p (vias.Translation centre) ctr = None

abbrev pub retry_of : Party → ErrorSubject → Option ℕ → Option Retry
retry_of p (SentKey s) ctr = retry_by p s.via ctr
retry_of p (SentTwins t) ctr = None
retry_of p (Translated value cta) ctr = None

abbrev pub retry_in : Party → Option ErrorSubject → Option ℕ → Option Retry
retry_in p None ctr = None
retry_in p (Some s) ctr = retry_of p s ctr

abbrev pub ers_message : Party → Esm → Retry → Message
ers_message p m t = message.Ers (record { receiver = t.centre; originator = p.own; ultimate = m.originator; ctr = t.ctr; erf = m.erf })

-- its code is made under the key that the centre gave
abbrev pub ers_reply : Party → Esm → ℕ → Retry → Reply
ers_reply p m value t = Coded (ers_message p m t) (record { name = direct_name t.centre centre_label t.cta; recipient = p.own }) value

abbrev pub asked_again : Party → Esm → ℕ → Option Retry → List Edit
asked_again p m value None = []
asked_again p m value (Some t) = PutExchange (record { peer = t.centre; kind = kind.Asked m.originator; text = text_of (ers_reply p m value t) }) ∷ []

abbrev pub again_reply : Party → Esm → ℕ → Option Retry → Option Reply
again_reply p m value None = None
again_reply p m value (Some t) = Some (ers_reply p m value t)
