-- What a key distribution centre serves, and how it refuses everything else.
use Rattle.std.proofs.Common.{◌≡◌, ◌↔◌, ℕ, List, refl, subst}
use Rattle.x_base.specs.declared.verdict.Verdict.TheVariants.{Accept}
use Rattle.csm_grammar.specs.declared.message.Message.{Message}
use Rattle.csm_grammar.specs.declared.message.Message.TheVariants as message
use Rattle.csm_grammar.specs.declared.message.KsmBody.{KsmBody}
use Rattle.csm_grammar.specs.declared.message.KsmBody.TheVariants as body
use Rattle.csm_grammar.specs.declared.arrival.Arrival.{Arrival}
use Rattle.party_state.specs.declared.command.Command.{Command}
use Rattle.party_state.specs.declared.command.Input.{Input}
use Rattle.party_state.specs.declared.command.Input.TheVariants as input
use Rattle.party_state.specs.State.{Party}
use Rattle.role_base.specs.Conditions.{other_class, body_issuer}
use Rattle.role_base.specs.Centres.{centre_command}
use Rattle.role_base.specs.Serving.{LoadsOwn, RefusesAnswer, RefusesOther, names}
use Rattle.role_base.specs.Centres.{unserved}
use Rattle.role_base.proofs.CentreRefusals.{no_answer, no_other, own_load}
use Rattle.distribution_role.specs.Rows.{distribution_message, distribution_row}
use Rattle.distribution_role.specs.Serves.{IsRequest, IsServed, Refuses}

request : (p : Party) (a : Arrival) (m : Message) (moment : ℕ) → (distribution_message p a m moment).verdict ≡ Accept → IsRequest m
request p a (message.Rsi m) moment e = tt
request p a (message.Ers m) moment e = tt
request p a (message.Rfs m) moment e = absurd (no_other p m.receiver m.originator m.originator e)
request p a (message.Rtr m) moment e = absurd (no_other p m.receiver m.originator m.originator e)
request p a (message.Ksm m) moment e = absurd (no_other p m.receiver m.originator (body_issuer m.originator m.body) e)
request p a (message.Rsm m) moment e = absurd (no_answer p m.receiver m.originator e)
request p a (message.Esm m) moment e = absurd (no_answer p m.receiver m.originator e)
request p a (message.Dsm m) moment e = absurd (no_answer p m.receiver m.originator e)

abbrev pub CommandsExactly : Type 0
CommandsExactly = (p : Party) (c : Command) → ((centre_command p c).verdict ≡ Accept) ↔ LoadsOwn p c

-- what is accepted is served
pub serves_only : CommandsExactly → (p : Party) (i : Input) (moment : ℕ) → (distribution_row p i moment).verdict ≡ Accept → IsServed i
serves_only commands p (input.Ordered c) moment e = own_load p c ((commands p c).0 e)
serves_only commands p (input.Arrived a) moment e = request p a a.parsed.message moment e

issuer_is : (originator : List ℕ) (b : KsmBody) → body_issuer originator b ≡ names originator b
issuer_is originator (body.Direct idk2 new kd ctp) = refl
issuer_is originator (body.Centre centre kdu ctb) = refl
issuer_is originator (body.Twin idk2 first second ctp) = refl

-- how the others are refused

abbrev pub AnswersRefused : Type 0
AnswersRefused = (p : Party) (receiver originator : List ℕ) → RefusesAnswer p receiver originator (unserved p receiver originator).verdict

abbrev pub OthersRefused : Type 0
OthersRefused = (p : Party) (receiver originator known : List ℕ) → RefusesOther p receiver originator known (other_class p receiver originator known).verdict

refuses : AnswersRefused → OthersRefused → (p : Party) (a : Arrival) (m : Message) (moment : ℕ) → Refuses p m (distribution_message p a m moment).verdict
refuses answers others p a (message.Rsi m) moment = tt
refuses answers others p a (message.Ers m) moment = tt
refuses answers others p a (message.Rfs m) moment = others p m.receiver m.originator m.originator
refuses answers others p a (message.Rtr m) moment = others p m.receiver m.originator m.originator
refuses answers others p a (message.Ksm m) moment = subst (λ (k : List ℕ). RefusesOther p m.receiver m.originator k (other_class p m.receiver m.originator (body_issuer m.originator m.body)).verdict) (issuer_is m.originator m.body) (others p m.receiver m.originator (body_issuer m.originator m.body))
refuses answers others p a (message.Rsm m) moment = answers p m.receiver m.originator
refuses answers others p a (message.Esm m) moment = answers p m.receiver m.originator
refuses answers others p a (message.Dsm m) moment = answers p m.receiver m.originator

pub refuses_others : AnswersRefused → OthersRefused → (p : Party) (a : Arrival) (moment : ℕ) → Refuses p a.parsed.message (distribution_row p (input.Arrived a) moment).verdict
refuses_others answers others p a moment = refuses answers others p a a.parsed.message moment
