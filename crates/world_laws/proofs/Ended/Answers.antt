-- Of what each event adds, the answers to the end of a key.
use Rattle.std.proofs.Common.{◌≡◌, ℕ, Bool, true, false, cond, Option, Some, None, List, [], ◌∷◌, ◌++◌, refl, sym, ◌∙◌, ap}
use Rattle.csm_grammar.specs.declared.arrival.Arrival.{Arrival}
use Rattle.csm_grammar.specs.declared.message.Message.{Message}
use Rattle.csm_grammar.specs.declared.message.Message.TheVariants as message
use Rattle.x_base.specs.declared.key_name.KeyName.{KeyName}
use Rattle.party_state.specs.declared.command.Input.TheVariants as input
use Rattle.party_state.specs.Rows.{Class, OfRsi, OfRfs, OfRtr, OfKsm, OfRsm, OfAnswer, OfEsm, OfErs, OfDsm}
use Rattle.party_state.specs.State.{Party}
use Rattle.member.specs.Member.{Member, plan_at}
use Rattle.world_laws.specs.World.{Acceptance, World, member_at}
use Rattle.world_laws.specs.Events.{Action, Orders, Hears, Compacts, Migrates, Completion, Event}
use Rattle.world_laws.specs.Steps.{step}
use Rattle.world_laws.specs.Answered.{is_end_answer, answers_in, is_key_or_end, keys_and_ends, answer_of, message_answers, message_acceptances, stands, AcceptancesAdded, AnswersAdded}
use Rattle.world_laws.proofs.Ended.Steps.{filter_both, acceptances_added}

answer_is : (c : Class) → is_end_answer c ≡ true → is_key_or_end c ≡ true
answer_is OfRsi h = absurd (cc)
answer_is OfRfs h = absurd (cc)
answer_is OfRtr h = absurd (cc)
answer_is OfKsm h = absurd (cc)
answer_is OfRsm h = absurd (cc)
answer_is OfAnswer h = refl
answer_is OfEsm h = absurd (cc)
answer_is OfErs h = absurd (cc)
answer_is OfDsm h = absurd (cc)

answers_among : (accs : List Acceptance) → answers_in (keys_and_ends accs) ≡ answers_in accs
answers_among [] = refl
answers_among (a ∷ accs) = go (is_end_answer a.class) refl (is_key_or_end a.class) refl (answers_among accs)
  where
    go : (b : Bool) → is_end_answer a.class ≡ b → (c : Bool) → is_key_or_end a.class ≡ c → answers_in (keys_and_ends accs) ≡ answers_in accs → answers_in (cond c (a ∷ keys_and_ends accs) (keys_and_ends accs)) ≡ cond b (a ∷ answers_in accs) (answers_in accs)
    go true e true f ih = rw e (ap (λ (l : List Acceptance). a ∷ l) ih)
    go true e false f ih = let t : is_key_or_end a.class ≡ true = answer_is a.class e in absurd (cc)
    go false e true f ih = rw e ih
    go false e false f ih = ih

-- of what a message is, the answer
answer_told : (p : Party) (a : Arrival) (m : Message) → answers_in (message_acceptances p a m) ≡ message_answers p a m
answer_told p a (message.Rsi m) = refl
answer_told p a (message.Rfs m) = refl
answer_told p a (message.Rtr m) = refl
answer_told p a (message.Ksm m) = refl
answer_told p a (message.Rsm m) = by_name m.idd
  where
    by_name : (o : Option KeyName) → answers_in (answer_of p a m.originator o) ≡ answer_of p a m.originator o
    by_name None = refl
    by_name (Some name) = refl
answer_told p a (message.Ers m) = refl
answer_told p a (message.Esm m) = refl
answer_told p a (message.Dsm m) = refl

unchanged : (accs more : List Acceptance) → keys_and_ends more ≡ keys_and_ends accs → answers_in more ≡ answers_in accs
unchanged accs more h = sym (answers_among more) ∙ (ap answers_in h ∙ answers_among accs)

answers_of : (w after : World) (x : Member) (moment : ℕ) (how : Completion) (d : Action) → AcceptancesAdded w after x moment how d → AnswersAdded w after x moment how d
answers_of w after x moment how (Orders c) h = unchanged w.acceptances after.acceptances h
answers_of w after x moment how (Hears bytes (Some a)) h =
    sym (answers_among after.acceptances) ∙ (ap answers_in h ∙ (filter_both (λ (e : Acceptance). is_end_answer e.class) (keys_and_ends w.acceptances) _ ∙ λ i. answers_among w.acceptances i ++ by_stands (stands (plan_at x (input.Arrived a) moment) how) i))
  where
    by_stands : (t : Bool) → answers_in (cond t (message_acceptances x.party a a.parsed.message) []) ≡ cond t (message_answers x.party a a.parsed.message) []
    by_stands true = answer_told x.party a a.parsed.message
    by_stands false = refl
answers_of w after x moment how (Hears bytes None) h = unchanged w.acceptances after.acceptances h
answers_of w after x moment how Compacts h = unchanged w.acceptances after.acceptances h
answers_of w after x moment how Migrates h = unchanged w.acceptances after.acceptances h

pub answers_added : (n : ℕ) (w : World) (e : Event) (x : Member) → member_at e.party w.members ≡ Some x → AnswersAdded w (step n w e) x e.moment e.completion e.action
answers_added n w e x at = answers_of w (step n w e) x e.moment e.completion e.action (acceptances_added n w e x at)
