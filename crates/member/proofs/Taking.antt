-- A message that brings a key is accepted at a bank alone, exactly where its key can be taken, or can go on.
use Rattle.std.proofs.Common.{◌≡◌, ◌↔◌, ℕ, false, List, [], ◌∷◌, Result, Ok, Err, IfOk, refl, sym, ap, subst, ◌∙◌}
use Rattle.std.proofs.lemmas.Bool.{both_ways}
use Rattle.x_base.specs.declared.party.Role.{Role}
use Rattle.x_base.specs.declared.party.Role.TheVariants.{Bank, Distribution, Translation}
use Rattle.x_base.specs.declared.text.NoMemory.{NoMemory}
use Rattle.x_base.specs.declared.verdict.Verdict.TheVariants.{Accept, NotForMe, UnknownPeer, WrongClass}
use Rattle.csm_grammar.specs.declared.message.Message.{Message}
use Rattle.csm_grammar.specs.declared.message.Ksm.{Ksm}
use Rattle.csm_grammar.specs.declared.message.Rtr.{Rtr}
use Rattle.csm_grammar.specs.declared.arrival.Arrival.{Arrival}
use Rattle.party_state.specs.declared.command.Input.{Input}
use Rattle.party_state.specs.declared.command.Input.TheVariants as input
use Rattle.party_state.specs.declared.decision.Decision.{Decision}
use Rattle.party_state.specs.State.{Party, knows}
use Rattle.party_state.specs.Verdicts.{Test, TestsHold}
use Rattle.party_state.specs.Rows.{Row}
use Rattle.role_base.specs.Conditions.{is_for, other_class, body_issuer}
use Rattle.role_base.specs.Deciding.{decision_of, Decides}
use Rattle.role_base.specs.Ranged.{IsRanged}
use Rattle.role_base.proofs.PartyLaws.{HeldAtAccept}
use Rattle.bank_keys.specs.Taking.{Brings, CanTake, TakesKeys}
use Rattle.bank_keys.specs.Passing.{Responds, CanPassOn, PassesKeys}
use Rattle.member.specs.BankDeciding.{decided}
use Rattle.member.specs.BankRows.{message_row}
use Rattle.distribution_role.specs.Rows.{distribution_message, distribution_row}
use Rattle.translation_role.specs.Rows.{translation_message, translation_row}
use Rattle.member.specs.Rows.{row_by, row_at}
use Rattle.member.specs.Deciding.{decision, IsDecided}
use Rattle.member.specs.Taking.{TakesAsBank, PassesAsBank}

-- a message of a class that isn't served is refused
not_served : HeldAtAccept → (p : Party) (receiver originator known : List ℕ) (r : Row) → r ≡ other_class p receiver originator known → r.verdict ≡ Accept → ⊥
not_served held p receiver originator known r is e =
    let ts : List Test = (is_for p receiver originator, NotForMe) ∷ (knows known p, UnknownPeer) ∷ (false, WrongClass) ∷ [] in
    let h : TestsHold ts = held ts refl (sym (ap (λ (x : Row). x.verdict) is) ∙ e) in
    both_ways false refl h.1.1.0

pub takes : HeldAtAccept → ((p : Party) (i : Input) (moment : ℕ) → TakesKeys p i (decided p i moment)) → (p : Party) (i : Input) (moment : ℕ) → TakesAsBank p i (decision p i moment)
unfolding decision
takes held bank p i moment = λ a m brought. by_role a m brought p.role refl
  where
    by_role : (a : Arrival) (m : Ksm) → Brings i a m → (r : Role) → p.role ≡ r → ((row_by r p i moment).verdict ≡ Accept) ↔ ((p.role ≡ Bank) × CanTake p a m)
    by_role a m brought Bank e = (λ h. (e, (bank p i moment a m brought).0 h), λ t. (bank p i moment a m brought).1 t.1)
    by_role a m brought Distribution e =
        let row : distribution_row p i moment ≡ other_class p m.receiver m.originator (body_issuer m.originator m.body) =
        ap (λ (x : Input). distribution_row p x moment) brought.arrived ∙ ap (λ (n : Message). distribution_message p a n moment) brought.message in
        (λ h. absurd (not_served held p m.receiver m.originator (body_issuer m.originator m.body) (distribution_row p i moment) row h), λ t. absurd (cc (e, t.0)))
    by_role a m brought Translation e =
        let row : translation_row p i ≡ other_class p m.receiver m.originator (body_issuer m.originator m.body) =
        ap (λ (x : Input). translation_row p x) brought.arrived ∙ ap (λ (n : Message). translation_message p a n) brought.message in
        (λ h. absurd (not_served held p m.receiver m.originator (body_issuer m.originator m.body) (translation_row p i) row h), λ t. absurd (cc (e, t.0)))

pub keys_pass : HeldAtAccept → ((p : Party) (i : Input) (moment : ℕ) → PassesKeys p i (decided p i moment)) → (p : Party) (i : Input) (moment : ℕ) → PassesAsBank p i (decision p i moment)
unfolding decision
keys_pass held bank p i moment = λ a m brought. by_role a m brought p.role refl
  where
    by_role : (a : Arrival) (m : Rtr) → Responds i a m → (r : Role) → p.role ≡ r → ((row_by r p i moment).verdict ≡ Accept) ↔ ((p.role ≡ Bank) × CanPassOn p a m)
    by_role a m brought Bank e = (λ h. (e, (bank p i moment a m brought).0 h), λ t. (bank p i moment a m brought).1 t.1)
    by_role a m brought Distribution e =
        let row : distribution_row p i moment ≡ other_class p m.receiver m.originator m.originator =
        ap (λ (x : Input). distribution_row p x moment) brought.arrived ∙ ap (λ (n : Message). distribution_message p a n moment) brought.message in
        (λ h. absurd (not_served held p m.receiver m.originator m.originator (distribution_row p i moment) row h), λ t. absurd (cc (e, t.0)))
    by_role a m brought Translation e =
        let row : translation_row p i ≡ other_class p m.receiver m.originator m.originator =
        ap (λ (x : Input). translation_row p x) brought.arrived ∙ ap (λ (n : Message). translation_message p a n) brought.message in
        (λ h. absurd (not_served held p m.receiver m.originator m.originator (translation_row p i) row h), λ t. absurd (cc (e, t.0)))

-- the row of a message at a bank
pub bank_row : (p : Party) (i : Input) (moment : ℕ) (a : Arrival) (m : Message) → i ≡ input.Arrived a → a.parsed.message ≡ m → row_by Bank p i moment ≡ message_row p a m moment
bank_row p i moment a m arrived is = ap (λ (x : Input). row_by Bank p x moment) arrived ∙ ap (λ (n : Message). message_row p a n moment) is

-- what is known of every decision is known of one that is made

pub decided_by : ((p : Party) (i : Input) (moment : ℕ) → TakesAsBank p i (decision p i moment)) → ((p : Party) (i : Input) (moment : ℕ) → PassesAsBank p i (decision p i moment))
    → (p : Party) (i : Input) (moment : ℕ) → IsRanged p (decision p i moment) → (role : Role) (made : Result Decision NoMemory) → p.role ≡ role → Decides p (row_by role p i moment) made → IfOk made (IsDecided p i moment)
unfolding decision
decided_by takes keys_pass p i moment ranged role (Ok d) r e =
    let is : d ≡ decision_of p (row_at p i moment) = e.is ∙ ap (λ (x : Role). decision_of p (row_by x p i moment)) (sym r) in
    record { is = is; kept = e.kept; short = rw is ranged.short; complete = rw is (takes p i moment); passed_on = rw is (keys_pass p i moment) }
decided_by takes keys_pass p i moment ranged role (Err f) r e = tt

-- the same at a bank, by the row of the input
pub decided_at_bank : ((p : Party) (i : Input) (moment : ℕ) → TakesAsBank p i (decision p i moment)) → ((p : Party) (i : Input) (moment : ℕ) → PassesAsBank p i (decision p i moment))
    → (p : Party) (i : Input) (moment : ℕ) → IsRanged p (decision p i moment) → (made : Result Decision NoMemory) (r : Row) → p.role ≡ Bank → row_by Bank p i moment ≡ r → Decides p r made → IfOk made (IsDecided p i moment)
decided_at_bank takes keys_pass p i moment ranged made r role row e = decided_by takes keys_pass p i moment ranged Bank made role (subst (λ (x : Row). Decides p x made) (sym row) e)
