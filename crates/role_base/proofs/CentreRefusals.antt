-- What a centre serves besides requests, and how it refuses everything else.
use Rattle.std.proofs.Common.{◌≡◌, ◌≢◌, ◌⊎◌, inl, inr, ◌↔◌, ℕ, Bool, true, false, cond, bytes_eq, List, refl, ap, ◌∙◌}
use Rattle.std.proofs.lemmas.Bool.{false_from_ne_true}
use Rattle.std.proofs.lemmas.Slice.Eq.{bytes_eq-Decides}
use Rattle.x_base.specs.declared.party.Side.{Side}
use Rattle.x_base.specs.declared.verdict.Verdict.TheVariants.{Accept, NotForMe, UnknownPeer, WrongClass}
use Rattle.x_mac.specs.declared.pair.Pair.{Pair}
use Rattle.party_state.specs.declared.command.Command.{Command}
use Rattle.party_state.specs.declared.command.Command.TheVariants as command
use Rattle.party_state.specs.State.{Party, centre_label, knows}
use Rattle.party_state.specs.Rows.{refused}
use Rattle.role_base.specs.Conditions.{is_for, other_class}
use Rattle.role_base.specs.Load.{load}
use Rattle.role_base.specs.Loading.{CanLoad}
use Rattle.role_base.proofs.Addressed.{for_me, mine}
use Rattle.role_base.specs.Centres.{centre_command}
use Rattle.role_base.specs.Serving.{IsOwnLoad, LoadsOwn, RefusesAnswer, RefusesOther}
use Rattle.role_base.specs.Centres.{unserved}

-- whom a message is for

astray : (p : Party) (receiver originator : List ℕ) → (receiver ≢ p.own) ⊎ (originator ≡ p.own) → is_for p receiver originator ≡ false
astray p receiver originator (inl n) = false_from_ne_true (is_for p receiver originator) (λ h. n (for_me p receiver originator h).0)
astray p receiver originator (inr e) = false_from_ne_true (is_for p receiver originator) (λ h. (for_me p receiver originator h).1 e)

pub refuses_answer : (p : Party) (receiver originator : List ℕ) → RefusesAnswer p receiver originator (unserved p receiver originator).verdict
refuses_answer p receiver originator = record {
  astray = λ h. ap (λ (b : Bool). cond b WrongClass NotForMe) (astray p receiver originator h);
  other = λ r o. ap (λ (b : Bool). cond b WrongClass NotForMe) (mine p receiver originator r o);
}

pub refuses_other : (p : Party) (receiver originator known : List ℕ) → RefusesOther p receiver originator known (other_class p receiver originator known).verdict
refuses_other p receiver originator known = record {
  astray = λ h. ap (λ (b : Bool). cond b (cond (knows known p) WrongClass UnknownPeer) NotForMe) (astray p receiver originator h);
  unknown = λ r o k. ap (λ (b : Bool). cond b (cond (knows known p) WrongClass UnknownPeer) NotForMe) (mine p receiver originator r o) ∙ ap (λ (b : Bool). cond b WrongClass UnknownPeer) k;
  other = λ r o k. ap (λ (b : Bool). cond b (cond (knows known p) WrongClass UnknownPeer) NotForMe) (mine p receiver originator r o) ∙ ap (λ (b : Bool). cond b WrongClass UnknownPeer) k;
}

-- none of them is accepted

pub no_answer : (p : Party) (receiver originator : List ℕ) → (unserved p receiver originator).verdict ≡ Accept → ⊥
no_answer p receiver originator e = go (is_for p receiver originator) e
  where
    go : (b : Bool) → cond b WrongClass NotForMe ≡ Accept → ⊥
    go true h = cc
    go false h = cc

pub no_other : (p : Party) (receiver originator known : List ℕ) → (other_class p receiver originator known).verdict ≡ Accept → ⊥
no_other p receiver originator known e = go (is_for p receiver originator) (knows known p) e
  where
    go : (b k : Bool) → cond b (cond k WrongClass UnknownPeer) NotForMe ≡ Accept → ⊥
    go true true h = cc
    go true false h = cc
    go false k h = cc

-- commands

abbrev pub LoadsExactly : Type 0
LoadsExactly = (p : Party) (peer label : List ℕ) (side : Side) (pair : Pair) → ((load p peer label side pair).verdict ≡ Accept) ↔ CanLoad p peer label side pair

refused_not : WrongClass ≡ Accept → ⊥
refused_not h = cc

pub commands_exactly : LoadsExactly → (p : Party) (c : Command) → ((centre_command p c).verdict ≡ Accept) ↔ LoadsOwn p c
commands_exactly loads p (command.Load peer label side pair) = (accepts (bytes_eq label centre_label) refl, accepted)
  where
    accepts : (b : Bool) → bytes_eq label centre_label ≡ b → (cond b (load p peer label side pair) (refused WrongClass)).verdict ≡ Accept → LoadsOwn p (command.Load peer label side pair)
    accepts true e h = ((bytes_eq-Decides label centre_label).0 e, (loads p peer label side pair).0 h)
    accepts false e h = absurd (refused_not h)

    accepted : LoadsOwn p (command.Load peer label side pair) → (centre_command p (command.Load peer label side pair)).verdict ≡ Accept
    accepted l = ap (λ (b : Bool). (cond b (load p peer label side pair) (refused WrongClass)).verdict) ((bytes_eq-Decides label centre_label).1 l.0) ∙ (loads p peer label side pair).1 l.1
commands_exactly loads p (command.Start peer label) = (refused_not, λ x. absurd x)
commands_exactly loads p (command.StartKk peer label new single) = (refused_not, λ x. absurd x)
commands_exactly loads p (command.Ask peer ultimate) = (refused_not, λ x. absurd x)
commands_exactly loads p (command.Translate centre ultimate) = (refused_not, λ x. absurd x)
commands_exactly loads p (command.Resend peer) = (refused_not, λ x. absurd x)
commands_exactly loads p (command.End peer name) = (refused_not, λ x. absurd x)
commands_exactly loads p (command.Drop peer) = (refused_not, λ x. absurd x)
commands_exactly loads p command.Purge = (refused_not, λ x. absurd x)

pub other_commands : (p : Party) (c : Command) → (IsOwnLoad c → ⊥) → (centre_command p c).verdict ≡ WrongClass
other_commands p (command.Load peer label side pair) n = ap (λ (b : Bool). (cond b (load p peer label side pair) (refused WrongClass)).verdict) (false_from_ne_true (bytes_eq label centre_label) (λ h. n ((bytes_eq-Decides label centre_label).0 h)))
other_commands p (command.Start peer label) n = refl
other_commands p (command.StartKk peer label new single) n = refl
other_commands p (command.Ask peer ultimate) n = refl
other_commands p (command.Translate centre ultimate) n = refl
other_commands p (command.Resend peer) n = refl
other_commands p (command.End peer name) n = refl
other_commands p (command.Drop peer) n = refl
other_commands p command.Purge n = refl

-- an accepted command is a loading under the label of centres
pub own_load : (p : Party) (c : Command) → LoadsOwn p c → IsOwnLoad c
own_load p (command.Load peer label side pair) l = l.0
own_load p (command.Start peer label) l = l
own_load p (command.StartKk peer label new single) l = l
own_load p (command.Ask peer ultimate) l = l
own_load p (command.Translate centre ultimate) l = l
own_load p (command.Resend peer) l = l
own_load p (command.End peer name) l = l
own_load p (command.Drop peer) l = l
own_load p command.Purge l = l
