-- What a centre serves besides requests, and how it refuses everything else (this project's profile).
use Rattle.std.specs.Prelude.{ℕ, ◌≡◌, ◌≢◌, ◌⊎◌, true, false, List}
use Rattle.x_base.specs.declared.verdict.Verdict.{Verdict}
use Rattle.x_base.specs.declared.verdict.Verdict.TheVariants.{NotForMe, UnknownPeer, WrongClass}
use Rattle.csm_grammar.specs.declared.message.KsmBody.{KsmBody}
use Rattle.csm_grammar.specs.declared.message.KsmBody.TheVariants as body
use Rattle.party_state.specs.declared.command.Command.{Command}
use Rattle.party_state.specs.declared.command.Command.TheVariants as command
use Rattle.party_state.specs.State.{Party, centre_label, knows}
use Rattle.role_base.specs.Loading.{CanLoad}

-- loading under the label of centres
abbrev pub IsOwnLoad : Command → Type 0
IsOwnLoad (command.Load peer label side pair) = label ≡ centre_label
IsOwnLoad _ = ⊥

-- and of a key-encrypting key that can be loaded
abbrev pub LoadsOwn : Party → Command → Type 0
LoadsOwn p (command.Load peer label side pair) = (label ≡ centre_label) × CanLoad p peer label side pair
LoadsOwn p _ = ⊥

-- a response, an error message or a disconnection, which no centre serves
pub record RefusesAnswer (p : Party) (receiver originator : List ℕ) (v : Verdict) : Type 0 where
  -- it isn't for this centre, or comes from it
  pub astray : (receiver ≢ p.own) ⊎ (originator ≡ p.own) → v ≡ NotForMe
  pub other : receiver ≡ p.own → originator ≢ p.own → v ≡ WrongClass

-- another message that isn't served, whose sender, or the centre that it names, is to be known
pub record RefusesOther (p : Party) (receiver originator known : List ℕ) (v : Verdict) : Type 0 where
  pub astray : (receiver ≢ p.own) ⊎ (originator ≡ p.own) → v ≡ NotForMe
  pub unknown : receiver ≡ p.own → originator ≢ p.own → knows known p ≡ false → v ≡ UnknownPeer
  pub other : receiver ≡ p.own → originator ≢ p.own → knows known p ≡ true → v ≡ WrongClass

-- the centre that a key service message names, or its originator
abbrev pub names : List ℕ → KsmBody → List ℕ
names originator (body.Direct idk2 new kd ctp) = originator
names originator (body.Centre centre kdu ctb) = centre
names originator (body.Twin idk2 first second ctp) = originator
