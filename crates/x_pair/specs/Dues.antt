-- The outcome that is due of a call over a party that is kept on two disks, by their two images (this project's profile).
use Rattle.std.specs.Prelude.{◌≡◌, ◌≢◌, ◌⊎◌, ℕ, List, Option, Some}
use Rattle.x_base.specs.declared.verdict.Verdict.{Verdict}
use Rattle.x_base.specs.declared.verdict.Verdict.TheVariants.{Accept}
use Rattle.x_disk.specs.Disk.{View}
use Rattle.party_state.specs.declared.command.Input.{Input}
use Rattle.party_state.specs.State.{Party}
use Rattle.party_show.specs.Show.{shown}
use Rattle.change_code.specs.Whole.{IsTooLarge}
use Rattle.change_code.specs.declared.format.Format.TheVariants.{Two}
use Rattle.change_code.specs.declared.space.Space.{Space}
use Rattle.member.specs.Member.{Plan}
use Rattle.mirror_store.specs.Pairs.{PairStands, Recovers}
use Rattle.mirror_store.specs.Opening.{AreRead, AreOthers, HasFirstSpace}
use Rattle.mirror_store.specs.Turns.{pair_plan_at}
use Rattle.x_party.specs.declared.outcome.Outcome.{Outcome}
use Rattle.x_party.specs.declared.outcome.Outcome.TheVariants as outcome
use Rattle.x_pair.specs.Outcomes.{IsNobody, IsTooLargePair, IsDamagedPair}

-- this is due of the party that is opened of the two images; where it doesn't stand on both, it isn't too large for one frame
pub record OfDue (P : Party → Outcome → Type 0) (i j : List ℕ) (o : Outcome) : Type 0 where
  pub party : Party
  pub recovers : Recovers i j party
  pub fits : (PairStands i j party → ⊥) → IsTooLarge Two party → ⊥
  pub is : P party o

-- the outcome that is due, where this is due of the party that is opened
abbrev pub IsDueOfPair : (Party → Outcome → Type 0) → List ℕ → List ℕ → Outcome → Type 0
IsDueOfPair P i j (outcome.Done reply) = OfDue P i j (outcome.Done reply)
IsDueOfPair P i j (outcome.Refused verdict reply) = OfDue P i j (outcome.Refused verdict reply) ⊎ (IsNobody i j verdict reply ⊎ IsTooLargePair i j verdict reply)
IsDueOfPair P i j (outcome.OtherParty one other) = OfDue P i j (outcome.OtherParty one other) ⊎ AreOthers i j one other
IsDueOfPair P i j (outcome.Damaged place) = IsDamagedPair i j place
IsDueOfPair P i j outcome.Fault = ⊥
IsDueOfPair P i j outcome.NoMemory = ⊥

-- what the party will do: with the space that its first image leaves, or that one frame leaves, where the first is blank
abbrev pub IsPlanned : List ℕ → Party → Input → ℕ → Plan → Type 0
IsPlanned i party input moment plan = (space : Space) × HasFirstSpace i party space × (plan ≡ pair_plan_at (record { party = party; space = space }) input moment)

-- the party of the name accepts
pub record IsToAccept (name i : List ℕ) (input : Input) (moment : ℕ) (party : Party) (reply : Option (List ℕ)) : Type 0 where
  pub own : party.own ≡ name
  pub plan : Plan
  pub planned : IsPlanned i party input moment plan
  pub accepted : plan.verdict ≡ Accept
  pub written : reply ≡ plan.reply

-- it refuses, or what it decides doesn't fit on a disk
pub record IsToRefuse (name i : List ℕ) (input : Input) (moment : ℕ) (party : Party) (verdict : Verdict) (reply : Option (List ℕ)) : Type 0 where
  pub own : party.own ≡ name
  pub plan : Plan
  pub planned : IsPlanned i party input moment plan
  pub refused : verdict ≢ Accept
  pub said : verdict ≡ plan.verdict
  pub written : reply ≡ plan.reply

-- the party isn't that of the name
pub record IsNotAsked (name : List ℕ) (party : Party) (asked found : List ℕ) : Type 0 where
  pub called : asked ≡ name
  pub own : found ≡ party.own
  pub differs : found ≢ name

-- what is due of the party where it has a turn
abbrev pub IsToTurn : List ℕ → List ℕ → Input → ℕ → Party → Outcome → Type 0
IsToTurn name i input moment party (outcome.Done reply) = IsToAccept name i input moment party reply
IsToTurn name i input moment party (outcome.Refused verdict reply) = IsToRefuse name i input moment party verdict reply
IsToTurn name i input moment party (outcome.OtherParty asked found) = IsNotAsked name party asked found
IsToTurn name i input moment party o = ⊥

-- where it is shown
abbrev pub IsToShow : Party → Outcome → Type 0
IsToShow party (outcome.Done reply) = reply ≡ Some (shown party)
IsToShow party o = ⊥

-- the outcome that is due of the turn of the party of this name with an input
abbrev pub IsDueTurn : List ℕ → Input → ℕ → List ℕ → List ℕ → Outcome → Type 0
IsDueTurn name input moment i j o = IsDueOfPair (λ party x. IsToTurn name i input moment party x) i j o

-- where a party is shown
abbrev pub IsDueShow : List ℕ → List ℕ → Outcome → Type 0
IsDueShow i j o = IsDueOfPair (λ party x. IsToShow party x) i j o

-- the outcome is the one that is due by the two images, or a fault or want of memory came in its place
abbrev pub GivesDuePair : View → View → (List ℕ → List ℕ → Outcome → Type 0) → Outcome → Type 0
GivesDuePair first second due o = (i j : List ℕ) (other : Outcome) → AreRead first second i j → due i j other → (o ≡ other) ⊎ ((o ≡ outcome.Fault) ⊎ (o ≡ outcome.NoMemory))
