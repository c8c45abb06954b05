-- The outcome that is due of a call over a party, by the image of the party's disk (this project's profile).
use Rattle.std.specs.Prelude.{◌≡◌, ◌≢◌, ◌⊎◌, ℕ, true, false, List, Option, Some, None}
use Rattle.x_base.specs.declared.verdict.Verdict.{Verdict}
use Rattle.x_base.specs.declared.verdict.Verdict.TheVariants.{Accept, JournalFull, NotEmpty, Blank}
use Rattle.x_disk.specs.Disk.{View}
use Rattle.key_journal.specs.Journal.{is_blank}
use Rattle.party_state.specs.declared.command.Input.{Input}
use Rattle.party_state.specs.State.{Party}
use Rattle.party_show.specs.Show.{shown}
use Rattle.change_code.specs.Cost.{fits}
use Rattle.change_code.specs.declared.format.Format.{Format}
use Rattle.change_code.specs.declared.space.Space.{Space}
use Rattle.key_store.specs.Store.{Stands, StandsAs, StandsWith, IsFirstDamage}
use Rattle.member.specs.Acts.{compacted_in, migrated_in}
use Rattle.member.specs.Deciding.{decision}
use Rattle.x_party.specs.Outcomes.{IsAsDecided, IsTooLong, IsTooLargeIn}
use Rattle.x_party.specs.declared.outcome.Outcome.{Outcome}
use Rattle.x_party.specs.declared.outcome.Outcome.TheVariants as outcome

-- the party of the name, for which the image stands, accepts, and its change fits
pub record Accepts (name image : List ℕ) (i : Input) (moment : ℕ) (reply : Option (List ℕ)) : Type 0 where
  pub party : Party
  pub space : Space
  pub stood : StandsWith image party space
  pub own : party.own ≡ name
  pub accepted : (decision party i moment).verdict ≡ Accept
  pub fits : fits space (decision party i moment).change ≡ true
  pub written : reply ≡ (decision party i moment).reply

-- it refuses, or its change doesn't fit
pub record Refuses (name image : List ℕ) (i : Input) (moment : ℕ) (verdict : Verdict) (reply : Option (List ℕ)) : Type 0 where
  pub party : Party
  pub space : Space
  pub stood : StandsWith image party space
  pub own : party.own ≡ name
  pub cause : IsAsDecided (decision party i moment) verdict reply
      ⊎ IsTooLong (decision party i moment) space verdict reply

-- the image stands for a party of another identity than the name
pub record FindsOther (name image asked found : List ℕ) : Type 0 where
  pub party : Party
  pub stood : Stands image party
  pub called : asked ≡ name
  pub own : found ≡ party.own
  pub differs : party.own ≢ name

-- no party stands on the disk
pub record FindsNobody (image : List ℕ) (verdict : Verdict) (reply : Option (List ℕ)) : Type 0 where
  pub blank : is_blank image ≡ true
  pub said : verdict ≡ Blank
  pub written : reply ≡ None

-- the outcome that is due of the turn of the party of this name with an input
abbrev pub IsDue : List ℕ → Input → ℕ → List ℕ → Outcome → Type 0
IsDue name i moment image (outcome.Done reply) = Accepts name image i moment reply
IsDue name i moment image (outcome.Refused verdict reply) = Refuses name image i moment verdict reply ⊎ FindsNobody image verdict reply
IsDue name i moment image (outcome.OtherParty asked found) = FindsOther name image asked found
IsDue name i moment image (outcome.Damaged place) = IsFirstDamage image place
IsDue name i moment image outcome.Fault = ⊥
IsDue name i moment image outcome.NoMemory = ⊥

-- where a party is created
abbrev pub IsDueCreation : List ℕ → Outcome → Type 0
IsDueCreation image (outcome.Done reply) = (reply ≡ None) × (is_blank image ≡ true)
IsDueCreation image (outcome.Refused verdict reply) = (verdict ≡ NotEmpty) × (reply ≡ None) × (is_blank image ≡ false)
IsDueCreation image other = ⊥

-- where a party is shown
abbrev pub IsDueShow : List ℕ → Outcome → Type 0
IsDueShow image (outcome.Done reply) = (party : Party) × Stands image party × (reply ≡ Some (shown party))
IsDueShow image (outcome.Refused verdict reply) = FindsNobody image verdict reply
IsDueShow image (outcome.OtherParty asked found) = ⊥
IsDueShow image (outcome.Damaged place) = IsFirstDamage image place
IsDueShow image outcome.Fault = ⊥
IsDueShow image outcome.NoMemory = ⊥

-- the party for which the image stands isn't too large where it is to be written whole, in the format that its own calls for
pub record FitsOneFrame (format : Format → Option Format) (image : List ℕ) (reply : Option (List ℕ)) : Type 0 where
  pub party : Party
  pub own : Format
  pub stood : StandsAs image own party
  pub fits : IsTooLargeIn (format own) party → ⊥
  pub nothing : reply ≡ None

-- it is too large
pub record PassesOneFrame (format : Format → Option Format) (image : List ℕ) (verdict : Verdict) (reply : Option (List ℕ)) : Type 0 where
  pub party : Party
  pub own : Format
  pub stood : StandsAs image own party
  pub too_large : IsTooLargeIn (format own) party
  pub said : verdict ≡ JournalFull
  pub nothing : reply ≡ None

-- where a party is written whole
abbrev pub IsDueRewriting : (Format → Option Format) → List ℕ → Outcome → Type 0
IsDueRewriting format image (outcome.Done reply) = FitsOneFrame format image reply
IsDueRewriting format image (outcome.Refused verdict reply) = PassesOneFrame format image verdict reply ⊎ FindsNobody image verdict reply
IsDueRewriting format image (outcome.OtherParty asked found) = ⊥
IsDueRewriting format image (outcome.Damaged place) = IsFirstDamage image place
IsDueRewriting format image outcome.Fault = ⊥
IsDueRewriting format image outcome.NoMemory = ⊥

-- where it is compacted, and where it is migrated
abbrev pub IsDueCompaction : List ℕ → Outcome → Type 0
IsDueCompaction = IsDueRewriting compacted_in

abbrev pub IsDueMigration : List ℕ → Outcome → Type 0
IsDueMigration = IsDueRewriting migrated_in

-- the image stands for a party
pub record FindsParty (image : List ℕ) (reply : Option (List ℕ)) : Type 0 where
  pub party : Party
  pub stood : Stands image party
  pub nothing : reply ≡ None

-- where a party's file is wiped
abbrev pub IsDueWiping : List ℕ → Outcome → Type 0
IsDueWiping image (outcome.Done reply) = FindsParty image reply
IsDueWiping image (outcome.Refused verdict reply) = FindsNobody image verdict reply
IsDueWiping image (outcome.OtherParty asked found) = ⊥
IsDueWiping image (outcome.Damaged place) = IsFirstDamage image place
IsDueWiping image outcome.Fault = ⊥
IsDueWiping image outcome.NoMemory = ⊥

-- the outcome is the one that is due by the image, or a fault or want of memory came in its place
abbrev pub GivesDue : View → (List ℕ → Outcome → Type 0) → Outcome → Type 0
GivesDue old due o = (image : List ℕ) (other : Outcome) → old.now ≡ Some image → due image other → (o ≡ other) ⊎ ((o ≡ outcome.Fault) ⊎ (o ≡ outcome.NoMemory))
