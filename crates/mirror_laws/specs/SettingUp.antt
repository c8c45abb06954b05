-- Setting a network up, each party over its one disk or its two (this project's profile). `mirror` names the second disk of each
-- party that keeps two. `old` and `new` are what the shelf tells of each disk before a call and afterwards.
use Rattle.std.specs.Prelude.{◌≡◌, ℕ, suc, Option, Some, None, List, [], ◌∷◌, Contains}
use Rattle.x_base.specs.declared.party.Role.{Role}
use Rattle.x_disk.specs.Disk.{View, Tells}
use Rattle.x_gen.specs.declared.generator.Gen.{Gen}
use Rattle.party_state.specs.declared.command.Command.TheVariants as command
use Rattle.party_state.specs.declared.command.Input.TheVariants as input
use Rattle.party_state.specs.State.{begun}
use Rattle.member.specs.Member.{Member}
use Rattle.disk_pair.specs.Pairs.{ThirdsStay}
use Rattle.x_party.specs.declared.outcome.Outcome.TheVariants as outcome
use Rattle.x_pair.specs.Creations.{CreatesPair, IsSafeCreation}
use Rattle.world_laws.specs.World.{member_at}
use Rattle.call_laws.specs.Sessions.{AllOff}
use Rattle.call_laws.specs.SetUp.{End, SetUp, Creates, Loads, LosesPower, members_after}
use Rattle.call_laws.specs.SettingUp.{IsCreating, IsLoading}
use Rattle.mirror_laws.specs.Sessions.{IsTurned}

-- the party is created on its two disks; the others stay
pub record IsPairCreating (second own : List ℕ) (role : Role) (generator : Gen) (old new : List ℕ → View) : Type 0 where
  pub reply : Option (List ℕ)
  pub made : CreatesPair (begun own role generator) (old own) (old second) (new own) (new second) (outcome.Done reply)
  pub safe : IsSafeCreation (begun own role generator) (old own) (old second) (new own) (new second)
  pub others : ThirdsStay own second old new

-- the end is loaded at a party that was created before, by its turn over its two disks with that command; the others stay
pub record IsPairLoading (second : List ℕ) (ms : List Member) (e : End) (moment : ℕ) (old new : List ℕ → View) : Type 0 where
  pub member : Member
  pub at : member_at e.own ms ≡ Some member
  pub reply : Option (List ℕ)
  pub turned : IsTurned e.own (input.Ordered (command.Load e.key.peer e.key.label e.key.side e.pair)) moment (outcome.Done reply) (old e.own) (old second) (new e.own) (new second)
  pub others : ThirdsStay e.own second old new

-- over its one disk, or over its two

abbrev pub IsCreatingOn : Option (List ℕ) → List ℕ → Role → Gen → (List ℕ → View) → (List ℕ → View) → Type 0
IsCreatingOn None own role generator old new = IsCreating own role generator old new
IsCreatingOn (Some second) own role generator old new = IsPairCreating second own role generator old new

abbrev pub IsLoadingOn : Option (List ℕ) → List Member → End → ℕ → (List ℕ → View) → (List ℕ → View) → Type 0
IsLoadingOn None ms e moment old new = IsLoading ms e moment old new
IsLoadingOn (Some second) ms e moment old new = IsPairLoading second ms e moment old new

abbrev pub IsSetUpOn : (List ℕ → Option (List ℕ)) → List Member → SetUp → (List ℕ → View) → (List ℕ → View) → Type 0
IsSetUpOn mirror ms (Creates own role generator) old new = IsCreatingOn (mirror own) own role generator old new
IsSetUpOn mirror ms (Loads e moment) old new = IsLoadingOn (mirror e.own) ms e moment old new
IsSetUpOn mirror ms LosesPower old new = AllOff old new

-- each is done, from the disks of its number to those of the next
abbrev pub AreSetUpOn : (List ℕ → Option (List ℕ)) → List Member → List SetUp → ℕ → (ℕ → List ℕ → View) → Type 0
AreSetUpOn mirror ms [] k disks = Unit {0}
AreSetUpOn mirror ms (s ∷ ss) k disks = IsSetUpOn mirror ms s (disks k) (disks (suc k)) × AreSetUpOn mirror (members_after s ms) ss (suc k) disks

-- its one disk tells its bytes, or its two do
abbrev pub TellsOnOwn : Option (List ℕ) → List ℕ → (List ℕ → View) → Type 0
TellsOnOwn None name disks = Tells (disks name)
TellsOnOwn (Some second) name disks = Tells (disks name) × Tells (disks second)

-- the disks of each party of these names do
abbrev pub AllTellOnOwn : (List ℕ → Option (List ℕ)) → List (List ℕ) → (List ℕ → View) → Type 0
AllTellOnOwn mirror names disks = (name : List ℕ) → Contains names name → TellsOnOwn (mirror name) name disks
