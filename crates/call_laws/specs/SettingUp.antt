-- Setting a network up over the disks of its parties (this project's profile). `old` and `new` are what the shelf tells of each
-- party's disk before a call and afterwards.
use Rattle.std.specs.Prelude.{◌≡◌, ℕ, suc, Option, Some, List, [], ◌∷◌, Contains}
use Rattle.x_base.specs.declared.party.Role.{Role}
use Rattle.x_disk.specs.Disk.{View, Tells}
use Rattle.x_disk.specs.Shelf.{OthersStay}
use Rattle.x_gen.specs.declared.generator.Gen.{Gen}
use Rattle.party_state.specs.declared.command.Command.TheVariants as command
use Rattle.party_state.specs.declared.command.Input.TheVariants as input
use Rattle.party_state.specs.State.{begun}
use Rattle.member.specs.Member.{Member}
use Rattle.x_party.specs.Images.{StillTells}
use Rattle.x_party.specs.Outcomes.{TakesTurn, CreatesParty}
use Rattle.x_party.specs.declared.outcome.Outcome.TheVariants as outcome
use Rattle.world_laws.specs.World.{member_at}
use Rattle.call_laws.specs.Sessions.{AllOff}
use Rattle.call_laws.specs.SetUp.{End, SetUp, Creates, Loads, LosesPower, members_after}

-- the party is created on its disk; the others stay
pub record IsCreating (own : List ℕ) (role : Role) (generator : Gen) (old new : List ℕ → View) : Type 0 where
  pub reply : Option (List ℕ)
  pub made : CreatesParty (old own) (new own) (begun own role generator) (outcome.Done reply)
  pub tells : StillTells (old own) (new own)
  pub others : OthersStay own old new

-- the end is loaded at a party that was created before, by its turn with that command; the others stay
pub record IsLoading (ms : List Member) (e : End) (moment : ℕ) (old new : List ℕ → View) : Type 0 where
  pub member : Member
  pub at : member_at e.own ms ≡ Some member
  pub reply : Option (List ℕ)
  pub made : TakesTurn e.own (old e.own) (new e.own) (input.Ordered (command.Load e.key.peer e.key.label e.key.side e.pair)) moment (outcome.Done reply)
  pub tells : StillTells (old e.own) (new e.own)
  pub others : OthersStay e.own old new

abbrev pub IsSetUp : List Member → SetUp → (List ℕ → View) → (List ℕ → View) → Type 0
IsSetUp ms (Creates own role generator) old new = IsCreating own role generator old new
IsSetUp ms (Loads e moment) old new = IsLoading ms e moment old new
IsSetUp ms LosesPower old new = AllOff old new

-- each is done, from the disks of its number to those of the next
abbrev pub AreSetUp : List Member → List SetUp → ℕ → (ℕ → List ℕ → View) → Type 0
AreSetUp ms [] k disks = Unit {0}
AreSetUp ms (s ∷ ss) k disks = IsSetUp ms s (disks k) (disks (suc k)) × AreSetUp (members_after s ms) ss (suc k) disks

-- the disks of these names tell their bytes
abbrev pub AllTell : List (List ℕ) → (List ℕ → View) → Type 0
AllTell names disks = (name : List ℕ) → Contains names name → Tells (disks name)
