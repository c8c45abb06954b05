-- What becomes of a party on a shelf (this project's profile). `old` and `new` are what the shelf tells of the
-- party's disk before and after.
use Rattle.std.specs.Prelude.{◌≡◌, ◌≢◌, ◌⊎◌, ◌≤◌, ℕ, true, false, List, [], Option, Some, None}
use Rattle.x_base.specs.Edge.{Rose}
use Rattle.x_base.specs.declared.verdict.Verdict.{Verdict}
use Rattle.x_base.specs.declared.verdict.Verdict.TheVariants.{Accept, JournalFull, NotEmpty, Blank}
use Rattle.x_disk.specs.Disk.{View, LeavesOnly, IsUntouched}
use Rattle.x_disk.specs.Shelf.{OthersStay}
use Rattle.key_journal.specs.Journal.{is_blank}
use Rattle.key_journal.specs.Wiping.{Wipes}
use Rattle.party_state.specs.declared.command.Input.{Input}
use Rattle.party_state.specs.declared.decision.Decision.{Decision}
use Rattle.party_state.specs.State.{Party, apply}
use Rattle.party_show.specs.Show.{shown}
use Rattle.change_code.specs.Cost.{fits, space_after, space_of_whole}
use Rattle.change_code.specs.Whole.{IsTooLarge}
use Rattle.change_code.specs.declared.format.Format.{Format}
use Rattle.change_code.specs.declared.space.Space.{Space}
use Rattle.key_store.specs.Store.{Stands, StandsWith, IsFirstDamage, StandsForOldOrNew}
use Rattle.member.specs.Acts.{compacted_in, migrated_in}
use Rattle.member.specs.Deciding.{decision}
use Rattle.x_party.specs.Images.{DiskStandsFor, OfParty, OfOwnParty, first_space, StillTells, OrBefore}
use Rattle.x_party.specs.declared.outcome.Outcome.{Outcome}
use Rattle.x_party.specs.declared.outcome.Outcome.TheVariants as outcome

-- it is neither a fault nor want of memory
abbrev pub IsNoFailure : Outcome → Type 0
IsNoFailure outcome.Fault = ⊥
IsNoFailure outcome.NoMemory = ⊥
IsNoFailure other = Unit {0}

-- what a call over one party leaves of the shelf: the disk is back where it didn't fail, the other parties' disks stay, and
-- a fault comes only where the shelf's count of faults rose
pub record LeavesShelf (name : List ℕ) (o : Outcome) (is_back : Type 0) (old new : List ℕ → View) (before after : ℕ) : Type 0 where
  pub back : IsNoFailure o → is_back
  pub others : OthersStay name old new
  pub fault : o ≡ outcome.Fault → Rose before after
  pub later : before ≤ after

-- the party is that of the name; the decision accepts, and makes a change, which fits
pub record IsToKeep (name : List ℕ) (party : Party) (d : Decision) (space : Space) : Type 0 where
  pub own : party.own ≡ name
  pub accepts : d.verdict ≡ Accept
  pub changes : d.change ≢ []
  pub fits : fits space d.change ≡ true

-- accepted: its change fits, and the new image stands for the party after it, with the space that the change leaves
pub record IsAccepted (old new : View) (d : Decision) (party : Party) (space : Space) (answer : Option (List ℕ)) : Type 0 where
  pub accepts : d.verdict ≡ Accept
  pub fits : fits space d.change ≡ true
  pub reply : answer ≡ d.reply
  pub stands : DiskStandsFor new (apply d.change party) (space_after space d.change)
  -- without a change nothing is written
  pub unchanged : d.change ≡ [] → IsUntouched old new

-- refused as decided, with the decision's verdict and its reply
pub record IsAsDecided (d : Decision) (said : Verdict) (answer : Option (List ℕ)) : Type 0 where
  pub refuses : d.verdict ≢ Accept
  pub verdict : said ≡ d.verdict
  pub reply : answer ≡ d.reply

-- accepted, but the change doesn't fit
pub record IsTooLong (d : Decision) (space : Space) (said : Verdict) (answer : Option (List ℕ)) : Type 0 where
  pub accepts : d.verdict ≡ Accept
  pub full : fits space d.change ≡ false
  pub verdict : said ≡ JournalFull
  pub reply : answer ≡ None

-- refused, or its change doesn't fit: party and space stay, and nothing is written
pub record IsRefusedTurn (old new : View) (d : Decision) (party : Party) (space : Space) (said : Verdict) (answer : Option (List ℕ)) : Type 0 where
  pub cause : IsAsDecided d said answer ⊎ IsTooLong d space said answer
  pub stands : DiskStandsFor new party space
  pub untouched : IsUntouched old new

-- the party isn't that of the name, and isn't asked: party and space stay, and nothing is written
pub record IsOther (old new : View) (name : List ℕ) (party : Party) (space : Space) (asked found : List ℕ) : Type 0 where
  pub called : asked ≡ name
  pub stood : found ≡ party.own
  pub differs : found ≢ name
  pub stands : DiskStandsFor new party space
  pub untouched : IsUntouched old new

-- no party stands on the disk, and nothing is written
pub record IsNobody (old new : View) (said : Verdict) (answer : Option (List ℕ)) : Type 0 where
  pub blank : (image : List ℕ) → old.now ≡ Some image → is_blank image ≡ true
  pub verdict : said ≡ Blank
  pub reply : answer ≡ None
  pub untouched : IsUntouched old new

-- the image isn't blank and stands for no party, and nothing is written
pub record IsDamaged (old new : View) (place : ℕ) : Type 0 where
  pub first : (image : List ℕ) → old.now ≡ Some image → IsFirstDamage image place
  pub untouched : IsUntouched old new

-- what became of the turn of the party of this name with an input
abbrev pub TakesTurn : List ℕ → View → View → Input → ℕ → Outcome → Type 0
TakesTurn name old new i moment (outcome.Done reply) = OfOwnParty name old (λ party space. IsAccepted old new (decision party i moment) party space reply)
TakesTurn name old new i moment (outcome.Refused verdict reply) =
    OfOwnParty name old (λ party space. IsRefusedTurn old new (decision party i moment) party space verdict reply) ⊎ IsNobody old new verdict reply
TakesTurn name old new i moment (outcome.OtherParty asked found) = OfParty old (λ party space. IsOther old new name party space asked found)
TakesTurn name old new i moment (outcome.Damaged place) = IsDamaged old new place
TakesTurn name old new i moment outcome.Fault = Unit {0}
TakesTurn name old new i moment outcome.NoMemory = Unit {0}

-- what holds of every answer of a call over a party: what a crash leaves of a party with its space, and when anything is
-- written
pub record IsSafeCall (old new : View) (leaves : Party → Space → List ℕ → Type 0) (writes : Party → Space → Type 0) : Type 0 where
  -- a crash at any moment leaves one of these, or what it could leave before
  pub party : (image : List ℕ) (party : Party) (space : Space) → old.now ≡ Some image → StandsWith image party space
      → LeavesOnly old new (OrBefore old (leaves party space))
  -- otherwise nothing is written
  pub still : (image : List ℕ) (party : Party) (space : Space) → old.now ≡ Some image → StandsWith image party space
      → (writes party space → ⊥) → IsUntouched old new
  -- nor where the image stands for no party
  pub nobody : (image : List ℕ) → old.now ≡ Some image → ((party : Party) → Stands image party → ⊥) → IsUntouched old new
  pub tells : StillTells old new

-- a turn: a crash leaves the party before the decision or the one after it, each with its space; and where the party isn't
-- that of the name, or makes no change that fits, nothing is written
abbrev pub IsSafe : List ℕ → View → View → Input → ℕ → Type 0
IsSafe name old new i moment = IsSafeCall old new (λ party space. StandsForOldOrNew party space (decision party i moment).change)
    (λ party space. IsToKeep name party (decision party i moment) space)

-- the party is to be written whole in a format, and is too large for one frame in it
abbrev pub IsTooLargeIn : Option Format → Party → Type 0
IsTooLargeIn None party = ⊥
IsTooLargeIn (Some format) party = IsTooLarge format party

-- it is to be written whole in a format, and fits into one frame in it
abbrev pub FitsIn : Option Format → Party → Type 0
FitsIn None party = ⊥
FitsIn (Some format) party = IsTooLarge format party → ⊥

-- its space afterwards, where it fits or isn't to be written
abbrev pub space_in : Option Format → Party → Space → Space
space_in None party space = space
space_in (Some format) party space = space_of_whole format party

-- a party that is to be written whole in this format, if in any, is so: it stays, with the space of that
pub record IsRewritten (old new : View) (format : Option Format) (party : Party) (space : Space) (answer : Option (List ℕ)) : Type 0 where
  pub fits : IsTooLargeIn format party → ⊥
  pub nothing : answer ≡ None
  pub stands : DiskStandsFor new party (space_in format party space)
  -- where it isn't to be written, nothing is
  pub unchanged : format ≡ None → IsUntouched old new

-- it is too large for one frame: party and space stay, and nothing is written
pub record IsNotRewritten (old new : View) (format : Option Format) (party : Party) (space : Space) (said : Verdict) (answer : Option (List ℕ)) : Type 0 where
  pub too_large : IsTooLargeIn format party
  pub verdict : said ≡ JournalFull
  pub nothing : answer ≡ None
  pub stands : DiskStandsFor new party space
  pub untouched : IsUntouched old new

-- what became of writing the party whole, in the format that its own calls for
abbrev pub RewritesParty : (Format → Option Format) → View → View → Outcome → Type 0
RewritesParty format old new (outcome.Done reply) = OfParty old (λ party space. IsRewritten old new (format space.format) party space reply)
RewritesParty format old new (outcome.Refused verdict reply) =
    OfParty old (λ party space. IsNotRewritten old new (format space.format) party space verdict reply) ⊎ IsNobody old new verdict reply
RewritesParty format old new (outcome.OtherParty asked found) = ⊥
RewritesParty format old new (outcome.Damaged place) = IsDamaged old new place
RewritesParty format old new outcome.Fault = Unit {0}
RewritesParty format old new outcome.NoMemory = Unit {0}

-- of compacting it, and of migrating it
abbrev pub CompactsParty : View → View → Outcome → Type 0
CompactsParty = RewritesParty compacted_in

abbrev pub MigratesParty : View → View → Outcome → Type 0
MigratesParty = RewritesParty migrated_in

-- the party with its space, or with the space of its writing
abbrev pub IsOldOrRewritten : Option Format → Party → Space → List ℕ → Type 0
IsOldOrRewritten format party space image = StandsWith image party space ⊎ StandsWith image party (space_in format party space)

-- a crash leaves the party, with its space or with that of its writing; and one that is too large, or isn't to be written,
-- isn't
abbrev pub IsSafeRewriting : (Format → Option Format) → View → View → Type 0
IsSafeRewriting format old new = IsSafeCall old new (λ party space. IsOldOrRewritten (format space.format) party space) (λ party space. FitsIn (format space.format) party)

abbrev pub IsSafeCompaction : View → View → Type 0
IsSafeCompaction = IsSafeRewriting compacted_in

abbrev pub IsSafeMigration : View → View → Type 0
IsSafeMigration = IsSafeRewriting migrated_in

-- the party stays with its space; what counts of its file is as it was, and each other byte is zero
pub record IsWipedParty (old new : View) (party : Party) (space : Space) (answer : Option (List ℕ)) : Type 0 where
  pub nothing : answer ≡ None
  pub stands : DiskStandsFor new party space
  pub wiped : Wipes old new

-- what became of wiping the party's file
abbrev pub WipesParty : View → View → Outcome → Type 0
WipesParty old new (outcome.Done reply) = OfParty old (λ party space. IsWipedParty old new party space reply)
WipesParty old new (outcome.Refused verdict reply) = IsNobody old new verdict reply
WipesParty old new (outcome.OtherParty asked found) = ⊥
WipesParty old new (outcome.Damaged place) = IsDamaged old new place
WipesParty old new outcome.Fault = Unit {0}
WipesParty old new outcome.NoMemory = Unit {0}

-- a crash leaves the party with its space
abbrev pub IsSafeWiping : View → View → Type 0
IsSafeWiping old new = IsSafeCall old new (λ party space c. StandsWith c party space) (λ party space. Unit {0})

-- the image was blank, and the new one stands for the party that begins, in format 2
pub record IsCreated (old new : View) (party : Party) (answer : Option (List ℕ)) : Type 0 where
  pub blank : (image : List ℕ) → old.now ≡ Some image → is_blank image ≡ true
  pub reply : answer ≡ None
  pub stands : DiskStandsFor new party (first_space party)

-- the image isn't blank
pub record IsNotEmpty (old : View) (said : Verdict) (answer : Option (List ℕ)) : Type 0 where
  pub not_blank : (image : List ℕ) → old.now ≡ Some image → is_blank image ≡ false
  pub verdict : said ≡ NotEmpty
  pub reply : answer ≡ None

-- what became of creating this party
abbrev pub CreatesParty : View → View → Party → Outcome → Type 0
CreatesParty old new party (outcome.Done reply) = IsCreated old new party reply
CreatesParty old new party (outcome.Refused verdict reply) = IsNotEmpty old verdict reply
CreatesParty old new party (outcome.OtherParty asked found) = ⊥
CreatesParty old new party (outcome.Damaged place) = ⊥
CreatesParty old new party outcome.Fault = Unit {0}
CreatesParty old new party outcome.NoMemory = Unit {0}

-- the party is shown, and stays
pub record IsShown (new : View) (party : Party) (space : Space) (reply : Option (List ℕ)) : Type 0 where
  pub text : reply ≡ Some (shown party)
  pub stands : DiskStandsFor new party space

-- what became of showing the party
abbrev pub ShowsParty : View → View → Outcome → Type 0
ShowsParty old new (outcome.Done reply) = OfParty old (λ party space. IsShown new party space reply)
ShowsParty old new (outcome.Refused verdict reply) = IsNobody old new verdict reply
ShowsParty old new (outcome.OtherParty asked found) = ⊥
ShowsParty old new (outcome.Damaged place) = IsDamaged old new place
ShowsParty old new outcome.Fault = Unit {0}
ShowsParty old new outcome.NoMemory = Unit {0}
