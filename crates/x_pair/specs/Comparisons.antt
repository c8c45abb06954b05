-- What the two disks of a party are to one another (this project's profile). `first` and `second` are what the shelf tells of
-- them.
use Rattle.std.specs.Prelude.{◌≡◌, ◌≢◌, ◌⊎◌, ◌≤◌, ℕ, true, List}
use Rattle.x_base.specs.Edge.{Rose}
use Rattle.x_disk.specs.Disk.{View, IsUntouched}
use Rattle.key_journal.specs.Journal.{is_blank}
use Rattle.party_state.specs.State.{Party}
use Rattle.key_store.specs.Store.{Stands, IsFirstDamage}
use Rattle.disk_pair.specs.Pairs.{ThirdsStay}
use Rattle.mirror_store.specs.Comparing.{IsComparison}
use Rattle.mirror_store.specs.Opening.{AreRead, IsSound}
use Rattle.mirror_store.specs.declared.comparing.Comparison.{Comparison}
use Rattle.mirror_store.specs.declared.comparing.Comparison.TheVariants as comparison
use Rattle.x_pair.specs.declared.likeness.Compared.{Compared}
use Rattle.x_pair.specs.declared.likeness.Compared.TheVariants as compared
use Rattle.x_pair.specs.declared.likeness.Likeness.{Likeness}
use Rattle.x_pair.specs.declared.likeness.Likeness.TheVariants as likeness

-- the images stand for states of one party, which are this to one another
pub record AreStates (i j : List ℕ) (c : Comparison) : Type 0 where
  pub one : Party
  pub two : Party
  pub first_is : Stands i one
  pub second_is : Stands j two
  pub own : one.own ≡ two.own
  pub comparison : IsComparison one two c

-- they stand for parties of different identities
pub record AreApart (i j : List ℕ) : Type 0 where
  pub one : Party
  pub two : Party
  pub first_is : Stands i one
  pub second_is : Stands j two
  pub differ : one.own ≢ two.own

-- what two images are to one another
abbrev pub IsLikeness : List ℕ → List ℕ → Likeness → Type 0
IsLikeness i j likeness.Same = AreStates i j comparison.Same
IsLikeness i j likeness.FirstAhead = AreStates i j comparison.FirstAhead
IsLikeness i j likeness.SecondAhead = AreStates i j comparison.SecondAhead
IsLikeness i j likeness.Neither = AreStates i j comparison.Neither
IsLikeness i j likeness.OtherParty = AreApart i j
IsLikeness i j likeness.FirstBlank = (is_blank i ≡ true) × ((two : Party) × Stands j two)
IsLikeness i j likeness.SecondBlank = ((one : Party) × Stands i one) × (is_blank j ≡ true)
IsLikeness i j likeness.BothBlank = (is_blank i ≡ true) × (is_blank j ≡ true)
IsLikeness i j (likeness.FirstDamaged place) = IsFirstDamage i place
IsLikeness i j (likeness.SecondDamaged place) = IsSound i × IsFirstDamage j place

-- what is told of two disks
abbrev pub TellsLikeness : View → View → Compared → Type 0
TellsLikeness first second (compared.Done l) = (i j : List ℕ) → AreRead first second i j → IsLikeness i j l
TellsLikeness first second compared.Fault = Unit {0}
TellsLikeness first second compared.NoMemory = Unit {0}

-- it is the one that is due by the two images, or a fault or want of memory came in its place
abbrev pub GivesDueLikeness : View → View → Compared → Type 0
GivesDueLikeness first second c = (i j : List ℕ) (l : Likeness) → AreRead first second i j → IsLikeness i j l → (c ≡ compared.Done l) ⊎ ((c ≡ compared.Fault) ⊎ (c ≡ compared.NoMemory))

-- it is neither a fault nor want of memory
abbrev pub IsAnswered : Compared → Type 0
IsAnswered (compared.Done l) = Unit {0}
IsAnswered c = ⊥

-- what is left of the shelf: both disks are back where the call didn't fail, and nothing was written to them; the others stay, and
-- a fault comes only where the shelf's count of faults rose
pub record LeavesCompared (name mirror : List ℕ) (c : Compared) (first_back second_back : Type 0) (old new : List ℕ → View) (before after : ℕ) : Type 0 where
  pub first_stays : IsUntouched (old name) (new name)
  pub second_stays : IsUntouched (old mirror) (new mirror)
  pub back : IsAnswered c → first_back × second_back
  pub thirds : ThirdsStay name mirror old new
  pub fault : c ≡ compared.Fault → Rose before after
  pub later : before ≤ after
