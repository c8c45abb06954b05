-- What `compare` says (this project's profile). `before` and `after` are what the sink has, `old` and `new` what the shelf tells
-- of the disks.
use Rattle.std.specs.Prelude.{◌≡◌, ◌⊎◌, ◌++◌, ℕ, List, [], ◌∷◌, Option, Some, codes}
use Rattle.std.specs.Fmt.{decimal}
use Rattle.x_disk.specs.Disk.{View, IsUntouched}
use Rattle.mirror_store.specs.Opening.{AreRead}
use Rattle.x_pair.specs.Comparisons.{IsLikeness, TellsLikeness}
use Rattle.x_pair.specs.declared.likeness.Compared.{Compared}
use Rattle.x_pair.specs.declared.likeness.Compared.TheVariants as compared
use Rattle.x_pair.specs.declared.likeness.Likeness.{Likeness}
use Rattle.x_pair.specs.declared.likeness.Likeness.TheVariants as likeness
use Rattle.call_ends.specs.declared.status.Refusal.TheVariants.{Unlike}
use Rattle.call_ends.specs.declared.status.Status.{Status}
use Rattle.call_ends.specs.declared.status.Status.TheVariants as status
use Rattle.call_ends.specs.Puts.{Puts}
use Rattle.party_calls.specs.Dues.{IsOrNoMemory}

-- the line that tells it, without its line feed
abbrev pub likeness_text : Likeness → List ℕ
likeness_text likeness.Same = codes "SAME"
likeness_text likeness.FirstAhead = codes "FIRST AHEAD"
likeness_text likeness.SecondAhead = codes "SECOND AHEAD"
likeness_text likeness.Neither = codes "NEITHER"
likeness_text likeness.OtherParty = codes "OTHER PARTY"
likeness_text likeness.FirstBlank = codes "FIRST BLANK"
likeness_text likeness.SecondBlank = codes "SECOND BLANK"
likeness_text likeness.BothBlank = codes "BOTH BLANK"
likeness_text (likeness.FirstDamaged place) = codes "FIRST DAMAGED " ++ decimal place
likeness_text (likeness.SecondDamaged place) = codes "SECOND DAMAGED " ++ decimal place

-- it is done where the two are the same, and otherwise refused
abbrev pub status_of_likeness : Likeness → Status
status_of_likeness likeness.Same = status.Done
status_of_likeness l = status.Refused Unlike

-- a comparison with this outcome ends so
abbrev pub EndsComparison : Compared → Status → Option (List ℕ) → Option (List ℕ) → Type 0
EndsComparison (compared.Done l) s before after = Puts (Some (likeness_text l)) (10 ∷ []) (status_of_likeness l) s before after
EndsComparison compared.Fault s before after = (s ≡ status.DiskFault) × (after ≡ before)
EndsComparison compared.NoMemory s before after = (s ≡ status.NoMemory) × (after ≡ before)

-- the two disks of these names were compared, and nothing was written to them
pub record IsComparing (party mirror : List ℕ) (old new : List ℕ → View) (s : Status) (before after : Option (List ℕ)) : Type 0 where
  pub outcome : Compared
  pub tells : TellsLikeness (old party) (old mirror) outcome
  pub first_stays : IsUntouched (old party) (new party)
  pub second_stays : IsUntouched (old mirror) (new mirror)
  pub ends : EndsComparison outcome s before after

-- the status is that of what the two images are to one another, or no memory was left
abbrev pub FollowsComparison : View → View → Status → Type 0
FollowsComparison first second s = (i j : List ℕ) (l : Likeness) → AreRead first second i j → IsLikeness i j l → IsOrNoMemory s (status_of_likeness l)

-- or no memory was left to tell it
abbrev pub EndsOrForgets : Compared → Status → Option (List ℕ) → Option (List ℕ) → Type 0
EndsOrForgets c s before after = EndsComparison c s before after ⊎ ((s ≡ status.NoMemory) × (after ≡ before))
