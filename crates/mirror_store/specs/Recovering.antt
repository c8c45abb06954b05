-- Which party is opened from what a crash left of two disks, or the loss of one (this project's profile).
use Rattle.std.specs.Prelude.{◌≡◌, ◌⊎◌, ℕ, true, List}
use Rattle.key_journal.specs.Journal.{is_blank}
use Rattle.key_journal.specs.declared.cause.Cause.TheVariants as cause
use Rattle.party_state.specs.State.{Party}
use Rattle.change_code.specs.declared.format.Format.TheVariants.{Two}
use Rattle.change_code.specs.Whole.{IsTooLarge}
use Rattle.key_store.specs.Store.{Stands}
use Rattle.mirror_store.specs.Pairs.{Recovers}
use Rattle.mirror_store.specs.declared.pair.PairCause.{PairCause}
use Rattle.mirror_store.specs.declared.pair.PairCause.TheVariants.{First, Second, TooLarge}

-- the image stands for the one party or the other
abbrev pub IsEither : Party → Party → List ℕ → Type 0
IsEither one other image = Stands image one ⊎ Stands image other

-- the pair is opened as the one or the other
abbrev pub RecoversEither : Party → Party → List ℕ → List ℕ → Type 0
RecoversEither one other first second = Recovers first second one ⊎ Recovers first second other

-- one image is blank as another was, or stands for the party for which that stood, with any space
abbrev pub IsLikeBefore : List ℕ → List ℕ → Type 0
IsLikeBefore before image = ((is_blank before ≡ true) × (is_blank image ≡ true)) ⊎ ((party : Party) × Stands before party × Stands image party)

-- the image stands for the party, or is like the one before
abbrev pub IsLeft : List ℕ → Party → List ℕ → Type 0
IsLeft before party image = Stands image party ⊎ IsLikeBefore before image

-- the pair is opened as the party for which this image stands
pub record RecoversOther (image first second : List ℕ) : Type 0 where
  pub party : Party
  pub stands : Stands image party
  pub recovers : Recovers first second party

-- a disk failed, memory was wanting, or the party is too large for one frame
abbrev pub IsPairFailure : Party → PairCause → Type 0
IsPairFailure party (First cause.Fault) = Unit {0}
IsPairFailure party (First cause.NoMemory) = Unit {0}
IsPairFailure party (Second cause.Fault) = Unit {0}
IsPairFailure party (Second cause.NoMemory) = Unit {0}
IsPairFailure party TooLarge = IsTooLarge Two party
IsPairFailure party other = ⊥
