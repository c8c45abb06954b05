-- A party that is framed, to be written on the other disk (this project's profile).
use Rattle.std.specs.Prelude.{◌≡◌, ◌≢◌, ◌⊎◌, ℕ, ◌≤◌, true, List, Some, is_some, Result, Ok, Err, IfOk, IfErr}
use Rattle.x_base.specs.Edge.{Rose}
use Rattle.x_disk.specs.Disk.{View, Tells, LeavesOnly}
use Rattle.key_journal.specs.Journal.{is_blank}
use Rattle.key_journal.specs.Opening.{IsFree}
use Rattle.key_journal.specs.declared.cause.Cause.TheVariants as cause
use Rattle.party_state.specs.State.{Party}
use Rattle.change_code.specs.Cost.{space_of_whole}
use Rattle.change_code.specs.declared.format.Format.TheVariants.{Two}
use Rattle.change_code.specs.Whole.{IsTooLarge}
use Rattle.key_store.specs.Store.{Stored, StandsWith, StandsAnew, IsStore, space}
use Rattle.mirror_store.specs.Pairs.{Twin, IsTwin}
use Rattle.mirror_store.specs.Answers.{opened_disks}
use Rattle.mirror_store.specs.declared.pair.PairCause.{PairCause}
use Rattle.mirror_store.specs.declared.pair.PairCause.TheVariants.{First, Second, OtherParty, TooLarge}
use Rattle.mirror_store.specs.declared.pair.PairUnmade.{PairUnmade}
use Rattle.mirror_store.specs.declared.uncopied.Uncopied.{Uncopied}
use Rattle.mirror_store.specs.declared.uncopied.Uncopied.TheVariants as uncopied

abbrev pub copied_disk : {D : Type 0} → Result (Stored D) (Uncopied D) → D
copied_disk (Ok s) = s.disk
copied_disk (Err (uncopied.TooLarge disk)) = disk
copied_disk (Err (uncopied.Failed u)) = u.disk

-- why a disk wasn't made to stand for a party
abbrev pub IsUncopied : {D : Type 0} → (D → View) → D → Party → Uncopied D → Type 0
IsUncopied told old party (uncopied.TooLarge disk) = IsTooLarge Two party
IsUncopied told old party (uncopied.Failed u) = ((b : List ℕ) → (told old).now ≡ Some b → IsFree u.cause) × (u.cause ≡ cause.Fault → Rose (told old).faults (told u.disk).faults)

-- a disk is made to stand for a party, from one of which a crash leaves what has P
pub record IsCopying {D : Type 0} (told : D → View) (old : D) (P : List ℕ → Type 0) (copy : Party) (result : Result (Stored D) (Uncopied D)) : Type 0 where
  pub stands : IfOk result (λ s. IsStore (told s.disk) s.gate s.end s.format s.party)
  pub party : IfOk result (λ s. s.party ≡ copy)
  -- its room is that behind one frame, for which it isn't too large
  pub left : IfOk result (λ s. space s ≡ space_of_whole Two copy)
  pub small : IfOk result (λ s. IsTooLarge Two copy → ⊥)
  pub refused : IfErr result (IsUncopied told old copy)
  -- it isn't touched for a party that is too large
  pub stays : IsTooLarge Two copy → copied_disk result ≡ old
  pub moments : Tells (told old) → LeavesOnly (told old) (told (copied_disk result)) (λ c. StandsAnew c copy ⊎ P c)
  pub faults : (told old).faults ≤ (told (copied_disk result)).faults
  pub tells : is_some (told (copied_disk result)).now ≡ is_some (told old).now

-- a crash leaves a blank image, or one that could be left before
abbrev pub IsBlankOrBefore : View → List ℕ → Type 0
IsBlankOrBefore old image = (is_blank image ≡ true) ⊎ old.may_leave image

-- why two parties aren't made one
abbrev pub IsUnsettled : Party → Party → PairCause → Type 0
IsUnsettled one other (First reason) = ⊥
IsUnsettled one other (Second reason) = IsFree reason
IsUnsettled one other (OtherParty a b) = (a ≡ one.own) × (b ≡ other.own) × (a ≢ b)
IsUnsettled one other TooLarge = (other.own ≡ one.own) × (other ≢ one) × IsTooLarge Two one

-- the second disk is made to stand for the first one's party, where it stands for another state of it
pub record IsSettled {D : Type 0} (told : D → View) (one two : Stored D) (result : Result (Twin D) (PairUnmade D)) : Type 0 where
  pub stand : IfOk result (IsTwin told)
  pub party : IfOk result (λ m. m.first.party ≡ one.party)
  pub own : IfOk result (λ m. two.party.own ≡ one.party.own)
  pub same : IfOk result (λ m. m.first ≡ one)
  -- the second stays where it stands for that party, which otherwise has the space there that one frame of it leaves
  pub second_left : IfOk result (λ m. ((two.party ≡ one.party) × (m.second ≡ two)) ⊎ ((two.party ≢ one.party) × (space m.second ≡ space_of_whole Two one.party)))
  -- what is written isn't too large for one frame
  pub small : IfOk result (λ m. two.party ≢ one.party → IsTooLarge Two one.party → ⊥)
  pub refused : IfErr result (λ u. (b : List ℕ) → (told two.disk).now ≡ Some b → IsUnsettled one.party two.party u.cause)
  -- the first disk isn't touched, nor the second where it stands for that party
  pub first : (opened_disks result).first ≡ one.disk
  pub quiet : two.party ≡ one.party → (opened_disks result).second ≡ two.disk
  pub apart : (two.party.own ≡ one.party.own → ⊥) → (opened_disks result).second ≡ two.disk
  -- nor where that is too large to be written
  pub too_large : IsTooLarge Two one.party → (opened_disks result).second ≡ two.disk
  -- a crash at any moment leaves the one, where it is another, with the space that one frame of it leaves, or the other with the space
  -- that it had
  pub moments : Tells (told two.disk) → LeavesOnly (told two.disk) (told (opened_disks result).second) (λ c. ((two.party ≢ one.party) × StandsAnew c one.party) ⊎ StandsWith c two.party (space two))
  pub fault : IfErr result (λ u. u.cause ≡ Second cause.Fault → Rose (told two.disk).faults (told u.disks.second).faults)
  pub names : IfErr result (λ u. u.cause ≡ First cause.Fault → ⊥)
  pub faults : (told two.disk).faults ≤ (told (opened_disks result).second).faults
  pub tells : is_some (told (opened_disks result).second).now ≡ is_some (told two.disk).now
