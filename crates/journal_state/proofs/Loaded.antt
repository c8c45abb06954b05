-- A journal is loaded: a run of reads, and what stands behind it.
use Rattle.std.proofs.Common.{◌≡◌, ◌⊎◌, inl, inr, ℕ, ◌≤◌, Bool, true, false, if◌then◌else◌, List, [], Some, None, refl, sym, ◌∙◌, subst, arith}
use Rattle.x_base.specs.Edge.{Rose}
use Rattle.x_disk.specs.Disk.{View, IsStill, IsUntouched, LeavesOnly, LeavesNoMore}
use Rattle.x_disk.proofs.Runs.{stays}
use Rattle.key_journal.specs.Journal.{is_blank}
use Rattle.key_journal.specs.Opening.{IsFree, IsOpened, refusal_of}
use Rattle.key_journal.specs.declared.cause.Cause.{Cause}
use Rattle.key_journal.specs.declared.cause.Cause.TheVariants as cause
use Rattle.journal_state.specs.States.{StandsFor}
use Rattle.journal_state.specs.Loading.{ReadTo, Stops, StopsSomewhere, StandsOnly, NeverRefused}

-- no cause of reading is that the disk isn't empty
pub read_any : (reason : Cause) (place : ℕ) → IsFree reason ⊎ (reason ≡ cause.Damaged place) → reason ≡ cause.NotEmpty → ⊥
read_any reason place (inl free) is = subst IsFree is free
read_any reason place (inr damaged) is = let never : cause.Damaged place ≡ cause.NotEmpty = sym damaged ∙ is in cc never

pub rose_later : (a b c : ℕ) → a ≤ b → Rose b c → Rose a c
rose_later a b c le (inl less) = inl (omega (arith, le, less))
rose_later a b c le (inr most) = inr most

pub still_on : (u v w : View) → IsStill u v → IsStill v w → IsStill u w
still_on u v w first second = record {
  now = second.now ∙ first.now;
  stable = second.stable ∙ first.stable;
  moment = second.moment ∙ first.moment;
  images = λ c is. first.images c (second.images c is);
  images_stay = λ c is. second.images_stay c (first.images_stay c is);
  since = λ t c is. first.since t c (second.since t c is);
  since_stays = λ t c is. second.since_stays t c (first.since_stays t c is);
}

-- a disk that was opened and read
pub read_over : (u v w : View) → v.now ≡ u.now → LeavesNoMore u v → LeavesOnly u v u.may_leave → IsStill v w → IsUntouched u w
read_over u v w now images any still = record {
  now = still.now ∙ now;
  images = λ c left. images c (still.images c left);
  any_moment = stays u v w u.may_leave any still;
}

module _ {S : Type 0} (step : List ℕ → S → S → Type 0) (first : S) where
  module _ (u v : View) (reason : Cause) (same : v.now ≡ u.now) where
    pub stops_on : (gate : ℕ) → Stops step first v gate reason → StopsSomewhere step first u reason
    stops_on gate stops image now = elim (stops image (same ∙ now)) [ inl free ↦ inl free | inr there ↦ inr (gate, there.0, there.1) ]

    pub never_refused_on : NeverRefused step first v reason → NeverRefused step first u reason
    never_refused_on never_refused image state now stands = never_refused image state (same ∙ now) stands

  pub unread : (u v : View) (gate end : ℕ) (ended : Bool) → IsOpened u v gate end ended → ReadTo step first v gate end first
  unread u v gate end ended opened image now =
      let before = sym opened.now ∙ now in
      record { bodies = []; begins = opened.begins image before; lead = refl; last = opened.last image before }

  -- an image stands for no other state than the one that was loaded
  pub loaded_exact : (u w : View) (state : S) → w.now ≡ u.now → StandsOnly step first w state → (image : List ℕ) (other : S) → u.now ≡ Some image → StandsFor step first image other → state ≡ other
  loaded_exact u w state same stands image other now is = (stands image (same ∙ now)).1 other is

-- an image that is opened isn't blank
sound_head_at : (blank magic : Bool) → (if blank then Some cause.Blank else (if magic then None else Some (cause.Damaged 2))) ≡ None → blank ≡ false
sound_head_at true magic is = absurd (cc is)
sound_head_at false magic is = refl

pub sound_head : (image : List ℕ) → refusal_of image ≡ None → is_blank image ≡ false
sound_head image is = sound_head_at (is_blank image) _ is
