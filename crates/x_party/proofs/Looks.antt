-- A disk that was only looked at.
use Rattle.std.proofs.Common.{◌≡◌, ℕ, List, Some, None, ◌∙◌, ap, subst, refl}
use Rattle.std.specs.Prelude.{Option, Result, Ok, Err, IfOk}
use Rattle.x_disk.specs.Disk.{View}
use Rattle.x_disk.specs.Shelf.{IsAlike}
use Rattle.key_journal.specs.declared.cause.Cause.{Cause}
use Rattle.key_journal.specs.declared.cause.Cause.TheVariants as cause
use Rattle.key_journal.specs.Opening.{IsFree}
use Rattle.key_store.specs.Store.{Stands}
use Rattle.party_state.specs.declared.command.Input.{Input}
use Rattle.party_state.specs.State.{Party}
use Rattle.member.specs.Deciding.{decision}
use Rattle.x_party.specs.Notices.{FindsNotice, notice_of}

-- the disk was taken out of the shelf as it was
pub looked_out : (old v : View) (i : Input) (class : List ℕ) (moment : ℕ) (notice : Option (List ℕ)) → IsAlike old v → FindsNotice v i class moment notice → FindsNotice old i class moment notice
looked_out old v i class moment notice out looked = λ image party now stands. looked image party (out.now ∙ now) stands

-- the party that was loaded is the one that stood there
pub looked_at : (v : View) (i : Input) (class : List ℕ) (moment : ℕ) (p : Party) (text : List ℕ) → ((image : List ℕ) (party : Party) → v.now ≡ Some image → Stands image party → p ≡ party)
    → text ≡ notice_of class (decision p i moment).change → FindsNotice v i class moment (Some text)
looked_at v i class moment p text exact is = λ image party now stands.
    subst (λ (q : Party). Some text ≡ Some (notice_of class (decision q i moment).change)) (exact image party now stands) (ap (λ (t : List ℕ). Some t) is)

-- none was
pub looked_nowhere : (v : View) (i : Input) (class : List ℕ) (moment : ℕ) (reason : Cause) → (IsFree reason → ⊥) → ((image : List ℕ) (party : Party) → v.now ≡ Some image → Stands image party → IsFree reason)
    → FindsNotice v i class moment None
looked_nowhere v i class moment reason named never = λ image party now stands. absurd (named (never image party now stands))

pub not_free : (reason : Cause) → (reason ≡ cause.Fault → ⊥) → (reason ≡ cause.NoMemory → ⊥) → IsFree reason → ⊥
not_free cause.Blank fault memory free = free
not_free cause.NotEmpty fault memory free = free
not_free (cause.Damaged place) fault memory free = free
not_free cause.Fault fault memory free = fault refl
not_free cause.NoMemory fault memory free = memory refl

pub all_out : {E : Type 0} (old v : View) (i : Input) (class : List ℕ) (moment : ℕ) (r : Result (Option (List ℕ)) E) → IsAlike old v → IfOk r (FindsNotice v i class moment) → IfOk r (FindsNotice old i class moment)
all_out old v i class moment (Ok notice) out found = looked_out old v i class moment notice out found
all_out old v i class moment (Err e) out found = tt
