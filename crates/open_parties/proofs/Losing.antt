-- What a stop that fails leaves of a party's disk.
use Rattle.std.proofs.Common.{◌≡◌, ◌⊎◌, inl, inr, ℕ, List, is_some, Err, refl, sym, ◌∙◌, ap}
use Rattle.x_disk.specs.Disk.{View, Tells, LeavesNoMore, IsSound}
use Rattle.x_disk.specs.Shelf.{IsAlike}
use Rattle.key_journal.specs.Opening.{IsFree}
use Rattle.key_journal.specs.declared.cause.Unmade.{Unmade}
use Rattle.party_state.specs.State.{Party}
use Rattle.key_store.specs.Loaded.{IsLoaded}
use Rattle.key_store.specs.Store.{Stands}
use Rattle.member.specs.Member.{Member}
use Rattle.node_core.specs.Turns.{IsImageOf}
use Rattle.open_parties.specs.Failing.{IsFailing, ReadsEither, IsFailedPartyDisk}
use Rattle.open_parties.specs.Stops.{IsDiskAtStop}
use Rattle.open_parties.specs.declared.failure.Failure.{Failure}
use Rattle.open_parties.specs.declared.failure.Failure.TheVariants as failure
use Rattle.x_disk.proofs.Alike.{told_now}

-- the power-off failed, or the opening behind it
pub failed_off : (v w : View) (why : Failure) → IsFailing why → IsSound w → LeavesNoMore v w → is_some w.now ≡ is_some v.now → IsFailedPartyDisk v w why
failed_off v w why failing sound crash tells = record {
  tells = tells;
  among = λ image now. crash image (sound.now_among image now);
  sound = λ tells_v stands. failing;
}

pub failed_open : {D : Type 0} (told : D → View) (v : View) (mid : D) (u : Unmade D) (why : Failure) → (IsFree u.cause → IsFailing why) → IsSound (told mid) → LeavesNoMore v (told mid) → is_some (told mid).now ≡ is_some v.now
    → IsLoaded told mid (Err u) → IsFailedPartyDisk v (told u.disk) why
failed_open told v mid u why failing sound crash tells loaded = record {
  tells = ap is_some loaded.now ∙ tells;
  among = λ image now. crash image (sound.now_among image (sym loaded.now ∙ now));
  sound = λ tells_v stands.
      let here = told_now (told mid).now (tells ∙ tells_v) in
      let party = stands here.0 (crash here.0 (sound.now_among here.0 here.1)) in
      failing (loaded.never_refused here.0 party.0 here.1 party.1);
}

-- an event was begun on the disk v1, which then lay on the shelf
module _ (v v1 : View) (x y : Member) (keep : Type 0) (n : ℕ) (rest : IsDiskAtStop v v1 x y keep n) where
  either_stands : (image : List ℕ) → IsImageOf x image ⊎ (keep × IsImageOf y image) → (party : Party) × Stands image party
  either_stands image (inl one) = (x.party, record { format = x.space.format; stands = record { bodies = one.bodies; holds = one.holds; fold = one.fold } })
  either_stands image (inr next) = (y.party, record { format = y.space.format; stands = record { bodies = next.1.bodies; holds = next.1.holds; fold = next.1.fold } })

  pub shelf_reads : (w : View) → IsSound v1 → IsAlike v1 w → Tells v → ReadsEither w x y keep
  shelf_reads w sound alike tells = record {
    tells = ap is_some alike.now ∙ (rest.tells ∙ tells);
    either = λ image now. rest.either tells image (sound.now_among image (sym alike.now ∙ now));
  }

  pub failed_reads : (v2 w : View) (why : Failure) → IsAlike v1 v2 → IsFailedPartyDisk v2 w why → Tells v → IsFailing why × ReadsEither w x y keep
  failed_reads v2 w why alike failed_disk tells = (
    failed_disk.sound (ap is_some alike.now ∙ (rest.tells ∙ tells)) (λ image left. either_stands image (rest.either tells image (alike.images image left))),
    record {
      tells = failed_disk.tells ∙ (ap is_some alike.now ∙ (rest.tells ∙ tells));
      either = λ image now. rest.either tells image (alike.images image (failed_disk.among image now));
    },
  )

-- what is no damage is a failure of the disk, or of memory
pub fails_undamaged : (why : Failure) → ((place : ℕ) → why ≡ failure.Damaged place → ⊥) → IsFailing why
fails_undamaged failure.Fault none = tt
fails_undamaged failure.NoMemory none = tt
fails_undamaged (failure.Damaged place) none = none place refl
