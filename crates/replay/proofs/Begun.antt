-- A disk on which a party begins, and to which its links are loaded.
use Rattle.std.proofs.Common.{◌≡◌, ◌⊎◌, inl, inr, ℕ, zero, suc, ◌+◌, ◌-◌, ◌<◌, ◌≤◌, Bool, true, false, List, [], ◌∷◌, length, Some, is_some, Result, Ok, Err, refl, sym, ◌∙◌, ap, subst, arith}
use Rattle.std.proofs.lemmas.Bool.{le-leb}
use Rattle.x_base.specs.Edge.{Rose}
use Rattle.x_base.specs.Names.{IsIdent}
use Rattle.x_disk.specs.Disk.{View, Tells, LeavesOnly, LeavesNoMore, Elapses, IsDurable, IsSound}
use Rattle.x_disk.specs.Calls.{IsSyncing}
use Rattle.x_disk.specs.declared.disk.DiskErr.{DiskErr}
use Rattle.x_disk.specs.declared.disk.DiskErr.TheVariants as disk
use Rattle.key_journal.specs.Causes.{cause_of}
use Rattle.key_journal.specs.Layout.{first_start, second_start, area_size}
use Rattle.key_journal.specs.Journal.{is_blank}
use Rattle.key_journal.specs.Opening.{IsFree}
use Rattle.key_journal.specs.States.{Failed as FailedDisk}
use Rattle.key_journal.specs.declared.cause.Cause.{Cause}
use Rattle.key_journal.specs.declared.cause.Cause.TheVariants as cause
use Rattle.key_journal.specs.declared.cause.Unmade.{Unmade}
use Rattle.party_tables.specs.declared.link.LinkRec.{LinkRec}
use Rattle.party_state.specs.declared.edit.Edit.TheVariants.{Begin, PutLink}
use Rattle.party_state.specs.Limits.{IsWithinLimits, StaysWithinLimits}
use Rattle.party_state.specs.Ranges.{HasNoBegin}
use Rattle.party_state.specs.State.{Party, begun}
use Rattle.change_code.specs.Cost.{cost, fits}
use Rattle.change_code.specs.declared.format.Format.TheVariants.{Two}
use Rattle.key_store.specs.Store.{Stored, IsStore, StandsForOldOrNew, IsBlankOrFirst, space}
use Rattle.key_store.specs.Creating.{IsNewStore}
use Rattle.key_store.specs.Kept.{store_disk}
use Rattle.key_store.specs.Keeping.{IsKeeping}
use Rattle.key_store.specs.declared.store.Kept.TheVariants as kept
use Rattle.member.specs.Member.{Member}
use Rattle.node_core.specs.Turns.{member_of, IsImageOf}
use Rattle.replay.specs.Crash.{AddsOnly}
use Rattle.open_parties.specs.Failing.{IsFailing}
use Rattle.replay.specs.SettingUp.{ReadsBlank, longest_load, HasBegun, HasPlace, IsLoad, IsLoadedInPart, IsPartlyLoaded, BeginsInPart, IsBeginning, BeginsOnly, IsNotBlank, IsFailedSetUp, IsFailedSetUpDisk, EndsBy}
use Rattle.course.specs.Parties.{new_member}
use Rattle.open_parties.specs.declared.failure.Failure.{Failure}
use Rattle.open_parties.specs.declared.failure.Failure.TheVariants as failure
use Rattle.course.specs.declared.declaring.NewParty.{NewParty}
use Rattle.replay.specs.declared.making.SetUpEnd.{SetUpEnd}
use Rattle.replay.specs.declared.making.SetUpEnd.TheVariants.{Failed}
use Rattle.x_disk.proofs.Runs.{began, weaker}
use Rattle.replay.proofs.Adding.{OrBefore, adds_call, adds_on}
use Rattle.open_parties.proofs.Carrying.{is_fault}
use Rattle.x_disk.proofs.Alike.{told_now}
use Rattle.open_parties.proofs.Images.{image_of}
use Rattle.replay.proofs.Lengths.{first_few, longest_is}
use Rattle.replay.proofs.Loads.{put_longer}

pub rose_above : (a b : ℕ) → Rose a b → 0 < b
rose_above a b (inl less) = omega (arith, less)
rose_above a b (inr most) = omega (arith, most)

-- what a read gives is among the images of a run
among : (v w : View) (P : List ℕ → Type 0) → IsSound w → LeavesOnly v w P → (image : List ℕ) → w.now ≡ Some image → P image
among v w P sound run image now = run.each image (sound.counts_now v.moment image run.later (sound.now_among image now))

-- ---- causes

fault_end : (reason : Cause) (e : SetUpEnd) → EndsBy reason e → e ≡ Failed failure.Fault → reason ≡ cause.Fault
fault_end cause.Blank e by is = absurd by
fault_end cause.NotEmpty e by is = let k = sym by ∙ is in absurd (cc k)
fault_end (cause.Damaged place) e by is = absurd by
fault_end cause.Fault e by is = refl
fault_end cause.NoMemory e by is = let k = sym by ∙ is in absurd (cc k)

pub free_cause : (d : DiskErr) → IsFree (cause_of d)
free_cause disk.Fault = tt
free_cause disk.NoMemory = tt

-- ---- a party begins

first_room : (gate end n : ℕ) → gate ≡ first_start + n → end ≡ second_start → end - gate ≡ area_size - n
first_room gate end n is last = omega (arith, is, last)

module _ {D : Type 0} (told : D → View) (old after : D) (party : NewParty) (same : (told after).now ≡ (told old).now) where
  pub begins : (s : Stored D) → IsIdent party.own → IsNewStore told party.own party.role party.generator after (Ok s) → HasBegun told (told old) party s
  begins s ident new =
      let begin = Begin party.own party.role party.generator ∷ [] in
      let few = first_few party.own party.role party.generator ident in
      let left = first_room s.gate s.end (cost Two begin) new.place.0 new.place.1 in
      record {
        blank = λ image now. new.blank image (same ∙ now);
        tells = new.tells ∙ ap is_some same;
        member = λ i. record { party = new.party i; space = record { format = new.format i; room = left i } };
        room = omega (arith, few, left, longest_is);
      }

  -- a crash at any moment of the beginning; the disk was synced first
  module _ (sound : IsSound (told old)) (middle : IsSound (told after)) (time : Elapses (told old) (told after)) (crash : LeavesNoMore (told old) (told after)) (loads : List LinkRec) where
    reads_blank : (b : List ℕ) → (told old).now ≡ Some b → is_blank b ≡ true → ReadsBlank (told old)
    reads_blank b was is other also = let one : Some b ≡ Some other = sym was ∙ also in let e : b ≡ other = cc one in subst (λ (l : List ℕ). is_blank l ≡ true) e is

    pub begins_only : (result : Result (Stored D) (Unmade D)) → IsNewStore told party.own party.role party.generator after result → BeginsOnly (told old) (told (store_disk result)) (new_member party) loads
    begins_only result new tells =
        let here = told_now (told old).now tells in
        adds_on (told old) (told after) (told (store_disk result)) (BeginsInPart (told old) (new_member party) loads) middle (adds_call (told old) (told after) (BeginsInPart (told old) (new_member party) loads) sound time crash)
        (go here.0 here.1 (is_blank here.0) refl)
      where
        pick : (b : List ℕ) → (told old).now ≡ Some b → is_blank b ≡ true → (c : List ℕ) → IsBlankOrFirst (begun party.own party.role party.generator) c ⊎ (told after).may_leave c → OrBefore (told after) (BeginsInPart (told old) (new_member party) loads) c
        pick b was is c (inl (inl blank)) = inl (reads_blank b was is, inl blank)
        pick b was is c (inl (inr stands)) = inl (reads_blank b was is, inr (0, stands))
        pick b was is c (inr may) = inr may

        go : (b : List ℕ) → (told old).now ≡ Some b → (t : Bool) → is_blank b ≡ t → AddsOnly (told after) (told (store_disk result)) (BeginsInPart (told old) (new_member party) loads)
        go b was false is =
            weaker (told after) (told (store_disk result)) (told after).may_leave (OrBefore (told after) (BeginsInPart (told old) (new_member party) loads)) (new.nothing_written b (same ∙ was) is).any_moment (λ c may. inr may)
        go b was true is =
            weaker (told after) (told (store_disk result)) (λ (c : List ℕ). IsBlankOrFirst (begun party.own party.role party.generator) c ⊎ (told after).may_leave c) (OrBefore (told after) (BeginsInPart (told old) (new_member party) loads))
            (new.any_moment (ap is_some same ∙ tells)) (pick b was is)

  module _ (loads : List LinkRec) (u : Unmade D) (new : IsNewStore told party.own party.role party.generator after (Err u)) (durable : IsDurable (told after)) (sound : IsSound (told u.disk)) (only : BeginsOnly (told old) (told u.disk) (new_member party) loads) where
    tells_on : Tells (told old) → Tells (told after)
    tells_on tells = ap is_some same ∙ tells

    stays_filled : (image : List ℕ) → (told old).now ≡ Some image → is_blank image ≡ false → (told u.disk).now ≡ (told old).now
    stays_filled image now filled = (new.nothing_written image (same ∙ now) filled).now ∙ same

    is_filled : Tells (told old) → u.cause ≡ cause.NotEmpty → IsNotBlank (told old) (told u.disk)
    is_filled tells is =
        let here = told_now (told old).now tells in
        record { filled = each; stays = stays_filled here.0 here.1 (each here.0 here.1) }
      where
        pick : (image : List ℕ) → IsFree u.cause ⊎ ((u.cause ≡ cause.NotEmpty) × (is_blank image ≡ false)) → is_blank image ≡ false
        pick image (inl free) = absurd (subst IsFree is free)
        pick image (inr both) = both.1

        each : (image : List ℕ) → (told old).now ≡ Some image → is_blank image ≡ false
        each image now = pick image (new.exact image (same ∙ now))

    begins_or : Tells (told old) → (image : List ℕ) → (told u.disk).now ≡ Some image → IsBeginning (told old) (new_member party) loads image
    begins_or tells image now =
        let here = told_now (told old).now tells in
        go here.0 here.1 (is_blank here.0) refl
      where
        reads : (b : List ℕ) → (told old).now ≡ Some b → is_blank b ≡ true → ReadsBlank (told old)
        reads b was is other also = let one : Some b ≡ Some other = sym was ∙ also in let e : b ≡ other = cc one in subst (λ (l : List ℕ). is_blank l ≡ true) e is

        left : (b : List ℕ) → (told old).now ≡ Some b → is_blank b ≡ true → IsBlankOrFirst (begun party.own party.role party.generator) image ⊎ (told after).may_leave image → IsBeginning (told old) (new_member party) loads image
        left b was is (inl (inl blank)) = inr (reads b was is, inl blank)
        left b was is (inl (inr stands)) = inr (reads b was is, inr (0, stands))
        left b was is (inr may) = inl (was ∙ ap Some (sym (durable.only b image (same ∙ was) may)))

        go : (b : List ℕ) → (told old).now ≡ Some b → (t : Bool) → is_blank b ≡ t → IsBeginning (told old) (new_member party) loads image
        go b was false is = inl (sym (stays_filled b was is) ∙ now)
        go b was true is = left b was is (among (told after) (told u.disk) (λ (c : List ℕ). IsBlankOrFirst (begun party.own party.role party.generator) c ⊎ (told after).may_leave c) sound (new.any_moment (tells_on tells)) image now)

    pub never_begins : (why : SetUpEnd) → EndsBy u.cause why → IsFailedSetUpDisk (told old) (told u.disk) (new_member party) loads why
    never_begins why ends = record {
      failed_set_up = λ tells. go tells u.cause refl ends;
      any_moment = only;
      fault = λ is. rose_above (told after).faults (told u.disk).faults (new.fault (fault_end u.cause why ends is));
    }
      where
        broken : Tells (told old) → (f : Failure) → IsFailing f → why ≡ Failed f → IsFailedSetUp (told old) (told u.disk) (new_member party) loads why
        broken tells f fine is = subst (λ (k : SetUpEnd). IsFailedSetUp (told old) (told u.disk) (new_member party) loads k) (sym is) (record { failing = fine; tells = new.tells ∙ tells_on tells; begins = begins_or tells })

        go : Tells (told old) → (reason : Cause) → u.cause ≡ reason → EndsBy reason why → IsFailedSetUp (told old) (told u.disk) (new_member party) loads why
        go tells cause.Blank is by = absurd by
        go tells cause.NotEmpty is by = subst (λ (k : SetUpEnd). IsFailedSetUp (told old) (told u.disk) (new_member party) loads k) (sym by) (is_filled tells is)
        go tells (cause.Damaged place) is by = absurd by
        go tells cause.Fault is by = broken tells failure.Fault tt by
        go tells cause.NoMemory is by = broken tells failure.NoMemory tt by

-- the sync failed
pub unsynced : (v w : View) (x : Member) (loads : List LinkRec) (d : DiskErr) (why : Failure) → IsSound v → IsSyncing v w (Err d) → IsFailing why → (why ≡ failure.Fault → d ≡ disk.Fault) → IsFailedSetUpDisk v w x loads (Failed why)
unsynced v w x loads d why sound sync fails by = record {
  failed_set_up = λ tells. record { failing = fails; tells = ap is_some sync.now ∙ tells; begins = λ image now. inl (sym sync.now ∙ now) };
  any_moment = λ tells. adds_call v w (BeginsInPart v x loads) sound sync.time sync.crash;
  fault = λ is. rose_above v.faults w.faults (sync.cause.fault (ap Err (by (cc is))));
}

-- ---- a link is loaded

load_room : (g e g' e' n : ℕ) → g' ≡ g + n → e' ≡ e → e' - g' ≡ e - g - n
load_room g e g' e' n gate end = omega (arith, gate, end)

room_above : (g e g' e' n most : ℕ) → g' ≡ g + n → e' ≡ e → n ≤ most → e - g ≤ e' - g' + most
room_above g e g' e' n most gate end few = omega (arith, gate, end, few)

-- a load begins no party
pub goes_on_load : (l : LinkRec) → HasNoBegin (PutLink l ∷ [])
goes_on_load l zero d le = tt
goes_on_load l (suc k) d le = absurd (omega (arith, le))

module _ {D : Type 0} (told : D → View) (old : Stored D) (l : LinkRec) where
  pub load_fits : HasPlace old → cost old.format (PutLink l ∷ []) ≤ longest_load → fits (space old) (PutLink l ∷ []) ≡ true
  load_fits place few = le-leb _ _ (omega (arith, place.room, few))

  pub stays_within : IsWithinLimits old.party → HasPlace old → StaysWithinLimits (PutLink l ∷ []) old.party
  stays_within within place = (record { links = omega (arith, put_longer l old.party.links, place.few); keys = within.keys }, tt)

  pub loads_one : (s : Stored D) → cost old.format (PutLink l ∷ []) ≤ longest_load → IsKeeping told old (PutLink l ∷ []) (kept.Done s) → IsLoad told old s l
  loads_one s few k =
      let d = k.1.place in
      let left = load_room old.gate old.end s.gate s.end (cost old.format (PutLink l ∷ [])) d.0 d.1 in
      let more = ap (λ (p : Party). length p.links) k.1.party in
      record {
        member = λ i. record { party = k.1.party i; space = record { format = k.1.format i; room = left i } };
        tells = k.1.tells;
        links = omega (arith, more, put_longer l old.party.links);
        room = room_above old.gate old.end s.gate s.end (cost old.format (PutLink l ∷ [])) longest_load d.0 d.1 few;
        any_moment = λ tells. k.1.any_moment tells;
      }

  in_part : (image : List ℕ) → StandsForOldOrNew old.party (space old) (PutLink l ∷ []) image → IsLoadedInPart (member_of old) (l ∷ []) image
  in_part image (inl before) = (0, before)
  in_part image (inr after) = (1, after)

  partly_on : (w : View) → LeavesOnly (told old.disk) w (StandsForOldOrNew old.party (space old) (PutLink l ∷ [])) → LeavesOnly (told old.disk) w (IsLoadedInPart (member_of old) (l ∷ []))
  partly_on w run = weaker (told old.disk) w (StandsForOldOrNew old.party (space old) (PutLink l ∷ [])) (IsLoadedInPart (member_of old) (l ∷ [])) run in_part

  pub failed_broken : (b : FailedDisk D) (k : D) (reason : Cause) (why : Failure) → k ≡ b.disk → reason ≡ cause_of b.cause → (why ≡ failure.Fault → reason ≡ cause.Fault) → (IsFree reason → IsFailing why) → IsSound (told b.disk) → IsKeeping told old (PutLink l ∷ []) (kept.Broken b)
      → IsPartlyLoaded (told old.disk) (told k) (member_of old) (l ∷ []) why
  failed_broken b k reason why one by fault failing sound keeping =
      subst (λ (j : D). IsPartlyLoaded (told old.disk) (told j) (member_of old) (l ∷ []) why) (sym one) (record {
        failing = λ tells. failing (subst IsFree (sym by) (free_cause b.cause));
        tells = keeping.1.tells;
        partly = λ tells. among (told old.disk) (told b.disk) (IsLoadedInPart (member_of old) (l ∷ [])) sound (partly_on (told b.disk) (keeping.1.any_moment tells));
        any_moment = λ tells. partly_on (told b.disk) (keeping.1.any_moment tells);
        fault = λ is. rose_above (told old.disk).faults (told b.disk).faults (keeping.1.cause.fault (is_fault b.cause (sym by ∙ fault is)));
      })

-- nothing was loaded, and the disk is as it was
module _ {D : Type 0} (told : D → View) (old : Stored D) (sound : IsSound (told old.disk)) (store : IsStore (told old.disk) old.gate old.end old.format old.party) where
  -- each image that may be left stands for the member
  stands_now : Tells (told old.disk) → (image : List ℕ) → (told old.disk).may_leave image → IsImageOf (member_of old) image
  stands_now tells image may =
      let here = told_now (told old.disk).now tells in
      let same = store.durable.only here.0 image here.1 may in
      subst (IsImageOf (member_of old)) (sym same) (image_of (told old.disk) old.gate old.end old.format old.party store here.0 here.1)

  pub none_loaded : (loads : List LinkRec) → Tells (told old.disk) → LeavesOnly (told old.disk) (told old.disk) (IsLoadedInPart (member_of old) loads)
  none_loaded loads tells = began (told old.disk) (IsLoadedInPart (member_of old) loads) sound (λ image may. (0, stands_now tells image may))

  pub failed_memory : (loads : List LinkRec) (s : Stored D) (k : D) → s ≡ old → k ≡ s.disk → IsPartlyLoaded (told old.disk) (told k) (member_of old) loads failure.NoMemory
  failed_memory loads s k same one =
      subst (λ (j : D). IsPartlyLoaded (told old.disk) (told j) (member_of old) loads failure.NoMemory) (sym (one ∙ ap (λ (t : Stored D). t.disk) same)) (record {
        failing = λ tells. tt;
        tells = refl;
        partly = λ tells image now. (0, image_of (told old.disk) old.gate old.end old.format old.party store image now);
        any_moment = none_loaded loads;
        fault = λ is. absurd (cc is);
      })
