-- A store's file is wiped.
use Rattle.std.proofs.Common.{◌≡◌, ℕ, ◌+◌, List, Option, Some, None, is_some, Ok, Err, refl, sym, ◌∙◌, subst, arith}
use Rattle.x_disk.specs.Disk.{View, Tells, LeavesOnly}
use Rattle.x_disk.proofs.Alike.{told_now}
use Rattle.x_disk.proofs.Runs.{weaker}
use Rattle.key_journal.specs.States.{Site, Failed, room_of}
use Rattle.key_journal.specs.Wiping.{KeepsCounting, LeavesCounting, IsWipe}
use Rattle.key_store.specs.Store.{Stored, StandsWith, IsStore, space}
use Rattle.key_store.specs.Wiping.{IsStoreWipe}

told_before : (old new : Option (List ℕ)) (c : List ℕ) → is_some new ≡ is_some old → new ≡ Some c → (b : List ℕ) × (old ≡ Some b)
told_before (Some b) new c tells is = (b, refl)
told_before None None c tells is = absurd cc
told_before None (Some d) c tells is = absurd cc

module _ {D : Type 0} (told : D → View) (old : Stored D) (store : IsStore (told old.disk) old.gate old.end old.format old.party) where
  kept_moment : (new : View) → LeavesCounting (told old.disk) new → Tells (told old.disk) → LeavesOnly (told old.disk) new (λ c. StandsWith c old.party (space old))
  kept_moment new leaves tells =
      let now = told_now (told old.disk).now tells in
      let s = store.stands now.0 now.1 in
      let end : old.end ≡ old.gate + room_of s.bodies = store.room s.bodies (record { image = now.0; now = now.1; holds = s.holds }) in
      weaker (told old.disk) new (KeepsCounting now.0 s.bodies) (λ c. StandsWith c old.party (space old)) (leaves now.0 s.bodies now.1 s.holds)
      (λ c keeps. record { bodies = s.bodies; holds = keeps.holds; fold = s.fold; left = omega (arith, end) })

  abbrev site : Site D
  site = record { disk = old.disk; gate = old.gate; end = old.end }

  pub wiped_store : (new : Site D) → IsWipe told site (Ok new) → IsStore (told new.disk) new.gate new.end old.format old.party
  wiped_store new done = record {
    durable = done.durable;
    stands = λ c now.
        let was = told_before (told old.disk).now (told new.disk).now c done.tells now in
        let s = store.stands was.0 was.1 in
        let w = done.wiped was.0 s.bodies was.1 s.holds in
        let there : Some w.0 ≡ Some c = sym w.1 ∙ now in
        let same : w.0 ≡ c = cc there in
        let keeps : KeepsCounting was.0 s.bodies c = subst (KeepsCounting was.0 s.bodies) same w.2.keeps in
        record { bodies = s.bodies; holds = keeps.holds; fold = s.fold };
    within = store.within;
    room = done.room;
  }

  pub wiped_over : (new : Site D) → IsWipe told site (Ok new) → IsStoreWipe told old (Ok (record { disk = new.disk; gate = new.gate; end = new.end; format = old.format; party = old.party }))
  wiped_over new done = record {
    party = refl;
    place = done.place;
    format = refl;
    stands = wiped_store new done;
    wiped = done.wiped;
    any_moment = kept_moment (told new.disk) done.any_moment;
    cause = tt;
    faults = done.faults;
    tells = done.tells;
  }

  pub wipe_failed : (b : Failed D) → IsWipe told site (Err b) → IsStoreWipe told old (Err b)
  wipe_failed b done = record {
    party = tt;
    place = tt;
    format = tt;
    stands = tt;
    wiped = tt;
    any_moment = kept_moment (told b.disk) done.any_moment;
    cause = done.cause;
    faults = done.faults;
    tells = done.tells;
  }
