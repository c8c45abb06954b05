-- A stop: from the disk on which an event was begun to the party that is opened again.
use Rattle.std.proofs.Common.{◌≡◌, ◌≢◌, ◌⊎◌, inl, inr, ℕ, zero, suc, ◌+◌, ◌-◌, ◌<◌, nat_eq, not, cond, List, Bool, true, false, Some, is_some, refl, sym, ◌∙◌, ap, arith}
use Rattle.std.proofs.lemmas.Bool.Decides.{nat_tests}
use Rattle.key_journal.specs.States.{room_of}
use Rattle.x_base.specs.Edge.{Rose}
use Rattle.x_disk.specs.Disk.{View, Tells}
use Rattle.x_disk.specs.Shelf.{IsAlike}
use Rattle.key_store.specs.Store.{Stored, space}
use Rattle.member.specs.Member.{Member}
use Rattle.node_core.specs.Turns.{IsImageOf, member_of}
use Rattle.course.specs.declared.progress.Stop.{Stop}
use Rattle.open_parties.specs.Stops.{IsDiskAtStop, IsRestarted}
use Rattle.replay.specs.Stops.{IsStopped}
use Rattle.x_disk.proofs.Alike.{told_now}
use Rattle.open_parties.proofs.Stopping.{differ}

same_rooms : (a b : ℕ) → a ≡ b → not (nat_eq a b) ≡ false
same_rooms a b is = grind (arith, nat_tests)

other_rooms : (a b : ℕ) → a ≢ b → not (nat_eq a b) ≡ true
other_rooms a b apart = go (nat_eq a b) refl
  where
    go : (t : Bool) → nat_eq a b ≡ t → not (nat_eq a b) ≡ true
    go true is = let same : a ≡ b = grind (arith, nat_tests) in absurd (apart same)
    go false is = ap not is

none_left : (n : ℕ) → (0 < n → ⊥) → n ≡ 0
none_left zero some = refl
none_left (suc n) some = absurd (some (omega arith))

-- the disk v2 is the one that lay on the shelf between
module _ {D : Type 0} (told : D → View) (old new : Stored D) (v1 v2 : View) (x y : Member) (keep : Type 0) (stop : Stop) (rest : IsDiskAtStop (told old.disk) v1 x y keep stop.n)
    (alike : IsAlike v1 v2) (again : IsRestarted v2 (told new.disk) stop.choice new.gate new.end new.format new.party) (before after : ℕ) (seen : 0 < v1.faults → Rose before after)
    (less : keep → y.space.room ≢ x.space.room) (next : Bool) (found : next ≡ not (nat_eq (space new).room x.space.room)) (told_old : Tells (told old.disk)) where
  member_is : (m : Member) (image : List ℕ) → (told new.disk).now ≡ Some image → IsImageOf m image → member_of new ≡ m
  member_is m image now stands = λ i. record { party = one.1 i; space = record { format = one.0 i; room = same_room i } }
    where
      one : (new.format ≡ m.space.format) × (new.party ≡ m.party)
      one = again.exact image m.space.format m.party now (record { bodies = stands.bodies; holds = stands.holds; fold = stands.fold })

      left : (gate end r s : ℕ) → end ≡ gate + r → r ≡ s → end - gate ≡ s
      left gate end r s is same = omega (arith, is, same)

      same_room : new.end - new.gate ≡ m.space.room
      same_room = left new.gate new.end (room_of stands.bodies) m.space.room (again.store.room stands.bodies (record { image = image; now = now; holds = stands.holds })) stands.left

  is_old : member_of new ≡ x → next ≡ false
  is_old same = found ∙ same_rooms (space new).room x.space.room (ap (λ (m : Member). m.space.room) same)

  is_next : keep → member_of new ≡ y → next ≡ true
  is_next kept same = found ∙ other_rooms (space new).room x.space.room (λ is. less kept (sym (ap (λ (m : Member). m.space.room) same) ∙ is))

  tells_new : Tells (told new.disk)
  tells_new = again.tells ∙ (ap is_some alike.now ∙ (rest.tells ∙ told_old))

  here : (image : List ℕ) × ((told new.disk).now ≡ Some image)
  here = told_now (told new.disk).now tells_new

  left_by : v1.may_leave here.0
  left_by = alike.images here.0 (again.among here.0 here.1)

  cut_by : IsImageOf x here.0 ⊎ (keep × IsImageOf y here.0) → ((next ≡ false) × (member_of new ≡ x)) ⊎ ((next ≡ true) × (member_of new ≡ y))
  cut_by (inl one) = let same = member_is x here.0 here.1 one in inl (is_old same, same)
  cut_by (inr both) = let same = member_is y here.0 here.1 both.1 in inr (is_next both.0 same, same)

  kept_by : IsImageOf x here.0 ⊎ (keep × IsImageOf y here.0) → next ≡ true → keep
  kept_by (inl one) is = absurd (differ next is (is_old (member_is x here.0 here.1 one)))
  kept_by (inr both) is = both.0

  told_stops : IsStopped true told x y keep stop before after new next
  told_stops = record {
    cut = cut_by (rest.either told_old here.0 left_by);
    fixed = record {
      kept = kept_by (rest.either told_old here.0 left_by);
      early = λ tell kept few. is_old (member_is x here.0 here.1 (rest.early told_old kept few here.0 left_by));
      stable = λ tell kept few none. is_old (member_is x here.0 here.1 (rest.stable kept few here.0 (sym alike.stable ∙ (sym (again.stable none) ∙ here.1))));
      pending = λ tell kept four one quiet.
          is_next kept (member_is y here.0 here.1 (rest.pending kept four (none_left v1.faults (λ some. quiet (seen some))) here.0 (sym alike.now ∙ (sym (again.now one) ∙ here.1))));
      whole = λ tell kept many. is_next kept (member_is y here.0 here.1 (rest.whole told_old kept many here.0 left_by));
    };
    tells = λ tell. tells_new;
  }

-- one of the two was found
module _ {D : Type 0} (told : D → View) (new : Stored D) (x y : Member) (keep : Type 0) (stop : Stop) (before after : ℕ) (next : Bool) (found : next ≡ not (nat_eq (space new).room x.space.room)) (decided : keep ⊎ (keep → ⊥)) (same : (keep → ⊥) → y ≡ x) where
  one_found : (b : Bool) → member_of new ≡ cond b y x → ((b ≡ false) × (member_of new ≡ x)) ⊎ ((b ≡ true) × (member_of new ≡ y))
  one_found true is = inr (refl, is)
  one_found false is = inl (refl, is)

  kept_so : member_of new ≡ cond next y x → keep ⊎ (keep → ⊥) → next ≡ true → keep
  kept_so is (inl kept) yes_is = kept
  kept_so is (inr none) yes_is =
      let here : member_of new ≡ x = is ∙ (ap (λ (b : Bool). cond b y x) yes_is ∙ same none) in
      absurd (differ next yes_is (found ∙ same_rooms (space new).room x.space.room (ap (λ (m : Member). m.space.room) here)))

  pub found_stops : member_of new ≡ cond next y x → IsStopped false told x y keep stop before after new next
  found_stops is = record {
    cut = one_found next is;
    fixed = record {
      kept = kept_so is decided;
      early = λ tell kept few. absurd (let lie : false ≡ true = tell in cc lie);
      stable = λ tell kept few none. absurd (let lie : false ≡ true = tell in cc lie);
      pending = λ tell kept four one quiet. absurd (let lie : false ≡ true = tell in cc lie);
      whole = λ tell kept many. absurd (let lie : false ≡ true = tell in cc lie);
    };
    tells = λ tell. absurd (let lie : false ≡ true = tell in cc lie);
  }

-- where the disks tell their bytes, it is one of the two
module _ {D : Type 0} (told : D → View) (old new : Stored D) (v1 v2 : View) (x y : Member) (keep : Type 0) (stop : Stop) (rest : IsDiskAtStop (told old.disk) v1 x y keep stop.n)
    (alike : IsAlike v1 v2) (again : IsRestarted v2 (told new.disk) stop.choice new.gate new.end new.format new.party) (before after : ℕ) (seen : 0 < v1.faults → Rose before after)
    (less : keep → y.space.room ≢ x.space.room) (next : Bool) (found : next ≡ not (nat_eq (space new).room x.space.room)) where
  pub expected_found : Tells (told old.disk) → member_of new ≡ cond next y x
  expected_found tells = go (told_stops told old new v1 v2 x y keep stop rest alike again before after seen less next found tells).cut
    where
      go : ((next ≡ false) × (member_of new ≡ x)) ⊎ ((next ≡ true) × (member_of new ≡ y)) → member_of new ≡ cond next y x
      go (inl one) = one.1 ∙ ap (λ (b : Bool). cond b y x) (sym one.0)
      go (inr two) = two.1 ∙ ap (λ (b : Bool). cond b y x) (sym two.0)

  -- whether they do or not
  pub stops : keep ⊎ (keep → ⊥) → ((keep → ⊥) → y ≡ x) → member_of new ≡ cond next y x → (tell : Bool) → (tell ≡ true → Tells (told old.disk)) → IsStopped tell told x y keep stop before after new next
  stops decided same is true tells = told_stops told old new v1 v2 x y keep stop rest alike again before after seen less next found (tells refl)
  stops decided same is false tells = found_stops told new x y keep stop before after next found decided same is
