-- A batch that is taken at a party with one disk goes on from what a session may have come to, by the events of its entries.
use Rattle.std.proofs.Common.{◌≡◌, inl, inr, ℕ, suc, ◌+◌, true, false, Option, Some, None, List, [], ◌∷◌, ◌++◌, length, refl, sym, ◌∙◌, ap, subst}
use Rattle.x_disk.specs.Disk.{View, Tells, IsSound}
use Rattle.key_journal.specs.Journal.{is_blank}
use Rattle.party_state.specs.declared.command.Input.{Input}
use Rattle.member.specs.Member.{Member, plan_at}
use Rattle.member.specs.Acts.{taking}
use Rattle.node_core.specs.Turns.{IsImageOf}
use Rattle.csm_batch.specs.declared.entry.Entry.{Entry}
use Rattle.x_spool.specs.Dues.{FindsMember}
use Rattle.x_spool.specs.Outcomes.{LeavesBatch, MakesBatch}
use Rattle.x_spool.specs.Onward.{HasGoneWhole, AnswersWhole, IsLeftOnward, GoesOnward}
use Rattle.x_spool.specs.declared.outcome.SpoolOutcome.{SpoolOutcome}
use Rattle.x_spool.specs.declared.outcome.SpoolOutcome.TheVariants as spooling
use Rattle.world_laws.specs.World.{World}
use Rattle.world_laws.specs.Nodes.{IsEventOf, input_event}
use Rattle.mirror_laws.specs.Runs.{PairEvent}
use Rattle.mirror_laws.specs.Sessions.{PairDeed, Batched, HaveOwnDisks, IsBatchTaken}
use Rattle.mirror_laws.specs.Batches.{IsPartBatch, IsBatchOf}
use Rattle.mirror_laws.proofs.Images.{MayBe, Known, told}
use Rattle.mirror_laws.proofs.Ways.{Somebody, SomeWay, untouched_way}
use Rattle.mirror_laws.proofs.Batching.{Carried, whole_carried, part_carried}
use Rattle.mirror_laws.proofs.OwnDisks.{ButOwn, but_nobodys, no_disk, second_view}
use Rattle.mirror_laws.proofs.Led.{HasComeTo}
use Rattle.mirror_laws.proofs.Asked.{somebody, done_goes}
use Rattle.mirror_laws.proofs.OneDisk.{alone_stands, stands_alone}

module _ (known : Known) (inputs : (x : Member) (i : Input) (moment : ℕ) → IsEventOf x (taking (plan_at x i moment)) (input_event x i moment)) where
  -- over the disk
  module _ (name text : List ℕ) (entries : List Entry) (o : SpoolOutcome) (old spool new spool_after : View) (made : MakesBatch name text entries old spool new spool_after o) (onward : GoesOnward name text entries old spool new spool_after o)
      (sound : IsSound old) (some : (f : Option (List ℕ)) (d : List ℕ) → MayBe old.may_leave no_disk.may_leave f d → Somebody name f d) (b : List ℕ) (now : old.now ≡ Some b) (tells : Tells new) where
    abbrev possible : MayBe old.may_leave no_disk.may_leave (Some b) []
    possible = (sound.now_among b now, refl)

    abbrev here : Somebody name (Some b) []
    here = some (Some b) [] possible

    abbrev x : Member
    x = here.member

    finds : FindsMember name b x
    finds = record { stands = alone_stands known b x here.stands; own = here.own }

    abbrev WayBy : (List PairEvent → List (List ℕ) → Type 0) → Option (List ℕ) → List ℕ → Type 0
    WayBy are f d = SomeWay name old.may_leave no_disk.may_leave some are f d

    carried_way : (are : List PairEvent → List (List ℕ) → Type 0) (y : Member) → Carried name x are y → (c : List ℕ) → IsImageOf y c → WayBy are (Some c) []
    carried_way are y carried c stands = record {
      texts = carried.texts;
      way = record {
        from_first = Some b;
        from_second = [];
        possible = possible;
        going = record {
          events = carried.events;
          is = carried.is;
          are_events = carried.are_events;
          arrives = λ n w at. record { member = y; moved = carried.moved n w at; stands = stands_alone known c y stands };
        };
      };
    }

    still_way : (are : List PairEvent → List (List ℕ) → Type 0) → are [] [] → (c : List ℕ) → old.may_leave c → WayBy are (Some c) []
    still_way are none c left = record { texts = []; way = untouched_way name old.may_leave no_disk.may_leave some (λ es. are es []) none (Some c) [] (left, refl) }

    whole_way : (out : List ℕ) → HasGoneWhole text entries spool new spool_after x out → (c : List ℕ) → new.may_leave c → WayBy (IsBatchOf name text entries spool spool_after (spooling.Done out)) (Some c) []
    whole_way out gone c left =
        let reads = told new tells in
        let is : c ≡ reads.0 = gone.keeps.durable.only reads.0 c reads.1 left in
        carried_way (IsBatchOf name text entries spool spool_after (spooling.Done out)) gone.member (whole_carried inputs name x here.own entries gone.member text out spool spool_after gone.plans gone.whole gone.spool gone.outbox gone.went) c
        (subst (IsImageOf gone.member) (sym is) (gone.keeps.stands reads.0 reads.1))

    abbrev IsPart : List PairEvent → List (List ℕ) → Type 0
    IsPart = IsPartBatch name text entries spool spool_after

    left_way : (c : List ℕ) → IsLeftOnward text entries spool spool_after x c → WayBy IsPart (Some c) []
    left_way c left = carried_way IsPart left.member (part_carried inputs name x here.own entries left.member text spool spool_after left.stood left.held left.more left.kept left.way) c left.stands

    part_way : (c : List ℕ) → new.may_leave c → WayBy IsPart (Some c) []
    part_way c left = elim (onward.left b x now finds c left) [
      | inl before ↦ still_way IsPart (inl (refl, refl, before.1)) c before.0
      | inr on ↦ left_way c on
    ]

    ended_way : (c : List ℕ) → new.may_leave c → WayBy (IsBatchOf name text entries spool spool_after o) (Some c) []
    ended_way c left = go o made.left (onward.answers b x now finds)
      where
        go : (p : SpoolOutcome) → LeavesBatch text entries old spool new spool_after p → AnswersWhole text entries spool new spool_after x p → WayBy (IsBatchOf name text entries spool spool_after p) (Some c) []
        go (spooling.Done out) leaves gone = whole_way out gone c left
        go spooling.OtherBatch leaves gone = still_way (IsBatchOf name text entries spool spool_after spooling.OtherBatch) (refl, refl, leaves.spool) c (leaves.party.images c left)
        go (spooling.OutOfStep entry) leaves gone = still_way (IsBatchOf name text entries spool spool_after (spooling.OutOfStep entry)) (refl, refl, leaves.spool) c (leaves.party.images c left)
        go (spooling.OtherParty asked found) leaves gone = still_way (IsBatchOf name text entries spool spool_after (spooling.OtherParty asked found)) (refl, refl, leaves.spool) c (leaves.party.images c left)
        go spooling.Blank leaves gone = still_way (IsBatchOf name text entries spool spool_after spooling.Blank) (refl, refl, leaves.spool) c (leaves.party.images c left)
        go (spooling.Damaged place) leaves gone = still_way (IsBatchOf name text entries spool spool_after (spooling.Damaged place)) (refl, refl, leaves.spool) c (leaves.party.images c left)
        go spooling.Fault leaves gone = part_way c left
        go spooling.NoMemory leaves gone = part_way c left

    -- beside no second image
    pub batch_way : (f : Option (List ℕ)) (d : List ℕ) → MayBe new.may_leave no_disk.may_leave f d → WayBy (IsBatchOf name text entries spool spool_after o) f d
    batch_way (Some c) d may = subst (λ (e : List ℕ). WayBy (IsBatchOf name text entries spool spool_after o) (Some c) e) (sym may.1) (ended_way c may.0)
    batch_way None d may = (let blank : is_blank d ≡ true = ap is_blank may.0 in let lie : true ≡ false = sym blank ∙ may.1 in absurd (cc lie))

  -- in a session
  module _ (start : World) (mirror : List ℕ → Option (List ℕ)) (apart : HaveOwnDisks mirror start) (disks : ℕ → List ℕ → View) (ds : List PairDeed) (g : HasComeTo start mirror disks ds (disks (0 + length ds)))
      (sound : (q : List ℕ) → IsSound (disks (0 + length ds) q)) (name spool text : List ℕ) (entries : List Entry) (o : SpoolOutcome)
      (is : IsBatchTaken start mirror name spool text entries o (disks (0 + length ds)) (disks (suc (0 + length ds)))) where
    abbrev was : List ℕ → View
    was = disks (0 + length ds)

    abbrev next : List ℕ → View
    next = disks (suc (0 + length ds))

    now_is : (b : List ℕ) × ((was name).now ≡ Some b)
    now_is = told (was name) (g.first_tells name is.member is.at)

    first_tells : Tells (next name)
    first_tells = is.tells ∙ g.first_tells name is.member is.at

    stay : ButOwn start mirror name was next
    stay = but_nobodys start mirror apart name is.member is.at was next spool is.nobodys is.others

    abbrev Ways : Option (List ℕ) → Type 0
    Ways m = (some : (f : Option (List ℕ)) (d : List ℕ) → MayBe (was name).may_leave (second_view m was).may_leave f d → Somebody name f d) → (f : Option (List ℕ)) (d : List ℕ)
        → MayBe (next name).may_leave (second_view m next).may_leave f d → SomeWay name (was name).may_leave (second_view m was).may_leave some (IsBatchOf name text entries (was spool) (next spool) o) f d

    ways : Ways None
    ways some = batch_way name text entries o (was name) (was spool) (next name) (next spool) is.made is.onward (sound name) some now_is.0 now_is.1 first_tells

    pub batched : HasComeTo start mirror disks (ds ++ Batched name spool text entries o ∷ []) next
    batched =
        done_goes start mirror apart disks ds g name is.member is.at next stay (Batched name spool text entries o) first_tells
        (subst (λ (m : Option (List ℕ)). Tells (second_view m next)) (sym is.alone) refl)
        (λ images others. (subst Ways (sym is.alone) ways) (somebody start mirror disks ds g name is.member is.at images others) (images name).first (images name).second)
