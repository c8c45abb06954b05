-- A session over one disk or two each from a start ends as the run of the events of its deeds.
use Rattle.std.proofs.Common.{arith, ◌≡◌, ℕ, suc, ◌+◌, true, false, Option, Some, None, List, [], ◌∷◌, ◌++◌, length, refl, sym, ◌∙◌, ap, subst, append-nil, append_assoc, length-append}
use Rattle.x_disk.specs.Disk.{View, Tells, IsSound}
use Rattle.key_journal.specs.Journal.{is_blank}
use Rattle.party_state.specs.declared.command.Input.{Input}
use Rattle.party_state.specs.declared.command.Input.TheVariants as input
use Rattle.party_state.specs.State.{Party}
use Rattle.party_state.specs.Verdicts.{is_accept}
use Rattle.key_store.specs.Store.{Stands, StandsWith, IsFirstDamage}
use Rattle.member.specs.Deciding.{decision}
use Rattle.member.specs.Member.{Member, plan_at}
use Rattle.member.specs.Acts.{taking}
use Rattle.mirror_store.specs.Pairs.{Recovers}
use Rattle.mirror_store.specs.Opening.{IsPairRefusal}
use Rattle.mirror_store.specs.Recovering.{IsPairFailure}
use Rattle.mirror_store.specs.declared.pair.PairCause.{PairCause}
use Rattle.x_party.specs.declared.outcome.Outcome.{Outcome}
use Rattle.world_laws.specs.World.{World, member_at}
use Rattle.world_laws.specs.Events.{Action, Orders, Hears, Compacts, Migrates}
use Rattle.world_laws.specs.Nodes.{IsEventOf, input_event}
use Rattle.world_laws.specs.Starts.{HasAcceptedNothing, IsBareStart, IsStart}
use Rattle.world_laws.specs.Laws.{OneKeyPerCount, Once, Agreement, EndedBoth}
use Rattle.world_laws.proofs.Counting.Runs.{start_bare}
use Rattle.mirror_laws.specs.Runs.{FirstDisk, SecondDisk, PairEvent, pair_run, ArePairEvents, HonestPairRun}
use Rattle.mirror_laws.specs.Sessions.{PairDeed, Called, CutOff, Shown, ShowCutOff, Tended, TendCutOff, Batched, Aside, PowerFails, Lost, HaveOwnDisks, StandsOnOwn, AllStandOnOwn, IsTurned, IsPairMade, IsMadeOn, IsPairCalled, PairOffWithin, IsDeedDone, AreDeedsDone}
use Rattle.mirror_laws.specs.Deeds.{RecoversAs, AreImagesOf, AllMayLeave, EndsAsPairDone, EndsOnAllImages}
use Rattle.mirror_laws.proofs.Moves.{own_found}
use Rattle.mirror_laws.proofs.Images.{Pair, StandsFor, MayBe, Known, told, both_stand}
use Rattle.mirror_laws.proofs.Led.{IsPossible, Led, HasComeTo}
use Rattle.mirror_laws.proofs.OneDisk.{alone_stands, stands_alone, one_called, one_cut_off}
use Rattle.mirror_laws.proofs.CallsGo.{called, cut_off}
use Rattle.mirror_laws.proofs.ShowsGo.{shows, show_cut_off}
use Rattle.mirror_laws.proofs.TendsGo.{tends_first, first_cut_off, tends_second, second_cut_off}
use Rattle.mirror_laws.proofs.BatchesGo.{batched}
use Rattle.mirror_laws.proofs.AsidesGo.{aside}
use Rattle.mirror_laws.proofs.LossesGo.{all_off, loses_first, loses_second}
use Rattle.mirror_laws.proofs.OwnDisks.{second_view, but_own}

-- the disks of a member at the start

first_on : (m : Option (List ℕ)) (name : List ℕ) (disks : List ℕ → View) (x : Member) → StandsOnOwn m name disks x → Tells (disks name)
first_on None name disks x on = on.0
first_on (Some second) name disks x on = on.first_tells

second_on : (m : Option (List ℕ)) (name : List ℕ) (disks : List ℕ → View) (x : Member) → StandsOnOwn m name disks x → Tells (second_view m disks)
second_on None name disks x on = refl
second_on (Some second) name disks x on = on.second_tells

own_stand : Known → (m : Option (List ℕ)) (name : List ℕ) (disks : List ℕ → View) (x : Member) → x.party.own ≡ name → StandsOnOwn m name disks x → (f : Option (List ℕ)) (d : List ℕ)
    → MayBe (disks name).may_leave (second_view m disks).may_leave f d → StandsFor f d x
own_stand known None name disks x own on (Some c) d may =
    let now = told (disks name) on.0 in
    let is : c ≡ now.0 = on.1.durable.only now.0 c now.1 may.0 in
    subst (λ (e : List ℕ). RecoversAs c e x) (sym may.1) (stands_alone known c x (subst (λ (b : List ℕ). StandsWith b x.party x.space) (sym is) (on.1.reads now.0 now.1)))
own_stand known None name disks x own on None d may = (let blank : is_blank d ≡ true = ap is_blank may.0 in let lie : true ≡ false = sym blank ∙ may.1 in absurd (cc lie))
own_stand known (Some second) name disks x own on f d may =
    let first_now = told (disks name) on.first_tells in
    let second_now = told (disks second) on.second_tells in
    both_stand known (disks name) (disks second) x on.stand first_now.0 second_now.0 first_now.1 second_now.1 name own f d may

start_goes : Known → (start : World) (mirror : List ℕ → Option (List ℕ)) (disks : ℕ → List ℕ → View) → AllStandOnOwn mirror (disks 0) start → HasComeTo start mirror disks [] (disks 0)
start_goes known start mirror disks on = record {
  first_tells = λ q x h. first_on (mirror q) q (disks 0) x (on q x h);
  second_tells = λ q x h. second_on (mirror q) q (disks 0) x (on q x h);
  reach = begins;
}
  where
    begins : (images : List ℕ → Pair) → IsPossible start mirror (disks 0) images → Led start mirror disks [] images
    begins images possible = record {
      events = [];
      texts = [];
      of_deeds = (refl, refl);
      are_events = tt;
      at = record {
        stands = λ q x h. own_stand known (mirror q) q (disks 0) x (sym (own_found q start x h)) (on q x h) (images q).first (images q).second (possible q x h);
        there = λ q. refl;
        texts_are = sym (append-nil start.texts);
      };
    }

-- the laws of runs
pub record Laws : Type 0 where
  pub counts : (start : World) (events : List PairEvent) → IsBareStart start → ArePairEvents events → OneKeyPerCount (pair_run 1 start events)
  pub once : (start : World) (events : List PairEvent) → HasAcceptedNothing start → ArePairEvents events → Once (pair_run 1 start events)
  pub agreement : (start : World) (events : List PairEvent) → IsStart start → ArePairEvents events → HonestPairRun 1 start events → Agreement (pair_run 1 start events)
  pub ended : (start : World) (events : List PairEvent) → IsStart start → ArePairEvents events → HonestPairRun 1 start events → EndedBoth (pair_run 1 start events)

-- an image of the second disk, where there is one
abbrev second_of : Option (List ℕ) → (List ℕ → List ℕ) → List ℕ
second_of None image = []
second_of (Some second) image = image second

second_may : (m : Option (List ℕ)) (disks : List ℕ → View) (image : List ℕ → List ℕ) → ((s : List ℕ) → m ≡ Some s → (disks s).may_leave (image s)) → (second_view m disks).may_leave (second_of m image)
second_may None disks image may = refl
second_may (Some second) disks image may = may second refl

images_of : Known → (m : Option (List ℕ)) (name : List ℕ) (image : List ℕ → List ℕ) (x : Member) → RecoversAs (image name) (second_of m image) x → AreImagesOf m name image x
images_of known None name image x is = alone_stands known (image name) x is
images_of known (Some second) name image x is = is

end_goes : Known → Laws → (start : World) (mirror : List ℕ → Option (List ℕ)) (deeds : List PairDeed) (disks : ℕ → List ℕ → View) → IsStart start → HasComeTo start mirror disks deeds (disks (length deeds))
    → EndsOnAllImages start mirror deeds disks
end_goes known laws start mirror deeds disks s g = record { first_tells = g.first_tells; second_tells = second_tells; ends = ends }
  where
    second_tells : (q second : List ℕ) (x : Member) → member_at q start.members ≡ Some x → mirror q ≡ Some second → Tells (disks (length deeds) second)
    second_tells q second x h has = subst (λ (m : Option (List ℕ)). Tells (second_view m (disks (length deeds)))) has (g.second_tells q x h)

    ends : (image : List ℕ → List ℕ) → AllMayLeave mirror (disks (length deeds)) start image → EndsAsPairDone start mirror deeds disks image
    ends image may =
        let r : Led start mirror disks deeds (λ q. record { first = Some (image q); second = second_of (mirror q) image }) =
        g.reach (λ q. record { first = Some (image q); second = second_of (mirror q) image }) (λ q x h. ((may q x h).first, second_may (mirror q) (disks (length deeds)) image (may q x h).second)) in
        record {
          events = r.events;
          texts = r.texts;
          of_deeds = r.of_deeds;
          are_events = r.are_events;
          images = λ q x h. images_of known (mirror q) q image x (r.at.stands q x h);
          texts_are = r.at.texts_are;
          counts = laws.counts start r.events (start_bare start s) r.are_events;
          once = laws.once start r.events (start_bare start s).accepted r.are_events;
          agreement = laws.agreement start r.events s r.are_events;
          ended = laws.ended start r.events s r.are_events;
        }

module _ (known : Known) (inputs : (x : Member) (i : Input) (moment : ℕ) → IsEventOf x (taking (plan_at x i moment)) (input_event x i moment))
    (refusing : (p : Party) (i : Input) (moment : ℕ) → is_accept (decision p i moment).verdict ≡ false → (decision p i moment).change ≡ [])
    (one_pair : (i j : List ℕ) (p q : Party) → Recovers i j p → Recovers i j q → p ≡ q)
    (refused : (i j : List ℕ) (p : Party) (reason : PairCause) → Recovers i j p → IsPairRefusal i j reason → IsPairFailure p reason)
    (undamaged : (image : List ℕ) (party : Party) (place : ℕ) → Stands image party → IsFirstDamage image place → ⊥)
    (start : World) (mirror : List ℕ → Option (List ℕ)) (apart : HaveOwnDisks mirror start) (disks ends : ℕ → List ℕ → View) (sound : (k : ℕ) (q : List ℕ) → IsSound (disks k q)) where
  -- a deed goes on
  module _ (ds : List PairDeed) (g : HasComeTo start mirror disks ds (disks (0 + length ds))) where
    abbrev was : List ℕ → View
    was = disks (0 + length ds)

    own_turn : (name second : List ℕ) → mirror name ≡ Some second → (i : Input) (moment : ℕ) (o : Outcome) (new : List ℕ → View) → IsTurned name i moment o (was name) (was second) (new name) (new second)
        → IsTurned name i moment o (was name) (second_view (mirror name) was) (new name) (second_view (mirror name) new)
    own_turn name second has i moment o new turned = subst (λ (m : Option (List ℕ)). IsTurned name i moment o (was name) (second_view m was) (new name) (second_view m new)) (sym has) turned

    by_pair : (name second : List ℕ) → mirror name ≡ Some second → (action : Action) (moment : ℕ) (o : Outcome) (new : List ℕ → View) → ((q : List ℕ) → IsSound (new q)) → IsPairCalled start mirror name action moment o was new
        → IsPairMade name action moment o (was name) (was second) (new name) (new second) → HasComeTo start mirror disks (ds ++ Called name action moment o ∷ []) new
    by_pair name second has (Orders c) moment o new later is made =
        called known inputs refusing one_pair refused start mirror apart disks ds g (sound (0 + length ds)) name second [] has (input.Ordered c) moment o is.is_action is.member is.at new
        (own_turn name second has (input.Ordered c) moment o new made) (but_own start mirror apart name is.member is.at was new is.others) later
    by_pair name second has (Hears bytes (Some a)) moment o new later is made =
        called known inputs refusing one_pair refused start mirror apart disks ds g (sound (0 + length ds)) name second bytes has (input.Arrived a) moment o is.is_action is.member is.at new
        (own_turn name second has (input.Arrived a) moment o new made) (but_own start mirror apart name is.member is.at was new is.others) later
    by_pair name second has (Hears bytes None) moment o new later is made = absurd made
    by_pair name second has Compacts moment o new later is made = absurd made
    by_pair name second has Migrates moment o new later is made = absurd made

    cut_pair : (name second : List ℕ) → mirror name ≡ Some second → (action : Action) (moment : ℕ) (o : Outcome) (mid new : List ℕ → View) → IsPairCalled start mirror name action moment o was mid → PairOffWithin mirror name was mid new
        → IsPairMade name action moment o (was name) (was second) (mid name) (mid second) → HasComeTo start mirror disks (ds ++ CutOff name action moment o ∷ []) new
    cut_pair name second has (Orders c) moment o mid new is off made =
        cut_off known inputs refusing one_pair refused start mirror apart disks ds g (sound (0 + length ds)) name second [] has (input.Ordered c) moment o is.is_action is.member is.at mid
        (own_turn name second has (input.Ordered c) moment o mid made) (but_own start mirror apart name is.member is.at was mid is.others) new off
    cut_pair name second has (Hears bytes (Some a)) moment o mid new is off made =
        cut_off known inputs refusing one_pair refused start mirror apart disks ds g (sound (0 + length ds)) name second bytes has (input.Arrived a) moment o is.is_action is.member is.at mid
        (own_turn name second has (input.Arrived a) moment o mid made) (but_own start mirror apart name is.member is.at was mid is.others) new off
    cut_pair name second has (Hears bytes None) moment o mid new is off made = absurd made
    cut_pair name second has Compacts moment o mid new is off made = absurd made
    cut_pair name second has Migrates moment o mid new is off made = absurd made

    by_call : (name : List ℕ) (action : Action) (moment : ℕ) (o : Outcome) (new : List ℕ → View) → ((q : List ℕ) → IsSound (new q)) → IsPairCalled start mirror name action moment o was new
        → HasComeTo start mirror disks (ds ++ Called name action moment o ∷ []) new
    by_call name action moment o new later is = go (mirror name) refl is.made
      where
        go : (m : Option (List ℕ)) → mirror name ≡ m → IsMadeOn m name action moment o was new → HasComeTo start mirror disks (ds ++ Called name action moment o ∷ []) new
        go None none made = one_called known undamaged start mirror apart disks ds g (sound (0 + length ds)) name none action moment o is.is_action is.member is.at new made
            (but_own start mirror apart name is.member is.at was new is.others) (later name)
        go (Some second) has made = by_pair name second has action moment o new later is made

    by_cut : (name : List ℕ) (action : Action) (moment : ℕ) (o : Outcome) (mid new : List ℕ → View) → IsPairCalled start mirror name action moment o was mid → PairOffWithin mirror name was mid new
        → HasComeTo start mirror disks (ds ++ CutOff name action moment o ∷ []) new
    by_cut name action moment o mid new is off = go (mirror name) refl is.made
      where
        go : (m : Option (List ℕ)) → mirror name ≡ m → IsMadeOn m name action moment o was mid → HasComeTo start mirror disks (ds ++ CutOff name action moment o ∷ []) new
        go None none made = one_cut_off known undamaged start mirror apart disks ds g (sound (0 + length ds)) name none action moment o is.is_action is.member is.at mid made
            (but_own start mirror apart name is.member is.at was mid is.others) new off
        go (Some second) has made = cut_pair name second has action moment o mid new is off made

    abbrev next : List ℕ → View
    next = disks (suc (0 + length ds))

    deed_goes : (d : PairDeed) (mid : List ℕ → View) → ((q : List ℕ) → IsSound (next q)) → IsDeedDone start mirror d was mid next → HasComeTo start mirror disks (ds ++ d ∷ []) next
    deed_goes (Called name action moment o) mid later is = by_call name action moment o next later is
    deed_goes (CutOff name action moment o) mid later is = by_cut name action moment o mid next is.0 is.1
    deed_goes (Shown name) mid later is = shows known start mirror apart disks ds g (sound (0 + length ds)) name next is later
    deed_goes (ShowCutOff name) mid later is = show_cut_off known start mirror apart disks ds g (sound (0 + length ds)) name mid is.0 next is.1
    deed_goes (Tended name FirstDisk t moment o) mid later is = tends_first known refused start mirror apart disks ds g (sound (0 + length ds)) name t moment o next is later
    deed_goes (Tended name SecondDisk t moment o) mid later is = tends_second known refused start mirror apart disks ds g (sound (0 + length ds)) name t moment o next is later
    deed_goes (TendCutOff name FirstDisk t moment o) mid later is = first_cut_off known refused start mirror apart disks ds g (sound (0 + length ds)) name t moment o mid is.0 next is.1
    deed_goes (TendCutOff name SecondDisk t moment o) mid later is = second_cut_off known refused start mirror apart disks ds g (sound (0 + length ds)) name t moment o mid is.0 next is.1
    deed_goes (Batched name spool text entries o) mid later is = batched known inputs start mirror apart disks ds g (sound (0 + length ds)) name spool text entries o is
    deed_goes Aside mid later is = aside start mirror disks ds g next is
    deed_goes PowerFails mid later is = all_off start mirror disks ds g next is
    deed_goes (Lost name FirstDisk) mid later is = loses_first known start mirror apart disks ds g (sound (0 + length ds)) name next is
    deed_goes (Lost name SecondDisk) mid later is = loses_second known start mirror apart disks ds g (sound (0 + length ds)) name next is

  deeds_go : (ds done : List PairDeed) → HasComeTo start mirror disks done (disks (0 + length done)) → AreDeedsDone start mirror ds (0 + length done) disks ends
      → HasComeTo start mirror disks (done ++ ds) (disks (0 + length (done ++ ds)))
  deeds_go [] done g is = subst (λ (cs : List PairDeed). HasComeTo start mirror disks cs (disks (0 + length cs))) (sym (append-nil done)) g
  deeds_go (d ∷ ds) done g is =
      let place : suc (0 + length done) ≡ 0 + length (done ++ d ∷ []) = omega (arith, length-append done (d ∷ [])) in
      let further : HasComeTo start mirror disks (done ++ d ∷ []) (disks (suc (0 + length done))) = deed_goes done g d (ends (0 + length done)) (sound (suc (0 + length done))) is.0 in
      let rest = deeds_go ds (done ++ d ∷ []) (subst (λ (n : ℕ). HasComeTo start mirror disks (done ++ d ∷ []) (disks n)) place further)
      (subst (λ (n : ℕ). AreDeedsDone start mirror ds n disks ends) place is.1) in
      subst (λ (cs : List PairDeed). HasComeTo start mirror disks cs (disks (0 + length cs))) (append_assoc done (d ∷ []) ds) rest

  pub session_is_done : Laws → (deeds : List PairDeed) → IsStart start → AllStandOnOwn mirror (disks 0) start → AreDeedsDone start mirror deeds 0 disks ends → EndsOnAllImages start mirror deeds disks
  session_is_done laws deeds s on is =
      let g : HasComeTo start mirror disks ([] ++ deeds) (disks (0 + length ([] ++ deeds))) = deeds_go deeds [] (start_goes known start mirror disks on) is in
      let place : 0 + length deeds ≡ length deeds = omega arith in
      end_goes known laws start mirror deeds disks s (subst (λ (n : ℕ). HasComeTo start mirror disks deeds (disks n)) place g)
