-- A party with one disk goes on from what a session may have come to, by the event of its call.
use Rattle.std.proofs.Common.{◌≡◌, inl, inr, ℕ, ◌+◌, true, false, Option, Some, None, List, [], ◌∷◌, ◌++◌, length, refl, sym, ◌∙◌, ap, subst, option_to_list, append-nil}
use Rattle.x_disk.specs.Disk.{View, Tells, IsSound}
use Rattle.key_journal.specs.Journal.{is_blank}
use Rattle.party_state.specs.State.{Party}
use Rattle.key_store.specs.Store.{Stands, StandsWith, IsFirstDamage}
use Rattle.member.specs.Member.{Member}
use Rattle.mirror_store.specs.Pairs.{Recovers}
use Rattle.x_party.specs.Images.{DiskStandsFor}
use Rattle.x_party.specs.declared.outcome.Outcome.{Outcome}
use Rattle.x_party.specs.declared.outcome.Outcome.TheVariants as outcome
use Rattle.world_laws.specs.World.{World, HasMember, member_at}
use Rattle.world_laws.specs.Events.{Action, Orders, Hears, Compacts, Migrates, Whole, IsAction}
use Rattle.world_laws.specs.Steps.{step}
use Rattle.call_laws.specs.Calls.{event_at, IsWholeCall, IsCutCall, IsCallEvent}
use Rattle.call_laws.specs.Sessions.{IsMade, reply_of}
use Rattle.call_laws.specs.Deeds.{event_of, IsCutOrNone, IsCallOf}
use Rattle.call_laws.proofs.CallEvents.{command_is_call, arrival_is_call, compaction_is_call, migration_is_call}
use Rattle.call_laws.proofs.Others.{Beside, step_beside}
use Rattle.mirror_laws.specs.Runs.{PairEvent, Happens}
use Rattle.mirror_laws.specs.Sessions.{PairDeed, Called, CutOff, HaveOwnDisks, PairOffWithin}
use Rattle.mirror_laws.specs.Deeds.{RecoversAs, OnlyHappen, IsCallOn, IsCutOn}
use Rattle.mirror_laws.proofs.Images.{MayBe, Known, told, never_blank, opened_first, first_stands}
use Rattle.mirror_laws.proofs.Ways.{Somebody, Going, Way, untouched_way}
use Rattle.mirror_laws.proofs.OwnDisks.{ButOwn, no_disk, second_view}
use Rattle.mirror_laws.proofs.Led.{HasComeTo}
use Rattle.mirror_laws.proofs.Asked.{somebody, ended_goes, cut_goes}

-- beside no second image the first one stands
pub alone_stands : Known → (c : List ℕ) (x : Member) → RecoversAs c [] x → StandsWith c x.party x.space
alone_stands known c x is = first_stands known c [] x is (known.not_blank c x.party (go is.recovers))
  where
    go : Recovers c [] x.party → Stands c x.party
    go (inl first) = first.0
    go (inr second) = never_blank known [] x.party refl second.1

pub stands_alone : Known → (c : List ℕ) (x : Member) → StandsWith c x.party x.space → RecoversAs c [] x
stands_alone known c x stands = opened_first known c [] x.party.own x refl stands (inl refl)

pub still_tells : (name : List ℕ) (action : Action) (moment : ℕ) (o : Outcome) (old new : View) → IsMade name action moment o old new → Tells old → Tells new
still_tells name (Orders c) moment o old new m t = m.1.tells ∙ t
still_tells name (Hears bytes (Some a)) moment o old new m t = m.1.tells ∙ t
still_tells name (Hears bytes None) moment o old new m t = absurd m
still_tells name Compacts moment o old new m t = m.1.tells ∙ t
still_tells name Migrates moment o old new m t = m.1.tells ∙ t

module _ (known : Known) (undamaged : (image : List ℕ) (party : Party) (place : ℕ) → Stands image party → IsFirstDamage image place → ⊥) where
  made_is_call : (name : List ℕ) (action : Action) (moment : ℕ) (o : Outcome) (old new : View) → IsMade name action moment o old new → (b : List ℕ) (x : Member) → x.party.own ≡ name → old.now ≡ Some b → StandsWith b x.party x.space
      → IsCallEvent x (event_at x moment action) old new o
  made_is_call name (Orders c) moment o old new m b x own now stood = (command_is_call known.one_space known.not_blank undamaged name old new c moment o m.0 m.1).own b x.party x.space now stood own
  made_is_call name (Hears bytes (Some a)) moment o old new m b x own now stood = (arrival_is_call known.one_space known.not_blank undamaged name old new bytes a moment o m.0 m.1).own b x.party x.space now stood own
  made_is_call name (Hears bytes None) moment o old new m b x own now stood = absurd m
  made_is_call name Compacts moment o old new m b x own now stood = compaction_is_call known.one_space known.not_blank undamaged old new moment o m.0 m.1 b x.party x.space now stood
  made_is_call name Migrates moment o old new m b x own now stood = migration_is_call known.one_space known.not_blank undamaged old new moment o m.0 m.1 b x.party x.space now stood

  -- the event at the member
  module _ (x : Member) (action : Action) (moment : ℕ) (is_action : IsAction action) where
    whole_at : (reply : Option (List ℕ)) (new : View) → IsWholeCall x (event_at x moment action Whole) new reply → (b : List ℕ) → new.now ≡ Some b → (c : List ℕ) → new.may_leave c
        → Going x.party.own x (option_to_list reply) (OnlyHappen (λ es. es ≡ event_of x.party.own action moment Whole ∷ [])) (Some c) []
    whole_at reply new w b reads c left = record {
      events = Happens (event_of x.party.own action moment Whole) ∷ [];
      is = record { events = event_of x.party.own action moment Whole ∷ []; is = refl; whole = refl };
      are_events = (is_action, tt);
      arrives = λ n v at. (
          let h : HasMember (step n v (event_at x moment action Whole)) x.party.own (DiskStandsFor new) = w.stands n v at in
          let beside : Beside x v (step n v (event_at x moment action Whole)) Whole = step_beside x moment n v Whole action at in
          let is : c ≡ b = h.holds.durable.only b c reads left in
          record {
            member = h.member;
            moved = record { at = h.at; others = beside.others; texts_are = w.texts n v at };
            stands = stands_alone known c h.member (subst (λ (a : List ℕ). StandsWith a h.member.party h.member.space) (sym is) (h.holds.reads b reads));
          });
    }

    cut_at : (c : List ℕ) → IsCutCall x (event_at x moment action) c → Going x.party.own x [] (OnlyHappen (IsCutOrNone x.party.own action moment)) (Some c) []
    cut_at c cut = record {
      events = Happens (event_of x.party.own action moment cut.completion) ∷ [];
      is = record { events = event_of x.party.own action moment cut.completion ∷ []; is = inr (record { completion = cut.completion; cut = cut.cut; is = refl }); whole = refl };
      are_events = (is_action, tt);
      arrives = λ n v at. (
          let h : HasMember (step n v (event_at x moment action cut.completion)) x.party.own (StandsWith c) = cut.stands n v at in
          let beside : Beside x v (step n v (event_at x moment action cut.completion)) cut.completion = step_beside x moment n v cut.completion action at in
          record {
            member = h.member;
            moved = record { at = h.at; others = beside.others; texts_are = beside.texts cut.cut ∙ sym (append-nil v.texts) };
            stands = stands_alone known c h.member h.holds;
          });
    }

  -- a call over the disk
  module _ (name : List ℕ) (action : Action) (moment : ℕ) (o : Outcome) (is_action : IsAction action) (old new : View) (made : IsMade name action moment o old new) (sound : IsSound old)
      (some : (f : Option (List ℕ)) (d : List ℕ) → MayBe old.may_leave no_disk.may_leave f d → Somebody name f d) (b : List ℕ) (now : old.now ≡ Some b) where
    abbrev possible : MayBe old.may_leave no_disk.may_leave (Some b) []
    possible = (sound.now_among b now, refl)

    abbrev here : Somebody name (Some b) []
    here = some (Some b) [] possible

    abbrev x : Member
    x = here.member

    is_call : IsCallEvent x (event_at x moment action) old new o
    is_call = made_is_call name action moment o old new made b x here.own now (alone_stands known b x here.stands)

    abbrev WayBy : (List PairEvent → Type 0) → List (List ℕ) → Option (List ℕ) → List ℕ → Type 0
    WayBy are more f d = Way name old.may_leave no_disk.may_leave some more are f d

    from_here : (are : List PairEvent → Type 0) (more : List (List ℕ)) (c : List ℕ) → Going name x more are (Some c) [] → WayBy are more (Some c) []
    from_here are more c going = record { from_first = Some b; from_second = []; possible = possible; going = going }

    whole_way : (reply : Option (List ℕ)) → IsWholeCall x (event_at x moment action Whole) new reply → (e : List ℕ) → new.now ≡ Some e → (c : List ℕ) → new.may_leave c
        → WayBy (OnlyHappen (λ es. es ≡ event_of name action moment Whole ∷ [])) (option_to_list reply) (Some c) []
    whole_way reply w e reads c left = from_here (OnlyHappen (λ es. es ≡ event_of name action moment Whole ∷ [])) (option_to_list reply) c
        (subst (λ (q : List ℕ). Going q x (option_to_list reply) (OnlyHappen (λ es. es ≡ event_of q action moment Whole ∷ [])) (Some c) []) here.own (whole_at x action moment is_action reply new w e reads c left))

    cut_way : (c : List ℕ) → new.left_since old.moment c → WayBy (OnlyHappen (IsCutOrNone name action moment)) [] (Some c) []
    cut_way c left = elim (is_call.cut.each c left) [
      | inl cut ↦ from_here (OnlyHappen (IsCutOrNone name action moment)) [] c
          (subst (λ (q : List ℕ). Going q x [] (OnlyHappen (IsCutOrNone q action moment)) (Some c) []) here.own (cut_at x action moment is_action c cut))
      | inr was ↦ untouched_way name old.may_leave no_disk.may_leave some (OnlyHappen (IsCutOrNone name action moment)) (record { events = []; is = inl refl; whole = refl }) (Some c) [] (was, refl)
    ]

    ended_way : IsSound new → Tells new → (c : List ℕ) → new.may_leave c → WayBy (OnlyHappen (IsCallOf o name action moment)) (reply_of o) (Some c) []
    ended_way sound_new tells c left = go o is_call
      where
        reads : (e : List ℕ) × (new.now ≡ Some e)
        reads = told new tells

        since : (p : Outcome) → IsCallEvent x (event_at x moment action) old new p → new.left_since old.moment c
        since p is = sound_new.counts_now old.moment c is.cut.later left

        go : (p : Outcome) → IsCallEvent x (event_at x moment action) old new p → WayBy (OnlyHappen (IsCallOf p name action moment)) (reply_of p) (Some c) []
        go (outcome.Done reply) is = whole_way reply is.whole reads.0 reads.1 c left
        go (outcome.Refused verdict reply) is = whole_way reply is.whole reads.0 reads.1 c left
        go (outcome.OtherParty asked found) is = absurd is.whole
        go (outcome.Damaged place) is = absurd is.whole
        go outcome.Fault is = cut_way c (since outcome.Fault is)
        go outcome.NoMemory is = cut_way c (since outcome.NoMemory is)

    -- whichever image comes beside
    beside_way : (are : List PairEvent → Type 0) (more : List (List ℕ)) (P : List ℕ → Type 0) → ((c : List ℕ) → P c → WayBy are more (Some c) []) → (f : Option (List ℕ)) (d : List ℕ) → MayBe P no_disk.may_leave f d → WayBy are more f d
    beside_way are more P way (Some c) d may = subst (λ (e : List ℕ). WayBy are more (Some c) e) (sym may.1) (way c may.0)
    beside_way are more P way None d may = (let blank : is_blank d ≡ true = ap is_blank may.0 in let lie : true ≡ false = sym blank ∙ may.1 in absurd (cc lie))

    pub one_ended : IsSound new → Tells new → (f : Option (List ℕ)) (d : List ℕ) → MayBe new.may_leave no_disk.may_leave f d → WayBy (OnlyHappen (IsCallOf o name action moment)) (reply_of o) f d
    one_ended sound_new tells = beside_way (OnlyHappen (IsCallOf o name action moment)) (reply_of o) new.may_leave (ended_way sound_new tells)

    pub one_cut : (f : Option (List ℕ)) (d : List ℕ) → MayBe (new.left_since old.moment) no_disk.may_leave f d → WayBy (OnlyHappen (IsCutOrNone name action moment)) [] f d
    one_cut = beside_way (OnlyHappen (IsCutOrNone name action moment)) [] (new.left_since old.moment) cut_way

  -- a call in a session
  module _ (start : World) (mirror : List ℕ → Option (List ℕ)) (apart : HaveOwnDisks mirror start) (disks : ℕ → List ℕ → View) (ds : List PairDeed) (g : HasComeTo start mirror disks ds (disks (0 + length ds)))
      (sound : (q : List ℕ) → IsSound (disks (0 + length ds) q)) (name : List ℕ) (none : mirror name ≡ None) (action : Action) (moment : ℕ) (o : Outcome) (is_action : IsAction action) (x0 : Member)
      (at0 : member_at name start.members ≡ Some x0) (mid : List ℕ → View) (made : IsMade name action moment o (disks (0 + length ds) name) (mid name)) (others_stay : ButOwn start mirror name (disks (0 + length ds)) mid) where
    abbrev was : List ℕ → View
    was = disks (0 + length ds)

    now_is : (b : List ℕ) × ((was name).now ≡ Some b)
    now_is = told (was name) (g.first_tells name x0 at0)

    first_tells : Tells (mid name)
    first_tells = still_tells name action moment o (was name) (mid name) made (g.first_tells name x0 at0)

    abbrev Ways : Option (List ℕ) → Type 0
    Ways m = (some : (f : Option (List ℕ)) (d : List ℕ) → MayBe (was name).may_leave (second_view m was).may_leave f d → Somebody name f d) → IsSound (mid name) → (f : Option (List ℕ)) (d : List ℕ)
        → MayBe (mid name).may_leave (second_view m mid).may_leave f d → Way name (was name).may_leave (second_view m was).may_leave some (reply_of o) (IsCallOn m o name action moment (was name)) f d

    ended_ways : Ways None
    ended_ways some sound_mid = one_ended name action moment o is_action (was name) (mid name) made (sound name) some now_is.0 now_is.1 sound_mid first_tells

    pub one_called : IsSound (mid name) → HasComeTo start mirror disks (ds ++ Called name action moment o ∷ []) mid
    one_called sound_mid =
        ended_goes start mirror apart disks ds g name x0 at0 mid others_stay (Called name action moment o) (reply_of o) (IsCallOn (mirror name) o name action moment (was name)) (λ es is. (is, refl)) first_tells
        (subst (λ (m : Option (List ℕ)). Tells (second_view m mid)) (sym none) refl)
        (λ images others. (subst Ways (sym none) ended_ways) (somebody start mirror disks ds g name x0 at0 images others) sound_mid (images name).first (images name).second)

    abbrev CutWays : Option (List ℕ) → Type 0
    CutWays m = (some : (f : Option (List ℕ)) (d : List ℕ) → MayBe (was name).may_leave (second_view m was).may_leave f d → Somebody name f d) → (f : Option (List ℕ)) (d : List ℕ)
        → MayBe ((mid name).left_since (was name).moment) ((second_view m mid).left_since (second_view m was).moment) f d → Way name (was name).may_leave (second_view m was).may_leave some [] (IsCutOn m name action moment (was name)) f d

    cut_ways : CutWays None
    cut_ways some = one_cut name action moment o is_action (was name) (mid name) made (sound name) some now_is.0 now_is.1

    pub one_cut_off : (new : List ℕ → View) → PairOffWithin mirror name was mid new → HasComeTo start mirror disks (ds ++ CutOff name action moment o ∷ []) new
    one_cut_off new off =
        cut_goes start mirror apart disks ds g name x0 at0 mid others_stay (CutOff name action moment o) (IsCutOn (mirror name) name action moment (was name)) (λ es is. (is, refl)) new off
        (λ images others. (subst CutWays (sym none) cut_ways) (somebody start mirror disks ds g name x0 at0 images others) (images name).first (images name).second)
