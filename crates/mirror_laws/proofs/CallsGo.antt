-- A call over two disks goes on from what a session may have come to, by its events.
use Rattle.std.proofs.Common.{◌≡◌, ◌≢◌, ◌⊎◌, inl, inr, ℕ, ◌+◌, true, false, Option, Some, List, [], ◌∷◌, ◌++◌, length, refl, sym, ◌∙◌, subst}
use Rattle.x_disk.specs.Disk.{View, Tells, IsSound, IsUntouched}
use Rattle.key_journal.specs.Journal.{is_blank}
use Rattle.party_state.specs.declared.command.Input.{Input}
use Rattle.party_state.specs.State.{Party}
use Rattle.party_state.specs.Verdicts.{is_accept}
use Rattle.change_code.specs.Whole.{IsTooLarge}
use Rattle.change_code.specs.declared.format.Format.TheVariants.{Two}
use Rattle.member.specs.Deciding.{decision}
use Rattle.member.specs.Member.{Member, plan_at, after}
use Rattle.member.specs.Acts.{taking}
use Rattle.mirror_store.specs.Pairs.{Recovers}
use Rattle.mirror_store.specs.Opening.{HasFirstSpace, IsPairRefusal, IsTooLargeToWrite}
use Rattle.mirror_store.specs.Recovering.{IsPairFailure}
use Rattle.mirror_store.specs.Turns.{pair_plan_at}
use Rattle.mirror_store.specs.declared.pair.PairCause.{PairCause}
use Rattle.x_party.specs.declared.outcome.Outcome.{Outcome}
use Rattle.x_pair.specs.Outcomes.{turning}
use Rattle.world_laws.specs.World.{World, member_at}
use Rattle.world_laws.specs.Events.{IsAction}
use Rattle.world_laws.specs.Nodes.{IsEventOf, input_event}
use Rattle.call_laws.specs.Sessions.{reply_of}
use Rattle.mirror_laws.specs.Runs.{PairEvent}
use Rattle.mirror_laws.specs.Turns.{action_of}
use Rattle.mirror_laws.specs.Sessions.{PairDeed, Called, CutOff, HaveOwnDisks, IsTurned, PairOffWithin}
use Rattle.mirror_laws.specs.Deeds.{IsUnanswered, IsPairCallOf, IsCallOn, IsCutOn}
use Rattle.mirror_laws.proofs.Called.{answers}
use Rattle.mirror_laws.proofs.Images.{Pair, MayBe, Known}
use Rattle.mirror_laws.proofs.Ways.{Somebody, Way, way_more}
use Rattle.mirror_laws.proofs.TurnWays.{unanswered_way, nothing}
use Rattle.mirror_laws.proofs.LeftImages.{turned_is}
use Rattle.mirror_laws.proofs.SafeWays.{Reads, reads_of, too_large, left_at_end, safe_way}
use Rattle.mirror_laws.proofs.Answered.{answered_way, large_way}
use Rattle.mirror_laws.proofs.Led.{HasComeTo}
use Rattle.mirror_laws.proofs.Asked.{OthersMay, somebody, ended_goes, cut_goes}
use Rattle.mirror_laws.proofs.OwnDisks.{ButOwn, second_view, second_sound}

-- ---- a call

module _ (known : Known) (inputs : (x : Member) (i : Input) (moment : ℕ) → IsEventOf x (taking (plan_at x i moment)) (input_event x i moment))
    (refusing : (p : Party) (i : Input) (moment : ℕ) → is_accept (decision p i moment).verdict ≡ false → (decision p i moment).change ≡ [])
    (one_pair : (i j : List ℕ) (p q : Party) → Recovers i j p → Recovers i j q → p ≡ q)
    (refused : (i j : List ℕ) (p : Party) (reason : PairCause) → Recovers i j p → IsPairRefusal i j reason → IsPairFailure p reason)
    (start : World) (mirror : List ℕ → Option (List ℕ)) (apart : HaveOwnDisks mirror start) (disks : ℕ → List ℕ → View) (ds : List PairDeed) (g : HasComeTo start mirror disks ds (disks (0 + length ds)))
    (sound : (q : List ℕ) → IsSound (disks (0 + length ds) q))
    (name second bytes : List ℕ) (has : mirror name ≡ Some second) (i : Input) (moment : ℕ) (o : Outcome) (is_action : IsAction (action_of bytes i)) (x0 : Member) (at0 : member_at name start.members ≡ Some x0) (mid : List ℕ → View)
    (turned : IsTurned name i moment o (disks (0 + length ds) name) (second_view (mirror name) (disks (0 + length ds))) (mid name) (second_view (mirror name) mid))
    (thirds : ButOwn start mirror name (disks (0 + length ds)) mid) where
  abbrev was : List ℕ → View
  was = disks (0 + length ds)

  now : Reads (was name) (second_view (mirror name) was)
  now = reads_of (was name) (second_view (mirror name) was) (sound name) (second_sound (mirror name) was sound) (g.first_tells name x0 at0) (g.second_tells name x0 at0)

  first_told : Tells (mid name)
  first_told = turned.safe.first_tells ∙ g.first_tells name x0 at0

  second_told : Tells (second_view (mirror name) mid)
  second_told = turned.safe.second_tells ∙ g.second_tells name x0 at0

  -- with these images of the others
  module _ (images : List ℕ → Pair) (others : OthersMay start mirror apart disks ds g name x0 at0 mid thirds images) where
    abbrev some : (f : Option (List ℕ)) (d : List ℕ) → MayBe (was name).may_leave (second_view (mirror name) was).may_leave f d → Somebody name f d
    some f d may = somebody start mirror disks ds g name x0 at0 images others f d may

    abbrev here : Somebody name (Some now.was_first) now.was_second
    here = some (Some now.was_first) now.was_second (now.first_may, now.second_may)

    abbrev x : Member
    x = here.member

    abbrev next : Member
    next = after x (pair_plan_at x i moment).edits

    abbrev Change : Type 0
    Change = (pair_plan_at x i moment).edits ≢ []

    abbrev f : Option (List ℕ)
    f = (images name).first

    abbrev d : List ℕ
    d = (images name).second

    abbrev WayBy : (List PairEvent → Type 0) → List (List ℕ) → Type 0
    WayBy are more = Way name (was name).may_leave (second_view (mirror name) was).may_leave some more are f d

    still : IsTooLargeToWrite now.was_first now.was_second → IsUntouched (was name) (mid name) × IsUntouched (second_view (mirror name) was) (second_view (mirror name) mid)
    still large = turned.safe.too_large now.was_first now.was_second now.read large

    -- the call failed, or was cut off
    cut_way : MayBe ((mid name).left_since (was name).moment) ((second_view (mirror name) mid).left_since (second_view (mirror name) was).moment) f d → WayBy (IsUnanswered name (action_of bytes i) moment (was name)) []
    cut_way =
        safe_way known (turning name i moment) name (was name) (second_view (mirror name) was) (mid name) (second_view (mirror name) mid) now turned.safe some (IsUnanswered name (action_of bytes i) moment (was name))
        (nothing known inputs name bytes i moment is_action (was name) (second_view (mirror name) was) some now.was_first now.was_second now.first_may now.second_may) next Change (turned_is known name i moment x now.was_first)
        (unanswered_way known inputs name bytes i moment is_action (was name) (second_view (mirror name) was) some now.was_first now.was_second now.first_may now.second_may) f d

    -- the call ended
    called_way : ((q : List ℕ) → IsSound (mid q)) → MayBe (mid name).may_leave (second_view (mirror name) mid).may_leave f d → WayBy (IsPairCallOf o name (action_of bytes i) moment (was name)) (reply_of o)
    called_way sound_mid may = by_space here.stands.space
      where
        failed : WayBy (IsUnanswered name (action_of bytes i) moment (was name)) []
        failed =
            cut_way (left_at_end known (turning name i moment) name (was name) (second_view (mirror name) was) (mid name) (second_view (mirror name) mid) now turned.safe some (sound_mid name) (second_sound (mirror name) mid sound_mid) f d may)

        by_space : HasFirstSpace now.was_first x.party x.space ⊎ ((is_blank now.was_first ≡ true) × IsTooLarge Two x.party) → WayBy (IsPairCallOf o name (action_of bytes i) moment (was name)) (reply_of o)
        by_space (inl left) =
            answered_way known inputs one_pair refused name bytes i moment is_action (was name) (second_view (mirror name) was) (mid name) (second_view (mirror name) mid) some now.was_first now.was_second now.first_may now.second_may
            first_told second_told still f d may failed o
            (answers inputs refusing known.not_blank known.one_space one_pair refused name bytes i moment (mid name) (second_view (mirror name) mid) now.was_first now.was_second x.party x.space here.stands.recovers left here.own o
            (turned.makes now.was_first now.was_second now.read))
        by_space (inr is) =
            let large : IsTooLargeToWrite now.was_first now.was_second = too_large known name now.was_first now.was_second here is in
            large_way known inputs one_pair refused name bytes i moment is_action (was name) (second_view (mirror name) was) (mid name) (second_view (mirror name) mid) some now.was_first now.was_second now.first_may now.second_may
            first_told second_told large (still large) f d may o (turned.makes now.was_first now.was_second now.read)

  pub called : ((q : List ℕ) → IsSound (mid q)) → HasComeTo start mirror disks (ds ++ Called name (action_of bytes i) moment o ∷ []) mid
  called sound_mid =
      ended_goes start mirror apart disks ds g name x0 at0 mid thirds (Called name (action_of bytes i) moment o) (reply_of o) (IsCallOn (mirror name) o name (action_of bytes i) moment (was name)) (λ es is. (is, refl)) first_told second_told
      (λ images others may. way_more name (was name).may_leave (second_view (mirror name) was).may_leave (some images others) (reply_of o) (IsPairCallOf o name (action_of bytes i) moment (was name))
      (IsCallOn (mirror name) o name (action_of bytes i) moment (was name)) (λ es is. subst (λ (m : Option (List ℕ)). IsCallOn m o name (action_of bytes i) moment (was name) es) (sym has) is)
      (images name).first (images name).second (called_way images others sound_mid may))

  -- the power fails in it
  pub cut_off : (new : List ℕ → View) → PairOffWithin mirror name was mid new → HasComeTo start mirror disks (ds ++ CutOff name (action_of bytes i) moment o ∷ []) new
  cut_off new off =
      cut_goes start mirror apart disks ds g name x0 at0 mid thirds (CutOff name (action_of bytes i) moment o) (IsCutOn (mirror name) name (action_of bytes i) moment (was name)) (λ es is. (is, refl)) new off
      (λ images others may. way_more name (was name).may_leave (second_view (mirror name) was).may_leave (some images others) [] (IsUnanswered name (action_of bytes i) moment (was name))
      (IsCutOn (mirror name) name (action_of bytes i) moment (was name)) (λ es is. subst (λ (m : Option (List ℕ)). IsCutOn m name (action_of bytes i) moment (was name) es) (sym has) is)
      (images name).first (images name).second (cut_way images others may))
