-- What is left of a turn over two disks, and of the loss of one, is opened as the member after these events.
use Rattle.std.proofs.Common.{◌≡◌, ◌⊎◌, inl, inr, ℕ, suc, Bool, true, false, cond, Option, Some, None, List, [], ◌∷◌, Result, Ok, refl, sym, ◌∙◌, ap, subst}
use Rattle.x_disk.specs.Disk.{View, Tells, IsDurable}
use Rattle.key_journal.specs.Journal.{is_blank}
use Rattle.party_state.specs.declared.command.Input.{Input}
use Rattle.party_state.specs.declared.edit.Edit.{Edit}
use Rattle.party_state.specs.State.{Party}
use Rattle.change_code.specs.Cost.{can_compact, is_change, space_of_whole}
use Rattle.change_code.specs.Whole.{IsTooLarge}
use Rattle.change_code.specs.declared.format.Format.{Format}
use Rattle.change_code.specs.declared.format.Format.TheVariants.{Two}
use Rattle.change_code.specs.declared.space.Space.{Space}
use Rattle.key_store.specs.Store.{Stands, StandsWith, space}
use Rattle.key_store.specs.Replacing.{IsOldOrOther}
use Rattle.member.specs.Member.{Member, Plan, plan_at, as_full, after}
use Rattle.member.specs.Acts.{taking}
use Rattle.node_core.specs.Turns.{member_of, IsImageOf, IsOldOrNext}
use Rattle.disk_pair.specs.declared.disks.Disks.{Disks}
use Rattle.mirror_store.specs.Pairs.{PairStands, IsBlankOrLike, Recovers, IsMadeAnew, IsAsBefore, Twin, IsTwin}
use Rattle.mirror_store.specs.Answers.{opened_disks}
use Rattle.mirror_store.specs.Recovering.{IsLeft}
use Rattle.mirror_store.specs.declared.pair.PairUnmade.{PairUnmade}
use Rattle.mirror_store.specs.Opening.{AreRead, HasFirstSpace, IsPairOpened}
use Rattle.mirror_store.specs.Turns.{fits_frame, pair_plan_at}
use Rattle.world_laws.specs.World.{World, member_at}
use Rattle.world_laws.specs.Events.{Completion, CutOld, CutNew, IsCutOff, Event}
use Rattle.world_laws.specs.Steps.{step, world_with_space}
use Rattle.world_laws.specs.Nodes.{IsEventOf, input_event}
use Rattle.world_laws.proofs.Lists.Members.{after_at}
use Rattle.mirror_laws.specs.Runs.{Which, FirstDisk, SecondDisk, PairEvent, Happens, world_after_loss, pair_run, losses}
use Rattle.mirror_laws.specs.Turns.{turn_event, AreLeft, IsLeftAs, IsLeftCut, IsLeftAgain, AreLeftNow}
use Rattle.mirror_laws.proofs.Stores.{store_left}
use Rattle.mirror_laws.proofs.Turned.{same_member, cut_old, cut_new}

never_both : true ≡ false → ⊥
never_both is = cc is

-- the member after the loss of a disk
abbrev after_loss : Option Which → Member → Member
after_loss None z = z
after_loss (Some FirstDisk) z = cond (can_compact Two z.party) (record { party = z.party; space = space_of_whole Two z.party }) z
after_loss (Some SecondDisk) z = z

-- its party stays
party_stays : (b : Bool) (z : Member) → (cond b (record { party = z.party; space = space_of_whole Two z.party }) z).party ≡ z.party
party_stays true z = refl
party_stays false z = refl

module _ (w : World) (z : Member) (at : member_at z.party.own w.members ≡ Some z) where
  written : (b : Bool) → member_at z.party.own (cond b (world_with_space w z (space_of_whole Two z.party)) w).members ≡ Some (cond b (record { party = z.party; space = space_of_whole Two z.party }) z)
  written true = after_at w.members z.party.own z (record { party = z.party; space = space_of_whole Two z.party }) at refl
  written false = at

  lost_at : (lost : Option Which) (n : ℕ) → member_at z.party.own (pair_run n w (losses z.party.own lost)).members ≡ Some (after_loss lost z)
  lost_at None n = at
  lost_at (Some FirstDisk) n = ap (λ (o : Option Member). member_at z.party.own (world_after_loss w FirstDisk o).members) at ∙ written (can_compact Two z.party)
  lost_at (Some SecondDisk) n = ap (λ (o : Option Member). member_at z.party.own (world_after_loss w SecondDisk o).members) at ∙ at

-- the same under the name that the member has
lost_under : (own : List ℕ) (w : World) (z : Member) → z.party.own ≡ own → member_at own w.members ≡ Some z → (lost : Option Which) (n : ℕ) → member_at own (pair_run n w (losses own lost)).members ≡ Some (after_loss lost z)
lost_under own w z is at lost n =
    subst (λ (p : List ℕ). member_at p (pair_run n w (losses p lost)).members ≡ Some (after_loss lost z)) is
    (lost_at w z (subst (λ (p : List ℕ). member_at p w.members ≡ Some z) (sym is) at) lost n)

-- images of which this member is opened, where the first disk is lost, or not
abbrev Fit : Option Which → List ℕ → List ℕ → Member → Type 0
Fit None first second z = IsImageOf z first × IsBlankOrLike z.party second
Fit (Some FirstDisk) first second z = (is_blank first ≡ true) × Stands second z.party
Fit (Some SecondDisk) first second z = IsImageOf z first × IsBlankOrLike z.party second

pub image_stands : (image : List ℕ) (party : Party) (left : Space) → StandsWith image party left → Stands image party
image_stands image party left is = record { format = left.format; stands = record { bodies = is.bodies; holds = is.holds; fold = is.fold } }

-- what is made anew, or is as it was, is left in whichever room
left_like : (was image : List ℕ) (party : Party) → IsMadeAnew was party image ⊎ IsAsBefore was image → IsLeft was party image
left_like was image party (inl made) = inl (image_stands image party (space_of_whole Two party) made.1)
left_like was image party (inr (inl blank)) = inr (inl blank)
left_like was image party (inr (inr is)) = inr (inr (is.0, image_stands was is.0 is.1 is.2, image_stands image is.0 is.1 is.3))

fits_by : (b : Bool) (Large : Type 0) → (b ≡ false → Large) → (Large → ⊥) → b ≡ true
fits_by true Large large small = refl
fits_by false Large large small = absurd (small (large refl))

module _ (not_blank : (image : List ℕ) (p : Party) → Stands image p → is_blank image ≡ false)
    (one_space : (image : List ℕ) (p q : Party) (left other : Space) → StandsWith image p left → StandsWith image q other → (p ≡ q) × (left ≡ other))
    (one_party : (i j : List ℕ) (p q : Party) → Recovers i j p → Recovers i j q → p ≡ q)
    (large : (f : Format) (p : Party) → can_compact f p ≡ false → IsTooLarge f p)
    {D : Type 0} (told : D → View) where
  blank_never : {A : Type 0} (image : List ℕ) (p : Party) → is_blank image ≡ true → Stands image p → A
  blank_never image p blank stands = absurd (never_both (sym blank ∙ not_blank image p stands))

  -- where the first image stands
  stood : (i j : List ℕ) (z : Member) → IsImageOf z i → (m : Twin D) → HasFirstSpace i m.first.party (space m.first) → member_of m.first ≡ z
  stood i j z is m (inl there) = let same = one_space i m.first.party z.party (space m.first) z.space there is in λ k. record { party = same.0 k; space = same.1 k }
  stood i j z is m (inr blank) = blank_never i z.party blank.0 (image_stands i z.party z.space is)

  -- where it is blank
  made : (i j : List ℕ) (z : Member) → is_blank i ≡ true → Stands j z.party → (m : Twin D) → Recovers i j m.first.party → HasFirstSpace i m.first.party (space m.first)
      → ((PairStands i j m.first.party → ⊥) → IsTooLarge Two m.first.party → ⊥) → member_of m.first ≡ after_loss (Some FirstDisk) z
  made i j z blank stands m recovers (inl there) small = blank_never i m.first.party blank (image_stands i m.first.party (space m.first) there)
  made i j z blank stands m recovers (inr left) small =
      let same : m.first.party ≡ z.party = one_party i j m.first.party z.party recovers (inr (blank, stands)) in
      let fits : can_compact Two z.party ≡ true =
      fits_by (can_compact Two z.party) (IsTooLarge Two z.party) (large Two z.party) (λ too_large. small (λ both. blank_never i m.first.party blank both.first_is) (subst (IsTooLarge Two) (sym same) too_large)) in
      let whole : member_of m.first ≡ record { party = z.party; space = space_of_whole Two z.party } = (λ k. record { party = same k; space = (left.1 ∙ ap (space_of_whole Two) same) k }) in
      whole ∙ sym (ap (λ (b : Bool). cond b (record { party = z.party; space = space_of_whole Two z.party }) z) fits)

  recovered : (lost : Option Which) (i j : List ℕ) (z : Member) → Fit lost i j z → Recovers i j (after_loss lost z).party
  recovered None i j z fit = inl (image_stands i z.party z.space fit.0, fit.1)
  recovered (Some FirstDisk) i j z fit = subst (Recovers i j) (sym (party_stays (can_compact Two z.party) z)) (inr (fit.0, fit.1))
  recovered (Some SecondDisk) i j z fit = inl (image_stands i z.party z.space fit.0, fit.1)

  spaced : (lost : Option Which) (i j : List ℕ) (z : Member) → Fit lost i j z → is_blank i ≡ false → IsImageOf (after_loss lost z) i
  spaced None i j z fit isnt = fit.0
  spaced (Some FirstDisk) i j z fit isnt = absurd (never_both (sym fit.0 ∙ isnt))
  spaced (Some SecondDisk) i j z fit isnt = fit.0

  opened : (lost : Option Which) (i j : List ℕ) (z : Member) → Fit lost i j z → (disks : Disks D) (m : Twin D) → AreRead (told disks.first) (told disks.second) i j → IsPairOpened told disks (Ok m) → member_of m.first ≡ after_loss lost z
  opened None i j z fit disks m read is = stood i j z fit.0 m (is.left i j read)
  opened (Some FirstDisk) i j z fit disks m read is = made i j z fit.0 fit.1 m (is.exact i j read) (is.left i j read) (is.small i j read)
  opened (Some SecondDisk) i j z fit disks m read is = stood i j z fit.0 m (is.left i j read)

  -- the member stands after these events, and a disk is lost behind them, or none
  pub left_as : (x z : Member) → z.party.own ≡ x.party.own → (lost : Option Which) (i j : List ℕ) → Fit lost i j z
      → (events : List PairEvent) → ((n : ℕ) (w : World) → member_at x.party.own w.members ≡ Some x → member_at x.party.own (pair_run n w events).members ≡ Some (after_loss lost z))
      → IsLeftAs told x events i j
  left_as x z own lost i j fit events at = record {
    member = after_loss lost z;
    at = at;
    recovers = recovered lost i j z fit;
    space = spaced lost i j z fit;
    opened = opened lost i j z fit;
  }

  -- where the first image stands, another second one that is blank or of the same identity changes nothing
  pub beside : (x : Member) (events : List PairEvent) (i j d : List ℕ) (left : IsLeftAs told x events i j) → is_blank i ≡ false → Recovers i d left.member.party → IsLeftAs told x events i d
  beside x events i j d left isnt recovers = record {
    member = left.member;
    at = left.at;
    recovers = recovers;
    space = left.space;
    opened = λ disks m read is. stood i d left.member (left.space isnt) m (is.left i d read);
  }

  -- an opening that is cut off
  module _ (again : (i j c d : List ℕ) (p : Party) → Recovers i j p → IsLeft i p c → IsLeft j p d → Recovers c d p)
      (x : Member) (events : List PairEvent) (i j : List ℕ) (disks : Disks D) (result : Result (Twin D) (PairUnmade D)) (left : IsLeftAs told x events i j) (isnt : is_blank i ≡ false)
      (first_now : IsDurable (told disks.first)) (second_now : IsDurable (told disks.second)) (read : AreRead (told disks.first) (told disks.second) i j) (is : IsPairOpened told disks result) where
    same_first : (c : List ℕ) → (told (opened_disks result).first).left_since (told disks.first).moment c → c ≡ i
    same_first c may = first_now.only i c read.first ((is.first_stays i j read isnt).any_moment.each c may)

    stands_first : Stands i left.member.party
    stands_first = image_stands i left.member.party left.member.space (left.space isnt)

    left_second : (d : List ℕ) → (IsMadeAnew j left.member.party d ⊎ IsAsBefore j d) ⊎ (told disks.second).may_leave d → Recovers i d left.member.party
    left_second d (inl may) = again i j i d left.member.party left.recovers (inl stands_first) (left_like j d left.member.party may)
    left_second d (inr may) = subst (λ (l : List ℕ). Recovers i l left.member.party) (sym (second_now.only j d read.second may)) left.recovers

    reads_second : (d : List ℕ) → (told (opened_disks result).second).left_since (told disks.second).moment d → Recovers i d left.member.party
    reads_second d may = left_second d ((is.second_moments i j left.member.party read left.recovers).each d may)

    pub left_again : IsLeftAgain told x events disks (opened_disks result)
    left_again = record {
      both = λ c d first second. subst (λ (l : List ℕ). IsLeftAs told x events l d) (sym (same_first c first)) (beside x events i j d left isnt (reads_second d second));
      second_lost = λ c d first blank. subst (λ (l : List ℕ). IsLeftAs told x events l d) (sym (same_first c first)) (beside x events i j d left isnt (inl (stands_first, inl blank)));
    }

  -- between two turns
  module _ (old : Twin D) (twin : IsTwin told old) where
    abbrev held : Member
    held = member_of old.first

    first_now : Tells (told old.first.disk) → (c : List ℕ) → (told old.first.disk).may_leave c → IsImageOf held c
    first_now tells c left = store_left (told old.first.disk) old.first.gate old.first.end old.first.format old.first.party twin.first_stands tells c left

    second_now : Tells (told old.second.disk) → (c : List ℕ) → (told old.second.disk).may_leave c → Stands c held.party
    second_now tells c left =
        subst (Stands c) twin.same (image_stands c old.second.party (space old.second)
        (store_left (told old.second.disk) old.second.gate old.second.end old.second.format old.second.party twin.second_stands tells c left))

    fit_now : (lost : Option Which) (i j : List ℕ) → AreLeftNow told old lost i j → Fit lost i j held
    fit_now None i j left = (first_now left.0 i left.2.0, inr (held.party, second_now left.1 j left.2.1, refl))
    fit_now (Some FirstDisk) i j left = (left.2.0, second_now left.1 j left.2.1)
    fit_now (Some SecondDisk) i j left = (first_now left.0 i left.2.0, inl left.2.1)

    pub between : (lost : Option Which) (i j : List ℕ) → AreLeftNow told old lost i j → IsLeftAs told held (losses held.party.own lost) i j
    between lost i j left = left_as held held refl lost i j (fit_now lost i j left) (losses held.party.own lost) (λ n w at. lost_at w held at lost n)

-- the member after an event that is cut off is this one
pub record CutTo (x : Member) (e : Completion → Event) (z : Member) : Type 0 where
  pub completion : Completion
  pub cut : IsCutOff completion
  pub own : z.party.own ≡ x.party.own
  pub at : (n : ℕ) (w : World) → member_at x.party.own w.members ≡ Some x → member_at x.party.own (step n w (e completion)).members ≡ Some z

module _ (x : Member) (bytes : List ℕ) (i : Input) (moment : ℕ) (event : IsEventOf x (taking (plan_at x i moment)) (input_event x i moment)) where
  abbrev cut_event : Completion → Event
  cut_event completion = turn_event x bytes i moment completion

  abbrev plan : Plan
  plan = plan_at x i moment

  pub to_old : CutTo x cut_event x
  to_old = record { completion = CutOld; cut = tt; own = refl; at = λ n w at. ap (λ (v : World). member_at x.party.own v.members) (cut_old x bytes i moment event n w at) ∙ at }

  to_same : (es : List Edit) → es ≡ [] → CutTo x cut_event (after x es)
  to_same es none = subst (CutTo x cut_event) (sym (ap (λ (l : List Edit). after x l) none ∙ same_member x)) to_old

  to_new : (es : List Edit) → plan.edits ≡ es → CutTo x cut_event (after x plan.edits)
  to_new [] is = to_same plan.edits is
  to_new (d ∷ ds) is = record { completion = CutNew; cut = tt; own = event.own; at = cut_new x bytes i moment event (ap is_change is) }

  by_frame : (b : Bool) → CutTo x cut_event (after x (cond b plan (as_full plan.lead)).edits)
  by_frame true = to_new plan.edits refl
  by_frame false = to_same [] refl

  pub to_next : CutTo x cut_event (after x (pair_plan_at x i moment).edits)
  to_next = by_frame (fits_frame x.party plan.edits)

module _ (not_blank : (image : List ℕ) (p : Party) → Stands image p → is_blank image ≡ false)
    (one_space : (image : List ℕ) (p q : Party) (left other : Space) → StandsWith image p left → StandsWith image q other → (p ≡ q) × (left ≡ other))
    (one_party : (i j : List ℕ) (p q : Party) → Recovers i j p → Recovers i j q → p ≡ q)
    (large : (f : Format) (p : Party) → can_compact f p ≡ false → IsTooLarge f p)
    {D : Type 0} (told : D → View) (x y : Member) (e : Completion → Event) (was : Space) (to_x : CutTo x e x) (to_y : CutTo x e y) where
  -- the first image stands for the old member or the new one, and so does the second
  first_is : (i : List ℕ) → IsOldOrNext x y i → (z : Member) × CutTo x e z × IsImageOf z i
  first_is i (inl is) = (x, to_x, is)
  first_is i (inr is) = (y, to_y, is)

  second_is : (j : List ℕ) → IsOldOrOther x.party was Two y.party j → (z : Member) × CutTo x e z × Stands j z.party
  second_is j (inl is) = (x, to_x, image_stands j x.party was is)
  second_is j (inr is) = (y, to_y, image_stands j y.party (space_of_whole Two y.party) is)

  left_by : (z : Member) → CutTo x e z → (lost : Option Which) (i j : List ℕ) → Fit lost i j z → IsLeftCut told x e lost i j
  left_by z to lost i j fit = record {
    completion = to.completion;
    cut = to.cut;
    left = left_as not_blank one_space one_party large told x z to.own lost i j fit (Happens (e to.completion) ∷ losses x.party.own lost)
        (λ n w at. lost_under x.party.own (step n w (e to.completion)) z to.own (to.at n w at) lost (suc n));
  }

  pub cut_left : (lost : Option Which) (i j : List ℕ) → AreLeft (IsOldOrNext x y) (IsOldOrOther x.party was Two y.party) lost i j → IsLeftCut told x e lost i j
  cut_left None i j left =
      let first = first_is i left.0 in
      let second = second_is j left.1 in
      left_by first.0 first.1 None i j (first.2, inr (second.0.party, second.2, second.1.own ∙ sym first.1.own))
  cut_left (Some FirstDisk) i j left = let second = second_is j left.1 in left_by second.0 second.1 (Some FirstDisk) i j (left.0, second.2)
  cut_left (Some SecondDisk) i j left = let first = first_is i left.0 in left_by first.0 first.1 (Some SecondDisk) i j (first.2, inl left.1)

-- less is left
pub fewer_left : (P Q P2 Q2 : List ℕ → Type 0) → ((c : List ℕ) → P c → P2 c) → ((c : List ℕ) → Q c → Q2 c) → (lost : Option Which) (i j : List ℕ) → AreLeft P Q lost i j → AreLeft P2 Q2 lost i j
fewer_left P Q P2 Q2 first second None i j left = (first i left.0, second j left.1)
fewer_left P Q P2 Q2 first second (Some FirstDisk) i j left = (left.0, second j left.1)
fewer_left P Q P2 Q2 first second (Some SecondDisk) i j left = (first i left.0, left.1)
