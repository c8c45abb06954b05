-- What a crash may leave of the parties' disks amid an event.
use Rattle.std.proofs.Common.{◌≡◌, ◌⊎◌, inl, inr, ⊎_elim, ℕ, Bool, true, false, List, [], ◌∷◌, Option, Some, None, bytes_eq, refl, sym, ◌∙◌, ap, subst}
use mathlib.Core.Logic.{◌≢◌}
use Rattle.std.proofs.lemmas.Slice.Eq.{bytes_eq-Decides}
use Rattle.x_disk.specs.Disk.{View, LeavesOnly}
use Rattle.x_disk.specs.Shelf.{OthersStay, alike_refl}
use Rattle.x_disk.proofs.Runs.{weaker}
use Rattle.party_tables.specs.Tables.{put_row}
use Rattle.party_state.specs.declared.command.Input.{Input}
use Rattle.party_state.specs.declared.command.Input.TheVariants as input
use Rattle.key_store.specs.Store.{Stored}
use Rattle.change_code.specs.Cost.{is_change}
use Rattle.member.specs.Acts.{taking}
use Rattle.member.specs.Member.{Member, Plan, after, plan_at}
use Rattle.node_core.specs.Planned.{PlannedNode}
use Rattle.node_core.specs.Turns.{member_of}
use Rattle.world_laws.specs.World.{World, own_of, member_at}
use Rattle.world_laws.specs.Events.{Action, Completion, CutOld, CutNew, Hears, Orders}
use Rattle.world_laws.specs.Honest.{HonestAt}
use Rattle.world_laws.specs.Nodes.{IsEventOf, input_event}
use Rattle.world_laws.specs.Steps.{step, step_at}
use Rattle.course.specs.Course.{Course, event_at}
use Rattle.course.specs.Forging.{HonestInput}
use Rattle.course.specs.LineEvents.{LineEvent, At, IsNumbered}
use Rattle.course.specs.Outcomes.{input_in, world_after_given}
use Rattle.course.specs.Stops.{KeepsChange, member_next}
use Rattle.course.specs.declared.act.LineAct.{LineAct}
use Rattle.course.specs.declared.act.LineAct.TheVariants as act
use Rattle.course.specs.declared.progress.Progress.{Progress}
use Rattle.replay.specs.Crash.{Crosses, IsBehind, IsCrossed, IsPartyOf}
use Rattle.open_parties.specs.Crash.{held_of, disk_of, IsEither, IsHeldStill, IsHeldAgain, HoldsAgain}
use Rattle.replay.specs.PlayState.{Shows}
use Rattle.open_parties.specs.OpenParties.{open_party, AreIn, Fills, IsTakenOut, IsOf, IsPlace}
use Rattle.replay.specs.declared.play_state.PlayState.{PlayState}
use Rattle.open_parties.specs.declared.open_party.OpenParty.{OpenParty}
use Rattle.open_parties.specs.declared.open_party.PartyDisk.TheVariants.{Open}
use Rattle.replay.proofs.Eventing.{old_stays}
use Rattle.replay.proofs.Happened.{honest_action, told_action}
use Rattle.open_parties.proofs.Members.{cond_not, cond_yes, of_in, same_yes}
use Rattle.replay.proofs.Stepping.{at}
use Rattle.open_parties.proofs.Holding.{held_still, others_still, same_still, leaves_by}

-- the member of a name that was put is found
member_put : (own : List ℕ) (y : Member) (ms : List Member) → own_of y ≡ own → member_at own (put_row own_of bytes_eq y ms) ≡ Some y
member_put own y [] named = cond_yes (bytes_eq own (own_of y)) (Some y) None (same_yes own (own_of y) (sym named))
member_put own y (m ∷ ms) named = go (bytes_eq own (own_of m)) refl (member_put own y ms named)
  where
    mine : bytes_eq (own_of y) (own_of m) ≡ bytes_eq own (own_of m)
    mine = ap (λ (o : List ℕ). bytes_eq o (own_of m)) named

    go : (t : Bool) → bytes_eq own (own_of m) ≡ t → member_at own (put_row own_of bytes_eq y ms) ≡ Some y → member_at own (put_row own_of bytes_eq y (m ∷ ms)) ≡ Some y
    go true is rest =
        ap (λ (l : List Member). member_at own l) (cond_yes (bytes_eq (own_of y) (own_of m)) (y ∷ ms) (m ∷ put_row own_of bytes_eq y ms) (mine ∙ is))
        ∙ cond_yes (bytes_eq own (own_of y)) (Some y) (member_at own ms) (same_yes own (own_of y) (sym named))
    go false is rest =
        ap (λ (l : List Member). member_at own l) (cond_not (bytes_eq (own_of y) (own_of m)) (y ∷ ms) (m ∷ put_row own_of bytes_eq y ms) (mine ∙ is))
        ∙ (cond_not (bytes_eq own (own_of m)) (Some m) (member_at own (put_row own_of bytes_eq y ms)) is ∙ rest)

-- the image stands for the party of a name behind an honest input, which it has whole or cut
pub record IsAfterInput (w : World) (n : ℕ) (own : List ℕ) (i : Option Input) (moment : ℕ) (image : List ℕ) : Type 0 where
  pub member : Member
  pub at : member_at own w.members ≡ Some member
  pub honest : HonestInput w.facts member.party i
  pub completion : Completion
  pub party : IsPartyOf (world_after_given n w member i moment completion) own image

-- whichever network the old state shows, nothing is done to the disk of a name, or it is the one of the place
abbrev pub CrossesAt : {D : Type 0} → (D → View) → (List ℕ → View) → (List ℕ → View) → PlayState D → PlayState D → ℕ → Option Input → ℕ → Type 0
CrossesAt told before after old new place i moment = (w : World) (n : ℕ) (own : List ℕ) → IsPlace old.parties own place → Shows true told w old → (name : List ℕ)
    → IsHeldStill told before after old.parties new.parties name ⊎ ((name ≡ own) × LeavesOnly (disk_of told before old.parties name) (disk_of told after new.parties name) (IsAfterInput w n own i moment))

module _ {D : Type 0} (told : D → View) (before after : List ℕ → View) (old mid new : PlayState D) (place : ℕ) (node : Stored D) (l : IsTakenOut old.parties mid.parties place node) (i : Option Input) (moment : ℕ)
    (own_next : (member_next (member_of node) i moment).party.own ≡ node.party.own)
    (cuts : KeepsChange (member_of node) i moment → (n : ℕ) (w : World) → member_at node.party.own w.members ≡ Some (member_of node) → (world_after_given n w (member_of node) i moment CutNew).members ≡ put_row own_of bytes_eq (member_next (member_of node) i moment) w.members)
    (honest : (tell : Bool) (w : World) (own : List ℕ) → IsPlace old.parties own place → Shows tell told w old → (x : Member) × (member_at own w.members ≡ Some x) × HonestInput w.facts x.party i)
    (party : List ℕ) (is_party : IsPlace old.parties party place) (stay : OthersStay party before after)
    (r : HoldsAgain told (after party) node (member_of node) (member_next (member_of node) i moment) (KeepsChange (member_of node) i moment) mid.parties new.parties place) where
  l_is : l.own ≡ party
  l_is = (is_party l.front (open_party l.own (Open node)) l.back l.before l.size).1

  pub crosses_at : CrossesAt told before after old new place i moment
  crosses_at = λ w n own is_place shows name.
      let of : IsOf true told l.own node = of_in true told l.own node l.back l.front (subst (AreIn true told) l.before shows.all_open) in
      let same : own ≡ party = sym (is_place l.front (open_party l.own (Open node)) l.back l.before l.size).1 ∙ l_is in
      let there : member_at own w.members ≡ Some (member_of node) = at true told old.parties mid.parties place node l w shows.all_open shows.members_are own is_place in
      let named : node.party.own ≡ own = of.named ∙ (l_is ∙ sym same) in
      let h = honest true w own is_place shows in
      let one : Some h.0 ≡ Some (member_of node) = sym h.1 ∙ there in
      let member_is : h.0 ≡ member_of node = cc one in
      subst (λ (o : List ℕ). IsHeldStill told before after old.parties new.parties name ⊎ ((name ≡ o) × LeavesOnly (disk_of told before old.parties name) (disk_of told after new.parties name) (IsAfterInput w n own i moment))) (sym same)
      (go w n own there named (subst (λ (x : Member). HonestInput w.facts x.party i) member_is h.2) (r (of.tells refl)) name (bytes_eq name party) refl)
    where
      behind : (w : World) (n : ℕ) (own : List ℕ) → member_at own w.members ≡ Some (member_of node) → node.party.own ≡ own → HonestInput w.facts (member_of node).party i
          → (image : List ℕ) → IsEither (member_of node) (member_next (member_of node) i moment) (KeepsChange (member_of node) i moment) image → IsAfterInput w n own i moment image
      behind w n own there named h image (inl one) = record {
        member = member_of node;
        at = there;
        honest = h;
        completion = CutOld;
        party = subst (λ (u : World). IsPartyOf u own image) (sym (old_stays (member_of node) i moment n w)) (record { member = member_of node; at = there; stands = one });
      }
      behind w n own there named h image (inr next) = record {
        member = member_of node;
        at = there;
        honest = h;
        completion = CutNew;
        party = record {
          member = member_next (member_of node) i moment;
          at = ap (λ (ms : List Member). member_at own ms) (cuts next.0 n w (subst (λ (o : List ℕ). member_at o w.members ≡ Some (member_of node)) (sym named) there))
              ∙ member_put own (member_next (member_of node) i moment) w.members (own_next ∙ named);
          stands = next.1;
        };
      }

      apart : (name : List ℕ) → bytes_eq name party ≡ false → name ≢ party
      apart name is = λ same. let both : true ≡ false = sym ((bytes_eq-Decides name party).1 same) ∙ is in cc both

      go : (w : World) (n : ℕ) (own : List ℕ) → member_at own w.members ≡ Some (member_of node) → node.party.own ≡ own → HonestInput w.facts (member_of node).party i
          → Fills mid.parties new.parties place (Open node) ⊎ IsHeldAgain told (after party) (told node.disk) (IsEither (member_of node) (member_next (member_of node) i moment) (KeepsChange (member_of node) i moment)) mid.parties new.parties place
          → (name : List ℕ) (b : Bool) → bytes_eq name party ≡ b
          → IsHeldStill told before after old.parties new.parties name ⊎ ((name ≡ party) × LeavesOnly (disk_of told before old.parties name) (disk_of told after new.parties name) (IsAfterInput w n own i moment))
      go w n own there named h (inl fills) name true is =
          inl (subst (λ (o : List ℕ). IsHeldStill told before after old.parties new.parties o) (sym ((bytes_eq-Decides name party).0 is)) (same_still told before after old.parties mid.parties new.parties place node l party is_party stay fills))
      go w n own there named h (inr s) name true is = inr (
        (bytes_eq-Decides name party).0 is,
        subst (λ (o : List ℕ). LeavesOnly (disk_of told before old.parties o) (disk_of told after new.parties o) (IsAfterInput w n own i moment)) (sym ((bytes_eq-Decides name party).0 is))
            (leaves_by told before after old.parties mid.parties new.parties place node l party is_party stay (IsEither (member_of node) (member_next (member_of node) i moment) (KeepsChange (member_of node) i moment)) (IsAfterInput w n own i moment) s (behind w n own there named h)),
      )
      go w n own there named h (inl fills) name false is = inl (others_still told before after old.parties mid.parties new.parties place node l party is_party stay (Open node) fills name (apart name is))
      go w n own there named h (inr s) name false is = inl (others_still told before after old.parties mid.parties new.parties place node l party is_party stay s.held s.fills name (apart name is))

-- of an input
pub input_crosses : {D : Type 0} (told : D → View) (laws : (x : Member) (i : Input) (moment : ℕ) → IsEventOf x (taking (plan_at x i moment)) (input_event x i moment)) (before after : List ℕ → View) (old mid new : PlayState D) (place : ℕ) (node : Stored D) → IsTakenOut old.parties mid.parties place node
    → (i : Input) (moment : ℕ) → ((tell : Bool) (w : World) (own : List ℕ) → IsPlace old.parties own place → Shows tell told w old → (x : Member) × (member_at own w.members ≡ Some x) × HonestInput w.facts x.party (Some i))
    → (party : List ℕ) → IsPlace old.parties party place → OthersStay party before after
    → HoldsAgain told (after party) node (member_of node) (member_next (member_of node) (Some i) moment) (KeepsChange (member_of node) (Some i) moment) mid.parties new.parties place → CrossesAt told before after old new place (Some i) moment
input_crosses told laws before after old mid new place node l i moment honest party is_party stay r =
    crosses_at told before after old mid new place node l (Some i) moment (laws (member_of node) i moment).own (λ keep n w at. ((laws (member_of node) i moment).new n w at keep).members) honest party is_party stay r

-- of a plan that is carried out
pub planned_holds_again : {D : Type 0} (told : D → View) (shelved : View) (p : PlannedNode D) (i : Input) (moment : ℕ) → p.plan ≡ plan_at (member_of p.node) i moment → (mid new : List (OpenParty D)) (place : ℕ)
    → HoldsAgain told shelved p.node (member_of p.node) (after (member_of p.node) p.plan.edits) (is_change p.plan.edits ≡ true) mid new place
    → HoldsAgain told shelved p.node (member_of p.node) (member_next (member_of p.node) (Some i) moment) (KeepsChange (member_of p.node) (Some i) moment) mid new place
planned_holds_again told shelved p i moment planned mid new place r =
    subst (λ (q : Plan). HoldsAgain told shelved p.node (member_of p.node) (after (member_of p.node) q.edits) (is_change q.edits ≡ true) mid new place) planned r

-- in the courses that the old state shows
module _ {D : Type 0} (told : D → View) (before after : List ℕ → View) (old new : PlayState D) (now : Progress) where
  behind_input : (c : Course) → c.now ≡ now → (party : List ℕ) (number : ℕ) (action : Action) → IsNumbered action number → (image : List ℕ) → IsAfterInput c.world c.now.number party (input_in action) now.moment image → IsBehind c (At party action) party image
  behind_input c is party number action numbered image a =
      let moment : now.moment ≡ c.now.moment = sym (ap (λ (q : Progress). q.moment) is) in
      let event = event_at party c.now.moment action a.completion in
      let world_is : step c.now.number c.world event ≡ world_after_given c.now.number c.world a.member (input_in action) now.moment a.completion =
      ap (λ (m : Option Member). step_at c.now.number c.world event m) a.at
      ∙ (told_action c.now.number c.world a.member c.now.moment number a.completion action numbered
      ∙ ap (λ (m : ℕ). world_after_given c.now.number c.world a.member (input_in action) m a.completion) (sym moment)) in
      record {
        event = event;
        is = refl;
        honest = subst (λ (m : Option Member). HonestAt c.world.facts m action) (sym a.at) (honest_action c.world.facts a.member.party number action numbered a.honest);
        party = subst (λ (u : World). IsPartyOf u party image) (sym world_is) a.party;
      }

  crossed : (party : List ℕ) (place number : ℕ) (action : Action) → IsNumbered action number → IsPlace old.parties party place → CrossesAt told before after old new place (input_in action) now.moment
      → (c : Course) → c.now ≡ now → Shows true told c.world old → (name : List ℕ) → IsCrossed told before after old.parties new.parties c (At party action) name
  crossed party place number action numbered is_place crosses c is shows name = ⊎_elim (λ still. inl still) (λ run. inr (
      weaker (disk_of told before old.parties name) (disk_of told after new.parties name) (IsAfterInput c.world c.now.number party (input_in action) now.moment) (IsBehind c (At party action) name) run.1
      (λ image a. subst (λ (o : List ℕ). IsBehind c (At party action) o image) (sym run.0) (behind_input c is party number action numbered image a))
      )) (crosses c.world c.now.number party is_place shows name)

  pub told_crosses : (party : List ℕ) (place : ℕ) (t : Input) → IsPlace old.parties party place → CrossesAt told before after old new place (Some t) now.moment → Crosses told before after (act.Give party t) old new now
  told_crosses party place (input.Ordered command) is_place crosses = λ c h is shows means own.
      subst (λ (k : LineEvent). IsCrossed told before after old.parties new.parties c k own) (sym means) (crossed party place 0 (Orders command) tt is_place crosses c is shows own)
  told_crosses party place (input.Arrived a) is_place crosses = λ c h is shows means own.
      subst (λ (k : LineEvent). IsCrossed told before after old.parties new.parties c k own) (sym means.1) (crossed party place 0 (Hears means.0 (Some a)) tt is_place crosses c is shows own)

  pub refused_crosses : (party : List ℕ) (place number : ℕ) → IsPlace old.parties party place → CrossesAt told before after old new place None now.moment → Crosses told before after (act.Refuse party number) old new now
  refused_crosses party place number is_place crosses = λ c h is shows means own.
      subst (λ (k : LineEvent). IsCrossed told before after old.parties new.parties c k own) (sym means.4) (crossed party place number (Hears means.0 None) (means.1, means.2, means.3) is_place crosses c is shows own)

-- nothing is done to any disk
pub still_crosses : {D : Type 0} (told : D → View) (entry : List ℕ → View) (a : LineAct) (old new : PlayState D) (now : Progress) → new.parties ≡ old.parties → Crosses told entry entry a old new now
still_crosses told entry a old new now same = λ c h is shows means own.
    inl (held_still told entry entry old.parties new.parties own (ap (λ (ss : List (OpenParty _)). held_of ss own) same) (alike_refl (entry own)))
