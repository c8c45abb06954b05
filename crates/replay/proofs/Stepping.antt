-- An event in a network, by what is planned: whole, or stopped.
use Rattle.std.proofs.Common.{◌≡◌, ◌⊎◌, inl, inr, ℕ, Bool, true, false, cond, map, List, [], ◌∷◌, ◌++◌, Option, Some, None, bytes_eq, refl, sym, ◌∙◌, ap, ap₂, subst}
use Rattle.std.specs.Prelude.{option_to_list}
use Rattle.std.proofs.lemmas.List.{append-nil}
use Rattle.x_base.specs.declared.verdict.Verdict.{Verdict}
use Rattle.x_disk.specs.Disk.{View, Tells}
use Rattle.party_tables.specs.Tables.{put_row}
use Rattle.party_state.specs.declared.command.Input.{Input}
use Rattle.key_store.specs.Store.{Stored}
use Rattle.fact_book.specs.Facts.{NamedText}
use Rattle.member.specs.Member.{Member, Plan, plan_at, after}
use Rattle.node_core.specs.Planned.{PlannedNode}
use Rattle.node_core.specs.Turns.{member_of}
use Rattle.world_laws.specs.World.{World, own_of, member_at}
use Rattle.world_laws.specs.Events.{CutOld, CutNew}
use Rattle.world_laws.specs.Honest.{named_text}
use Rattle.world_laws.specs.Noted.{noted}
use Rattle.course.specs.Outcomes.{world_after_given, completion_of}
use Rattle.member.specs.Acts.{taking}
use Rattle.world_laws.specs.Nodes.{IsAfter, IsEventOf, input_event}
use Rattle.course.specs.Stops.{KeepsChange, member_next}
use Rattle.course.specs.declared.progress.Stop.{Stop}
use Rattle.replay.specs.Events.{IsWhole, IsStoppedIn}
use Rattle.replay.specs.PlayState.{Shows, IsStep, IsCutStep}
use Rattle.open_parties.specs.OpenParties.{open_party, members, IsOf, AreIn, NoneOf, IsPlace, IsTakenOut}
use Rattle.replay.specs.declared.play_state.PlayState.{PlayState}
use Rattle.open_parties.specs.declared.open_party.OpenParty.{OpenParty}
use Rattle.open_parties.specs.declared.open_party.PartyDisk.TheVariants.{Open}
use Rattle.replay.proofs.Members.{found, put, put_stands}
use Rattle.open_parties.proofs.Members.{stay_in, of_in}

-- the party that was taken out, in a network that the state shows
module _ {D : Type 0} (tell : Bool) (told : D → View) (old mid : List (OpenParty D)) (place : ℕ) (node : Stored D) (l : IsTakenOut old mid place node) (w : World) (all : AreIn tell told old) (members_are : members old ≡ w.members) (own : List ℕ) (is_place : IsPlace old own place) where
  split_in : AreIn tell told (l.front ++ open_party l.own (Open node) ∷ l.back)
  split_in = subst (AreIn tell told) l.before all

  pub was_of : IsOf tell told l.own node
  was_of = of_in tell told l.own node l.back l.front split_in

  here : NoneOf l.front own × (l.own ≡ own)
  here = is_place l.front (open_party l.own (Open node)) l.back l.before l.size

  none : NoneOf l.front l.own
  none = subst (NoneOf l.front) (sym here.1) here.0

  pub at : member_at own w.members ≡ Some (member_of node)
  at = subst (λ (o : List ℕ). member_at o w.members ≡ Some (member_of node)) here.1
      (ap (λ (ms : List Member). member_at l.own ms) (sym members_are ∙ ap members l.before) ∙ found tell told l.own node l.back l.front split_in none)

  pub at_own : member_at node.party.own w.members ≡ Some (member_of node)
  at_own = subst (λ (o : List ℕ). member_at o w.members ≡ Some (member_of node)) (sym (was_of.named ∙ here.1)) at

  module _ (new : Stored D) (open_parties : List (OpenParty D)) (is : open_parties ≡ l.front ++ open_party l.own (Open new) ∷ l.back) (own_stays : new.party.own ≡ node.party.own) (tells : tell ≡ true → Tells (told new.disk)) where
    pub in_after : AreIn tell told open_parties
    in_after = subst (AreIn tell told) (sym is) (stay_in tell told l.own node l.back new (record { named = own_stays ∙ was_of.named; tells = tells }) l.front split_in)

    pub members_after : members open_parties ≡ put_row own_of bytes_eq (member_of new) w.members
    members_after = ap members is ∙ (put tell told l.own node l.back new (own_stays ∙ was_of.named) l.front split_in none ∙ ap (λ (ms : List Member). put_row own_of bytes_eq (member_of new) ms) (sym (ap members l.before) ∙ members_are))

-- a whole event
module _ {D : Type 0} (told : D → View) (laws : (x : Member) (i : Input) (moment : ℕ) → IsEventOf x (taking (plan_at x i moment)) (input_event x i moment)) (old mid new : PlayState D) (place : ℕ) (p : PlannedNode D) (l : IsTakenOut old.parties mid.parties place p.node)
    (texts_stay : mid.texts ≡ old.texts) (facts_stay : mid.facts ≡ old.facts) (i : Input) (moment : ℕ) (verdict : Verdict) (planned : p.plan ≡ plan_at (member_of p.node) i moment) (whole : IsWhole told p mid new place verdict) where
  pub whole_step : IsStep told old new place i moment verdict
  whole_step = λ tell w n own is_place shows.
      let x : Member = member_of p.node in
      let plan : Plan = plan_at x i moment in
      let of = was_of tell told old.parties mid.parties place p.node l w shows.all_open shows.members_are own is_place in
      let is = whole.fills l.front l.own l.back l.after l.size in
      let tells : tell ≡ true → Tells (told whole.node.disk) = λ t. whole.tells ∙ of.tells t in
      let net = (laws x i moment).whole n w (at_own tell told old.parties mid.parties place p.node l w shows.all_open shows.members_are own is_place) in (
        x,
        at tell told old.parties mid.parties place p.node l w shows.all_open shows.members_are own is_place,
        record {
          all_open = in_after tell told old.parties mid.parties place p.node l w shows.all_open shows.members_are own is_place whole.node new.parties is whole.own tells;
          members_are = members_after tell told old.parties mid.parties place p.node l w shows.all_open shows.members_are own is_place whole.node new.parties is whole.own tells
              ∙ (ap (λ (m : Member). put_row own_of bytes_eq m w.members) (whole.next ∙ ap (λ (q : Plan). after x q.edits) planned) ∙ sym net.members);
          texts_are = whole.texts_are ∙ (ap₂ (λ (ts : List (List ℕ)) (q : Plan). ts ++ option_to_list q.reply) (texts_stay ∙ shows.texts_are) planned ∙ sym net.texts);
          facts_are = whole.facts_are ∙ (ap₂ (λ (fs : List NamedText) (q : Plan). fs ++ noted q.under q.reply) (facts_stay ∙ shows.facts_are) planned ∙ sym net.facts_are);
        },
        whole.verdict_is ∙ ap (λ (q : Plan). q.verdict) planned,
      )

-- a stopped one
module _ {D : Type 0} (told : D → View) (old mid new : PlayState D) (place : ℕ) (node : Stored D) (l : IsTakenOut old.parties mid.parties place node) (i : Option Input) (moment : ℕ) (stop : Stop) (before after : ℕ) (next : Bool)
    (s : IsStoppedIn told mid.parties new.parties place node i moment stop before after next) (adds : List NamedText) (texts_stay : new.texts ≡ old.texts) (facts_grow : new.facts ≡ old.facts ++ cond next adds [])
    (own_next : (member_next (member_of node) i moment).party.own ≡ node.party.own)
    (cuts : KeepsChange (member_of node) i moment → (n : ℕ) (w : World) → member_at node.party.own w.members ≡ Some (member_of node) → IsAfter w (world_after_given n w (member_of node) i moment CutNew) (member_next (member_of node) i moment) None adds)
    (stays : (n : ℕ) (w : World) → world_after_given n w (member_of node) i moment CutOld ≡ w) where
  pub cut_step : IsCutStep told old new place i moment stop before after next
  cut_step = λ tell w n own is_place shows.
      let of = was_of tell told old.parties mid.parties place node l w shows.all_open shows.members_are own is_place in
      let stopped = s.stops tell of.tells in
      let here = at tell told old.parties mid.parties place node l w shows.all_open shows.members_are own is_place in
      (member_of node, here, go tell w n own is_place shows stopped.tells stopped.fixed.kept stopped.cut, stopped.fixed)
    where
      go : (tell : Bool) (w : World) (n : ℕ) (own : List ℕ) (is_place : IsPlace old.parties own place) (shows : Shows tell told w old) → (tell ≡ true → Tells (told s.opened.disk)) → (next ≡ true → KeepsChange (member_of node) i moment)
          → ((next ≡ false) × (member_of s.opened ≡ member_of node)) ⊎ ((next ≡ true) × (member_of s.opened ≡ member_next (member_of node) i moment)) → Shows tell told (world_after_given n w (member_of node) i moment (completion_of next)) new
      go tell w n own is_place shows tells kept (inl one) =
          let x : Member = member_of node in
          let is = s.fills l.front l.own l.back l.after l.size in
          let own_is : s.opened.party.own ≡ node.party.own = ap (λ (m : Member). m.party.own) one.1 in
          let world_is : world_after_given n w x i moment (completion_of next) ≡ w = ap (λ (b : Bool). world_after_given n w x i moment (completion_of b)) one.0 ∙ stays n w in
          record {
            all_open = in_after tell told old.parties mid.parties place node l w shows.all_open shows.members_are own is_place s.opened new.parties is own_is tells;
            members_are = members_after tell told old.parties mid.parties place node l w shows.all_open shows.members_are own is_place s.opened new.parties is own_is tells
                ∙ (ap (λ (m : Member). put_row own_of bytes_eq m w.members) one.1
                ∙ (put_stands x node.party.own w.members refl (at_own tell told old.parties mid.parties place node l w shows.all_open shows.members_are own is_place) ∙ ap (λ (v : World). v.members) (sym world_is)));
            texts_are = texts_stay ∙ (shows.texts_are ∙ ap (λ (v : World). v.texts) (sym world_is));
            facts_are = facts_grow ∙ (ap₂ (λ (fs : List NamedText) (b : Bool). fs ++ cond b adds []) shows.facts_are one.0 ∙ (append-nil (map named_text w.facts) ∙ ap (λ (v : World). map named_text v.facts) (sym world_is)));
          }
      go tell w n own is_place shows tells kept (inr two) =
          let x : Member = member_of node in
          let is = s.fills l.front l.own l.back l.after l.size in
          let own_is : s.opened.party.own ≡ node.party.own = ap (λ (m : Member). m.party.own) two.1 ∙ own_next in
          let net = cuts (kept two.0) n w (at_own tell told old.parties mid.parties place node l w shows.all_open shows.members_are own is_place) in
          let world_is : world_after_given n w x i moment (completion_of next) ≡ world_after_given n w x i moment CutNew = ap (λ (b : Bool). world_after_given n w x i moment (completion_of b)) two.0 in
          record {
            all_open = in_after tell told old.parties mid.parties place node l w shows.all_open shows.members_are own is_place s.opened new.parties is own_is tells;
            members_are = members_after tell told old.parties mid.parties place node l w shows.all_open shows.members_are own is_place s.opened new.parties is own_is tells
                ∙ (ap (λ (m : Member). put_row own_of bytes_eq m w.members) two.1 ∙ (sym net.members ∙ ap (λ (v : World). v.members) (sym world_is)));
            texts_are = texts_stay ∙ (shows.texts_are ∙ (sym (net.texts ∙ append-nil w.texts) ∙ ap (λ (v : World). v.texts) (sym world_is)));
            facts_are = facts_grow ∙ (ap₂ (λ (fs : List NamedText) (b : Bool). fs ++ cond b adds []) shows.facts_are two.0 ∙ (sym net.facts_are ∙ ap (λ (v : World). map named_text v.facts) (sym world_is)));
          }
