-- An event at the party of a place, from the taking out to the putting in.
use Rattle.std.proofs.Common.{◌≡◌, ℕ, Bool, true, false, List, [], ◌++◌, Option, Some, None, cond, bytes_eq, refl, sym, ◌∙◌, ap, subst}
use Rattle.std.proofs.lemmas.List.{append-nil}
use Rattle.x_base.specs.declared.verdict.Verdict.{Verdict}
use Rattle.x_disk.specs.Disk.{View}
use Rattle.party_tables.specs.Tables.{put_row}
use Rattle.party_state.specs.declared.command.Input.{Input}
use Rattle.key_store.specs.Store.{Stored}
use Rattle.member.specs.Member.{Member, Plan, plan_at, after}
use Rattle.change_code.specs.Cost.{is_change}
use Rattle.node_core.specs.Planned.{PlannedNode}
use Rattle.node_core.specs.Turns.{member_of}
use Rattle.fact_book.specs.Facts.{NamedText}
use Rattle.world_laws.specs.World.{World, own_of, member_at}
use Rattle.world_laws.specs.Events.{CutOld, CutNew}
use Rattle.world_laws.specs.Noted.{noted}
use Rattle.course.specs.Outcomes.{world_after_given}
use Rattle.member.specs.Acts.{taking}
use Rattle.world_laws.specs.Nodes.{IsEventOf, input_event}
use Rattle.course.specs.Stops.{KeepsChange, member_next}
use Rattle.course.specs.declared.progress.Stop.{Stop}
use Rattle.replay.specs.Breaks.{BreaksOff}
use Rattle.replay.specs.Events.{HoldsEither, StandsEither, IsWhole, IsLeft, IsBrokenIn, IsStoppedIn, IsStopLeft}
use Rattle.replay.specs.PlayState.{IsStep, IsCutStep}
use Rattle.open_parties.specs.OpenParties.{IsPlace, IsTakenOut}
use Rattle.open_parties.specs.declared.failure.Failure.{Failure}
use Rattle.replay.specs.declared.play_state.PlayState.{PlayState}
use Rattle.open_parties.specs.declared.open_party.OpenParty.{OpenParty}
use Rattle.open_parties.specs.declared.open_party.PartyDisk.{PartyDisk}
use Rattle.open_parties.specs.declared.open_party.PartyDisk.TheVariants.{Open, Closed, Away}
use Rattle.replay.proofs.Breakage.{broken_off}
use Rattle.replay.proofs.Stepping.{whole_step, cut_step}

-- an old network stays where nothing is kept
pub old_stays : (x : Member) (o : Option Input) (moment n : ℕ) (w : World) → world_after_given n w x o moment CutOld ≡ w
old_stays x None moment n w = refl
old_stays x (Some i) moment n w = refl

-- what is held stands, whatever is on the shelf
on_shelf : {D : Type 0} (told : D → View) (shelved : View) (h : PartyDisk D) (x y : Member) (keep : Type 0) → HoldsEither told h x y keep → StandsEither told shelved h x y keep
on_shelf told shelved (Open node) x y keep is = is
on_shelf told shelved (Closed disk) x y keep is = is
on_shelf told shelved Away x y keep is = absurd is

-- the plan that was made
module _ {D : Type 0} (p : PlannedNode D) (node : Stored D) (i : Input) (moment : ℕ) (is : p ≡ record { node = node; plan = plan_at (member_of node) i moment }) where
  pub planned_of : p.plan ≡ plan_at (member_of p.node) i moment
  planned_of = subst (λ (q : PlannedNode D). q.plan ≡ plan_at (member_of q.node) i moment) (sym is) refl

  pub taken_out_of : (old mid : List (OpenParty D)) (place : ℕ) → IsTakenOut old mid place node → IsTakenOut old mid place p.node
  taken_out_of old mid place l = subst (λ (q : PlannedNode D). IsTakenOut old mid place q.node) (sym is) l

-- the node as it was before the plan, with the plan that is made anew
abbrev pub stopped_plan : {D : Type 0} → Stored D → Input → ℕ → PlannedNode D
stopped_plan node i moment = record { node = node; plan = plan_at (member_of node) i moment }

pub taken_out_again : {D : Type 0} (p : PlannedNode D) (node again : Stored D) (i : Input) (moment : ℕ) → p ≡ record { node = node; plan = plan_at (member_of node) i moment } → again ≡ p.node → (old mid : List (OpenParty D)) (place : ℕ) → IsTakenOut old mid place node → IsTakenOut old mid place again
taken_out_again p node again i moment is same old mid place l = subst (λ (k : Stored _). IsTakenOut old mid place k) (sym (same ∙ ap (λ (q : PlannedNode _). q.node) is)) l

-- an input is planned
module _ {D : Type 0} (told : D → View) (laws : (x : Member) (i : Input) (moment : ℕ) → IsEventOf x (taking (plan_at x i moment)) (input_event x i moment)) (old mid new : PlayState D) (place : ℕ) (p : PlannedNode D) (l : IsTakenOut old.parties mid.parties place p.node)
    (texts_stay : mid.texts ≡ old.texts) (facts_stay : mid.facts ≡ old.facts) (i : Input) (moment : ℕ) (planned : p.plan ≡ plan_at (member_of p.node) i moment) where
  own_next : (member_next (member_of p.node) (Some i) moment).party.own ≡ p.node.party.own
  own_next = (laws (member_of p.node) i moment).own

  cuts : KeepsChange (member_of p.node) (Some i) moment → (n : ℕ) (w : World) → member_at p.node.party.own w.members ≡ Some (member_of p.node) → (world_after_given n w (member_of p.node) (Some i) moment CutNew).members ≡ put_row own_of bytes_eq (member_next (member_of p.node) (Some i) moment) w.members
  cuts keep n w at = ((laws (member_of p.node) i moment).new n w at keep).members

  pub input_whole : (verdict : Verdict) → IsWhole told p mid new place verdict → IsStep told old new place i moment verdict
  input_whole verdict whole = whole_step told laws old mid new place p l texts_stay facts_stay i moment verdict planned whole

  pub input_cut : (stop : Stop) (before after : ℕ) (next : Bool) → IsStoppedIn told mid.parties new.parties place p.node (Some i) moment stop before after next → new.texts ≡ mid.texts → new.facts ≡ mid.facts ++ cond next (noted p.plan.under p.plan.reply) []
      → IsCutStep told old new place (Some i) moment stop before after next
  input_cut stop before after next s texts_are facts_are =
      cut_step told old mid new place p.node l (Some i) moment stop before after next s (noted (plan_at (member_of p.node) i moment).under (plan_at (member_of p.node) i moment).reply)
      (texts_are ∙ texts_stay) (facts_are ∙ (λ j. facts_stay j ++ cond next (noted (planned j).under (planned j).reply) [])) own_next
      (λ keep n w at. (laws (member_of p.node) i moment).new n w at keep) (old_stays (member_of p.node) (Some i) moment)

  pub input_breaks : (entry : List ℕ → View) (own : List ℕ) (why : Failure) → IsPlace old.parties own place → IsStopLeft told (entry own) mid.parties new.parties place p.node (Some i) moment why → BreaksOff told entry old new place (Some i) moment why
  input_breaks entry own why is_place b = broken_off told entry old mid.parties new place p.node l (Some i) moment why own is_place b own_next cuts (old_stays (member_of p.node) (Some i) moment)

  pub left_so : (shelved : View) (why : Failure) → IsLeft told p mid.parties new.parties place why → IsStopLeft told shelved mid.parties new.parties place p.node (Some i) moment why
  left_so shelved why left =
      subst (λ (q : Plan). IsBrokenIn told shelved mid.parties new.parties place p.node (member_of p.node) (after (member_of p.node) q.edits) (is_change q.edits ≡ true) why) planned (record {
        held = left.held;
        fills = left.fills;
        fails = λ tells. (let f = left.fails tells in (f.0, on_shelf told shelved left.held (member_of p.node) (after (member_of p.node) p.plan.edits) (is_change p.plan.edits ≡ true) f.1));
      })

-- nothing is heard
module _ {D : Type 0} (told : D → View) (old mid new : PlayState D) (place : ℕ) (node : Stored D) (l : IsTakenOut old.parties mid.parties place node) (texts_are : new.texts ≡ old.texts) (facts_are : new.facts ≡ old.facts) (moment : ℕ) where
  pub unheard_cut : (stop : Stop) (before after : ℕ) (next : Bool) → IsStoppedIn told mid.parties new.parties place node None moment stop before after next → IsCutStep told old new place None moment stop before after next
  unheard_cut stop before after next s = cut_step told old mid new place node l None moment stop before after next s [] texts_are (facts_are ∙ sym (nothing old.facts next)) refl (λ keep. absurd keep) (old_stays (member_of node) None moment)
    where
      nothing : (facts : List NamedText) (b : Bool) → facts ++ cond b [] [] ≡ facts
      nothing facts true = append-nil facts
      nothing facts false = append-nil facts

  pub unheard_breaks : (entry : List ℕ → View) (own : List ℕ) (why : Failure) → IsPlace old.parties own place → IsStopLeft told (entry own) mid.parties new.parties place node None moment why → BreaksOff told entry old new place None moment why
  unheard_breaks entry own why is_place b = broken_off told entry old mid.parties new place node l None moment why own is_place b refl (λ keep. absurd keep) (old_stays (member_of node) None moment)
