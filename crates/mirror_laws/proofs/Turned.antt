-- A turn of a party over two disks is an event at it.
use Rattle.std.proofs.Common.{◌≡◌, ◌≢◌, ◌⊎◌, inl, inr, arith, ℕ, ◌-◌, Bool, true, false, cond, Option, Some, List, [], ◌∷◌, ◌++◌, refl, sym, ◌∙◌, ap, option_to_list}
use Rattle.x_base.specs.declared.verdict.Verdict.{Verdict}
use Rattle.x_base.specs.declared.verdict.Verdict.TheVariants.{Accept}
use Rattle.x_disk.specs.Disk.{View}
use Rattle.party_state.specs.declared.command.Input.{Input}
use Rattle.party_state.specs.declared.command.Input.TheVariants as input
use Rattle.party_state.specs.declared.decision.Decision.{Decision}
use Rattle.party_state.specs.declared.decision.Lead.{Lead}
use Rattle.party_state.specs.declared.edit.Edit.{Edit}
use Rattle.party_state.specs.State.{Party}
use Rattle.party_state.specs.Verdicts.{is_accept}
use Rattle.change_code.specs.Cost.{fits, is_change}
use Rattle.member.specs.Deciding.{decision}
use Rattle.member.specs.Leads.{lead_in}
use Rattle.member.specs.Member.{Member, Plan, plan_at, as_decided, as_full, after}
use Rattle.member.specs.Acts.{taking}
use Rattle.node_core.specs.Turns.{member_of}
use Rattle.mirror_store.specs.Pairs.{Twin}
use Rattle.mirror_store.specs.Turns.{fits_frame, pair_plan_at, IsKeptTwice, IsPairTurn}
use Rattle.mirror_store.specs.declared.mirror.PairTurn.{PairTurn}
use Rattle.mirror_store.specs.declared.mirror.PairTurn.TheVariants as turn
use Rattle.world_laws.specs.World.{World, member_at}
use Rattle.world_laws.specs.Events.{Completion, Whole, CutOld, CutNew, Event}
use Rattle.world_laws.specs.Steps.{step, step_at, world_after_action, world_after_input}
use Rattle.world_laws.specs.Nodes.{IsEventOf, input_event}
use Rattle.world_laws.proofs.Lists.Members.{after_at}
use Rattle.mirror_laws.specs.Turns.{action_of, turn_event, IsWholeTurn, IsHeldBack, IsMirrorTurn}

room_kept : (room : ℕ) → room - 0 ≡ room
room_kept room = omega arith

-- a member stays where no edits are kept
pub same_member : (x : Member) → after x [] ≡ x
same_member x = ap (λ (room : ℕ). record { party = x.party; space = record { format = x.space.format; room = room } }) (room_kept x.space.room)

kept_next : {D : Type 0} (edits : List Edit) (old new : Twin D) → IsKeptTwice edits old new → member_of new.first ≡ after (member_of old.first) edits
kept_next {D = D} [] old new kept = ap (λ (n : Twin D). member_of n.first) kept ∙ sym (same_member (member_of old.first))
kept_next (e ∷ es) old new kept = kept.0

-- a plan that refuses keeps nothing
refuses : (v : Verdict) → v ≢ Accept → is_accept v ≡ false
refuses Accept isnt = absurd (isnt refl)
refuses _ isnt = refl

pub without_edits : (fits : Bool) (l : Option Lead) (d : Decision) → (is_accept d.verdict ≡ false → d.change ≡ []) → (cond fits (as_decided l d) (as_full l)).verdict ≢ Accept → (cond fits (as_decided l d) (as_full l)).edits ≡ []
without_edits true l d law isnt = law (refuses d.verdict isnt)
without_edits false l d law isnt = refl

-- the plan of a member with a second disk, by whether the party after it fits into one frame

pub planned : (b : Bool) (plan : Plan) → (cond b plan (as_full plan.lead)).verdict ≡ Accept → cond b plan (as_full plan.lead) ≡ plan
planned true plan is = refl
planned false plan is = absurd (cc is)

-- the event of an input, in each network of which this is a member
module _ (x : Member) (bytes : List ℕ) (i : Input) (moment : ℕ) (event : IsEventOf x (taking (plan_at x i moment)) (input_event x i moment)) where
  abbrev pub plan : Plan
  plan = plan_at x i moment

  abbrev pub e : Completion → Event
  e completion = turn_event x bytes i moment completion

  action_is : (j : Input) (n : ℕ) (w : World) (completion : Completion) → world_after_action n w x moment completion (action_of bytes j) ≡ world_after_input n w x j moment completion
  action_is (input.Ordered c) n w completion = refl
  action_is (input.Arrived a) n w completion = refl

  step_is : (n : ℕ) (w : World) (completion : Completion) → member_at x.party.own w.members ≡ Some x → step n w (e completion) ≡ input_event x i moment n w completion
  step_is n w completion at = ap (λ (o : Option Member). step_at n w (e completion) o) at ∙ action_is i n w completion

  pub whole_at : (n : ℕ) (w : World) → member_at x.party.own w.members ≡ Some x → member_at x.party.own (step n w (e Whole)).members ≡ Some (after x plan.edits)
  whole_at n w at =
      ap (λ (v : World). member_at x.party.own v.members) (step_is n w Whole at) ∙ (ap (λ ms. member_at x.party.own ms) (event.whole n w at).members ∙ after_at w.members x.party.own x (after x plan.edits) at event.own)

  pub whole_texts : (n : ℕ) (w : World) → member_at x.party.own w.members ≡ Some x → (step n w (e Whole)).texts ≡ w.texts ++ option_to_list plan.reply
  whole_texts n w at = ap (λ (v : World). v.texts) (step_is n w Whole at) ∙ (event.whole n w at).texts

  pub cut_old : (n : ℕ) (w : World) → member_at x.party.own w.members ≡ Some x → step n w (e CutOld) ≡ w
  cut_old n w at = step_is n w CutOld at ∙ event.old n w

  pub cut_new : is_change plan.edits ≡ true → (n : ℕ) (w : World) → member_at x.party.own w.members ≡ Some x → member_at x.party.own (step n w (e CutNew)).members ≡ Some (after x plan.edits)
  cut_new some n w at =
      ap (λ (v : World). member_at x.party.own v.members) (step_is n w CutNew at)
      ∙ (ap (λ ms. member_at x.party.own ms) (event.new n w at some).members ∙ after_at w.members x.party.own x (after x plan.edits) at event.own)

module _ (inputs : (x : Member) (i : Input) (moment : ℕ) → IsEventOf x (taking (plan_at x i moment)) (input_event x i moment))
    (refused : (p : Party) (i : Input) (moment : ℕ) → is_accept (decision p i moment).verdict ≡ false → (decision p i moment).change ≡ [])
    {D : Type 0} (told : D → View) (old : Twin D) (bytes : List ℕ) (i : Input) (moment : ℕ) where
  abbrev x : Member
  x = member_of old.first

  abbrev own_plan : Plan
  own_plan = plan_at x i moment

  abbrev event : IsEventOf x (taking own_plan) (input_event x i moment)
  event = inputs x i moment

  whole_turn : (new : Twin D) (reply : Option (List ℕ)) → member_of new.first ≡ after x own_plan.edits → reply ≡ own_plan.reply → IsWholeTurn x (turn_event x bytes i moment Whole) new reply
  whole_turn new reply member_is reply_is = record {
    member = λ n w at. whole_at x bytes i moment event n w at ∙ ap Some (sym member_is);
    texts = λ n w at. whole_texts x bytes i moment event n w at ∙ ap (λ (o : Option (List ℕ)). w.texts ++ option_to_list o) (sym reply_is);
  }

  done : (new : Twin D) (reply : Option (List ℕ)) (p : Plan) → p ≡ own_plan → IsKeptTwice p.edits old new → reply ≡ p.reply → IsWholeTurn x (turn_event x bytes i moment Whole) new reply
  done new reply p is kept said =
      whole_turn new reply (kept_next p.edits old new kept ∙ ap (λ (q : Plan). after x q.edits) is) (said ∙ ap (λ (q : Plan). q.reply) is)

  stays : own_plan.edits ≡ [] → x ≡ after x own_plan.edits
  stays none = sym (ap (λ (es : List Edit). after x es) none ∙ same_member x)

  refused_by : (b : Bool) → fits_frame x.party own_plan.edits ≡ b → (new : Twin D) (verdict : Verdict) (reply : Option (List ℕ)) → new ≡ old → verdict ≢ Accept
      → verdict ≡ (cond b own_plan (as_full own_plan.lead)).verdict → reply ≡ (cond b own_plan (as_full own_plan.lead)).reply
      → IsWholeTurn x (turn_event x bytes i moment Whole) new reply ⊎ IsHeldBack x i moment (turn_event x bytes i moment CutOld) verdict reply
  refused_by true is new verdict reply same isnt said answer =
      let none : own_plan.edits ≡ [] = without_edits (fits x.space (decision x.party i moment).change) (lead_in x.party i) (decision x.party i moment) (refused x.party i moment) (λ accepted. isnt (said ∙ accepted)) in
      inl (whole_turn new reply (ap (λ (n : Twin D). member_of n.first) same ∙ stays none) answer)
  refused_by false is new verdict reply same isnt said answer =
      inr (record { too_large = is; said = said; silent = answer; nothing = λ n w at. cut_old x bytes i moment event n w at })

  pub is_turn : (t : PairTurn D) → IsPairTurn told old (pair_plan_at x i moment) t → IsMirrorTurn old bytes i moment t
  is_turn (turn.Done new reply under) is =
      done new reply (pair_plan_at x i moment) (planned (fits_frame x.party own_plan.edits) own_plan is.answer.accepted) is.answer.kept is.answer.reply
  is_turn (turn.Refused new verdict reply under) is =
      (is.answer.same, refused_by (fits_frame x.party own_plan.edits) refl new verdict reply is.answer.same is.answer.refused is.answer.verdict is.answer.reply)
  is_turn (turn.Broken u) is = tt
  is_turn (turn.NoMemory new) is = is.answer
