-- A call over a party on two disks is an event at it.
use Rattle.std.proofs.Common.{◌≡◌, ◌≢◌, ◌⊎◌, inl, inr, ℕ, Bool, true, false, cond, Option, List, [], ◌++◌, refl, sym, ◌∙◌, ap, subst, option_to_list}
use Rattle.x_base.specs.declared.verdict.Verdict.{Verdict}
use Rattle.x_base.specs.declared.verdict.Verdict.TheVariants.{Accept}
use Rattle.x_disk.specs.Disk.{View}
use Rattle.x_disk.proofs.Runs.{weaker}
use Rattle.key_journal.specs.Journal.{is_blank}
use Rattle.key_journal.specs.declared.cause.Cause.TheVariants as cause
use Rattle.party_state.specs.declared.command.Input.{Input}
use Rattle.party_state.specs.declared.edit.Edit.{Edit}
use Rattle.party_state.specs.State.{Party}
use Rattle.party_state.specs.Verdicts.{is_accept}
use Rattle.change_code.specs.Cost.{fits, space_of_whole}
use Rattle.change_code.specs.declared.format.Format.TheVariants.{Two}
use Rattle.change_code.specs.declared.space.Space.{Space}
use Rattle.key_store.specs.Store.{Stands, StandsWith}
use Rattle.member.specs.Deciding.{decision}
use Rattle.member.specs.Leads.{lead_in}
use Rattle.member.specs.Member.{Member, Plan, plan_at, as_full, after}
use Rattle.member.specs.Acts.{taking}
use Rattle.mirror_store.specs.Pairs.{Recovers, IsMadeAnew}
use Rattle.mirror_store.specs.Opening.{AreRead, HasFirstSpace, IsPairRefusal}
use Rattle.mirror_store.specs.Recovering.{IsPairFailure}
use Rattle.mirror_store.specs.Turns.{fits_frame, pair_plan_at}
use Rattle.mirror_store.specs.declared.pair.PairCause.{PairCause}
use Rattle.mirror_store.specs.declared.pair.PairCause.TheVariants.{First, Second, OtherParty}
use Rattle.x_party.specs.declared.outcome.Outcome.{Outcome}
use Rattle.x_party.specs.declared.outcome.Outcome.TheVariants as outcome
use Rattle.x_pair.specs.Outcomes.{BothStand, OfOpened, MakesOf, MakesPair, MayLeave, Opened, After, AsItWas, Before, left_on_first, left_on_second, IsSafePair, turning}
use Rattle.world_laws.specs.Events.{Completion, Whole, CutOld, Event}
use Rattle.world_laws.specs.Nodes.{IsEventOf, input_event}
use Rattle.mirror_laws.specs.Turns.{turn_event, IsHeldBack}
use Rattle.mirror_laws.specs.Calls.{IsWholePairCall, AnswersPair, IsCutPairCall, IsPairCutOr, IsPairCallEvent}
use Rattle.mirror_laws.proofs.Turned.{same_member, without_edits, planned, whole_at, whole_texts, cut_old}
use Rattle.mirror_laws.proofs.Left.{CutTo, image_stands, to_old, to_next}

never : {A : Type 0} → true ≡ false → A
never is = absurd (cc is)

module _ (inputs : (x : Member) (i : Input) (moment : ℕ) → IsEventOf x (taking (plan_at x i moment)) (input_event x i moment))
    (refusing : (p : Party) (i : Input) (moment : ℕ) → is_accept (decision p i moment).verdict ≡ false → (decision p i moment).change ≡ [])
    (not_blank : (image : List ℕ) (p : Party) → Stands image p → is_blank image ≡ false)
    (one_space : (image : List ℕ) (p q : Party) (left other : Space) → StandsWith image p left → StandsWith image q other → (p ≡ q) × (left ≡ other))
    (one_party : (i j : List ℕ) (p q : Party) → Recovers i j p → Recovers i j q → p ≡ q)
    (refused : (i j : List ℕ) (p : Party) (reason : PairCause) → Recovers i j p → IsPairRefusal i j reason → IsPairFailure p reason)
    (name bytes : List ℕ) (i : Input) (moment : ℕ) (first_after second_after : View) (was_first was_second : List ℕ)
    (party : Party) (space : Space) (recovers : Recovers was_first was_second party) (left : HasFirstSpace was_first party space) (own : party.own ≡ name) where
  abbrev x : Member
  x = record { party = party; space = space }

  abbrev e : Completion → Event
  e completion = turn_event x bytes i moment completion

  abbrev plan : Plan
  plan = plan_at x i moment

  abbrev event : IsEventOf x (taking plan) (input_event x i moment)
  event = inputs x i moment

  stands_blank : {A : Type 0} (p : Party) (s : Space) → StandsWith was_first p s → is_blank was_first ≡ true → A
  stands_blank p s is blank = never (sym blank ∙ not_blank was_first p (record { format = s.format; stands = record { bodies = is.bodies; holds = is.holds; fold = is.fold } }))

  same_space : (p : Party) (s other : Space) → HasFirstSpace was_first p s → HasFirstSpace was_first p other → s ≡ other
  same_space p s other (inl a) (inl b) = (one_space was_first p p s other a b).1
  same_space p s other (inl a) (inr b) = stands_blank p s a b.0
  same_space p s other (inr a) (inl b) = stands_blank p other b a.0
  same_space p s other (inr a) (inr b) = a.1 ∙ sym b.1

  -- the member that is opened is this one
  opened_is : (y : Member) → Recovers was_first was_second y.party → HasFirstSpace was_first y.party y.space → y ≡ x
  opened_is y opened at =
      let same : y.party ≡ party = one_party was_first was_second y.party party opened recovers in
      let there : HasFirstSpace was_first party y.space = subst (λ (p : Party). HasFirstSpace was_first p y.space) same at in
      let one : y.space ≡ space = same_space party y.space space there left in
      λ k. record { party = same k; space = one k }

  whole_call : (next : Member) (reply : Option (List ℕ)) → next ≡ after x plan.edits → reply ≡ plan.reply → BothStand first_after second_after next → IsWholePairCall x (e Whole) first_after second_after reply
  whole_call next reply next_is reply_is both = record {
    stand = λ n w at. record {
      member = after x plan.edits;
      at = whole_at x bytes i moment event n w at;
      holds = subst (λ (y : Member). BothStand first_after second_after y) next_is both;
    };
    texts = λ n w at. whole_texts x bytes i moment event n w at ∙ ap (λ (o : Option (List ℕ)). w.texts ++ option_to_list o) (sym reply_is);
  }

  -- by whether the party after the input fits into one frame
  refused_by : (b : Bool) → fits_frame party plan.edits ≡ b → (next : Member) (verdict : Verdict) (reply : Option (List ℕ)) → next ≡ x → verdict ≢ Accept
      → verdict ≡ (cond b plan (as_full plan.lead)).verdict → reply ≡ (cond b plan (as_full plan.lead)).reply → BothStand first_after second_after next
      → IsWholePairCall x (e Whole) first_after second_after reply ⊎ (IsHeldBack x i moment (e CutOld) verdict reply × BothStand first_after second_after x)
  refused_by true is next verdict reply same isnt said answer both =
      let none : plan.edits ≡ [] = without_edits (fits space (decision party i moment).change) (lead_in party i) (decision party i moment) (refusing party i moment) (λ accepted. isnt (said ∙ accepted)) in
      inl (whole_call next reply (same ∙ sym (ap (λ (es : List Edit). after x es) none ∙ same_member x)) answer both)
  refused_by false is next verdict reply same isnt said answer both =
      inr (record { too_large = is; said = said; silent = answer; nothing = λ n w at. cut_old x bytes i moment event n w at }, subst (λ (y : Member). BothStand first_after second_after y) same both)

  done : (reply : Option (List ℕ)) → OfOpened (turning name i moment) was_first was_second first_after second_after (outcome.Done reply) → IsWholePairCall x (e Whole) first_after second_after reply
  done reply opened =
      let is : opened.member ≡ x = opened_is opened.member opened.recovers opened.space in
      let accepted : (pair_plan_at x i moment).verdict ≡ Accept = subst (λ (y : Member). (pair_plan_at y i moment).verdict ≡ Accept) is opened.says.accepted in
      let plan_is : pair_plan_at x i moment ≡ plan = planned (fits_frame party plan.edits) plan accepted in
      let next_is : opened.next ≡ after x plan.edits = opened.says.next ∙ (ap (λ (y : Member). after y (pair_plan_at y i moment).edits) is ∙ ap (λ (p : Plan). after x p.edits) plan_is) in
      let reply_is : reply ≡ plan.reply = opened.says.written ∙ (ap (λ (y : Member). (pair_plan_at y i moment).reply) is ∙ ap (λ (p : Plan). p.reply) plan_is) in
      whole_call opened.next reply next_is reply_is opened.stand

  refuses : (verdict : Verdict) (reply : Option (List ℕ)) → OfOpened (turning name i moment) was_first was_second first_after second_after (outcome.Refused verdict reply)
      → IsWholePairCall x (e Whole) first_after second_after reply ⊎ (IsHeldBack x i moment (e CutOld) verdict reply × BothStand first_after second_after x)
  refuses verdict reply opened =
      let is : opened.member ≡ x = opened_is opened.member opened.recovers opened.space in
      refused_by (fits_frame party plan.edits) refl opened.next verdict reply (opened.says.same ∙ is) opened.says.refused
      (opened.says.said ∙ ap (λ (y : Member). (pair_plan_at y i moment).verdict) is) (opened.says.written ∙ ap (λ (y : Member). (pair_plan_at y i moment).reply) is) opened.stand

  pub answers : (o : Outcome) → MakesOf (turning name i moment) was_first was_second first_after second_after o → AnswersPair x i moment e was_first was_second first_after second_after o
  answers (outcome.Done reply) makes = done reply makes
  answers (outcome.Refused verdict reply) (inl opened) = elim (refuses verdict reply opened) [ inl whole ↦ inl whole | inr held ↦ inr (inl held) ]
  answers (outcome.Refused verdict reply) (inr (inl none)) = absurd (refused was_first was_second party (First cause.Blank) recovers (none.first_blank, none.second_blank))
  answers (outcome.Refused verdict reply) (inr (inr large)) = inr (inr large)
  answers (outcome.OtherParty asked found) (inl opened) =
      let is : opened.member ≡ x = opened_is opened.member opened.recovers opened.space in
      opened.says.differs (opened.says.own ∙ (ap (λ (y : Member). y.party.own) is ∙ own))
  answers (outcome.OtherParty asked found) (inr apart) = refused was_first was_second party (OtherParty asked found) recovers apart
  answers (outcome.Damaged place) (inl damage) = refused was_first was_second party (First (cause.Damaged place)) recovers damage
  answers (outcome.Damaged place) (inr damage) = refused was_first was_second party (Second (cause.Damaged place)) recovers damage
  answers outcome.Fault makes = tt
  answers outcome.NoMemory makes = tt

  -- an image of the member after the event that is cut off
  cut_call : (room : Member → Space) (z : Member) → CutTo x e z → (image : List ℕ) → StandsWith image z.party (room z) → IsCutPairCall x e room image
  cut_call room z to image stands = record { completion = to.completion; cut = to.cut; stands = λ n w at. record { member = z; at = to.at n w at; holds = stands } }

  -- the space of what is made anew on the first disk
  made_space : (image : List ℕ) → IsMadeAnew was_first party image → HasFirstSpace was_first party space → space_of_whole Two party ≡ space
  made_space image made (inl stands) = absurd (made.0 (image_stands was_first party space stands))
  made_space image made (inr whole) = sym whole.1

  leaves : (room : Member → Space) (was : List ℕ) (before : List ℕ → Type 0) → ((image : List ℕ) → IsMadeAnew was party image → space_of_whole Two party ≡ room x) → (image : List ℕ)
      → MayLeave (turning name i moment) room was_first was_second party was before image → IsPairCutOr x e room was before image
  leaves room was before whole image (Opened made) = inl (cut_call room x (to_old x bytes i moment event) image (subst (λ (s : Space). StandsWith image party s) (whole image made) made.1))
  leaves room was before whole image (After next changes stands) =
      let may = changes.may in
      let same : may.space ≡ space = same_space party may.space space may.left left in
      let is : next ≡ after x (pair_plan_at x i moment).edits =
      may.is ∙ ap (λ (s : Space). let z : Member = record { party = party; space = s } in after z (pair_plan_at z i moment).edits) same in
      inl (cut_call room (after x (pair_plan_at x i moment).edits) (to_next x bytes i moment event) image (subst (λ (z : Member). StandsWith image z.party (room z)) is stands))
  leaves room was before whole image (AsItWas is) = inr (inl is)
  leaves room was before whole image (Before is) = inr (inr is)

  pub is_call : (first second : View) (o : Outcome) → AreRead first second was_first was_second → MakesPair (turning name i moment) first second first_after second_after o
      → IsSafePair (turning name i moment) first second first_after second_after → IsPairCallEvent x bytes i moment was_first was_second first second first_after second_after o
  is_call first second o read makes safe = record {
    whole = answers o (makes was_first was_second read);
    cut_first = weaker first first_after (MayLeave (turning name i moment) left_on_first was_first was_second party was_first first.may_leave) (IsPairCutOr x e left_on_first was_first first.may_leave)
        (safe.on_first was_first was_second party read recovers) (leaves left_on_first was_first first.may_leave (λ c made. made_space c made left));
    cut_second = weaker second second_after (MayLeave (turning name i moment) left_on_second was_first was_second party was_second second.may_leave) (IsPairCutOr x e left_on_second was_second second.may_leave)
        (safe.on_second was_first was_second party read recovers) (leaves left_on_second was_second second.may_leave (λ c made. refl));
  }
