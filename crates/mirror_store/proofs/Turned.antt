-- A plan is carried out over two disks: the answer, and what a crash may leave.
use Rattle.std.proofs.Common.{◌≡◌, ◌≢◌, inl, ℕ, Bool, true, false, cond, List, [], ◌∷◌, Option, None, Ok, Err, refl, sym, ◌∙◌, ap, subst, arith}
use Rattle.x_base.specs.declared.verdict.Verdict.{Verdict}
use Rattle.x_base.specs.declared.verdict.Verdict.TheVariants.{Accept, JournalFull}
use Rattle.x_base.specs.declared.key_name.FullName.{FullName}
use Rattle.x_disk.specs.Disk.{View, Tells, LeavesOnly, IsSound}
use Rattle.x_disk.specs.declared.disk.DiskErr.{DiskErr}
use Rattle.x_disk.specs.declared.disk.DiskErr.TheVariants as disk
use Rattle.x_disk.proofs.Runs.{began, weaker}
use Rattle.key_journal.specs.Causes.{cause_of}
use Rattle.key_journal.specs.States.{Failed, FaultsRose}
use Rattle.party_state.specs.declared.command.Input.{Input}
use Rattle.party_state.specs.declared.decision.Decision.{Decision}
use Rattle.party_state.specs.declared.decision.Lead.{Lead}
use Rattle.party_state.specs.Verdicts.{is_accept}
use Rattle.party_state.specs.State.{Party, apply}
use Rattle.party_state.specs.declared.edit.Edit.{Edit}
use Rattle.change_code.specs.declared.format.Format.{Format}
use Rattle.change_code.specs.declared.format.Format.TheVariants.{Two}
use Rattle.change_code.specs.Cost.{can_compact, fits, space_of_whole}
use Rattle.change_code.specs.Whole.{IsTooLarge}
use Rattle.key_store.specs.Store.{Stored, StandsWith, IsStore, space, space_between}
use Rattle.key_store.specs.Replacing.{IsReplacing, IsOldOrOther}
use Rattle.member.specs.Deciding.{decision}
use Rattle.member.specs.Leads.{lead_in}
use Rattle.member.specs.Member.{Member, Plan, plan_at, as_decided, as_full, after}
use Rattle.member.specs.Acts.{Keeps, taking}
use Rattle.node_core.specs.Turns.{member_of, IsImageOf, IsOldOrNext, IsWorkDone, IsWorkCut, IsTurn}
use Rattle.node_core.specs.declared.node.Turn.TheVariants as node
use Rattle.disk_pair.specs.declared.disks.Disks.{Disks}
use Rattle.mirror_store.specs.Pairs.{Twin, IsTwin}
use Rattle.mirror_store.specs.Answers.{twin_disks}
use Rattle.mirror_store.specs.Opening.{KeepsPair}
use Rattle.mirror_store.specs.Turns.{fits_frame, pair_plan, IsKeptTwice, HasFailed, IsPairTurn}
use Rattle.mirror_store.specs.declared.pair.PairCause.TheVariants.{First, Second}
use Rattle.mirror_store.specs.declared.mirror.PairTurn.{PairTurn}
use Rattle.mirror_store.specs.declared.mirror.PairTurn.TheVariants as turn
use Rattle.x_disk.proofs.Alike.{told_now}
use Rattle.mirror_store.proofs.Moments.{stands_with}
use Rattle.mirror_store.proofs.Opened.{never_first, never_second}

-- which plan is carried out

kept_plan : (party : Party) (plan : Plan) → fits_frame party plan.edits ≡ true → pair_plan party plan ≡ plan
kept_plan party plan fits = ap (λ b. cond b plan (as_full plan.lead)) fits

full_plan : (party : Party) (plan : Plan) → fits_frame party plan.edits ≡ false → pair_plan party plan ≡ as_full plan.lead
full_plan party plan full = ap (λ b. cond b plan (as_full plan.lead)) full

pub small_is : (b : Bool) (Large : Type 0) → (b ≡ false → Large) → (Large → ⊥) → b ≡ true
small_is true Large large small = refl
small_is false Large large small = absurd (small (large refl))

large_is : (b : Bool) (Large : Type 0) → (b ≡ true → Large → ⊥) → Large → b ≡ false
large_is true Large small large = absurd (small refl large)
large_is false Large small large = refl

pub fits_alone : (party : Party) (edits : List Edit) → ((p : Party) → can_compact Two p ≡ false → IsTooLarge Two p) → (IsTooLarge Two (apply edits party) → ⊥) → fits_frame party edits ≡ true
fits_alone party [] law small = refl
fits_alone party (e ∷ es) law small = small_is (can_compact Two (apply (e ∷ es) party)) (IsTooLarge Two (apply (e ∷ es) party)) (law (apply (e ∷ es) party)) small

pub fits_not : (party : Party) (edits : List Edit) → edits ≢ [] → ((p : Party) → can_compact Two p ≡ true → IsTooLarge Two p → ⊥) → IsTooLarge Two (apply edits party) → fits_frame party edits ≡ false
fits_not party [] some law large = absurd (some refl)
fits_not party (e ∷ es) some law large = large_is (can_compact Two (apply (e ∷ es) party)) (IsTooLarge Two (apply (e ∷ es) party)) (law (apply (e ∷ es) party)) large

-- a plan that keeps something is accepted

accept_of : (v : Verdict) → (is_accept v ≡ false → ⊥) → v ≡ Accept
accept_of Accept refuses = refl
accept_of _ refuses = absurd (refuses refl)

pub accept_is : (v : Verdict) → is_accept v ≡ true → v ≡ Accept
accept_is v is = accept_of v (λ refuses. let never : true ≡ false = sym is ∙ refuses in cc never)

pub refuse_is : (v : Verdict) → is_accept v ≡ false → v ≢ Accept
refuse_is v is same = let never : true ≡ false = sym (ap is_accept same) ∙ is in cc never

accepted_by : (fits : Bool) (l : Option Lead) (d : Decision) → (is_accept d.verdict ≡ false → d.change ≡ []) → (cond fits (as_decided l d) (as_full l)).edits ≢ [] → (cond fits (as_decided l d) (as_full l)).verdict ≡ Accept
accepted_by true l d law some = accept_of d.verdict (λ refuses. some (law refuses))
accepted_by false l d law some = absurd (some refl)

pub accepted_plan : ((p : Party) (i : Input) (moment : ℕ) → is_accept (decision p i moment).verdict ≡ false → (decision p i moment).change ≡ []) → (x : Member) (i : Input) (moment : ℕ)
    → (plan_at x i moment).edits ≢ [] → (plan_at x i moment).verdict ≡ Accept
accepted_plan law x i moment some = accepted_by (fits x.space (decision x.party i moment).change) (lead_in x.party i) (decision x.party i moment) (law x.party i moment) some

-- what rests

at_rest : (v : View) (gate end : ℕ) (f : Format) (party : Party) → IsSound v → IsStore v gate end f party → Tells v → LeavesOnly v v (λ c. StandsWith c party (space_between gate end f))
at_rest v gate end f party sound store tells =
    let image = told_now v.now tells in
    began v (λ c. StandsWith c party (space_between gate end f)) sound
    (λ c left. subst (λ (l : List ℕ). StandsWith l party (space_between gate end f)) (sym (store.durable.only image.0 c image.1 left)) (stands_with v gate end f party store image.0 image.1))

failed_first : {D : Type 0} (told : D → View) (old new : Disks D) (reason : DiskErr) → FaultsRose (told old.first) (told new.first) reason → HasFailed told old new (First (cause_of reason))
failed_first told old new disk.Fault rose = rose.fault refl
failed_first told old new disk.NoMemory rose = tt

failed_second : {D : Type 0} (told : D → View) (old new : Disks D) (reason : DiskErr) → FaultsRose (told old.second) (told new.second) reason → HasFailed told old new (Second (cause_of reason))
failed_second told old new disk.Fault rose = rose.fault refl
failed_second told old new disk.NoMemory rose = tt

kept_twice : {D : Type 0} (edits : List Edit) (old new : Twin D) → edits ≢ [] → member_of new.first ≡ after (member_of old.first) edits → space new.second ≡ space_of_whole Two (apply edits old.first.party) → IsKeptTwice edits old new
kept_twice [] old new some first second = absurd (some refl)
kept_twice (e ∷ es) old new some first second = (first, second)

-- where nothing changes no disk fails
pub never_cut : {D : Type 0} (told : D → View) (first : Stored D) (plan : Plan) (b : Failed D) → plan.edits ≡ [] → IsTurn told first (taking plan) (node.Broken b) → ⊥
never_cut told first plan b none t = subst (λ es. IsWorkCut told (Keeps es) first b) none t.answer.work

-- a store that rests beside the node's
module _ {D : Type 0} (told : D → View) (first second : Stored D) (second_sound : IsSound (told second.disk))
    (second_store : IsStore (told second.disk) second.gate second.end second.format second.party) (same : second.party ≡ first.party) where
  abbrev old : Twin D
  old = record { first = first; second = second }

  second_rests : (plan : Plan) → Tells (told second.disk) → LeavesOnly (told second.disk) (told second.disk) (IsOldOrOther first.party (space second) Two (apply plan.edits first.party))
  second_rests plan tells = weaker (told second.disk) (told second.disk) (λ c. StandsWith c second.party (space second)) (IsOldOrOther first.party (space second) Two (apply plan.edits first.party))
      (at_rest (told second.disk) second.gate second.end second.format second.party second_sound second_store tells)
      (λ c stands. inl (subst (λ (p : Party). StandsWith c p (space second)) same stands))

  module _ (first_sound : IsSound (told first.disk)) (first_store : IsStore (told first.disk) first.gate first.end first.format first.party) where
    first_rests : (plan : Plan) → Tells (told first.disk) → LeavesOnly (told first.disk) (told first.disk) (IsOldOrNext (member_of first) (after (member_of first) plan.edits))
    first_rests plan tells = weaker (told first.disk) (told first.disk) (λ c. StandsWith c first.party (space first)) (IsOldOrNext (member_of first) (after (member_of first) plan.edits))
        (at_rest (told first.disk) first.gate first.end first.format first.party first_sound first_store tells) (λ c stands. inl stands)

    twin : IsTwin told old
    twin = record { first_stands = first_store; second_stands = second_store; same = same }

    keeps_old : KeepsPair told (twin_disks old) (twin_disks old)
    keeps_old = record { first_faults = omega arith; second_faults = omega arith; first_tells = refl; second_tells = refl }

    pub no_memory : (plan : Plan) → IsPairTurn told old plan (turn.NoMemory old)
    no_memory plan = record { answer = refl; stand = twin; first_moments = first_rests plan; second_moments = second_rests plan; keeps = keeps_old }

    too_large : (plan : Plan) → IsPairTurn told old (as_full plan.lead) (turn.Refused old JournalFull None None)
    too_large plan = record {
      answer = record { same = refl; refused = λ is. cc is; verdict = refl; reply = refl; under = refl };
      stand = twin;
      first_moments = first_rests (as_full plan.lead);
      second_moments = second_rests (as_full plan.lead);
      keeps = keeps_old;
    }

    -- the party after the edits is too large for one frame
    pub refused : (plan : Plan) → plan.edits ≢ [] → ((p : Party) → can_compact Two p ≡ true → IsTooLarge Two p → ⊥) → IsTooLarge Two (apply plan.edits first.party)
        → IsPairTurn told old (pair_plan first.party plan) (turn.Refused old JournalFull None None)
    refused plan some law large =
        subst (λ p. IsPairTurn told old p (turn.Refused old JournalFull None None)) (sym (full_plan first.party plan (fits_not first.party plan.edits some law large))) (too_large plan)

  -- nothing changes
  module _ (plan : Plan) (none : plan.edits ≡ []) (n : Stored D) (verdict : Verdict) (reply : Option (List ℕ)) (under : Option FullName) (t : IsTurn told first (taking plan) (node.Done n verdict reply under)) where
    unmoved : n ≡ first
    unmoved = subst (λ es. IsWorkDone told (Keeps es) first n) none t.answer.work

    abbrev answered : Twin D
    answered = record { first = n; second = second }

    same_twin : answered ≡ old
    same_twin = λ i. record { first = unmoved i; second = second }

    keeps_answered : KeepsPair told (twin_disks old) (twin_disks answered)
    keeps_answered = record { first_faults = t.faults; second_faults = omega arith; first_tells = t.tells; second_tells = refl }

    pub twin_answered : IsTwin told answered
    twin_answered = record { first_stands = t.stands; second_stands = second_store; same = same ∙ sym (ap (λ (s : Stored D). s.party) unmoved) }

    pub accepted_unchanged : verdict ≡ Accept → IsPairTurn told old plan (turn.Done answered reply under)
    accepted_unchanged accepts = record {
      answer = record {
        accepted = sym t.answer.verdict ∙ accepts;
        kept = subst (λ es. IsKeptTwice es old answered) (sym none) same_twin;
        party = ap (λ (x : Member). x.party) t.answer.next;
        own = t.answer.own;
        reply = t.answer.reply;
        under = t.answer.under;
      };
      stand = twin_answered;
      first_moments = t.any_moment;
      second_moments = second_rests plan;
      keeps = keeps_answered;
    }

    pub refused_unchanged : verdict ≢ Accept → IsPairTurn told old plan (turn.Refused answered verdict reply under)
    refused_unchanged refuses = record {
      answer = record { same = same_twin; refused = refuses; verdict = t.answer.verdict; reply = t.answer.reply; under = t.answer.under };
      stand = twin_answered;
      first_moments = t.any_moment;
      second_moments = second_rests plan;
      keeps = keeps_answered;
    }

  -- edits are kept
  module _ (plan : Plan) (some : plan.edits ≢ []) (accepts : plan.verdict ≡ Accept) (framed : Party) (is : framed ≡ apply plan.edits first.party) (own : framed.own ≡ first.party.own) where
    own_after : (apply plan.edits first.party).own ≡ first.party.own
    own_after = sym (ap (λ (p : Party). p.own) is) ∙ own

    other_moments : (new : D) → (Tells (told second.disk) → LeavesOnly (told second.disk) (told new) (IsOldOrOther second.party (space second) Two framed))
        → Tells (told second.disk) → LeavesOnly (told second.disk) (told new) (IsOldOrOther first.party (space second) Two (apply plan.edits first.party))
    other_moments new run tells = weaker (told second.disk) (told new) (IsOldOrOther second.party (space second) Two framed) (IsOldOrOther first.party (space second) Two (apply plan.edits first.party)) (run tells)
        (λ c stands. subst (λ (p : Party). IsOldOrOther first.party (space second) Two p c) is (subst (λ (p : Party). IsOldOrOther p (space second) Two framed c) same stands))

    module _ (n : Stored D) (verdict : Verdict) (reply : Option (List ℕ)) (under : Option FullName) (t : IsTurn told first (taking plan) (node.Done n verdict reply under)) where
      pub twin_done : (s : Stored D) → IsReplacing told second framed (Ok s) → IsTwin told (record { first = n; second = s })
      twin_done s r = record { first_stands = t.stands; second_stands = r.stands; same = r.party ∙ (is ∙ sym (ap (λ (x : Member). x.party) t.answer.next)) }

      pub done : (s : Stored D) → IsReplacing told second framed (Ok s) → IsPairTurn told old plan (turn.Done (record { first = n; second = s }) reply under)
      done s r = record {
        answer = record {
          accepted = accepts;
          kept = kept_twice plan.edits old (record { first = n; second = s }) some t.answer.next (r.left ∙ ap (λ (p : Party). space_of_whole Two p) is);
          party = ap (λ (x : Member). x.party) t.answer.next;
          own = t.answer.own;
          reply = t.answer.reply;
          under = t.answer.under;
        };
        stand = twin_done s r;
        first_moments = t.any_moment;
        second_moments = other_moments s.disk r.any_moment;
        keeps = record { first_faults = t.faults; second_faults = r.faults; first_tells = t.tells; second_tells = r.tells };
      }

      pub second_failed : (b : Failed D) → IsReplacing told second framed (Err b)
          → IsPairTurn told old plan (turn.Broken (record { disks = record { first = n.disk; second = b.disk }; cause = Second (cause_of b.cause) }))
      second_failed b r = record {
        answer = record {
          accepted = accepts;
          changes = some;
          own = own_after;
          failed = failed_second told (twin_disks old) (record { first = n.disk; second = b.disk }) b.cause r.cause;
          order = λ reason is. absurd (never_first (cause_of b.cause) reason is);
          durable = λ reason is. t.stands.durable;
          kept = λ reason is image now. subst (λ (x : Member). IsImageOf x image) t.answer.next (stands_with (told n.disk) n.gate n.end n.format n.party t.stands image now);
        };
        stand = tt;
        first_moments = t.any_moment;
        second_moments = other_moments b.disk r.any_moment;
        keeps = record { first_faults = t.faults; second_faults = r.faults; first_tells = t.tells; second_tells = r.tells };
      }

    pub first_failed : (b : Failed D) → IsTurn told first (taking plan) (node.Broken b)
        → IsPairTurn told old plan (turn.Broken (record { disks = record { first = b.disk; second = second.disk }; cause = First (cause_of b.cause) }))
    first_failed b t = record {
      answer = record {
        accepted = accepts;
        changes = some;
        own = own_after;
        failed = failed_first told (twin_disks old) (record { first = b.disk; second = second.disk }) b.cause t.answer.cause;
        order = λ reason is. refl;
        durable = λ reason is. absurd (never_second (cause_of b.cause) reason is);
        kept = λ reason is. absurd (never_second (cause_of b.cause) reason is);
      };
      stand = tt;
      first_moments = t.any_moment;
      second_moments = second_rests plan;
      keeps = record { first_faults = t.faults; second_faults = omega arith; first_tells = t.tells; second_tells = refl };
    }

-- the turn of a plan that is carried out as it is
pub as_planned : {D : Type 0} (told : D → View) (old : Twin D) (plan : Plan) (result : PairTurn D) → fits_frame old.first.party plan.edits ≡ true → IsPairTurn told old plan result → IsPairTurn told old (pair_plan old.first.party plan) result
as_planned told old plan result fits t = subst (λ p. IsPairTurn told old p result) (sym (kept_plan old.first.party plan fits)) t

pub fits_none : (party : Party) (edits : List Edit) → edits ≡ [] → fits_frame party edits ≡ true
fits_none party edits none = ap (λ es. fits_frame party es) none
