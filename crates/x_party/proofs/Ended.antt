-- A turn ends: the disk, and what became of the input.
use Rattle.std.proofs.Common.{◌≡◌, ◌≢◌, inl, inr, ℕ, ◌-◌, Bool, true, false, cond, List, [], ◌∷◌, Option, refl, sym, ◌∙◌, ap, subst, arith}
use Rattle.x_base.specs.declared.verdict.Verdict.{Verdict}
use Rattle.x_base.specs.declared.verdict.Verdict.TheVariants.{Accept}
use Rattle.x_disk.specs.Disk.{View, Tells, LeavesOnly, IsSound, IsUntouched}
use Rattle.x_disk.specs.declared.disk.DiskErr.{DiskErr}
use Rattle.x_disk.specs.declared.disk.DiskErr.TheVariants as error
use Rattle.x_disk.proofs.Runs.{weaker}
use Rattle.key_journal.specs.Causes.{cause_of}
use Rattle.key_journal.specs.States.{Failed, FaultsRose}
use Rattle.party_state.specs.declared.edit.Edit.{Edit}
use Rattle.party_state.specs.declared.decision.Decision.{Decision}
use Rattle.party_state.specs.declared.decision.Lead.{Lead}
use Rattle.party_state.specs.State.{Party}
use Rattle.party_state.specs.Verdicts.{is_accept}
use Rattle.change_code.specs.declared.format.Format.{Format}
use Rattle.change_code.specs.declared.space.Space.{Space}
use Rattle.change_code.specs.Cost.{fits, space_after}
use Rattle.key_store.specs.Store.{Stored, StandsWith, IsStore, StandsForOldOrNew, space, space_between}
use Rattle.member.specs.Member.{Member, Plan, after, as_decided, as_full, plan_of}
use Rattle.member.specs.Acts.{Keeps, taking}
use Rattle.node_core.specs.Turns.{member_of, IsOldOrNext, IsWorkDone, IsWorkCut, IsTurn, turn_disk}
use Rattle.node_core.specs.declared.node.Turn.{Turn}
use Rattle.node_core.specs.declared.node.Turn.TheVariants as turn
use Rattle.x_party.specs.Images.{DiskStandsFor}
use Rattle.x_party.specs.Outcomes.{IsToKeep}
use Rattle.x_party.specs.Steps.{outcome_of, outcome_with, outcome_of_turn}
use Rattle.x_party.specs.declared.outcome.Outcome.TheVariants as outcome
use Rattle.x_party.proofs.Acts.{Acts, HasActed}
use Rattle.x_party.proofs.Alike.{store_stands, same_disk, old_stands}

accepting : (v : Verdict) → is_accept v ≡ true → v ≡ Accept
accepting Accept is = refl
accepting v is = absurd (cc is)

-- each member of what is left stands on the disk
pub member_stands : (v : View) (gate end : ℕ) (f : Format) (p : Party) (x : Member) → IsStore v gate end f p → (let here : Member = record { party = p; space = space_between gate end f } in here) ≡ x → DiskStandsFor v x.party x.space
member_stands v gate end f p x store is = subst (λ (m : Member). DiskStandsFor v m.party m.space) is (store_stands v gate end f p store)

none_left : (n : ℕ) → n - 0 ≡ n
none_left n = omega arith

-- where nothing is kept, the member is as it was
pub same_left : (p : Party) (f : Format) (room : ℕ) (c : List ℕ) → (let space : Space = record { format = f; room = room } in StandsWith c p (space_after space [])) → StandsWith c p (record { format = f; room = room })
same_left p f room c stands = subst (λ (n : ℕ). StandsWith c p (record { format = f; room = n })) (none_left room) stands

module _ {D : Type 0} (told : D → View) (name : List ℕ) (old : Stored D) (d : Decision) (l : Option Lead) (own : old.party.own ≡ name) (sound : IsSound (told old.disk))
    (refusal : is_accept d.verdict ≡ false → d.change ≡ []) where
  abbrev left : Space
  left = space old

  abbrev ToKeep : Type 0
  ToKeep = IsToKeep name old.party d left

  accepts_edits : d.change ≢ [] → d.verdict ≡ Accept
  accepts_edits some = go (is_accept d.verdict) refl where
    go : (b : Bool) → is_accept d.verdict ≡ b → d.verdict ≡ Accept
    go true is = accepting d.verdict is
    go false is = absurd (some (refusal is))

  refuses_it : is_accept d.verdict ≡ false → d.verdict ≢ Accept
  refuses_it is accepts = let no : false ≡ true = sym is ∙ ap is_accept accepts in cc no

  some_edits : (e : Edit) (es : List Edit) → d.change ≡ e ∷ es → d.change ≢ []
  some_edits e es is none = let no : (e ∷ es) ≡ [] = sym is ∙ none in cc no

  broken_acts : (b : Failed D) → FaultsRose (told old.disk) (told b.disk) b.cause → Acts name (told old.disk) (told b.disk) left old.party d (outcome_of (cause_of b.cause))
  broken_acts b rose = go b.cause refl where
    go : (e : DiskErr) → b.cause ≡ e → Acts name (told old.disk) (told b.disk) left old.party d (outcome_of (cause_of b.cause))
    go error.Fault is = subst (λ (e : DiskErr). Acts name (told old.disk) (told b.disk) left old.party d (outcome_of (cause_of e))) (sym is) (rose.fault is)
    go error.NoMemory is = subst (λ (e : DiskErr). Acts name (told old.disk) (told b.disk) left old.party d (outcome_of (cause_of e))) (sym is) tt

  -- ---- the change fits

  module _ (fit : fits left d.change ≡ true) where
    to_keep : d.change ≢ [] → ToKeep
    to_keep some = record { own = own; accepts = accepts_edits some; changes = some; fits = fit }

    done_still : (es : List Edit) → d.change ≡ es → (new : Stored D) → IsWorkDone told (Keeps es) old new → (ToKeep → ⊥) → IsUntouched (told old.disk) (told new.disk)
    done_still [] is new work none = same_disk told old new work sound
    done_still (e ∷ es) is new work none = absurd (none (to_keep (some_edits e es is)))

    cut_still : (es : List Edit) → d.change ≡ es → (new : Failed D) → IsWorkCut told (Keeps es) old new → (ToKeep → ⊥) → IsUntouched (told old.disk) (told new.disk)
    cut_still [] is new work none = absurd work
    cut_still (e ∷ es) is new work none = absurd (none (to_keep (some_edits e es is)))

    still_fitting : (t : Turn D) → IsTurn told old (taking (as_decided l d)) t → (ToKeep → ⊥) → IsUntouched (told old.disk) (told (turn_disk t))
    still_fitting (turn.Done new verdict reply under) turned none = done_still d.change refl new turned.answer.work none
    still_fitting (turn.Broken b) turned none = cut_still d.change refl b turned.answer.work none
    still_fitting (turn.NoMemory new) turned none = same_disk told old new turned.answer.0 sound

    acts_fitting : (t : Turn D) → IsTurn told old (taking (as_decided l d)) t → Acts name (told old.disk) (told (turn_disk t)) left old.party d (outcome_of_turn t)
    acts_fitting (turn.Done new verdict reply under) turned =
        subst (λ (v : Verdict). Acts name (told old.disk) (told new.disk) left old.party d (outcome_with v reply)) (sym turned.answer.verdict) (go (is_accept d.verdict) refl)
      where
        same : d.change ≡ [] → new ≡ old
        same none = subst (λ (es : List Edit). IsWorkDone told (Keeps es) old new) none turned.answer.work

        go : (b : Bool) → is_accept d.verdict ≡ b → Acts name (told old.disk) (told new.disk) left old.party d (cond b (outcome.Done reply) (outcome.Refused d.verdict reply))
        go true is = (
          own,
          record {
            accepts = accepting d.verdict is;
            fits = fit;
            reply = turned.answer.reply;
            stands = member_stands (told new.disk) new.gate new.end new.format new.party (after (member_of old) d.change) turned.stands turned.answer.next;
            unchanged = λ none. same_disk told old new (same none) sound;
          },
        )
        go false is = (
          own,
          record {
            cause = inl (record { refuses = refuses_it is; verdict = refl; reply = turned.answer.reply });
            stands = old_stands told old new (same (refusal is)) turned.stands;
            untouched = same_disk told old new (same (refusal is)) sound;
          },
        )
    acts_fitting (turn.NoMemory new) turned = tt
    acts_fitting (turn.Broken b) turned = broken_acts b turned.answer.cause

  -- ---- it doesn't fit

  module _ (full : fits left d.change ≡ false) where
    too_long : fits left d.change ≡ true → ⊥
    too_long fit = let no : false ≡ true = sym full ∙ fit in cc no

    some_change : d.change ≢ []
    some_change none = too_long (ap (λ (es : List Edit). fits left es) none)

    still_full : (t : Turn D) → IsTurn told old (taking (as_full l)) t → IsUntouched (told old.disk) (told (turn_disk t))
    still_full (turn.Done new verdict reply under) turned = same_disk told old new turned.answer.work sound
    still_full (turn.Broken b) turned = absurd turned.answer.work
    still_full (turn.NoMemory new) turned = same_disk told old new turned.answer.0 sound

    acts_full : (t : Turn D) → IsTurn told old (taking (as_full l)) t → Acts name (told old.disk) (told (turn_disk t)) left old.party d (outcome_of_turn t)
    acts_full (turn.Done new verdict reply under) turned =
        subst (λ (v : Verdict). Acts name (told old.disk) (told new.disk) left old.party d (outcome_with v reply)) (sym turned.answer.verdict) (
          own,
          record {
            cause = inr (record { accepts = accepts_edits some_change; full = full; verdict = refl; reply = turned.answer.reply });
            stands = old_stands told old new turned.answer.work turned.stands;
            untouched = same_disk told old new turned.answer.work sound;
          },
        )
    acts_full (turn.NoMemory new) turned = tt
    acts_full (turn.Broken b) turned = absurd turned.answer.work

    run_full : (t : Turn D) → IsTurn told old (taking (as_full l)) t → Tells (told old.disk) → LeavesOnly (told old.disk) (told (turn_disk t)) (StandsForOldOrNew old.party left d.change)
    run_full t turned tells =
        weaker (told old.disk) (told (turn_disk t)) (IsOldOrNext (member_of old) (after (member_of old) [])) (StandsForOldOrNew old.party left d.change) (turned.any_moment tells)
        (λ c either. elim either [ inl stays ↦ inl stays | inr same ↦ inl (same_left old.party old.format (old.end - old.gate) c same) ])

  -- ---- either

  at_fitting : fits left d.change ≡ true → plan_of left l d ≡ as_decided l d
  at_fitting fit = ap (λ (b : Bool). cond b (as_decided l d) (as_full l)) fit

  at_full : fits left d.change ≡ false → plan_of left l d ≡ as_full l
  at_full full = ap (λ (b : Bool). cond b (as_decided l d) (as_full l)) full

  pub has_acted : (t : Turn D) → IsTurn told old (taking (plan_of left l d)) t → HasActed name (told old.disk) (told (turn_disk t)) left old.party d (outcome_of_turn t)
  has_acted t turned = go (fits left d.change) refl where
    go : (b : Bool) → fits left d.change ≡ b → HasActed name (told old.disk) (told (turn_disk t)) left old.party d (outcome_of_turn t)
    go true fit =
        let done = subst (λ (plan : Plan). IsTurn told old (taking plan) t) (at_fitting fit) turned in
        record {
          acts = acts_fitting fit t done;
          any_moment = done.any_moment;
          still = still_fitting fit t done;
          tells = turned.tells;
          faults = turned.faults;
        }
    go false full =
        let done = subst (λ (plan : Plan). IsTurn told old (taking plan) t) (at_full full) turned in
        record {
          acts = acts_full full t done;
          any_moment = run_full full t done;
          still = λ none. still_full full t done;
          tells = turned.tells;
          faults = turned.faults;
        }
