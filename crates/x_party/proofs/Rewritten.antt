-- A party is written whole, and its disk is put back.
use Rattle.std.proofs.Common.{◌≡◌, inl, inr, ℕ, ◌-◌, Bool, true, false, cond, List, [], Option, Some, None, refl, sym, subst}
use Rattle.x_base.specs.declared.verdict.Verdict.{Verdict}
use Rattle.x_base.specs.declared.verdict.Verdict.TheVariants.{Accept, JournalFull}
use Rattle.x_disk.specs.Disk.{View, Tells, LeavesOnly, IsSound, IsUntouched}
use Rattle.x_disk.proofs.Runs.{weaker}
use Rattle.x_disk.specs.Shelf.{IsAlike}
use Rattle.x_disk.specs.declared.disk.DiskErr.{DiskErr}
use Rattle.x_disk.specs.declared.disk.DiskErr.TheVariants as error
use Rattle.key_journal.specs.Causes.{cause_of}
use Rattle.key_journal.specs.States.{Failed, FaultsRose}
use Rattle.party_state.specs.State.{Party}
use Rattle.change_code.specs.declared.format.Format.{Format}
use Rattle.change_code.specs.declared.space.Space.{Space}
use Rattle.change_code.specs.Cost.{can_compact}
use Rattle.change_code.specs.Whole.{IsTooLarge}
use Rattle.key_store.specs.Store.{Stored, StandsWith, space, space_between}
use Rattle.member.specs.Member.{after}
use Rattle.member.specs.Acts.{Keeps, WritesWhole, member_after, verdict_alone, rewriting}
use Rattle.node_core.specs.Turns.{member_of, IsOldOrNext, IsTurn, turn_disk}
use Rattle.node_core.specs.declared.node.Turn.{Turn}
use Rattle.node_core.specs.declared.node.Turn.TheVariants as turn
use Rattle.x_party.specs.Outcomes.{FitsIn, space_in, IsOldOrRewritten, RewritesParty, IsSafeRewriting}
use Rattle.x_party.specs.Steps.{IsOpened, IsNotOpened, IsOutcome, outcome_of, outcome_with, outcome_of_turn}
use Rattle.x_party.specs.declared.outcome.Outcome.{Outcome}
use Rattle.x_party.specs.declared.outcome.Outcome.TheVariants as outcome
use Rattle.x_party.proofs.Acted.{reads, safe_call}
use Rattle.x_party.proofs.Acts.{Rewrites, HasRewritten}
use Rattle.x_party.proofs.Ended.{member_stands, same_left}
use Rattle.x_party.proofs.Alike.{stands_alike, untouched_on, same_disk, old_stands}

-- ---- an open party

module _ {D : Type 0} (told : D → View) (old : Stored D) (sound : IsSound (told old.disk)) where
  broken_rewrites : (format : Option Format) (b : Failed D) → FaultsRose (told old.disk) (told b.disk) b.cause → Rewrites format (told old.disk) (told b.disk) (space old) old.party (outcome_of (cause_of b.cause))
  broken_rewrites format b rose = go b.cause refl where
    go : (e : DiskErr) → b.cause ≡ e → Rewrites format (told old.disk) (told b.disk) (space old) old.party (outcome_of (cause_of b.cause))
    go error.Fault same = subst (λ (e : DiskErr). Rewrites format (told old.disk) (told b.disk) (space old) old.party (outcome_of (cause_of e))) (sym same) (rose.fault same)
    go error.NoMemory same = subst (λ (e : DiskErr). Rewrites format (told old.disk) (told b.disk) (space old) old.party (outcome_of (cause_of e))) (sym same) tt

  -- where nothing is kept
  module _ (said : Verdict) where
    still : (t : Turn D) → IsTurn told old (verdict_alone (Keeps []) said) t → IsUntouched (told old.disk) (told (turn_disk t))
    still (turn.Done new verdict reply under) is = same_disk told old new is.answer.work sound
    still (turn.Broken b) is = absurd is.answer.work
    still (turn.NoMemory new) is = same_disk told old new is.answer.0 sound

    stays : (format : Option Format) (t : Turn D) → IsTurn told old (verdict_alone (Keeps []) said) t → Tells (told old.disk)
        → LeavesOnly (told old.disk) (told (turn_disk t)) (IsOldOrRewritten format old.party (space old))
    stays format t is tells =
        weaker (told old.disk) (told (turn_disk t)) (IsOldOrNext (member_of old) (after (member_of old) [])) (IsOldOrRewritten format old.party (space old)) (is.any_moment tells)
        (λ c either. elim either [ inl same ↦ inl same | inr same ↦ inl (same_left old.party old.format (old.end - old.gate) c same) ])

  -- it isn't to be written
  rewrites_none : (t : Turn D) → IsTurn told old (verdict_alone (Keeps []) Accept) t → Rewrites None (told old.disk) (told (turn_disk t)) (space old) old.party (outcome_of_turn t)
  rewrites_none (turn.Done new verdict reply under) is =
      subst (λ (v : Verdict). Rewrites None (told old.disk) (told new.disk) (space old) old.party (outcome_with v reply)) (sym is.answer.verdict) (record {
        fits = λ large. large;
        nothing = is.answer.reply;
        stands = old_stands told old new is.answer.work is.stands;
        unchanged = λ none. same_disk told old new is.answer.work sound;
      })
  rewrites_none (turn.NoMemory new) is = tt
  rewrites_none (turn.Broken b) is = absurd is.answer.work

  -- it fits into one frame
  module _ (f : Format) (fits : IsTooLarge f old.party → ⊥) where
    rewrites_whole : (t : Turn D) → IsTurn told old (verdict_alone (WritesWhole f) Accept) t → Rewrites (Some f) (told old.disk) (told (turn_disk t)) (space old) old.party (outcome_of_turn t)
    rewrites_whole (turn.Done new verdict reply under) is =
        subst (λ (v : Verdict). Rewrites (Some f) (told old.disk) (told new.disk) (space old) old.party (outcome_with v reply)) (sym is.answer.verdict) (record {
          fits = fits;
          nothing = is.answer.reply;
          stands = member_stands (told new.disk) new.gate new.end new.format new.party (member_after (member_of old) (WritesWhole f)) is.stands is.answer.next;
          unchanged = λ none. absurd (cc none);
        })
    rewrites_whole (turn.NoMemory new) is = tt
    rewrites_whole (turn.Broken b) is = broken_rewrites (Some f) b is.answer.cause

  -- it is too large for one
  module _ (f : Format) (large : IsTooLarge f old.party) where
    rewrites_large : (t : Turn D) → IsTurn told old (verdict_alone (Keeps []) JournalFull) t → Rewrites (Some f) (told old.disk) (told (turn_disk t)) (space old) old.party (outcome_of_turn t)
    rewrites_large (turn.Done new verdict reply under) is =
        subst (λ (v : Verdict). Rewrites (Some f) (told old.disk) (told new.disk) (space old) old.party (outcome_with v reply)) (sym is.answer.verdict) (record {
          too_large = large;
          verdict = refl;
          nothing = is.answer.reply;
          stands = old_stands told old new is.answer.work is.stands;
          untouched = same_disk told old new is.answer.work sound;
        })
    rewrites_large (turn.NoMemory new) is = tt
    rewrites_large (turn.Broken b) is = absurd is.answer.work

  module _ (law_fits : (f : Format) (p : Party) → can_compact f p ≡ true → IsTooLarge f p → ⊥) (law_large : (f : Format) (p : Party) → can_compact f p ≡ false → IsTooLarge f p) where
    pub has_rewritten : (format : Option Format) (t : Turn D) → IsTurn told old (rewriting format old.party) t → HasRewritten format (told old.disk) (told (turn_disk t)) (space old) old.party (outcome_of_turn t)
    has_rewritten None t is = record {
      acts = rewrites_none t is;
      any_moment = stays Accept None t is;
      still = λ none. still Accept t is;
      tells = is.tells;
      faults = is.faults;
    }
    has_rewritten (Some f) t is = go (can_compact f old.party) refl where
      act_is : (b : Bool) → can_compact f old.party ≡ b → IsTurn told old (cond b (verdict_alone (WritesWhole f) Accept) (verdict_alone (Keeps []) JournalFull)) t
      act_is b test = subst (λ (c : Bool). IsTurn told old (cond c (verdict_alone (WritesWhole f) Accept) (verdict_alone (Keeps []) JournalFull)) t) test is

      go : (b : Bool) → can_compact f old.party ≡ b → HasRewritten (Some f) (told old.disk) (told (turn_disk t)) (space old) old.party (outcome_of_turn t)
      go true test =
          let done = act_is true test in
          record {
            acts = rewrites_whole f (law_fits f old.party test) t done;
            any_moment = done.any_moment;
            still = λ none. absurd (none (law_fits f old.party test));
            tells = is.tells;
            faults = is.faults;
          }
      go false test =
          let done = act_is false test in
          record {
            acts = rewrites_large f (law_large f old.party test) t done;
            any_moment = stays JournalFull (Some f) t done;
            still = λ none. still JournalFull t done;
            tells = is.tells;
            faults = is.faults;
          }

-- ---- a party on the shelf

-- a party that isn't opened isn't written
pub not_rewritten : (format : Format → Option Format) (old new : View) (o : Outcome) → IsNotOpened old new o → RewritesParty format old new o
not_rewritten format old new (outcome.Done reply) none = absurd none.refused
not_rewritten format old new (outcome.Refused verdict reply) none = inr none.refused
not_rewritten format old new (outcome.OtherParty asked found) none = absurd none.refused
not_rewritten format old new (outcome.Damaged place) none = none.refused
not_rewritten format old new outcome.Fault none = tt
not_rewritten format old new outcome.NoMemory none = tt

module _ (format : Format → Option Format) (old v w new : View) (gate end : ℕ) (f : Format) (p : Party) (opened : IsOpened old v gate end f p) (back : IsAlike w new) where
  abbrev left : Space
  left = space_between gate end f

  rewritten_of : (o : Outcome) → Rewrites (format f) v w left p o → RewritesParty format old new o
  rewritten_of (outcome.Done reply) acts = record {
    party = p;
    space = left;
    reads = reads old v gate end f p opened;
    holds = record {
      fits = acts.fits;
      nothing = acts.nothing;
      stands = stands_alike w new p (space_in (format f) p left) acts.stands back;
      unchanged = λ none. untouched_on old v w new opened.untouched (acts.unchanged none) back;
    };
  }
  rewritten_of (outcome.Refused verdict reply) acts = inl (record {
    party = p;
    space = left;
    reads = reads old v gate end f p opened;
    holds = record {
      too_large = acts.too_large;
      verdict = acts.verdict;
      nothing = acts.nothing;
      stands = stands_alike w new p left acts.stands back;
      untouched = untouched_on old v w new opened.untouched acts.untouched back;
    };
  })
  rewritten_of (outcome.OtherParty asked found) acts = absurd acts
  rewritten_of (outcome.Damaged place) acts = absurd acts
  rewritten_of outcome.Fault acts = tt
  rewritten_of outcome.NoMemory acts = tt

  pub rewritten_on : (o result : Outcome) (before later : ℕ) → HasRewritten (format f) v w left p o → IsOutcome o before later result → RewritesParty format old new result
  rewritten_on o result before later acted (inl is) = subst (RewritesParty format old new) (sym is) (rewritten_of o acted.acts)
  rewritten_on o result before later acted (inr (inl fault)) = subst (RewritesParty format old new) (sym fault.0) tt
  rewritten_on o result before later acted (inr (inr is)) = subst (RewritesParty format old new) (sym is) tt

  pub safe_rewriting : ((image : List ℕ) (first second : Party) (s t : Space) → StandsWith image first s → StandsWith image second t → (first ≡ second) × (s ≡ t))
      → (o : Outcome) → HasRewritten (format f) v w left p o → IsSafeRewriting format old new
  safe_rewriting one_space o acted = safe_call old v gate end f p opened one_space w new back (Rewrites (format f) v w left p o)
      (λ other space. IsOldOrRewritten (format space.format) other space) (λ other space. FitsIn (format space.format) other) acted
