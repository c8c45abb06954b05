-- A party's file is wiped, and its disk is put back.
use Rattle.std.proofs.Common.{◌≡◌, inl, inr, ℕ, List, refl, sym, ◌∙◌, subst}
use Rattle.x_base.specs.declared.verdict.Verdict.{Verdict}
use Rattle.x_disk.specs.Disk.{View}
use Rattle.x_disk.proofs.Runs.{weaker}
use Rattle.x_disk.specs.Shelf.{IsAlike}
use Rattle.x_disk.specs.declared.disk.DiskErr.{DiskErr}
use Rattle.x_disk.specs.declared.disk.DiskErr.TheVariants as error
use Rattle.key_journal.specs.Causes.{cause_of}
use Rattle.key_journal.specs.Wiping.{Wipes}
use Rattle.party_state.specs.State.{Party}
use Rattle.change_code.specs.declared.format.Format.{Format}
use Rattle.change_code.specs.declared.space.Space.{Space}
use Rattle.key_store.specs.Store.{Stored, StandsWith, space, space_between}
use Rattle.member.specs.Acts.{wiping}
use Rattle.node_core.specs.Turns.{member_of, IsOldOrNext, IsTurn, turn_disk}
use Rattle.node_core.specs.declared.node.Turn.{Turn}
use Rattle.node_core.specs.declared.node.Turn.TheVariants as turn
use Rattle.x_party.specs.Outcomes.{WipesParty, IsSafeWiping}
use Rattle.x_party.specs.Steps.{IsOpened, IsNotOpened, IsOutcome, outcome_of, outcome_with, outcome_of_turn}
use Rattle.x_party.specs.declared.outcome.Outcome.{Outcome}
use Rattle.x_party.specs.declared.outcome.Outcome.TheVariants as outcome
use Rattle.x_party.proofs.Acted.{reads, safe_call}
use Rattle.x_party.proofs.Acts.{WipesFile, HasWiped}
use Rattle.x_party.proofs.Alike.{stands_alike}
use Rattle.x_party.proofs.Ended.{member_stands}

-- ---- an open party

module _ {D : Type 0} (told : D → View) (old : Stored D) where
  wipes : (t : Turn D) → IsTurn told old wiping t → WipesFile (told old.disk) (told (turn_disk t)) (space old) old.party (outcome_of_turn t)
  wipes (turn.Done new verdict reply under) is =
      subst (λ (v : Verdict). WipesFile (told old.disk) (told new.disk) (space old) old.party (outcome_with v reply)) (sym is.answer.verdict) (record {
        nothing = is.answer.reply;
        stands = member_stands (told new.disk) new.gate new.end new.format new.party (member_of old) is.stands is.answer.next;
        wiped = is.answer.work;
      })
  wipes (turn.NoMemory new) is = tt
  wipes (turn.Broken b) is = go b.cause refl where
    go : (e : DiskErr) → b.cause ≡ e → WipesFile (told old.disk) (told b.disk) (space old) old.party (outcome_of (cause_of b.cause))
    go error.Fault same = subst (λ (e : DiskErr). WipesFile (told old.disk) (told b.disk) (space old) old.party (outcome_of (cause_of e))) (sym same) (is.answer.cause.fault same)
    go error.NoMemory same = subst (λ (e : DiskErr). WipesFile (told old.disk) (told b.disk) (space old) old.party (outcome_of (cause_of e))) (sym same) tt

  pub has_wiped : (t : Turn D) → IsTurn told old wiping t → HasWiped (told old.disk) (told (turn_disk t)) (space old) old.party (outcome_of_turn t)
  has_wiped t done = record {
    acts = wipes t done;
    any_moment = λ tells.
        weaker (told old.disk) (told (turn_disk t)) (IsOldOrNext (member_of old) (member_of old)) (λ c. StandsWith c old.party (space old)) (done.any_moment tells)
        (λ c either. elim either [ inl stays ↦ stays | inr stays ↦ stays ]);
    still = λ none. absurd (none tt);
    tells = done.tells;
    faults = done.faults;
  }

-- ---- a party on the shelf

-- the file of a party that isn't opened isn't wiped
pub not_wiped : (old new : View) (o : Outcome) → IsNotOpened old new o → WipesParty old new o
not_wiped old new (outcome.Done reply) none = absurd none.refused
not_wiped old new (outcome.Refused verdict reply) none = none.refused
not_wiped old new (outcome.OtherParty asked found) none = absurd none.refused
not_wiped old new (outcome.Damaged place) none = none.refused
not_wiped old new outcome.Fault none = tt
not_wiped old new outcome.NoMemory none = tt

wipes_between : (old v w new : View) → v.now ≡ old.now → new.now ≡ w.now → Wipes v w → Wipes old new
wipes_between old v w new first last wiped = λ image bodies now holds.
    let done = wiped image bodies (first ∙ now) holds in
    (done.0, last ∙ done.1, done.2)

module _ (old v w new : View) (gate end : ℕ) (f : Format) (p : Party) (opened : IsOpened old v gate end f p) (back : IsAlike w new) where
  wiped_of : (o : Outcome) → WipesFile v w (space_between gate end f) p o → WipesParty old new o
  wiped_of (outcome.Done reply) acts = record {
    party = p;
    space = space_between gate end f;
    reads = reads old v gate end f p opened;
    holds = record {
      nothing = acts.nothing;
      stands = stands_alike w new p (space_between gate end f) acts.stands back;
      wiped = wipes_between old v w new opened.untouched.now back.now acts.wiped;
    };
  }
  wiped_of (outcome.Refused verdict reply) acts = absurd acts
  wiped_of (outcome.OtherParty asked found) acts = absurd acts
  wiped_of (outcome.Damaged place) acts = absurd acts
  wiped_of outcome.Fault acts = tt
  wiped_of outcome.NoMemory acts = tt

  pub wiped_on : (o result : Outcome) (before later : ℕ) → HasWiped v w (space_between gate end f) p o → IsOutcome o before later result → WipesParty old new result
  wiped_on o result before later acted (inl is) = subst (WipesParty old new) (sym is) (wiped_of o acted.acts)
  wiped_on o result before later acted (inr (inl fault)) = subst (WipesParty old new) (sym fault.0) tt
  wiped_on o result before later acted (inr (inr is)) = subst (WipesParty old new) (sym is) tt

  pub safe_wiping : ((image : List ℕ) (first second : Party) (s t : Space) → StandsWith image first s → StandsWith image second t → (first ≡ second) × (s ≡ t))
      → (o : Outcome) → HasWiped v w (space_between gate end f) p o → IsSafeWiping old new
  safe_wiping one_space o acted = safe_call old v gate end f p opened one_space w new back (WipesFile v w (space_between gate end f) p o)
      (λ other space c. StandsWith c other space) (λ other space. Unit {0}) acted
