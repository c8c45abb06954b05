-- A party acts on an input, and its disk is put back.
use Rattle.std.proofs.Common.{◌≡◌, inl, inr, ℕ, true, List, Option, Some, is_some, sym, ◌∙◌, ap, subst}
use Rattle.x_disk.specs.Disk.{View, LeavesOnly}
use Rattle.x_disk.specs.Shelf.{IsAlike}
use Rattle.x_disk.proofs.Runs.{joined, weaker, ends_alike}
use Rattle.party_state.specs.declared.command.Input.{Input}
use Rattle.party_state.specs.State.{Party, apply}
use Rattle.change_code.specs.declared.format.Format.{Format}
use Rattle.change_code.specs.declared.space.Space.{Space}
use Rattle.change_code.specs.Cost.{space_after}
use Rattle.key_store.specs.Store.{StandsWith, StandsForOldOrNew, space_between}
use Rattle.member.specs.Deciding.{decision}
use Rattle.x_party.specs.Images.{ReadsAs, OrBefore}
use Rattle.x_party.specs.Outcomes.{IsToKeep, TakesTurn, IsSafe, IsSafeCall}
use Rattle.x_party.specs.Steps.{IsOpened, IsNotOpened, IsOutcome}
use Rattle.x_party.proofs.Acts.{IsAct, Acts, HasActed}
use Rattle.x_party.specs.declared.outcome.Outcome.{Outcome}
use Rattle.x_party.specs.declared.outcome.Outcome.TheVariants as outcome
use Rattle.x_party.proofs.Alike.{stands_alike, store_stands, untouched_on}
use Rattle.x_party.proofs.Spaces.{so}

tells_of : (now : Option (List ℕ)) (image : List ℕ) → now ≡ Some image → is_some now ≡ true
tells_of now image is = ap is_some is

-- a party that isn't opened has no turn
pub not_turned : (name : List ℕ) (old new : View) (i : Input) (moment : ℕ) (o : Outcome) → IsNotOpened old new o → TakesTurn name old new i moment o
not_turned name old new i moment (outcome.Done reply) none = absurd none.refused
not_turned name old new i moment (outcome.Refused verdict reply) none = inr none.refused
not_turned name old new i moment (outcome.OtherParty asked found) none = absurd none.refused
not_turned name old new i moment (outcome.Damaged place) none = none.refused
not_turned name old new i moment outcome.Fault none = tt
not_turned name old new i moment outcome.NoMemory none = tt

module _ (old v : View) (gate end : ℕ) (f : Format) (p : Party) (opened : IsOpened old v gate end f p) where
  abbrev left : Space
  left = space_between gate end f

  pub reads : ReadsAs old p left
  reads = λ image now. (store_stands v gate end f p opened.store).reads image (opened.untouched.now ∙ now)

  -- what holds of every answer of a call in which the party acted so
  module _ (one_space : (image : List ℕ) (first second : Party) (s t : Space) → StandsWith image first s → StandsWith image second t → (first ≡ second) × (s ≡ t))
      (w new : View) (back : IsAlike w new) (did : Type 0) (leaves : Party → Space → List ℕ → Type 0) (writes : Party → Space → Type 0)
      (act : IsAct v w did (leaves p left) (writes p left)) where
    moment_on : (image : List ℕ) → old.now ≡ Some image → LeavesOnly old new (OrBefore old (leaves p left))
    moment_on image now =
        let P = OrBefore old (leaves p left) in
        joined old v new P (weaker old v old.may_leave P opened.untouched.any_moment (λ c stays. inr stays))
        (weaker v new (leaves p left) P
        (ends_alike v w new (leaves p left) (act.any_moment (tells_of v.now image (opened.untouched.now ∙ now))) back) (λ c one. inl one))

    pub safe_call : IsSafeCall old new leaves writes
    safe_call = record {
      party = λ image other space now stands.
          let same = one_space image p other left space (reads image now) stands in
          subst (λ (s : Space). LeavesOnly old new (OrBefore old (leaves other s))) same.1
          (subst (λ (q : Party). LeavesOnly old new (OrBefore old (leaves q left))) same.0 (moment_on image now));
      still = λ image other space now stands none.
          let same = one_space image p other left space (reads image now) stands in
          untouched_on old v w new opened.untouched
          (act.still (λ is. none (subst (λ (s : Space). writes other s) same.1 (subst (λ (q : Party). writes q left) same.0 is)))) back;
      nobody = λ image now none. absurd (none p (so image p left (reads image now)));
      tells = ap is_some back.now ∙ (act.tells ∙ ap is_some opened.untouched.now);
    }

  module _ (name : List ℕ) (w new : View) (i : Input) (moment : ℕ) (back : IsAlike w new) where
    turned_of : (o : Outcome) → Acts name v w left p (decision p i moment) o → TakesTurn name old new i moment o
    turned_of (outcome.Done reply) acts = record {
      party = p;
      space = left;
      reads = reads;
      own = acts.0;
      holds = record {
        accepts = acts.1.accepts;
        fits = acts.1.fits;
        reply = acts.1.reply;
        stands = stands_alike w new (apply (decision p i moment).change p) (space_after left (decision p i moment).change) acts.1.stands back;
        unchanged = λ none. untouched_on old v w new opened.untouched (acts.1.unchanged none) back;
      };
    }
    turned_of (outcome.Refused verdict reply) acts = inl (record {
      party = p;
      space = left;
      reads = reads;
      own = acts.0;
      holds = record {
        cause = acts.1.cause;
        stands = stands_alike w new p left acts.1.stands back;
        untouched = untouched_on old v w new opened.untouched acts.1.untouched back;
      };
    })
    turned_of (outcome.OtherParty asked found) acts = record {
      party = p;
      space = left;
      reads = reads;
      holds = record {
        called = acts.called;
        stood = acts.stood;
        differs = acts.differs;
        stands = stands_alike w new p left acts.stands back;
        untouched = untouched_on old v w new opened.untouched acts.untouched back;
      };
    }
    turned_of (outcome.Damaged place) acts = absurd acts
    turned_of outcome.Fault acts = tt
    turned_of outcome.NoMemory acts = tt

    turned_closed : (o result : Outcome) (before later : ℕ) → TakesTurn name old new i moment o → IsOutcome o before later result → TakesTurn name old new i moment result
    turned_closed o result before later turned (inl is) = subst (TakesTurn name old new i moment) (sym is) turned
    turned_closed o result before later turned (inr (inl fault)) = subst (TakesTurn name old new i moment) (sym fault.0) tt
    turned_closed o result before later turned (inr (inr is)) = subst (TakesTurn name old new i moment) (sym is) tt

    pub turned_on : (o result : Outcome) (before later : ℕ) → HasActed name v w left p (decision p i moment) o → IsOutcome o before later result → TakesTurn name old new i moment result
    turned_on o result before later acted closed = turned_closed o result before later (turned_of o acted.acts) closed

    pub safe_on : ((image : List ℕ) (first second : Party) (s t : Space) → StandsWith image first s → StandsWith image second t → (first ≡ second) × (s ≡ t))
        → (o : Outcome) → HasActed name v w left p (decision p i moment) o → IsSafe name old new i moment
    safe_on one_space o acted = safe_call one_space w new back (Acts name v w left p (decision p i moment) o)
        (λ other space. StandsForOldOrNew other space (decision other i moment).change) (λ other space. IsToKeep name other (decision other i moment) space) acted
