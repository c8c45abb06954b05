-- A turn behind a look is a turn from before the look.
use Rattle.std.proofs.Common.{◌≡◌, ◌⊎◌, inl, inr, ⊎_elim, ℕ, ◌≤◌, List, Option, None, ◌∙◌, ap, refl}
use Rattle.std.specs.Prelude.{is_some}
use Rattle.x_base.specs.Edge.{Rose}
use Rattle.x_base.specs.declared.verdict.Verdict.{Verdict}
use Rattle.x_disk.specs.Disk.{View, LeavesOnly, IsUntouched}
use Rattle.x_disk.specs.Shelf.{OthersStay}
use Rattle.x_disk.specs.declared.disk.DiskErr.{DiskErr}
use Rattle.x_disk.specs.declared.disk.DiskErr.TheVariants as disk
use Rattle.x_disk.proofs.Alike.{untouched_then}
use Rattle.x_disk.proofs.Runs.{joined, weaker}
use Rattle.change_code.specs.declared.space.Space.{Space}
use Rattle.csm_grammar.specs.declared.arrival.Arrival.{Arrival}
use Rattle.key_journal.specs.Causes.{cause_of}
use Rattle.key_store.specs.Store.{StandsForOldOrNew}
use Rattle.party_state.specs.declared.command.Input.{Input}
use Rattle.party_state.specs.declared.command.Input.TheVariants.{Arrived}
use Rattle.party_state.specs.State.{Party}
use Rattle.member.specs.Deciding.{decision}
use Rattle.x_party.specs.Dues.{GivesDue}
use Rattle.x_party.specs.Images.{OfOwnParty, OrBefore, ReadsAs}
use Rattle.x_party.specs.Outcomes.{IsNobody, IsRefusedTurn, IsSafe, LeavesShelf, TakesTurn}
use Rattle.x_party.specs.Steps.{outcome_of}
use Rattle.x_party.specs.declared.outcome.Outcome.{Outcome}
use Rattle.x_party.specs.declared.outcome.Outcome.TheVariants as outcome
use Rattle.x_party.specs.Notices.{FindsNotice, HasNotice, class_word, kept_notice}

module _ (old mid new : View) (looked : IsUntouched old mid) where
  reads_before : (party : Party) (space : Space) → ReadsAs mid party space → ReadsAs old party space
  reads_before party space reads = λ image now. reads image (looked.now ∙ now)

  refused_before : (name : List ℕ) (i : Input) (moment : ℕ) (verdict : Verdict) (reply : Option (List ℕ))
      → OfOwnParty name mid (λ party space. IsRefusedTurn mid new (decision party i moment) party space verdict reply) ⊎ IsNobody mid new verdict reply
      → OfOwnParty name old (λ party space. IsRefusedTurn old new (decision party i moment) party space verdict reply) ⊎ IsNobody old new verdict reply
  refused_before name i moment verdict reply (inl own) = inl (record {
    party = own.party;
    space = own.space;
    reads = reads_before own.party own.space own.reads;
    own = own.own;
    holds = record { cause = own.holds.cause; stands = own.holds.stands; untouched = untouched_then old mid new looked own.holds.untouched };
  })
  refused_before name i moment verdict reply (inr nobody) = inr (record {
    blank = λ image now. nobody.blank image (looked.now ∙ now);
    verdict = nobody.verdict;
    reply = nobody.reply;
    untouched = untouched_then old mid new looked nobody.untouched;
  })

  pub turned_before : (name : List ℕ) (i : Input) (moment : ℕ) (o : Outcome) → TakesTurn name mid new i moment o → TakesTurn name old new i moment o
  turned_before name i moment (outcome.Done reply) own = record {
    party = own.party;
    space = own.space;
    reads = reads_before own.party own.space own.reads;
    own = own.own;
    holds = record {
      accepts = own.holds.accepts;
      fits = own.holds.fits;
      reply = own.holds.reply;
      stands = own.holds.stands;
      unchanged = λ none. untouched_then old mid new looked (own.holds.unchanged none);
    };
  }
  turned_before name i moment (outcome.Refused verdict reply) turned = refused_before name i moment verdict reply turned
  turned_before name i moment (outcome.OtherParty asked found) other = record {
    party = other.party;
    space = other.space;
    reads = reads_before other.party other.space other.reads;
    holds = record {
      called = other.holds.called;
      stood = other.holds.stood;
      differs = other.holds.differs;
      stands = other.holds.stands;
      untouched = untouched_then old mid new looked other.holds.untouched;
    };
  }
  turned_before name i moment (outcome.Damaged place) damaged = record { first = λ image now. damaged.first image (looked.now ∙ now); untouched = untouched_then old mid new looked damaged.untouched }
  turned_before name i moment outcome.Fault turned = tt
  turned_before name i moment outcome.NoMemory turned = tt

  -- a crash leaves what the turn could leave, or what could be left before the look
  or_before : (P : List ℕ → Type 0) → LeavesOnly mid new (OrBefore mid P) → LeavesOnly old new (OrBefore old P)
  or_before P run = joined old mid new (OrBefore old P) (weaker old mid old.may_leave (OrBefore old P) looked.any_moment (λ c left. inr left))
      (weaker mid new (OrBefore mid P) (OrBefore old P) run (λ c either. ⊎_elim (λ is. inl is) (λ left. inr (looked.images c left)) either))

  pub safe_before : (name : List ℕ) (i : Input) (moment : ℕ) → IsSafe name mid new i moment → IsSafe name old new i moment
  safe_before name i moment safe = record {
    party = λ image party space now stands. or_before (StandsForOldOrNew party space (decision party i moment).change) (safe.party image party space (looked.now ∙ now) stands);
    still = λ image party space now stands none. untouched_then old mid new looked (safe.still image party space (looked.now ∙ now) stands none);
    nobody = λ image now none. untouched_then old mid new looked (safe.nobody image (looked.now ∙ now) none);
    tells = safe.tells ∙ ap (λ (x : Option (List ℕ)). is_some x) looked.now;
  }

-- where the look failed, nothing is done
module _ (old new : View) (looked : IsUntouched old new) where
  pub turned_unasked : (name : List ℕ) (i : Input) (moment : ℕ) (e : DiskErr) → TakesTurn name old new i moment (outcome_of (cause_of e))
  turned_unasked name i moment disk.Fault = tt
  turned_unasked name i moment disk.NoMemory = tt

  pub due_unasked : (due : List ℕ → Outcome → Type 0) (e : DiskErr) → GivesDue old due (outcome_of (cause_of e))
  due_unasked due disk.Fault = λ image other now is. inr (inl refl)
  due_unasked due disk.NoMemory = λ image other now is. inr (inr refl)

  pub safe_unasked : (name : List ℕ) (i : Input) (moment : ℕ) → IsSafe name old new i moment
  safe_unasked name i moment = record {
    party = λ image party space now stands. weaker old new old.may_leave (OrBefore old (StandsForOldOrNew party space (decision party i moment).change)) looked.any_moment (λ c left. inr left);
    still = λ image party space now stands none. looked;
    nobody = λ image now none. looked;
    tells = ap (λ (x : Option (List ℕ)). is_some x) looked.now;
  }

-- the notice is kept where the turn is done
pub has_notice : (old : View) (a : Arrival) (moment : ℕ) (o : Outcome) (notice : Option (List ℕ)) → FindsNotice old (Arrived a) (class_word a.parsed.message) moment notice → HasNotice old a moment o (kept_notice o notice)
has_notice old a moment (outcome.Done reply) notice looked = looked
has_notice old a moment (outcome.Refused verdict reply) notice looked = refl
has_notice old a moment (outcome.OtherParty asked found) notice looked = refl
has_notice old a moment (outcome.Damaged place) notice looked = refl
has_notice old a moment outcome.Fault notice looked = refl
has_notice old a moment outcome.NoMemory notice looked = refl

pub no_notice : (old : View) (a : Arrival) (moment : ℕ) (e : DiskErr) → HasNotice old a moment (outcome_of (cause_of e)) None
no_notice old a moment disk.Fault = refl
no_notice old a moment disk.NoMemory = refl

pub shelf_unasked : (name : List ℕ) (back : Type 0) (old new : List ℕ → View) (first last : ℕ) (e : DiskErr) → OthersStay name old new → first ≤ last → (e ≡ disk.Fault → Rose first last)
    → LeavesShelf name (outcome_of (cause_of e)) back old new first last
shelf_unasked name back old new first last disk.Fault others later cause = record { back = λ no. absurd no; others = others; fault = λ is. cause refl; later = later }
shelf_unasked name back old new first last disk.NoMemory others later cause = record { back = λ no. absurd no; others = others; fault = λ is. absurd (cc is); later = later }
