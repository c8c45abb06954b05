-- A party is shown, and its disk is put back.
use Rattle.std.proofs.Common.{◌≡◌, inl, inr, ℕ, sym, subst}
use Rattle.x_disk.specs.Disk.{View}
use Rattle.x_disk.specs.Shelf.{IsAlike}
use Rattle.party_state.specs.State.{Party}
use Rattle.change_code.specs.declared.format.Format.{Format}
use Rattle.key_store.specs.Store.{space_between}
use Rattle.x_party.specs.Outcomes.{ShowsParty}
use Rattle.x_party.specs.Steps.{IsOpened, IsNotOpened, IsOutcome, IsText}
use Rattle.x_party.specs.declared.outcome.Outcome.{Outcome}
use Rattle.x_party.specs.declared.outcome.Outcome.TheVariants as outcome
use Rattle.x_party.proofs.Acted.{reads}
use Rattle.x_party.proofs.Alike.{stands_alike, store_stands}

pub text_fault : (p : Party) (o : Outcome) {A : Type 0} → IsText p o → o ≡ outcome.Fault → A
text_fault p o text is = absurd (subst (IsText p) is text)

-- a party that isn't opened isn't shown
pub not_shown : (old new : View) (o : Outcome) → IsNotOpened old new o → ShowsParty old new o
not_shown old new (outcome.Done reply) none = absurd none.refused
not_shown old new (outcome.Refused verdict reply) none = none.refused
not_shown old new (outcome.OtherParty asked found) none = absurd none.refused
not_shown old new (outcome.Damaged place) none = none.refused
not_shown old new outcome.Fault none = tt
not_shown old new outcome.NoMemory none = tt

module _ {D : Type 0} (told : D → View) (old new : View) (opened_disk disk : D) (gate end : ℕ) (f : Format) (p : Party) (opened : IsOpened old (told opened_disk) gate end f p) (is : disk ≡ opened_disk) (back : IsAlike (told disk) new) where
  shown_of : (o : Outcome) → IsText p o → ShowsParty old new o
  shown_of (outcome.Done reply) text = record {
    party = p;
    space = space_between gate end f;
    reads = reads old (told opened_disk) gate end f p opened;
    holds = record {
      text = text;
      stands = stands_alike (told opened_disk) new p (space_between gate end f) (store_stands (told opened_disk) gate end f p opened.store) (subst (λ d. IsAlike (told d) new) is back);
    };
  }
  shown_of (outcome.Refused verdict reply) text = absurd text
  shown_of (outcome.OtherParty asked found) text = absurd text
  shown_of (outcome.Damaged place) text = absurd text
  shown_of outcome.Fault text = absurd text
  shown_of outcome.NoMemory text = tt

  pub shown_on : (o result : Outcome) (before later : ℕ) → IsText p o → IsOutcome o before later result → ShowsParty old new result
  shown_on o result before later text (inl same) = subst (ShowsParty old new) (sym same) (shown_of o text)
  shown_on o result before later text (inr (inl fault)) = subst (ShowsParty old new) (sym fault.0) tt
  shown_on o result before later text (inr (inr same)) = subst (ShowsParty old new) (sym same) tt
