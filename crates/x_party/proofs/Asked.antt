-- A party is asked, and its disk is put back.
use Rattle.std.proofs.Common.{◌≡◌, ◌⊎◌, inl, inr, ℕ, Bool, true, false, List, Option, Some, None, refl, sym, ap, ◌∙◌, subst}
use Rattle.x_disk.specs.Disk.{View}
use Rattle.x_disk.specs.Shelf.{IsAlike}
use Rattle.key_journal.specs.Journal.{is_blank}
use Rattle.party_tables.specs.declared.link.LinkKey.{LinkKey}
use Rattle.party_tables.specs.declared.link.LinkRec.{LinkRec}
use Rattle.party_state.specs.State.{Party, knows, link_with}
use Rattle.change_code.specs.declared.format.Format.{Format}
use Rattle.key_store.specs.Store.{Stands, IsFirstDamage, space_between}
use Rattle.x_party.specs.Asking.{AsksParty, IsDueAnswer, IsDueNobody, value_answer, value_found}
use Rattle.x_party.specs.Dues.{GivesDue}
use Rattle.x_party.specs.Steps.{HasNoParty, IsOpened, IsNotOpened, IsOutcome}
use Rattle.x_party.specs.declared.outcome.Outcome.{Outcome}
use Rattle.x_party.specs.declared.outcome.Outcome.TheVariants as outcome
use Rattle.x_party.proofs.Acted.{reads}
use Rattle.x_party.proofs.Alike.{stands_alike, store_stands}
use Rattle.x_party.proofs.Following.{DueOr, blank_or, both_nobody, gives, nobody_due, stands_or_not}
use Rattle.x_party.proofs.Spaces.{so}

-- an answer, or no memory for it
abbrev pub IsAnswer : Outcome → Outcome → Type 0
IsAnswer answer o = (o ≡ answer) ⊎ (o ≡ outcome.NoMemory)

no_fault : (found : Option LinkRec) (known : Bool) → value_found found known ≡ outcome.Fault → ⊥
no_fault (Some l) known is = cc is
no_fault None true is = cc is
no_fault None false is = cc is

pub value_fault : (k : LinkKey) (p : Party) (o : Outcome) {A : Type 0} → IsAnswer (value_answer k p) o → o ≡ outcome.Fault → A
value_fault k p o (inl same) is = absurd (no_fault (link_with k p) (knows k.peer p) (sym same ∙ is))
value_fault k p o (inr same) is = let no : outcome.NoMemory ≡ outcome.Fault = sym same ∙ is in absurd (cc no)

module _ (answer : Party → Outcome) where
  -- no party that isn't opened is asked
  pub not_asked : (old new : View) (o : Outcome) → IsNotOpened old new o → AsksParty answer old new o
  not_asked old new o none = inr none.refused

  module _ {D : Type 0} (told : D → View) (old new : View) (opened_disk disk : D) (gate end : ℕ) (f : Format) (p : Party) (opened : IsOpened old (told opened_disk) gate end f p) (is : disk ≡ opened_disk) (back : IsAlike (told disk) new) where
    answered : AsksParty answer old new (answer p)
    answered = inl (record {
      party = p;
      space = space_between gate end f;
      reads = reads old (told opened_disk) gate end f p opened;
      holds = record {
        said = refl;
        stands = stands_alike (told opened_disk) new p (space_between gate end f) (store_stands (told opened_disk) gate end f p opened.store) (subst (λ d. IsAlike (told d) new) is back);
      };
    })

    answer_of : (o : Outcome) → IsAnswer (answer p) o → AsksParty answer old new o
    answer_of o (inl same) = subst (AsksParty answer old new) (sym same) answered
    answer_of o (inr same) = subst (AsksParty answer old new) (sym same) (inr tt)

    pub asked_on : (o result : Outcome) (before later : ℕ) → IsAnswer (answer p) o → IsOutcome o before later result → AsksParty answer old new result
    asked_on o result before later text (inl same) = subst (AsksParty answer old new) (sym same) (answer_of o text)
    asked_on o result before later text (inr (inl fault)) = subst (AsksParty answer old new) (sym fault.0) (inr tt)
    asked_on o result before later text (inr (inr same)) = subst (AsksParty answer old new) (sym same) (inr tt)

  -- ---- what came is due

  due_none : (old new : View) (o : Outcome) → HasNoParty old new o → (image : List ℕ) → old.now ≡ Some image → DueOr o (IsDueAnswer answer image o)
  due_none old new (outcome.Done reply) is image now = absurd is
  due_none old new (outcome.Refused verdict reply) is image now = inl (inr (nobody_due old new image verdict reply now is))
  due_none old new (outcome.OtherParty asked found) is image now = absurd is
  due_none old new (outcome.Damaged place) is image now = inl (inr (is.first image now))
  due_none old new outcome.Fault is image now = inr (inl refl)
  due_none old new outcome.NoMemory is image now = inr (inr refl)

  due_answer : (old new : View) (o : Outcome) → AsksParty answer old new o → (image : List ℕ) → old.now ≡ Some image → DueOr o (IsDueAnswer answer image o)
  due_answer old new o (inl is) image now = inl (inl (is.party, so image is.party is.space (is.reads image now), is.holds.said))
  due_answer old new o (inr none) image now = due_none old new o none image now

  module _ (one_party : (image : List ℕ) (first second : Party) → Stands image first → Stands image second → first ≡ second)
      (not_blank : (image : List ℕ) (party : Party) → Stands image party → is_blank image ≡ false)
      (undamaged : (image : List ℕ) (party : Party) (place : ℕ) → Stands image party → IsFirstDamage image place → ⊥)
      (one_damage : (image : List ℕ) (first second : ℕ) → IsFirstDamage image first → IsFirstDamage image second → first ≡ second) where
    stands_and_none : {A : Type 0} (image : List ℕ) (p : Party) (o : Outcome) → Stands image p → IsDueNobody image o → A
    stands_and_none image p (outcome.Done reply) stands none = absurd none
    stands_and_none image p (outcome.Refused verdict reply) stands none = stands_or_not one_party not_blank undamaged one_damage image p verdict reply stands none
    stands_and_none image p (outcome.OtherParty asked found) stands none = absurd none
    stands_and_none image p (outcome.Damaged place) stands none = absurd (undamaged image p place stands none)
    stands_and_none image p outcome.Fault stands none = absurd none
    stands_and_none image p outcome.NoMemory stands none = absurd none

    one_none : (image : List ℕ) (a b : Outcome) → IsDueNobody image a → IsDueNobody image b → a ≡ b
    one_none image (outcome.Done reply) b x y = absurd x
    one_none image (outcome.Refused v r) (outcome.Refused w t) x y = both_nobody one_party not_blank undamaged one_damage image v w r t x y
    one_none image (outcome.Refused v r) (outcome.Damaged place) x y = blank_or image x.blank y.not_blank
    one_none image (outcome.Refused v r) (outcome.Done reply) x y = absurd y
    one_none image (outcome.Refused v r) (outcome.OtherParty asked found) x y = absurd y
    one_none image (outcome.Refused v r) outcome.Fault x y = absurd y
    one_none image (outcome.Refused v r) outcome.NoMemory x y = absurd y
    one_none image (outcome.OtherParty asked found) b x y = absurd x
    one_none image (outcome.Damaged place) (outcome.Refused w t) x y = blank_or image y.blank x.not_blank
    one_none image (outcome.Damaged place) (outcome.Damaged other) x y = ap outcome.Damaged (one_damage image place other x y)
    one_none image (outcome.Damaged place) (outcome.Done reply) x y = absurd y
    one_none image (outcome.Damaged place) (outcome.OtherParty asked found) x y = absurd y
    one_none image (outcome.Damaged place) outcome.Fault x y = absurd y
    one_none image (outcome.Damaged place) outcome.NoMemory x y = absurd y
    one_none image outcome.Fault b x y = absurd x
    one_none image outcome.NoMemory b x y = absurd x

    one_answer : (image : List ℕ) (a b : Outcome) → IsDueAnswer answer image a → IsDueAnswer answer image b → a ≡ b
    one_answer image a b (inl x) (inl y) = x.2 ∙ (ap answer (one_party image x.0 y.0 x.1 y.1) ∙ sym y.2)
    one_answer image a b (inl x) (inr y) = stands_and_none image x.0 b x.1 y
    one_answer image a b (inr x) (inl y) = stands_and_none image y.0 a y.1 x
    one_answer image a b (inr x) (inr y) = one_none image a b x y

    pub asked_due : (old new : View) (o : Outcome) → AsksParty answer old new o → GivesDue old (IsDueAnswer answer) o
    asked_due old new o is = gives old o (IsDueAnswer answer) (due_answer old new o is) one_answer
