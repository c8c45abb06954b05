-- A party is set up, and its disk is put back.
use Rattle.std.proofs.Common.{◌≡◌, ◌⊎◌, inl, inr, ℕ, ◌+◌, ◌-◌, ◌≤◌, true, List, [], ◌∷◌, Some, None, is_some, refl, sym, ◌∙◌, subst, arith}
use Rattle.x_base.specs.Edge.{Rose}
use Rattle.x_base.specs.declared.party.Role.{Role}
use Rattle.x_gen.specs.declared.generator.Gen.{Gen}
use Rattle.x_disk.specs.Disk.{View, Tells, LeavesOnly}
use Rattle.x_disk.specs.Shelf.{IsAlike}
use Rattle.x_disk.specs.declared.disk.DiskErr.{DiskErr}
use Rattle.x_disk.specs.declared.disk.DiskErr.TheVariants as error
use Rattle.key_journal.specs.Causes.{cause_of}
use Rattle.party_state.specs.declared.edit.Edit.TheVariants.{Begin}
use Rattle.party_state.specs.State.{Party, begun}
use Rattle.key_journal.specs.Layout.{first_start, second_start}
use Rattle.key_journal.specs.Journal.{is_blank}
use Rattle.key_journal.specs.States.{WritesOnlyToBlank}
use Rattle.change_code.specs.declared.format.Format.{Format}
use Rattle.change_code.specs.declared.format.Format.TheVariants.{Two}
use Rattle.change_code.specs.declared.space.Space.{Space}
use Rattle.change_code.specs.Cost.{cost}
use Rattle.key_store.specs.Store.{Stored, IsStore, IsBlankOrFirst}
use Rattle.x_party.specs.Images.{DiskStandsFor, first_space}
use Rattle.x_party.specs.Outcomes.{CreatesParty}
use Rattle.x_party.specs.Steps.{MakesParty, HasCreated, IsOutcome, outcome_of}
use Rattle.x_party.specs.declared.outcome.Outcome.{Outcome}
use Rattle.x_party.specs.declared.outcome.Outcome.TheVariants as outcome
use Rattle.x_party.proofs.Alike.{stands_alike, store_stands}

pub made_fault : (now then : View) (p : Party) (o : Outcome) → MakesParty now then p o → o ≡ outcome.Fault → Rose now.faults then.faults
made_fault now then p o makes is = subst (MakesParty now then p) is makes

-- where the disk isn't fetched
failure : (e : DiskErr) → (outcome_of (cause_of e) ≡ outcome.Fault) ⊎ (outcome_of (cause_of e) ≡ outcome.NoMemory)
failure error.Fault = inl refl
failure error.NoMemory = inr refl

pub failed : (e : DiskErr) (o : Outcome) → o ≡ outcome_of (cause_of e) → (o ≡ outcome.Fault) ⊎ (o ≡ outcome.NoMemory)
failed e o is = subst (λ (x : Outcome). (x ≡ outcome.Fault) ⊎ (x ≡ outcome.NoMemory)) (sym is) (failure e)

pub fault_error : (e : DiskErr) → outcome_of (cause_of e) ≡ outcome.Fault → e ≡ error.Fault
fault_error error.Fault is = refl
fault_error error.NoMemory is = absurd (cc is)

module _ (old v w new : View) (p : Party) (out : IsAlike old v) (back : IsAlike w new) where
  created_of : (o : Outcome) → MakesParty v w p o → CreatesParty old new p o
  created_of (outcome.Done reply) makes = record {
    blank = λ image now. makes.blank image (out.now ∙ now);
    reply = makes.reply;
    stands = stands_alike w new p (first_space p) makes.stands back;
  }
  created_of (outcome.Refused verdict reply) makes = record {
    not_blank = λ image now. makes.not_blank image (out.now ∙ now);
    verdict = makes.verdict;
    reply = makes.reply;
  }
  created_of (outcome.OtherParty asked found) makes = makes
  created_of (outcome.Damaged place) makes = makes
  created_of outcome.Fault makes = tt
  created_of outcome.NoMemory makes = tt

  pub created_on : (o result : Outcome) (before later : ℕ) → HasCreated v w p o → IsOutcome o before later result → CreatesParty old new p result
  created_on o result before later made (inl is) = subst (CreatesParty old new p) (sym is) (created_of o made.makes)
  created_on o result before later made (inr (inl fault)) = subst (CreatesParty old new p) (sym fault.0) tt
  created_on o result before later made (inr (inr is)) = subst (CreatesParty old new p) (sym is) tt

same_space : (f g : Format) (m n : ℕ) → f ≡ g → m ≡ n → (let s : Space = record { format = f; room = m } in s) ≡ record { format = g; room = n }
same_space f g m n format room = cc

module _ {D : Type 0} (told : D → View) (was : D) (new : Stored D) (own : List ℕ) (role : Role) (generator : Gen) where
  first_stands : IsStore (told new.disk) new.gate new.end new.format new.party → new.party ≡ begun own role generator → new.format ≡ Two
      → (new.gate ≡ first_start + cost Two (Begin own role generator ∷ [])) × (new.end ≡ second_start)
      → DiskStandsFor (told new.disk) (begun own role generator) (first_space (begun own role generator))
  first_stands store party format place =
      let left : new.end - new.gate ≡ (first_space (begun own role generator)).room = omega (arith, place.0, place.1) in
      subst (λ (p : Party). DiskStandsFor (told new.disk) p (first_space (begun own role generator))) party
      (subst (λ (s : Space). DiskStandsFor (told new.disk) new.party s) (same_space new.format Two (new.end - new.gate) (first_space (begun own role generator)).room format left)
      (store_stands (told new.disk) new.gate new.end new.format new.party store))

  pub create_done : (disk : D) → disk ≡ new.disk → IsStore (told new.disk) new.gate new.end new.format new.party → new.party ≡ begun own role generator → new.format ≡ Two
      → (new.gate ≡ first_start + cost Two (Begin own role generator ∷ [])) × (new.end ≡ second_start)
      → ((image : List ℕ) → (told was).now ≡ Some image → is_blank image ≡ true) → WritesOnlyToBlank (told was) (told new.disk)
      → (Tells (told was) → LeavesOnly (told was) (told new.disk) (λ c. IsBlankOrFirst (begun own role generator) c ⊎ (told was).may_leave c))
      → is_some (told new.disk).now ≡ is_some (told was).now → (told was).faults ≤ (told new.disk).faults
      → HasCreated (told was) (told disk) (begun own role generator) (outcome.Done None)
  create_done disk is store party format place blank nothing_written run tells faults =
      subst (λ (d : D). HasCreated (told was) (told d) (begun own role generator) (outcome.Done None)) (sym is) (record {
        makes = record { blank = blank; reply = refl; stands = first_stands store party format place };
        nothing_written = nothing_written;
        any_moment = run;
        tells = tells;
        faults = faults;
      })
