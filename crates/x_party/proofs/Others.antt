-- A party that isn't that of the name isn't asked.
use Rattle.std.proofs.Common.{◌≡◌, ◌≢◌, inl, ℕ, List, refl, sym, ◌∙◌, subst, arith}
use Rattle.x_disk.specs.Disk.{View, IsSound, Tells, LeavesOnly}
use Rattle.x_disk.proofs.Alike.{told_now, untouched_self}
use Rattle.x_disk.proofs.Runs.{began}
use Rattle.party_state.specs.declared.decision.Decision.{Decision}
use Rattle.party_state.specs.State.{Party}
use Rattle.change_code.specs.declared.format.Format.{Format}
use Rattle.change_code.specs.declared.space.Space.{Space}
use Rattle.key_store.specs.Store.{Stored, StandsWith, IsStore, StandsForOldOrNew, space, space_between}
use Rattle.x_party.proofs.Acts.{HasActed}
use Rattle.x_party.specs.declared.outcome.Outcome.TheVariants as outcome
use Rattle.x_party.proofs.Alike.{store_stands}

-- no disk call was made
module _ (name : List ℕ) (v : View) (gate end : ℕ) (f : Format) (p : Party) (d : Decision) (sound : IsSound v) (store : IsStore v gate end f p) where
  abbrev left : Space
  left = space_between gate end f

  at_rest : Tells v → LeavesOnly v v (StandsForOldOrNew p left d.change)
  at_rest tells =
      let now = told_now v.now tells in
      began v (StandsForOldOrNew p left d.change) sound
      (λ c stays. inl (subst (λ (i : List ℕ). StandsWith i p left) (sym (store.durable.only now.0 c now.1 stays)) ((store_stands v gate end f p store).reads now.0 now.1)))

  pub not_asked : p.own ≢ name → HasActed name v v left p d (outcome.OtherParty name p.own)
  not_asked differs = record {
    acts = record { called = refl; stood = refl; differs = differs; stands = store_stands v gate end f p store; untouched = untouched_self v sound };
    any_moment = at_rest;
    still = λ none. untouched_self v sound;
    tells = refl;
    faults = omega arith;
  }

pub other_by : {D : Type 0} (told : D → View) (name own : List ℕ) (old : Stored D) (d : Decision) (disk : D) → IsSound (told old.disk)
    → IsStore (told old.disk) old.gate old.end old.format old.party → own ≡ old.party.own → own ≢ name → disk ≡ old.disk
    → HasActed name (told old.disk) (told disk) (space old) old.party d (outcome.OtherParty name own)
other_by told name own old d disk sound store is differs same =
    subst (λ x. HasActed name (told old.disk) (told x) (space old) old.party d (outcome.OtherParty name own)) (sym same)
    (subst (λ (o : List ℕ). HasActed name (told old.disk) (told old.disk) (space old) old.party d (outcome.OtherParty name o)) (sym is)
    (not_asked name (told old.disk) old.gate old.end old.format old.party d sound store (λ at. differs (is ∙ at))))
