-- The changes of key service messages can be kept.
use Rattle.std.proofs.Common.{arith, ◌≡◌, ℕ, ◌+◌, ◌≤◌, true, Option, Some, None, Result, IfOk, List, ◌∷◌, ◌++◌, length, refl}
use Rattle.x_base.specs.Count.{IsCount}
use Rattle.x_base.specs.declared.text.NoMemory.{NoMemory}
use Rattle.csm_grammar.specs.declared.arrival.Arrival.{Arrival}
use Rattle.csm_grammar.specs.declared.message.Ksm.{Ksm}
use Rattle.csm_grammar.specs.declared.message.KsmBody.{KsmBody}
use Rattle.csm_grammar.specs.declared.message.KsmBody.TheVariants as body
use Rattle.csm_grammar.specs.declared.message.NewKk.{NewKk}
use Rattle.party_state.specs.declared.decision.Decision.{Decision}
use Rattle.party_state.specs.declared.edit.Edit.TheVariants.{PutLink, PutKey}
use Rattle.party_tables.specs.declared.link.LinkRec.{LinkRec}
use Rattle.party_tables.specs.declared.key.KeyRec.{KeyRec}
use Rattle.party_tables.specs.Keys.{record_key, takes}
use Rattle.party_tables.specs.Ranges.{IsNextCount}
use Rattle.party_state.specs.State.{Party, record_with}
use Rattle.party_state.specs.Verdicts.{TestsHold, is_accept}
use Rattle.role_base.specs.Conditions.{one_more}
use Rattle.role_base.specs.Deciding.{decision_of, Decides}
use Rattle.role_base.specs.Storable.{can_put_key_behind, can_put_key, AreKeepable}
use Rattle.role_base.specs.Standing.{LinkStands}
use Rattle.role_base.proofs.Counted.{next_on}
use Rattle.role_base.proofs.Kept.{row_kept, made_kept}
use Rattle.role_base.proofs.Keeping.{link_room}
use Rattle.role_base.proofs.PartyLaws.{HeldIfAccepted}
use Rattle.role_base.proofs.Storable.{link_fits, key_fits, keys_fit}
use Rattle.bank_keys.specs.Ksm.{IsCounted, body_count, body_next, body_new, body_record, second_edits, body_second, have_room, body_tests, new_tests, taken_edits, key_row}
use Rattle.bank_keys.proofs.NewKeys.{has_room, all_refusing, new_held}

-- the count behind those of the keys can be the next one
next_counts : (b : KsmBody) → IsCount (body_count b) → IsCounted b → IsNextCount (body_next b)
next_counts (body.Direct idk2 new kd ctp) i c = next_on ctp (ctp + 1) i refl
next_counts (body.Centre centre kdu ctb) i c = next_on ctb (ctb + 1) i refl
next_counts (body.Twin idk2 first second ctp) i c = next_on (ctp + 1) (ctp + 2) c (omega arith)

-- the keys that come fit, one behind the other
AreKeysKept : Party → KeyRec → Option KeyRec → Type 0
AreKeysKept p k None = can_put_key p (record_key k) ≡ true
AreKeysKept p k (Some j) = (can_put_key p (record_key k) ≡ true) × (can_put_key_behind (0 + one_more (record_with (record_key k) p)) p (record_key j) ≡ true)

keys_kept : (p : Party) (k : KeyRec) (o : Option KeyRec) → have_room p (record_key k) o ≡ true → AreKeysKept p k o
unfolding AreKeysKept
keys_kept p k None room = key_fits p (record_key k) room
keys_kept p k (Some j) room = keys_fit p (record_key k) (record_key j) room

taken_keepable : (p : Party) (originator : List ℕ) (l : LinkRec) (count up : ℕ) (n : Option (List ℕ × NewKk)) (k : KeyRec) (o : Option KeyRec) → LinkStands p l → IsNextCount up → TestsHold (new_tests p originator l count n) → AreKeysKept p k o → AreKeepable p (PutLink (record l { next = up }) ∷ (taken_edits originator l count n ++ PutKey k ∷ second_edits o))
unfolding AreKeysKept
taken_keepable p originator l count up None k None st i t room = record { each = ((i, link_room p l st), (room, tt)); order = refl }
taken_keepable p originator l count up None k (Some j) st i t room = record { each = ((i, link_room p l st), (room.0, (room.1, tt))); order = refl }
taken_keepable p originator l count up (Some n) k None st i t room = record {
  each = ((i, link_room p l st), ((record { low = omega arith; high = omega arith }, link_fits p (takes originator n.0) t.1.1.0), (room, tt)));
  order = rw st.found refl;
}
taken_keepable p originator l count up (Some n) k (Some j) st i t room = record {
  each = ((i, link_room p l st), ((record { low = omega arith; high = omega arith }, link_fits p (takes originator n.0) t.1.1.0), (room.0, (room.1, tt))));
  order = rw st.found refl;
}

few : (originator : List ℕ) (l : LinkRec) (count next : ℕ) (n : Option (List ℕ × NewKk)) (k : KeyRec) (o : Option KeyRec) → length (PutLink (record l { next = next }) ∷ (taken_edits originator l count n ++ PutKey k ∷ second_edits o)) ≤ 9
few originator l count next None k None = omega arith
few originator l count next None k (Some j) = omega arith
few originator l count next (Some n) k None = omega arith
few originator l count next (Some n) k (Some j) = omega arith

pub key_kept : HeldIfAccepted → (p : Party) (a : Arrival) (m : Ksm) (b : KsmBody) (l : LinkRec) (made : Result Decision NoMemory) → LinkStands p l → IsCount (body_count b) → IsCounted b → IfOk made (λ d. d ≡ decision_of p (key_row p a m b (Some l))) → Decides p (key_row p a m b (Some l)) made
key_kept held p a m b l made st i c e = made_kept p (key_row p a m b (Some l)) made (row_kept p (key_row p a m b (Some l)) keepable (few m.originator l (body_count b) (body_next b) (body_new b) (body_record p m b l) (body_second p m b l))) e
  where
    keepable : is_accept (key_row p a m b (Some l)).verdict ≡ true → AreKeepable p (key_row p a m b (Some l)).edits
    keepable t =
        let h : TestsHold (body_tests p a m b l) = held (body_tests p a m b l) (all_refusing p a m b l) t in
        let g : TestsHold (new_tests p m.originator l (body_count b) (body_new b)) × (has_room p m b l ≡ true) = new_held p a m b l h in
        taken_keepable p m.originator l (body_count b) (body_next b) (body_new b) (body_record p m b l) (body_second p m b l) st (next_counts b i c) g.0 (keys_kept p (body_record p m b l) (body_second p m b l) g.1)
