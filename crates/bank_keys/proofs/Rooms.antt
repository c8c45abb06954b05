-- The count and the room for a key, in the words of the tests and of the laws.
use Rattle.std.proofs.Common.{arith, ◌≡◌, ◌≢◌, ◌+◌, Bool, true, false, cond, not, ◌||◌, is_some, Option, Some, None, length, refl, ap, ◌∙◌}
use Rattle.std.proofs.lemmas.Bool.{leb-true, le-leb, false_from_ne_true}
use Rattle.party_state.specs.declared.edit.Edit.TheVariants.{PutLink, PutKey}
use Rattle.party_tables.specs.declared.link.LinkRec.{LinkRec}
use Rattle.party_tables.specs.declared.key.KeyRec.{KeyRec}
use Rattle.party_tables.specs.Keys.{same_record, link_key, record_key}
use Rattle.party_state.specs.State.{Party, apply_edit, link_with, record_with}
use Rattle.party_state.specs.Limits.{most_keys}
use Rattle.role_base.specs.Conditions.{count_after, has_key_room, one_more}
use Rattle.role_base.proofs.PartyLaws.{LinksCounted, KeysCounted, KeyLaws}
use Rattle.bank_keys.specs.Ksm.{have_room}
use Rattle.bank_keys.specs.Taking.{HasRoomFor, HasRoomForKeys}
use Rattle.bank_keys.proofs.TwoKeys.{OtherKey}

pub not_low : (a b : Bool) → (not a || b) ≡ true → a ≡ true → b ≡ true
not_low true b h t = h
not_low false b h t = absurd (cc)

-- the links where one is put under a key that had none
pub one_link_more : LinksCounted → (p : Party) (l : LinkRec) → link_with (link_key l) p ≡ None → length (apply_edit (PutLink l) p).links ≡ length p.links + 1
one_link_more counted p l none = counted l p ∙ ap (λ (o : Option LinkRec). length p.links + cond (is_some o) 0 1) none

-- and the keys where one is put
keys_after : KeysCounted → (p : Party) (k : KeyRec) → length (apply_edit (PutKey k) p).keys ≡ count_after (record_with (record_key k) p) p.keys
keys_after counted p k = counted k p ∙ go (record_with (record_key k) p)
  where
    go : (o : Option KeyRec) → length p.keys + cond (is_some o) 0 1 ≡ count_after o p.keys
    go (Some old) = omega arith
    go None = refl

pub room_after : KeysCounted → (p : Party) (k : KeyRec) → has_key_room p (record_key k) ≡ true → HasRoomFor p k
room_after counted p k h = rw (keys_after counted p k) (leb-true (count_after (record_with (record_key k) p) p.keys) most_keys h)

pub room_before : KeysCounted → (p : Party) (k : KeyRec) → HasRoomFor p k → has_key_room p (record_key k) ≡ true
room_before counted p k h = le-leb (count_after (record_with (record_key k) p) p.keys) most_keys (rw (keys_after counted p k) at h)

-- two keys, the one put behind the other
both_after : KeyLaws → KeysCounted → (p : Party) (j k : KeyRec) → record_key k ≢ record_key j → length (apply_edit (PutKey k) (apply_edit (PutKey j) p)).keys ≡ length p.keys + (one_more (record_with (record_key j) p) + one_more (record_with (record_key k) p))
both_after laws counted p j k ne =
    let other : same_record (record_key k) (record_key j) ≡ false = false_from_ne_true (same_record (record_key k) (record_key j)) (λ e. ne ((laws.same (record_key k) (record_key j)).0 e)) in
    let beside : record_with (record_key k) (apply_edit (PutKey j) p) ≡ record_with (record_key k) p = laws.put (record_key k) j p ∙ rw other refl in
    let last : length (apply_edit (PutKey k) (apply_edit (PutKey j) p)).keys ≡ length (apply_edit (PutKey j) p).keys + cond (is_some (record_with (record_key k) p)) 0 1 = counted k (apply_edit (PutKey j) p) ∙ ap (λ (o : Option KeyRec). length (apply_edit (PutKey j) p).keys + cond (is_some o) 0 1) beside in
    let first : length (apply_edit (PutKey j) p).keys ≡ length p.keys + cond (is_some (record_with (record_key j) p)) 0 1 = counted j p in
    let a : cond (is_some (record_with (record_key j) p)) 0 1 ≡ one_more (record_with (record_key j) p) = go (record_with (record_key j) p) in
    let b : cond (is_some (record_with (record_key k) p)) 0 1 ≡ one_more (record_with (record_key k) p) = go (record_with (record_key k) p) in
    omega (arith, last, first, a, b)
  where
    go : (o : Option KeyRec) → cond (is_some o) 0 1 ≡ one_more o
    go (Some old) = refl
    go None = refl

-- the room for the key that comes, or for two, whose records differ
pub keys_room_after : KeyLaws → KeysCounted → (p : Party) (j : KeyRec) (o : Option KeyRec) → OtherKey j o → have_room p (record_key j) o ≡ true → HasRoomForKeys p j o
keys_room_after laws counted p j None ne h = room_after counted p j h
keys_room_after laws counted p j (Some k) ne h = rw (both_after laws counted p j k ne) (leb-true (length p.keys + (one_more (record_with (record_key j) p) + one_more (record_with (record_key k) p))) most_keys h)

pub keys_room_before : KeyLaws → KeysCounted → (p : Party) (j : KeyRec) (o : Option KeyRec) → OtherKey j o → HasRoomForKeys p j o → have_room p (record_key j) o ≡ true
keys_room_before laws counted p j None ne h = room_before counted p j h
keys_room_before laws counted p j (Some k) ne h = le-leb (length p.keys + (one_more (record_with (record_key j) p) + one_more (record_with (record_key k) p))) most_keys (rw (both_after laws counted p j k ne) at h)
