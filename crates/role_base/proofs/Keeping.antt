-- The changes of the commands can be kept.
use Rattle.std.proofs.Common.{◌≡◌, ℕ, ◌+◌, true, [], ◌∷◌, refl, arith}
use Rattle.x_base.specs.Count.{IsCount}
use Rattle.party_tables.specs.declared.link.LinkRec.{LinkRec}
use Rattle.party_tables.specs.declared.key.KeyRec.{KeyRec}
use Rattle.party_tables.specs.declared.exchange.Exchange.{Exchange}
use Rattle.party_state.specs.declared.edit.Edit.TheVariants.{PutLink, PutKey, PutExchange, SetGen}
use Rattle.party_state.specs.State.{Party}
use Rattle.party_tables.specs.Keys.{record_key, link_key}
use Rattle.party_tables.specs.Ranges.{IsFittingExchange}
use Rattle.role_base.specs.Conditions.{has_key_room}
use Rattle.role_base.specs.Storable.{can_put_link, can_put_key_behind, can_put_key, AreKeepable}
use Rattle.role_base.specs.Standing.{LinkStands, KeyStands}
use Rattle.role_base.proofs.Storable.{key_fits}

pub link_room : (p : Party) (l : LinkRec) → LinkStands p l → can_put_link p (link_key l) ≡ true
link_room p l s = let e = s.found in rw e refl

pub key_room_behind : (new : ℕ) (p : Party) (k : KeyRec) → KeyStands p k → can_put_key_behind new p (record_key k) ≡ true
key_room_behind new p k s = rw s refl

pub key_room : (p : Party) (k : KeyRec) → KeyStands p k → can_put_key p (record_key k) ≡ true
key_room p k s = key_room_behind 0 p k s

-- a key that is sent
pub sent_keepable : (p : Party) (l : LinkRec) (k : KeyRec) (e : Exchange) (v n : ℕ) → LinkStands p l → IsCount l.next → n ≡ l.next → has_key_room p (record_key k) ≡ true → IsFittingExchange e
    → AreKeepable p (SetGen v ∷ PutLink (record l { next = n + 1 }) ∷ PutKey k ∷ PutExchange e ∷ [])
sent_keepable p l k e v n s c i room fits =
    let low = c.low in
    let high = c.high in
    record {
      each = (tt, ((record { low = omega (arith, low, i); high = omega (arith, high, i) }, link_room p l s), (key_fits p (record_key k) room, (fits, tt))));
      order = refl;
    }
