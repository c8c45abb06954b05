-- What was found stands.
use Rattle.std.proofs.Common.{◌≡◌, ℕ, List, Option, Some, None}
use Rattle.std.specs.Prelude.{IfSome}
use Rattle.x_base.specs.declared.party.Side.{Side}
use Rattle.party_tables.specs.declared.link.LinkKey.{LinkKey}
use Rattle.party_tables.specs.declared.link.LinkRec.{LinkRec}
use Rattle.party_tables.specs.declared.key.RecordKey.{RecordKey}
use Rattle.party_tables.specs.declared.key.KeyRec.{KeyRec}
use Rattle.party_tables.specs.declared.exchange.Via.{Via}
use Rattle.party_tables.specs.Keys.{sends, link_key, record_key}
use Rattle.party_tables.specs.Ranges.{IsLink}
use Rattle.party_state.specs.Ranges.{IsParty}
use Rattle.party_state.specs.State.{Party, link_with, first_link, record_with}
use Rattle.role_base.specs.Exchanges.{new_label, new_link_at, new_link}
use Rattle.role_base.specs.Standing.{LinkStands, KeyStands}
use Rattle.role_base.proofs.PartyLaws.{LinksFound, KeysFound, FirstLinksFound, LinksInRange}

pub first_stands : FirstLinksFound → (p : Party) (peer : List ℕ) (side : Side) (o : Option LinkRec) → IsParty p → first_link peer side p ≡ o → IfSome o IsLink → IfSome o (LinkStands p)
first_stands first p peer side None w h r = _
first_stands first p peer side (Some l) w h r = record { found = first peer side l p w h; range = r }

pub link_stands : LinksFound → (p : Party) (k : LinkKey) (o : Option LinkRec) → link_with k p ≡ o → IfSome o IsLink → IfSome o (LinkStands p)
link_stands found p k None h r = _
link_stands found p k (Some l) h r = let e : k ≡ link_key l = found k l p h in record { found = rw e at h; range = r }

-- of a party, with no more known of the link
pub found_stands : LinksFound → LinksInRange → (p : Party) (k : LinkKey) (l : LinkRec) → IsParty p → link_with k p ≡ Some l → LinkStands p l
found_stands found in_range p k l w f = link_stands found p k (Some l) f (in_range k l p w f)

pub key_stands : KeysFound → (p : Party) (k : RecordKey) (r : KeyRec) → record_with k p ≡ Some r → KeyStands p r
key_stands found p k r h = let e : k ≡ record_key r = found k r p h in rw e at h

-- the link of a new key-encrypting key stands, where it is found
pub new_link_stands : LinksFound → LinksInRange → (p : Party) (peer : List ℕ) (via : Via) (l : LinkRec) → IsParty p → new_link p peer via ≡ Some l → LinkStands p l
new_link_stands links in_range p peer via l w h = by_label (new_label via) h
  where
    by_label : (o : Option (List ℕ)) → new_link_at p peer o ≡ Some l → LinkStands p l
    by_label None h = absurd (cc)
    by_label (Some label) h = found_stands links in_range p (sends peer label) l w h
