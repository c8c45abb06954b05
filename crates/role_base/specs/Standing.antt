-- Rows that stand in a party's tables.
use Rattle.std.specs.Prelude.{◌≡◌, Some}
use Rattle.party_tables.specs.declared.link.LinkRec.{LinkRec}
use Rattle.party_tables.specs.declared.key.KeyRec.{KeyRec}
use Rattle.party_tables.specs.Keys.{link_key, record_key}
use Rattle.party_tables.specs.Ranges.{IsLink}
use Rattle.party_state.specs.State.{Party, link_with, record_with}

-- the link stands, in its range
pub record LinkStands (p : Party) (l : LinkRec) : Type 0 where
  pub found : link_with (link_key l) p ≡ Some l
  pub range : IsLink l

abbrev pub KeyStands : Party → KeyRec → Type 0
KeyStands p k = record_with (record_key k) p ≡ Some k
