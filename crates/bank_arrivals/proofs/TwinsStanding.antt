-- The records of two keys that were sent in one message stand.
use Rattle.std.proofs.Common.{◌≡◌, ℕ, Some, List}
use Rattle.party_state.specs.State.{Party}
use Rattle.party_tables.specs.Names.{name_behind}
use Rattle.role_base.specs.declared.exchanges.Twins.{Twins}
use Rattle.role_base.specs.Exchanges.{twins_to}
use Rattle.role_base.specs.Standing.{KeyStands}
use Rattle.role_base.proofs.Found.{key_stands}
use Rattle.role_base.proofs.PartyLaws.{KeysFound}
use Rattle.role_base.proofs.TwinKeys.{twins_at}

pub record TwinsStand (p : Party) (t : Twins) : Type 0 where
  pub first : KeyStands p t.first
  pub second : KeyStands p t.second

pub twins_stand : KeysFound → (p : Party) (peer : List ℕ) (t : Twins) → twins_to p peer ≡ Some t → TwinsStand p t
twins_stand keys p peer t h =
    let at = twins_at p peer t h in
    record {
      first = key_stands keys p (record { peer = peer; name = at.name }) t.first at.first;
      second = key_stands keys p (record { peer = peer; name = name_behind at.name }) t.second at.second;
    }
