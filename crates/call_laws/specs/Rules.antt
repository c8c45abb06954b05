-- The rules that the keys of a set-up keep (this project's profile).
use Rattle.std.specs.Prelude.{◌≡◌, ◌≢◌, ◌⊎◌, ℕ, false, List, AllPairs, Contains}
use Rattle.std.specs.List.{All}
use Rattle.x_base.specs.Names.{IsIdent, IsLabel}
use Rattle.x_mac.specs.declared.pair.Pair.{Pair}
use Rattle.party_tables.specs.Keys.{sends, takes}
use Rattle.party_state.specs.Ranges.{IsGen}
use Rattle.party_state.specs.State.{expands_alike}
use Rattle.role_base.specs.Load.{odd_pair}
use Rattle.call_laws.specs.SetUp.{End, SetUp, Creates, Loads, LosesPower, names_in, ends_in}

-- a key-encrypting key that two parties are given: who sends under it, who takes, its label, and its pair
pub record SharedKey : Type 0 where
  pub originator : List ℕ
  pub recipient : List ℕ
  pub label : List ℕ
  pub pair : Pair

abbrev pub sending_end : SharedKey → End
sending_end k = record { own = k.originator; key = sends k.recipient k.label; pair = k.pair }

abbrev pub taking_end : SharedKey → End
taking_end k = record { own = k.recipient; key = takes k.originator k.label; pair = k.pair }

-- both ends of the key are loaded
abbrev pub HasBothEnds : List SetUp → SharedKey → Type 0
HasBothEnds ss k = Contains (ends_in ss) (sending_end k) × Contains (ends_in ss) (taking_end k)

-- an end of one of these keys
pub record IsEndOf (keys : List SharedKey) (e : End) : Type 0 where
  pub shared : SharedKey
  pub stands : Contains keys shared
  pub end : (e ≡ sending_end shared) ⊎ (e ≡ taking_end shared)

-- each part is in its range
abbrev pub IsInRange : SetUp → Type 0
IsInRange (Creates own role generator) = IsIdent own × IsGen generator
IsInRange (Loads e moment) = IsIdent e.key.peer × IsLabel e.key.label
IsInRange LosesPower = Unit {0}

pub record KeepsRules (keys : List SharedKey) (ss : List SetUp) : Type 0 where
  -- no two parties are created whose identities expand alike
  pub names : AllPairs (λ p q. expands_alike p q ≡ false) (names_in ss)
  -- no two keys have one pair, where each half is given odd parity
  pub pairs : AllPairs (λ j k. odd_pair j.pair ≢ odd_pair k.pair) keys
  -- each key is loaded at both its ends, and nothing else is loaded
  pub both : (k : SharedKey) → Contains keys k → HasBothEnds ss k
  pub only : (e : End) → Contains (ends_in ss) e → IsEndOf keys e
  pub ranges : All IsInRange ss
