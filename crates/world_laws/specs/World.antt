-- A network of parties: what each holds, and what was written, used and accepted so far (this project's profile).
use Rattle.std.specs.Prelude.{◌≡◌, ℕ, Option, Some, List, bytes_eq}
use Rattle.x_base.specs.declared.key_name.FullName.{FullName}
use Rattle.party_state.specs.State.{Party}
use Rattle.party_state.specs.Rows.{Sealed, Class}
use Rattle.party_tables.specs.Tables.{find_row}
use Rattle.change_code.specs.declared.space.Space.{Space}
use Rattle.member.specs.Member.{Member}

-- a fact: this party made the code of this authenticated text, under the key of this name
pub record Fact : Type 0 where
  pub under : FullName
  pub text : List ℕ
  pub maker : List ℕ

-- a key-encrypting key: who sends under it, who takes, its label, and the number of the event that made it, or 0
-- where it was loaded
pub record Kk : Type 0 where
  pub originator : List ℕ
  pub recipient : List ℕ
  pub label : List ℕ
  pub birth : ℕ

-- the event of this number made a key-encrypting key
pub record Birth : Type 0 where
  pub originator : List ℕ
  pub recipient : List ℕ
  pub label : List ℕ
  pub event : ℕ

-- a key, or a pair, was encrypted under a key-encrypting key at a count
pub record KkUse : Type 0 where
  pub kk : Kk
  pub count : ℕ
  pub sealed : Sealed

-- a party accepted a message of this class with this authenticated text; it made the keys of these names held, live or
-- ended; of a disconnection the name is that of IDD alone
pub record Acceptance : Type 0 where
  pub party : List ℕ
  pub text : List ℕ
  pub class : Class
  pub names : List FullName

-- the members, each text that was written, and what happened, each list in the order of the events
pub record World : Type 0 where
  pub members : List Member
  pub texts : List (List ℕ)
  pub facts : List Fact
  pub births : List Birth
  pub uses : List KkUse
  pub acceptances : List Acceptance

abbrev pub own_of : Member → List ℕ
own_of m = m.party.own

-- the member with this identity
abbrev pub member_at : List ℕ → List Member → Option Member
member_at p ms = find_row own_of bytes_eq p ms

-- the network has a member of this name, and this holds of its party and its space
pub record HasMember (w : World) (own : List ℕ) (P : Party → Space → Type 0) : Type 0 where
  pub member : Member
  pub at : member_at own w.members ≡ Some member
  pub holds : P member.party member.space
