-- What sets a network up: parties are created, and key-encrypting keys are loaded at both ends (this project's profile).
use Rattle.std.specs.Prelude.{ℕ, true, Option, Some, None, List, [], ◌∷◌, ◌++◌, bytes_eq}
use Rattle.x_base.specs.declared.party.Role.{Role}
use Rattle.x_mac.specs.declared.pair.Pair.{Pair}
use Rattle.x_gen.specs.declared.generator.Gen.{Gen}
use Rattle.party_tables.specs.declared.link.LinkKey.{LinkKey}
use Rattle.party_tables.specs.declared.link.LinkRec.{LinkRec}
use Rattle.party_tables.specs.Tables.{put_row}
use Rattle.party_state.specs.declared.edit.Edit.TheVariants.{PutLink}
use Rattle.party_state.specs.State.{begun}
use Rattle.role_base.specs.Load.{odd_pair}
use Rattle.member.specs.Member.{Member, after}
use Rattle.x_party.specs.Images.{first_space}
use Rattle.world_laws.specs.World.{World, own_of, member_at}

-- a key-encrypting key as it is loaded at one end: whose it is, under which key the link stands there, and the pair
pub record End : Type 0 where
  pub own : List ℕ
  pub key : LinkKey
  pub pair : Pair

-- what is done: a party is created; an end is loaded at a moment; or the power fails between two calls
pub data SetUp : Type 0 where
  Creates : List ℕ → Role → Gen → SetUp
  Loads : End → ℕ → SetUp
  LosesPower : SetUp

-- the link that stands then: ready, with no count used, and the pair with odd parity
abbrev pub link_at : End → LinkRec
link_at e = record { peer = e.key.peer; label = e.key.label; side = e.key.side; pair = odd_pair e.pair; next = 1; ready = true }

-- a party begins in format 2, with what its beginning leaves of an empty area
abbrev pub first_member : List ℕ → Role → Gen → Member
first_member own role generator = record { party = begun own role generator; space = first_space (begun own role generator) }

-- the member with the link
abbrev pub with_link : Member → LinkRec → Member
with_link x l = after x (PutLink l ∷ [])

abbrev pub load_into : Option Member → LinkRec → List Member → List Member
load_into None l ms = ms
load_into (Some x) l ms = put_row own_of bytes_eq (with_link x l) ms

-- the members afterwards
abbrev pub members_after : SetUp → List Member → List Member
members_after (Creates own role generator) ms = put_row own_of bytes_eq (first_member own role generator) ms
members_after (Loads e moment) ms = load_into (member_at e.own ms) (link_at e) ms
members_after LosesPower ms = ms

-- the members after all of it, beginning with these
abbrev pub members_by : List SetUp → List Member → List Member
members_by [] ms = ms
members_by (s ∷ ss) ms = members_by ss (members_after s ms)

-- the network that is set up so, from nothing: nothing was written or used in it
abbrev pub network_of : List SetUp → World
network_of ss = record { members = members_by ss []; texts = []; facts = []; births = []; uses = []; acceptances = [] }

-- the parties that are created
abbrev pub name_in : SetUp → List (List ℕ)
name_in (Creates own role generator) = own ∷ []
name_in (Loads e moment) = []
name_in LosesPower = []

abbrev pub names_in : List SetUp → List (List ℕ)
names_in [] = []
names_in (s ∷ ss) = name_in s ++ names_in ss

-- the ends that are loaded
abbrev pub end_in : SetUp → List End
end_in (Creates own role generator) = []
end_in (Loads e moment) = e ∷ []
end_in LosesPower = []

abbrev pub ends_in : List SetUp → List End
ends_in [] = []
ends_in (s ∷ ss) = end_in s ++ ends_in ss
