-- The start of a run (this project's profile).
use Rattle.std.specs.Prelude.{◌≡◌, ℕ, true, false, Some, List, [], AllPairs, bytes_eq}
use Rattle.x_base.specs.declared.party.Side.TheVariants.{Sends}
use Rattle.party_tables.specs.declared.link.LinkKey.{LinkKey}
use Rattle.party_tables.specs.declared.link.LinkRec.{LinkRec}
use Rattle.party_tables.specs.Tables.{Distinct}
use Rattle.party_tables.specs.Keys.{same_link, link_key, sends, takes}
use Rattle.party_state.specs.Ranges.{IsParty}
use Rattle.party_state.specs.State.{Party, link_with, expands_alike}
use Rattle.member.specs.Member.{Member}
use Rattle.world_laws.specs.World.{World, own_of, member_at}

-- this holds of each member
abbrev pub Each : (Member → Type 0) → List Member → Type 0
Each P ms = (p : List ℕ) (x : Member) → member_at p ms ≡ Some x → P x

-- no keys, exchanges and answers stand
pub record HasOnlyLinks (p : Party) : Type 0 where
  pub keys : p.keys ≡ []
  pub exchanges : p.exchanges ≡ []
  pub answers : p.answers ≡ []

-- nothing has happened
pub record HasNoHistory (w : World) : Type 0 where
  pub texts : w.texts ≡ []
  pub facts : w.facts ≡ []
  pub births : w.births ≡ []
  pub uses : w.uses ≡ []
  pub acceptances : w.acceptances ≡ []

-- what the law on key service messages needs of a start: no party has two links of one key, and nothing was accepted
pub record HasAcceptedNothing (w : World) : Type 0 where
  pub links : Each (λ x. Distinct link_key same_link x.party.links) w.members
  pub acceptances : w.acceptances ≡ []

-- what the law on counts needs of a start: beside that no exchange stands, and nothing was made or used
pub record IsBareStart (w : World) : Type 0 where
  pub accepted : HasAcceptedNothing w
  pub exchanges : Each (λ x. x.party.exchanges ≡ []) w.members
  pub births : w.births ≡ []
  pub uses : w.uses ≡ []

-- a link with this key and the same pair stands at the peer
pub record HasOtherEnd (ms : List Member) (peer : List ℕ) (k : LinkKey) (l : LinkRec) : Type 0 where
  pub member : Member
  pub at : member_at peer ms ≡ Some member
  pub link : LinkRec
  pub found : link_with k member.party ≡ Some link
  pub pair : link.pair ≡ l.pair

-- each key-encrypting key stands at both ends

abbrev pub SendsEnds : List Member → Type 0
SendsEnds ms = (p : List ℕ) (x : Member) (peer label : List ℕ) (l : LinkRec) → member_at p ms ≡ Some x → link_with (sends peer label) x.party ≡ Some l → HasOtherEnd ms peer (takes p label) l

abbrev pub TakesEnds : List Member → Type 0
TakesEnds ms = (p : List ℕ) (x : Member) (peer label : List ℕ) (l : LinkRec) → member_at p ms ≡ Some x → link_with (takes peer label) x.party ≡ Some l → HasOtherEnd ms peer (sends p label) l

-- the link is ready, and no count was used
pub record IsUnused (l : LinkRec) : Type 0 where
  pub ready : l.ready ≡ true
  pub next : l.next ≡ 1

abbrev pub LinksUnused : Party → Type 0
LinksUnused p = (k : LinkKey) (l : LinkRec) → link_with k p ≡ Some l → IsUnused l

-- no two key-encrypting keys have the same pair
abbrev pub PairsApart : List Member → Type 0
PairsApart ms = (p q : List ℕ) (x y : Member) (j k : LinkKey) (l m : LinkRec) → member_at p ms ≡ Some x → member_at q ms ≡ Some y → link_with j x.party ≡ Some l → link_with k y.party ≡ Some m
    → j.side ≡ Sends → k.side ≡ Sends → l.pair ≡ m.pair → (p ≡ q) × (j ≡ k)

-- parties in either format, whose identities don't expand alike, with loaded key-encrypting keys alone, each at both its ends
pub record IsStart (w : World) : Type 0 where
  pub members : Distinct own_of bytes_eq w.members
  pub apart : AllPairs (λ x y. expands_alike x.party.own y.party.own ≡ false) w.members
  pub parties : Each (λ x. IsParty x.party) w.members
  pub only_links : Each (λ x. HasOnlyLinks x.party) w.members
  pub unused : Each (λ x. LinksUnused x.party) w.members
  pub sends_ends : SendsEnds w.members
  pub takes_ends : TakesEnds w.members
  pub pairs : PairsApart w.members
  pub no_history : HasNoHistory w
