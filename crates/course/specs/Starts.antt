-- The start of a scenario: the parties of its PARTY lines with the links of its LINK lines, in their order (this project's
-- profile).
use Rattle.std.specs.Prelude.{◌≡◌, ℕ, true, cond, bytes_eq, List, [], ◌∷◌, Option, Some, None}
use Rattle.std.specs.List.{All, filter_map}
use Rattle.x_base.specs.Names.{IsIdent, IsLabel}
use Rattle.x_base.specs.declared.party.Role.{Role}
use Rattle.x_base.specs.declared.party.Side.{Side}
use Rattle.x_base.specs.declared.party.Side.TheVariants.{Sends, Takes}
use Rattle.x_mac.specs.declared.pair.Pair.{Pair}
use Rattle.x_gen.specs.declared.generator.Gen.{Gen}
use Rattle.party_tables.specs.declared.link.LinkRec.{LinkRec}
use Rattle.party_state.specs.declared.edit.Edit.TheVariants.{Begin, PutLink}
use Rattle.party_tables.specs.Ranges.{IsPair, IsWord}
use Rattle.party_state.specs.State.{begun}
use Rattle.change_code.specs.Cost.{whole_area, space_after}
use Rattle.change_code.specs.declared.format.Format.TheVariants.{Two}
use Rattle.role_base.specs.Load.{odd_pair}
use Rattle.scenario.specs.declared.line.Line.{Line}
use Rattle.member.specs.Member.{Member, after}
use Rattle.world_laws.specs.World.{World}
use Rattle.world_laws.specs.Starts.{Each}
use Rattle.course.specs.Course.{Course}
use Rattle.course.specs.declared.progress.Progress.{Progress}
use Rattle.scenario.specs.declared.line.Line.TheVariants as line

-- a link that is loaded, ready and with no count used; the pair with odd parity
abbrev pub link_of : List ℕ → List ℕ → Side → Pair → LinkRec
link_of peer label side pair = record { peer = peer; label = label; side = side; pair = odd_pair pair; next = 1; ready = true }

-- the link that a line loads at a party, if it does
abbrev pub load_at : List ℕ → Line → Option LinkRec
load_at own (line.Link origin recipient label pair) = cond (bytes_eq own origin) (Some (link_of recipient label Sends pair))
    (cond (bytes_eq own recipient) (Some (link_of origin label Takes pair)) None)
load_at own l = None

abbrev pub loads_of : List ℕ → List Line → List LinkRec
loads_of own lines = filter_map (load_at own) lines

-- a party begins in format 2, and has the room of an area but for what its beginning costs
abbrev pub first_member : List ℕ → Role → Gen → Member
first_member own role generator = record { party = begun own role generator; space = space_after (whole_area Two) (Begin own role generator ∷ []) }

-- the member behind a load, which is a frame of its own
abbrev pub with_load : Member → LinkRec → Member
with_load x l = after x (PutLink l ∷ [])

abbrev pub with_loads : Member → List LinkRec → Member
with_loads x [] = x
with_loads x (l ∷ ls) = with_loads (with_load x l) ls

abbrev pub generator_of : Pair → ℕ → Gen
generator_of pair v = record { key = pair; v = v }

-- the party of a PARTY line, with its loads
abbrev pub start_member : List Line → Line → Option Member
start_member lines (line.Party name role pair v) = Some (with_loads (first_member name role (generator_of pair v)) (loads_of name lines))
start_member lines l = None

-- the parties that these declare, with all that the lines load
abbrev pub members_by : List Line → List Line → List Member
members_by lines some = filter_map (start_member lines) some

abbrev pub start_members : List Line → List Member
start_members lines = members_by lines lines

abbrev pub start_world : List Line → World
start_world lines = record { members = start_members lines; texts = []; facts = []; births = []; uses = []; acceptances = [] }

-- each member has the links that the lines load at it, in the order of the lines
abbrev pub HaveTheirLoads : List Line → Type 0
HaveTheirLoads lines = Each (λ x. x.party.links ≡ loads_of x.party.own lines) (start_members lines)

-- before the first line: moment 0, no stop waits, the first event comes
abbrev pub start_progress : Progress
start_progress = record { moment = 0; stop = None; number = 1; counts = record { done = 0; refused = 0; stopped = 0; none = 0; texts = 0 } }

abbrev pub start_course : List Line → Course
start_course lines = record { now = start_progress; world = start_world lines; happened = []; transcript = [] }

-- ---- what the types of a line's parts fix

pub record IsPartyInRange (name : List ℕ) (pair : Pair) (v : ℕ) : Type 0 where
  pub name_is : IsIdent name
  pub pair_is : IsPair pair
  pub v_is : IsWord v

pub record IsLinkInRange (origin recipient label : List ℕ) (pair : Pair) : Type 0 where
  pub origin_is : IsIdent origin
  pub recipient_is : IsIdent recipient
  pub label_is : IsLabel label
  pub pair_is : IsPair pair

-- each part of a PARTY or LINK line is in its range
abbrev pub IsLineInRange : Line → Type 0
IsLineInRange (line.Party name role pair v) = IsPartyInRange name pair v
IsLineInRange (line.Link origin recipient label pair) = IsLinkInRange origin recipient label pair
IsLineInRange l = Unit {0}

abbrev pub AreLinesInRange : List Line → Type 0
AreLinesInRange lines = All IsLineInRange lines
