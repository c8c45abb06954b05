-- What holds of a line behind the lines before it: this project's profile.
use Rattle.std.specs.Prelude.{ℕ, ◌==◌, ◌&&◌, ◌||◌, not, nat_lt, Bool, true, false, List, length, count_by, Option, Some, None, is_some, option_map, codes, bytes_eq, if◌then◌else◌}
use Rattle.std.specs.List.{list_all, list_any, filter_map}
use Rattle.std.specs.Map.{lookup}
use Rattle.std.specs.Option.{option_map_or}
use Rattle.x_base.specs.Ident.{expanded}
use Rattle.x_base.specs.declared.party.Role.{Role}
use Rattle.x_base.specs.declared.party.Role.TheVariants.{Bank, Distribution, Translation}
use Rattle.x_mac.specs.declared.pair.Pair.{Pair}
use Rattle.x_gen.specs.Parity.{odd_parity_of}
use Rattle.scenario.specs.declared.line.Line.{Line}
use Rattle.scenario.specs.declared.line.Line.TheVariants as line

-- ---- the parties before

-- the party that a PARTY line declares, and what it is
abbrev pub declared : Line → Option (List ℕ × Role)
declared (line.Party name role pair v) = Some (name, role)
declared l = None

-- what the declared party of this name is
abbrev pub role_among : List Line → List ℕ → Option Role
role_among before name = lookup (bytes_eq name) (filter_map declared before)

abbrev pub is_declared : List Line → List ℕ → Bool
is_declared before name = is_some (role_among before name)

abbrev pub is_centre_role : Role → Bool
is_centre_role Bank = false
is_centre_role Distribution = true
is_centre_role Translation = true

abbrev pub is_centre : List Line → List ℕ → Bool
is_centre before name = option_map_or is_centre_role (role_among before name) false

-- the expansion of the identity that a PARTY line declares
abbrev pub expansion : Line → Option (ℕ × ℕ)
expansion l = option_map (λ (p : List ℕ × Role). expanded p.0) (declared l)

-- two numbers are the same two
abbrev pub same_two : ℕ × ℕ → ℕ × ℕ → Bool
same_two a b = (a.0 == b.0) && (a.1 == b.1)

-- ---- the key-encrypting keys before

-- the pair that a LINK line loads, given odd parity
abbrev pub odd_pair : Pair → ℕ × ℕ
odd_pair pair = (odd_parity_of pair.left, odd_parity_of pair.right)

abbrev pub loaded : Line → Option (ℕ × ℕ)
loaded (line.Link origin recipient label pair) = Some (odd_pair pair)
loaded l = None

-- origin, recipient and label of a LINK line
abbrev pub ends : Line → Option (List ℕ × List ℕ × List ℕ)
ends (line.Link origin recipient label pair) = Some (origin, recipient, label)
ends l = None

abbrev pub same_ends : List ℕ × List ℕ × List ℕ → List ℕ × List ℕ × List ℕ → Bool
same_ends a b = (bytes_eq a.0 b.0 && bytes_eq a.1 b.1) && bytes_eq a.2 b.2

-- the party is on this LINK line
abbrev pub is_end : List ℕ → Line → Bool
is_end name (line.Link origin recipient label pair) = bytes_eq origin name || bytes_eq recipient name
is_end name l = false

abbrev pub both_or_neither : Bool → Bool → Bool
both_or_neither a b = if a then b else not b

-- ---- the order of the lines

abbrev pub is_party : Line → Bool
is_party (line.Party name role pair v) = true
is_party l = false

abbrev pub is_party_or_link : Line → Bool
is_party_or_link (line.Party name role pair v) = true
is_party_or_link (line.Link origin recipient label pair) = true
is_party_or_link l = false

-- ---- the rules

-- PARTY: PARTY lines alone stand before, at most 63, and none of their parties expands alike
abbrev pub may_declare : List Line → List ℕ → Bool
may_declare before name =
    list_all is_party before
    && (nat_lt (length (filter_map declared before)) 64
    && not (list_any (same_two (expanded name)) (filter_map expansion before)))

-- LINK: PARTY and LINK lines alone stand before; the two are declared and differ; the label is C
-- exactly where one of them is a centre; no LINK line before has the same pair, with odd parity, nor
-- the same origin, recipient and label; and each of the two is on fewer than 64 of them
abbrev pub may_load : List Line → List ℕ → List ℕ → List ℕ → Pair → Bool
may_load before origin recipient label pair =
    list_all is_party_or_link before
    && ((is_declared before origin && is_declared before recipient)
    && (not (bytes_eq origin recipient)
    && (both_or_neither (bytes_eq label (codes "C")) (is_centre before origin || is_centre before recipient)
    && (not (list_any (same_two (odd_pair pair)) (filter_map loaded before))
    && (not (list_any (same_ends (origin, recipient, label)) (filter_map ends before))
    && (nat_lt (count_by (is_end origin) before) 64 && nat_lt (count_by (is_end recipient) before) 64))))))

-- the party at which the others happen, where they name one
abbrev pub party_of : Line → Option (List ℕ)
party_of (line.Start party peer label) = Some party
party_of (line.StartKk party peer label new single) = Some party
party_of (line.Ask party peer ultimate) = Some party
party_of (line.Translate party centre ultimate) = Some party
party_of (line.Resend party peer) = Some party
party_of (line.End party peer name) = Some party
party_of (line.Drop party peer) = Some party
party_of (line.Purge party) = Some party
party_of (line.Pass k party) = Some party
party_of (line.Bytes party bytes) = Some party
party_of l = None

-- the line may stand behind these: of the others, the party that they name first is declared
abbrev pub may_follow : List Line → Line → Bool
may_follow before (line.Party name role pair v) = may_declare before name
may_follow before (line.Link origin recipient label pair) = may_load before origin recipient label pair
may_follow before l = option_map_or (is_declared before) (party_of l) true
