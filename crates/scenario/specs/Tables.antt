-- The tables in which the rules are looked up, and the lines that they stand for.
use Rattle.std.specs.Prelude.{◌≡◌, ℕ, ◌+◌, ◌&&◌, ◌||◌, not, nat_lt, Bool, true, false, List, length, count_by, unwrap_or, Option, is_some, codes, bytes_eq}
use Rattle.std.specs.List.{list_all, list_any, filter_map}
use Rattle.std.specs.Map.{lookup}
use Rattle.std.specs.Option.{option_map_or}
use Rattle.indexmap.specs.IndexMap.{insert_entry}
use Rattle.indexmap.specs.IndexSet.{insert_key}
use Rattle.x_base.specs.Ident.{expanded}
use Rattle.x_base.specs.declared.party.Role.{Role}
use Rattle.x_mac.specs.declared.pair.Pair.{Pair}
use Rattle.scenario.specs.declared.line.Line.{Line}
use Rattle.scenario.specs.declared.line.Line.TheVariants as line
use Rattle.scenario.specs.declared.tables.Tables.{Tables}
use Rattle.scenario.specs.declared.draft.Draft.{Draft}
use Rattle.scenario.specs.Behind.{EachBehind}
use Rattle.scenario.specs.Rules.{both_or_neither, declared, ends, expansion, is_centre_role, is_end, is_party, is_party_or_link, loaded, may_follow, odd_pair, party_of, same_ends, same_two}

-- ---- what the tables tell

abbrev pub role_in : Tables → List ℕ → Option Role
role_in t name = lookup (bytes_eq name) t.parties.entries

abbrev pub is_declared_in : Tables → List ℕ → Bool
is_declared_in t name = is_some (role_in t name)

abbrev pub is_centre_in : Tables → List ℕ → Bool
is_centre_in t name = option_map_or is_centre_role (role_in t name) false

abbrev pub loads_in : Tables → List ℕ → ℕ
loads_in t name = unwrap_or (lookup (bytes_eq name) t.loads.entries) 0

abbrev pub lets_declare : Tables → List ℕ → Bool
lets_declare t name =
    t.only_parties
    && (nat_lt (length t.parties.entries) 64 && not (list_any (same_two (expanded name)) t.expansions.keys))

abbrev pub lets_load : Tables → List ℕ → List ℕ → List ℕ → Pair → Bool
lets_load t origin recipient label pair =
    t.only_set_up
    && ((is_declared_in t origin && is_declared_in t recipient)
    && (not (bytes_eq origin recipient)
    && (both_or_neither (bytes_eq label (codes "C")) (is_centre_in t origin || is_centre_in t recipient)
    && (not (list_any (same_two (odd_pair pair)) t.pairs.keys)
    && (not (list_any (same_ends (origin, recipient, label)) t.ends.keys)
    && (nat_lt (loads_in t origin) 64 && nat_lt (loads_in t recipient) 64))))))

abbrev pub lets_follow : Tables → Line → Bool
lets_follow t (line.Party name role pair v) = lets_declare t name
lets_follow t (line.Link origin recipient label pair) = lets_load t origin recipient label pair
lets_follow t l = option_map_or (is_declared_in t) (party_of l) true

-- ---- what one more line changes

pub record NotesParty (old new : Tables) (name : List ℕ) (role : Role) : Type 0 where
  pub parties : new.parties.entries ≡ insert_entry bytes_eq old.parties.entries name role
  pub expansions : new.expansions.keys ≡ insert_key same_two old.expansions.keys (expanded name)
  pub others : new ≡ record old { parties = new.parties; expansions = new.expansions }

pub record NotesLink (old new : Tables) (origin recipient label : List ℕ) (pair : Pair) : Type 0 where
  pub pairs : new.pairs.keys ≡ insert_key same_two old.pairs.keys (odd_pair pair)
  pub ends : new.ends.keys ≡ insert_key same_ends old.ends.keys (origin, recipient, label)
  pub loads : new.loads.entries ≡ insert_entry bytes_eq
      (insert_entry bytes_eq old.loads.entries origin (loads_in old origin + 1)) recipient (loads_in old recipient + 1)
  pub only_parties : new.only_parties ≡ false
  pub only_set_up : new.only_set_up ≡ old.only_set_up
  pub parties : new.parties.entries ≡ old.parties.entries
  pub expansions : new.expansions.keys ≡ old.expansions.keys

abbrev pub IsNoted : Tables → Tables → Line → Type 0
IsNoted old new (line.Party name role pair v) = NotesParty old new name role
IsNoted old new (line.Link origin recipient label pair) = NotesLink old new origin recipient label pair
IsNoted old new l = new ≡ record old { only_parties = false; only_set_up = false }

-- ---- the lines that they stand for

pub record Mirrors (t : Tables) (lines : List Line) : Type 0 where
  pub only_parties : t.only_parties ≡ list_all is_party lines
  pub only_set_up : t.only_set_up ≡ list_all is_party_or_link lines
  pub parties : t.parties.entries ≡ filter_map declared lines
  pub expansions : t.expansions.keys ≡ filter_map expansion lines
  pub pairs : t.pairs.keys ≡ filter_map loaded lines
  pub ends : t.ends.keys ≡ filter_map ends lines
  pub loads : (name : List ℕ) → loads_in t name ≡ count_by (is_end name) lines

-- the lines so far keep the rules, and the tables are theirs
pub record IsDraft (d : Draft) : Type 0 where
  pub tables : Mirrors d.tables d.lines.items
  pub rules : EachBehind may_follow d.lines.items
