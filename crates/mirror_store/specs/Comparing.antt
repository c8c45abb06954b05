-- Which of two states of a party has gone on further, told by their links (this project's profile).
use Rattle.std.specs.Prelude.{◌≡◌, ◌≢◌, suc, nat_le, Bool, true, false, Option, Some, None}
use Rattle.std.specs.List.{list_any}
use Rattle.party_tables.specs.declared.link.LinkRec.{LinkRec}
use Rattle.party_tables.specs.Keys.{link_key}
use Rattle.party_state.specs.State.{Party, link_with}
use Rattle.mirror_store.specs.declared.comparing.Comparison.{Comparison}
use Rattle.mirror_store.specs.declared.comparing.Comparison.TheVariants.{Same, FirstAhead, SecondAhead, Neither}

-- there is no such link, or its next count is below this one's
abbrev pub is_below : Option LinkRec → LinkRec → Bool
is_below None l = true
is_below (Some own) l = nat_le (suc own.next) l.next

-- the link, where there is one, is lacking here, or has a higher next count than here
abbrev pub is_lacking : Party → Option LinkRec → Bool
is_lacking party None = false
is_lacking party (Some l) = is_below (link_with (link_key l) party) l

-- a link of the other is lacking here, or has a higher next count there
abbrev pub lacks : Party → Party → Bool
lacks party other = list_any (λ (l : LinkRec). is_below (link_with (link_key l) party) l) other.links

-- the one has gone on further: the other lacks what it has, and it lacks nothing that the other has
pub record IsAhead (party other : Party) : Type 0 where
  pub more : lacks other party ≡ true
  pub no_less : lacks party other ≡ false

-- they differ, and neither lacks what the other has, or each does
pub record AreApart (first second : Party) : Type 0 where
  pub differ : first ≢ second
  pub alike : lacks first second ≡ lacks second first

-- what is told of two states
abbrev pub IsComparison : Party → Party → Comparison → Type 0
IsComparison first second Same = first ≡ second
IsComparison first second FirstAhead = IsAhead first second
IsComparison first second SecondAhead = IsAhead second first
IsComparison first second Neither = AreApart first second
