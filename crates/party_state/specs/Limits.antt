-- How much a party holds (this project's profile).
use Rattle.std.specs.Prelude.{ℕ, ◌≤◌, List, [], ◌∷◌, length}
use Rattle.party_state.specs.declared.edit.Edit.{Edit}
use Rattle.party_state.specs.State.{Party, apply_edit}
use Rattle.party_state.specs.Ranges.{HasNoBegin}

abbrev pub most_links : ℕ
most_links = 64

abbrev pub most_keys : ℕ
most_keys = 1024

-- at most so many links and key records
pub record IsWithinLimits (p : Party) : Type 0 where
  pub links : length p.links ≤ most_links
  pub keys : length p.keys ≤ most_keys

-- the limits hold after each edit
abbrev pub StaysWithinLimits : List Edit → Party → Type 0
StaysWithinLimits [] p = Unit {0}
StaysWithinLimits (e ∷ es) p = IsWithinLimits (apply_edit e p) × StaysWithinLimits es (apply_edit e p)

-- the edits go on from this party: none begins another, and after none a limit is passed
pub record GoOn (edits : List Edit) (party : Party) : Type 0 where
  pub goes_on : HasNoBegin edits
  pub within : StaysWithinLimits edits party
