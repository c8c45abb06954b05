-- What it costs to keep a change, and the room that is left (this project's profile).
use Rattle.std.specs.Prelude.{ℕ, ◌+◌, ◌-◌, nat_le, Bool, true, false, ◌&&◌, List, [], ◌∷◌, length}
use Rattle.key_journal.specs.Layout.{area_size, largest_body}
use Rattle.party_state.specs.declared.edit.Edit.{Edit}
use Rattle.party_state.specs.State.{Party}
use Rattle.change_code.specs.declared.format.Format.{Format}
use Rattle.change_code.specs.declared.space.Space.{Space}
use Rattle.change_code.specs.Code.{most_edits, code_of_change}
use Rattle.change_code.specs.Whole.{whole_edits, whole_of}

-- something changes
abbrev pub is_change : List Edit → Bool
is_change [] = false
is_change (e ∷ es) = true

-- how many bytes of an area a change takes: its gate, the length of its code in four bytes, and the code; none where
-- nothing changes
abbrev pub cost : Format → List Edit → ℕ
cost format [] = 0
cost format (e ∷ es) = length (code_of_change format (e ∷ es)) + 5

-- a change fits into a space where a gate is left behind it; none always does
abbrev pub fits : Space → List Edit → Bool
fits space [] = true
fits space (e ∷ es) = nat_le (cost space.format (e ∷ es) + 1) space.room

-- the space that a change leaves
abbrev pub space_after : Space → List Edit → Space
space_after space es = record { format = space.format; room = space.room - cost space.format es }

-- the space of an area in which nothing is kept yet
abbrev pub whole_area : Format → Space
whole_area format = record { format = format; room = area_size }

-- the whole party can be kept as one change
abbrev pub can_compact : Format → Party → Bool
can_compact format p = nat_le (length (whole_edits p)) most_edits && nat_le (length (whole_of format p)) largest_body

-- the space of an area in which it is kept so
abbrev pub space_of_whole : Format → Party → Space
space_of_whole format p = space_after (whole_area format) (whole_edits p)
