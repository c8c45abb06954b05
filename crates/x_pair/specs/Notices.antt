-- The notice of a message that a party on two disks accepts (this project's profile). `first` and `second` are what the shelf tells of
-- the two disks before.
use Rattle.std.specs.Prelude.{◌≡◌, ℕ, List, Option, Some, None}
use Rattle.x_disk.specs.Disk.{View}
use Rattle.csm_grammar.specs.declared.arrival.Arrival.{Arrival}
use Rattle.party_state.specs.declared.command.Input.TheVariants.{Arrived}
use Rattle.party_state.specs.declared.edit.Edit.{Edit}
use Rattle.party_state.specs.State.{Party}
use Rattle.member.specs.Deciding.{decision}
use Rattle.mirror_store.specs.Pairs.{Recovers}
use Rattle.mirror_store.specs.Opening.{AreRead}
use Rattle.x_party.specs.Notices.{class_word, notice_of}
use Rattle.x_party.specs.declared.outcome.Outcome.{Outcome}
use Rattle.x_party.specs.declared.outcome.Outcome.TheVariants as outcome

-- the notice of edits, where the word of a class is given
abbrev pub notice_for : Option (List ℕ) → List Edit → Option (List ℕ)
notice_for (Some class) edits = Some (notice_of class edits)
notice_for None edits = None

-- where the turn is done, the notice of what the party that is opened of the two disks decided of the message; otherwise none
abbrev pub HasPairNotice : View → View → Arrival → ℕ → Outcome → Option (List ℕ) → Type 0
HasPairNotice first second a moment (outcome.Done reply) notice = (i j : List ℕ) (party : Party) → AreRead first second i j → Recovers i j party
    → notice ≡ Some (notice_of (class_word a.parsed.message) (decision party (Arrived a) moment).change)
HasPairNotice first second a moment o notice = notice ≡ None
