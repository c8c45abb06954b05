-- The notice of a message that a party accepts (this project's profile).
use Rattle.std.specs.Prelude.{◌≡◌, ◌++◌, ◌∷◌, ℕ, List, [], Option, Some, None, codes}
use Rattle.std.specs.List.{flat_map}
use Rattle.x_base.specs.KeyName.{written}
use Rattle.x_disk.specs.Disk.{View}
use Rattle.csm_grammar.specs.declared.arrival.Arrival.{Arrival}
use Rattle.csm_grammar.specs.declared.message.Message.{Message}
use Rattle.csm_grammar.specs.declared.message.Message.TheVariants as message
use Rattle.party_state.specs.declared.command.Input.{Input}
use Rattle.party_state.specs.declared.command.Input.TheVariants.{Arrived}
use Rattle.party_state.specs.declared.edit.Edit.{Edit}
use Rattle.party_state.specs.declared.edit.Edit.TheVariants.{PutKey}
use Rattle.party_state.specs.State.{Party}
use Rattle.party_show.specs.Show.{status_word}
use Rattle.key_store.specs.Store.{Stands}
use Rattle.member.specs.Deciding.{decision}
use Rattle.x_party.specs.declared.outcome.Outcome.{Outcome}
use Rattle.x_party.specs.declared.outcome.Outcome.TheVariants as outcome

abbrev pub class_word : Message → List ℕ
class_word (message.Rsi m) = codes "RSI"
class_word (message.Rfs m) = codes "RFS"
class_word (message.Rtr m) = codes "RTR"
class_word (message.Ksm m) = codes "KSM"
class_word (message.Rsm m) = codes "RSM"
class_word (message.Ers m) = codes "ERS"
class_word (message.Esm m) = codes "ESM"
class_word (message.Dsm m) = codes "DSM"

-- of a data key whose record is put: its name and its status, each behind a blank
abbrev pub key_words : Edit → List ℕ
key_words (PutKey key) = 32 ∷ (written key.name ++ (32 ∷ status_word key.status))
key_words other = []

-- the line: the class of the message, and each data key whose record its change puts
abbrev pub notice_of : List ℕ → List Edit → List ℕ
notice_of class edits = codes "x917: accepted " ++ (class ++ (flat_map key_words edits ++ codes "\n"))

-- a notice is kept where the turn is done
abbrev pub kept_notice : Outcome → Option (List ℕ) → Option (List ℕ)
kept_notice (outcome.Done reply) notice = notice
kept_notice o notice = None

-- the notice of an input at the party for which the image stands
abbrev pub FindsNotice : View → Input → List ℕ → ℕ → Option (List ℕ) → Type 0
FindsNotice old i class moment notice = (image : List ℕ) (party : Party) → old.now ≡ Some image → Stands image party → notice ≡ Some (notice_of class (decision party i moment).change)

-- where the turn is done, the notice of what the party that stood there decided of the message; otherwise none
abbrev pub HasNotice : View → Arrival → ℕ → Outcome → Option (List ℕ) → Type 0
HasNotice old a moment (outcome.Done reply) notice = (image : List ℕ) (party : Party) → old.now ≡ Some image → Stands image party
    → notice ≡ Some (notice_of (class_word a.parsed.message) (decision party (Arrived a) moment).change)
HasNotice old a moment o notice = notice ≡ None
