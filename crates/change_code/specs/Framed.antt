-- Edits, and the text of the frame in which they are kept (this project's profile).
use Rattle.std.specs.Prelude.{◌≡◌, ◌≢◌, ℕ, List, [], Option, Some, None}
use Rattle.key_journal.specs.Journal.{IsBody, frame_of}
use Rattle.party_state.specs.declared.edit.Edit.{Edit}
use Rattle.change_code.specs.declared.format.Format.{Format}
use Rattle.change_code.specs.declared.space.Space.{Space}
use Rattle.change_code.specs.Code.{code_of_change, IsCode}

-- edits, and the format in which they are kept
pub record FramedEdits : Type 0 where
  pub format : Format
  pub edits : List Edit

-- so much room for them
abbrev pub space_for : FramedEdits → ℕ → Space
space_for framed room = record { format = framed.format; room = room }

-- the edits are some, their code is a body, and the text is its frame
pub record IsFramed (format : Format) (edits : List Edit) (text : List ℕ) : Type 0 where
  pub some : edits ≢ []
  pub code : IsCode format (code_of_change format edits) edits
  pub body : IsBody (code_of_change format edits)
  pub is : text ≡ frame_of (code_of_change format edits)

-- edits with their frame, or none without one
abbrev pub AreFramed : Format → List Edit → Option (List ℕ) → Type 0
AreFramed format edits None = edits ≡ []
AreFramed format edits (Some text) = IsFramed format edits text
