-- Edits that are done as their codes are read (this project's profile).
use Rattle.std.specs.Prelude.{◌≡◌, ℕ, Bool, true, false, Option, Some, None, List, ◌∷◌}
use Rattle.x_base.specs.declared.party.Role.{Role}
use Rattle.x_gen.specs.declared.generator.Gen.{Gen}
use Rattle.party_state.specs.declared.edit.Edit.{Edit}
use Rattle.party_state.specs.declared.edit.Edit.TheVariants.{Begin}
use Rattle.party_state.specs.Ranges.{IsNoBegin}
use Rattle.party_state.specs.Limits.{IsWithinLimits, GoOn}
use Rattle.party_state.specs.State.{Party, begun, apply, apply_edit}
use Rattle.change_code.specs.declared.format.Format.{Format}
use Rattle.change_code.specs.Code.{IsCode, change_text}
use Rattle.change_code.specs.Reading.{StartsWith, edit_form, edits_form, change_form}

-- the body is the code in this format of a change that begins a party and goes on to this one
pub record IsFirst (format : Format) (body : List ℕ) (party : Party) : Type 0 where
  pub own : List ℕ
  pub role : Role
  pub generator : Gen
  pub edits : List Edit
  pub code : IsCode format body (Begin own role generator ∷ edits)
  pub go_on : GoOn edits (begun own role generator)
  pub after : party ≡ apply edits (begun own role generator)

-- the body is a step from one party to the next: the code in this format of a change that goes on from it
pub record IsStep (format : Format) (body : List ℕ) (old new : Party) : Type 0 where
  pub edits : List Edit
  pub code : IsCode format body edits
  pub go_on : GoOn edits old
  pub after : new ≡ apply edits old

-- the bytes begin with the code of an edit that begins no party and passes no limit; it makes the new party of the old one
pub record IsEditDone (bytes rest : List ℕ) (old new : Party) : Type 0 where
  pub edit : Edit
  pub begins : StartsWith edit_form bytes rest edit
  pub goes_on : IsNoBegin edit
  pub within : IsWithinLimits (apply_edit edit old)
  pub after : new ≡ apply_edit edit old

-- the bytes begin with the code of no such edit
pub record LacksEdit (bytes : List ℕ) (old : Party) : Type 0 where
  pub none : (edit : Edit) (rest : List ℕ) → StartsWith edit_form bytes rest edit → IsNoBegin edit → IsWithinLimits (apply_edit edit old) → ⊥

-- which of the two it is
abbrev pub IsEditFollowed : List ℕ → List ℕ → Party → Party → Bool → Type 0
IsEditFollowed bytes rest old new true = IsEditDone bytes rest old new
IsEditFollowed bytes rest old new false = LacksEdit bytes old

-- the bytes begin with the code of so many edits that go on from the old party; they make the new one of it
pub record AreEditsDone (n : ℕ) (bytes rest : List ℕ) (old new : Party) : Type 0 where
  pub edits : List Edit
  pub begins : StartsWith (edits_form n) bytes rest edits
  pub go_on : GoOn edits old
  pub after : new ≡ apply edits old

-- the bytes begin with the code of no such edits
pub record LacksEdits (n : ℕ) (bytes : List ℕ) (old : Party) : Type 0 where
  pub none : (edits : List Edit) (rest : List ℕ) → StartsWith (edits_form n) bytes rest edits → GoOn edits old → ⊥

-- which of the two it is
abbrev pub AreEditsFollowed : ℕ → List ℕ → List ℕ → Party → Party → Bool → Type 0
AreEditsFollowed n bytes rest old new true = AreEditsDone n bytes rest old new
AreEditsFollowed n bytes rest old new false = LacksEdits n bytes old

-- the text is that of a change that goes on from the old party; it makes the new one of it
pub record IsChangeDone (text : List ℕ) (old new : Party) : Type 0 where
  pub edits : List Edit
  pub fits : change_form.Fits edits
  pub is : text ≡ change_text edits
  pub go_on : GoOn edits old
  pub after : new ≡ apply edits old

-- the text is that of no such change
pub record IsNoChange (text : List ℕ) (old : Party) : Type 0 where
  pub none : (edits : List Edit) → change_form.Fits edits → text ≡ change_text edits → GoOn edits old → ⊥

-- which of the two it is
abbrev pub IsChangeFollowed : List ℕ → Party → Party → Bool → Type 0
IsChangeFollowed text old new true = IsChangeDone text old new
IsChangeFollowed text old new false = IsNoChange text old

-- the bytes begin with the code of an edit that begins this party
pub record IsBeginDone (bytes rest : List ℕ) (party : Party) : Type 0 where
  pub own : List ℕ
  pub role : Role
  pub generator : Gen
  pub begins : StartsWith edit_form bytes rest (Begin own role generator)
  pub is : party ≡ begun own role generator

-- the bytes begin with the code of no edit that begins a party
pub record LacksBegin (bytes : List ℕ) : Type 0 where
  pub none : (own : List ℕ) (role : Role) (generator : Gen) (rest : List ℕ) → StartsWith edit_form bytes rest (Begin own role generator) → ⊥

-- which of the two it is
abbrev pub IsBeginRead : List ℕ → List ℕ → Option Party → Type 0
IsBeginRead bytes rest (Some party) = IsBeginDone bytes rest party
IsBeginRead bytes rest None = LacksBegin bytes

-- the text is that of a change that begins a party and goes on to this one
pub record IsFirstText (text : List ℕ) (party : Party) : Type 0 where
  pub own : List ℕ
  pub role : Role
  pub generator : Gen
  pub edits : List Edit
  pub fits : change_form.Fits (Begin own role generator ∷ edits)
  pub is : text ≡ change_text (Begin own role generator ∷ edits)
  pub go_on : GoOn edits (begun own role generator)
  pub after : party ≡ apply edits (begun own role generator)

-- the text is that of no such change
pub record IsNoFirstText (text : List ℕ) : Type 0 where
  pub none : (own : List ℕ) (role : Role) (generator : Gen) (edits : List Edit) → change_form.Fits (Begin own role generator ∷ edits) → text ≡ change_text (Begin own role generator ∷ edits)
      → GoOn edits (begun own role generator) → ⊥

-- which of the two it is
abbrev pub IsFirstRead : List ℕ → Option Party → Type 0
IsFirstRead text (Some party) = IsFirstText text party
IsFirstRead text None = IsNoFirstText text
