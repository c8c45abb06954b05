-- A store with edits that it is about to keep (this project's profile).
use Rattle.std.specs.Prelude.{◌≡◌, ℕ, true, List, Option}
use Rattle.x_disk.specs.Disk.{View}
use Rattle.party_state.specs.State.{Party}
use Rattle.party_state.specs.declared.edit.Edit.{Edit}
use Rattle.change_code.specs.declared.format.Format.{Format}
use Rattle.change_code.specs.Cost.{fits}
use Rattle.change_code.specs.Framed.{AreFramed}
use Rattle.party_state.specs.Limits.{GoOn}
use Rattle.key_store.specs.Store.{Stored, IsStore, space_between}

-- a store, and the edits that it will keep
pub record ChangingStore (D : Type 0) : Type 0 where
  pub store : Stored D
  pub edits : List Edit

-- every one: the store stands, and the edits go on from its party, fit, and are framed in its format
pub record IsChanging (v : View) (gate end : ℕ) (format : Format) (party : Party) (edits : List Edit) (frame : Option (List ℕ)) : Type 0 where
  pub store : IsStore v gate end format party
  pub go_on : GoOn edits party
  pub fits : fits (space_between gate end format) edits ≡ true
  pub framed : AreFramed format edits frame
