-- Bytes that are no change of a plan.
use Rattle.std.proofs.Common.{◌≡◌, inl, inr, ℕ, List, [], sym, subst}
use Rattle.party_state.specs.declared.edit.Edit.{Edit}
use Rattle.party_state.specs.Ranges.{HasNoBegin}
use Rattle.change_code.specs.declared.format.Format.{Format}
use Rattle.change_code.specs.declared.format.Format.TheVariants.{Two}
use Rattle.change_code.specs.Code.{IsCode, IsNoCode}
use Rattle.spool_store.specs.Plans.{IsChange}

abbrev pub OneChange : Type 0
OneChange = (format other : Format) (bytes : List ℕ) (first second : List Edit) → IsCode format bytes first → IsCode other bytes second → (format ≡ other) × (first ≡ second)

pub never_begins : (code : List ℕ) (edits : List Edit) → OneChange → (code ≡ [] → ⊥) → IsCode Two code edits → (HasNoBegin edits → ⊥) → IsChange code → ⊥
never_begins code edits one some is begins (inl none) = some none
never_begins code edits one some is begins (inr (other, other_is, go)) = begins (subst HasNoBegin (sym (one Two Two code edits other is other_is).1) go)

pub never_coded : (code : List ℕ) → (code ≡ [] → ⊥) → IsNoCode code → IsChange code → ⊥
never_coded code some bad (inl none) = some none
never_coded code some bad (inr (edits, is, go)) = bad Two edits is
