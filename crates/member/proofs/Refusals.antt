-- A decision that refuses has no edits.
use Rattle.std.proofs.Common.{◌≡◌, ℕ, Bool, true, false, cond, List, [], refl}
use Rattle.party_state.specs.declared.command.Input.{Input}
use Rattle.party_state.specs.declared.edit.Edit.{Edit}
use Rattle.party_state.specs.State.{Party}
use Rattle.party_state.specs.Verdicts.{is_accept}
use Rattle.role_base.specs.Differing.{differing}
use Rattle.member.specs.Deciding.{decision}
use Rattle.member.specs.Rows.{row_at}

none_chosen : (b : Bool) (edits : List Edit) → b ≡ false → cond b edits [] ≡ []
none_chosen true edits is = absurd (cc is)
none_chosen false edits is = refl

pub refusal_without_edits : (p : Party) (i : Input) (moment : ℕ) → is_accept (decision p i moment).verdict ≡ false → (decision p i moment).change ≡ []
unfolding decision
refusal_without_edits p i moment is = none_chosen (is_accept (row_at p i moment).verdict) (differing p (row_at p i moment).edits) is
