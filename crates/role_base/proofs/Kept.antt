-- The change of a row can be kept.
use Rattle.std.proofs.Common.{◌≡◌, ◌≤◌, Bool, true, false, cond, Result, Ok, Err, IfOk, [], length, refl, ◌∙◌, subst, lit≤}
use Rattle.x_base.specs.declared.text.NoMemory.{NoMemory}
use Rattle.party_state.specs.declared.decision.Decision.{Decision}
use Rattle.x_base.specs.declared.verdict.Verdict.{Verdict}
use Rattle.party_state.specs.State.{Party}
use Rattle.party_state.specs.Verdicts.{is_accept}
use Rattle.party_state.specs.Rows.{Row, refused}
use Rattle.role_base.specs.Differing.{differing}
use Rattle.role_base.specs.Deciding.{change_of, decision_of, refusal_of, IsDecision, Decides}
use Rattle.role_base.specs.Storable.{IsStorable, AreKeepable}
use Rattle.role_base.proofs.Storable.{storable}
use Rattle.role_base.proofs.Filtering.{differing_none}
use Rattle.role_base.proofs.ByRow.{by_refused}

-- no edits can be kept
pub nothing_stored : (p : Party) → IsStorable p []
nothing_stored p = subst (λ es. IsStorable p es) (differing_none p) (storable p [] (record { each = tt; order = refl }) (lit≤ tt))

-- the change of a row can be kept where its edits fit whenever it is accepted
pub row_kept : (p : Party) (r : Row) → (is_accept r.verdict ≡ true → AreKeepable p r.edits) → length r.edits ≤ 9 → IsStorable p (change_of p r)
row_kept p r keepable few = go (is_accept r.verdict) refl
  where
    go : (b : Bool) → is_accept r.verdict ≡ b → IsStorable p (cond b (differing p r.edits) [])
    go true e = storable p r.edits (keepable e) few
    go false e = nothing_stored p

-- a decision that is a row's
pub made_kept : (p : Party) (r : Row) (made : Result Decision NoMemory) → IsStorable p (change_of p r) → IfOk made (λ d. d ≡ decision_of p r) → Decides p r made
made_kept p r (Ok d) k e = record { is = e; kept = rw e k }
made_kept p r (Err f) k e = tt

-- a refusal changes nothing
pub refuses_row : (p : Party) (r : Row) (d : Decision) (v : Verdict) → d ≡ refusal_of v → refusal_of v ≡ decision_of p r → IsDecision p r d
refuses_row p r d v i e = record { is = i ∙ e; kept = rw i (nothing_stored p) }

pub is_refused : (p : Party) (v : Verdict) → IsDecision p (refused v) (refusal_of v)
is_refused p v = refuses_row p (refused v) (refusal_of v) v refl (by_refused p v)
