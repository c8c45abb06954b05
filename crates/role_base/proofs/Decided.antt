-- A decision that was made of edits and a reply is that of its row, and its change can be kept.
use Rattle.std.proofs.Common.{◌≡◌, ◌≤◌, true, false, cond, Option, Some, None, List, ◌++◌, length, Result, Ok, Err, ◌∙◌, refl, ap, sym, subst}
use Rattle.std.specs.Prelude.{IfOk}
use Rattle.x_base.specs.declared.text.NoMemory.{NoMemory}
use Rattle.x_base.specs.declared.verdict.Verdict.{Verdict}
use Rattle.party_state.specs.declared.edit.Edit.{Edit}
use Rattle.party_state.specs.declared.decision.Decision.{Decision}
use Rattle.party_state.specs.declared.decision.Lead.{Lead}
use Rattle.party_state.specs.State.{Party}
use Rattle.party_state.specs.Verdicts.{Test, verdict_of, is_accept, tests_pass, all_refuse}
use Rattle.party_state.specs.Rows.{Row, Reply}
use Rattle.role_base.specs.declared.texts.Written.{Written}
use Rattle.role_base.specs.Deciding.{decision_of, accepting, refusal_of, IsDecision, Decides, AcceptsWith, RefusesEarly}
use Rattle.role_base.specs.Errors.{answering}
use Rattle.role_base.specs.Replies.{AreWritten}
use Rattle.role_base.specs.Storable.{AreKeepable}
use Rattle.role_base.proofs.Failing.{fails_early, refuses_early}
use Rattle.role_base.proofs.ByRow.{by_accepted, by_answered}
use Rattle.role_base.proofs.Storable.{storable}
use Rattle.role_base.proofs.Kept.{refuses_row}
use Rattle.role_base.proofs.Given.{given_none}

-- these edits and this reply were accepted
abbrev pub Accepts : Result Decision NoMemory → Party → List Edit → Option Written → Type 0
Accepts result p es w = IfOk result (λ d. (r : Option Reply) → AreWritten w r → d ≡ accepting p es r)

pub accepts : (result : Result Decision NoMemory) (p : Party) (es fs : List Edit) (w : Option Written) (r : Option Reply) → Accepts result p es w → es ≡ fs → AreWritten w r → IfOk result (λ d. d ≡ accepting p fs r)
accepts (Ok d) p es fs w r h e a = h r a ∙ ap (λ (xs : List Edit). accepting p xs r) e
accepts (Err x) p es fs w r h e a = _

-- and the store can keep the change
pub accepts_with : (result : Result Decision NoMemory) (p : Party) (es fs : List Edit) (w : Option Written) (r : Option Reply) → Accepts result p es w → es ≡ fs → AreWritten w r → AreKeepable p fs → length fs ≤ 9 → AcceptsWith p fs r result
accepts_with (Ok d) p es fs w r h e a t few = let i : d ≡ accepting p fs r = h r a ∙ ap (λ (xs : List Edit). accepting p xs r) e in record { is = i; kept = rw i (storable p fs t few) }
accepts_with (Err x) p es fs w r h e a t few = _

-- a decision that is known to be accepted is that of its row
pub decides_row : (result : Result Decision NoMemory) (p : Party) (row : Row) (v : Verdict) → IfOk result (λ d. d ≡ accepting p row.edits row.reply) → v ≡ row.verdict → is_accept v ≡ true → IfOk result (λ d. d ≡ decision_of p row)
decides_row (Ok d) p row v h i t = h ∙ by_accepted p row v i t
decides_row (Err x) p row v h i t = _

-- with a change that the store can keep
pub decides_with : (result : Result Decision NoMemory) (p : Party) (row : Row) (v : Verdict) → AcceptsWith p row.edits row.reply result → v ≡ row.verdict → is_accept v ≡ true → Decides p row result
decides_with (Ok d) p row v h i t = record { is = h.is ∙ by_accepted p row v i t; kept = h.kept }
decides_with (Err x) p row v h i t = _

pub decides : (result : Result Decision NoMemory) (p : Party) (es : List Edit) (w : Option Written) (row : Row) → Accepts result p es w → es ≡ row.edits → AreWritten w row.reply → is_accept row.verdict ≡ true → AreKeepable p row.edits → length row.edits ≤ 9 → Decides p row result
decides result p es w row h e a t keepable few = decides_with result p row row.verdict (accepts_with result p es row.edits w row.reply h e a keepable few) refl t

-- a row that is refused and not answered
pub refuses : (p : Party) (row : Row) (v : Verdict) → v ≡ row.verdict → is_accept v ≡ false → row.answer ≡ None → refusal_of v ≡ decision_of p row
refuses p row v i t n = let m : None ≡ row.answer = sym n in ap (λ (a : Option Reply). answering v a) m ∙ by_answered p row v i t

-- a row that is refused before its code is looked at
pub refuses_before : (p : Party) (tests_before_code : List Test) (d : Decision) (v : Verdict) → d ≡ refusal_of v → all_refuse tests_before_code ≡ true → tests_pass tests_before_code ≡ false → v ≡ verdict_of tests_before_code → (r : Row) (tests_after_code : List Test) → r.verdict ≡ verdict_of (tests_before_code ++ tests_after_code) → r.answer ≡ None → IsDecision p r d
refuses_before p tests_before_code d v j a f i r tests_after_code e n = refuses_row p r d v j (refuses p r v (i ∙ sym (fails_early tests_before_code tests_after_code f) ∙ sym e) (ap is_accept i ∙ refuses_early tests_before_code a f) n)

-- one for which no key to test the code under was found, though what it would stand under was
pub decided_early : (p : Party) (tests_before_code ts tests_after_code : List Test) (d : Decision) (r : Row) (x : Lead) (o : Option Lead) → RefusesEarly ts d → ts ≡ tests_before_code → all_refuse tests_before_code ≡ true → o ≡ cond (tests_pass tests_before_code) (Some x) None → o ≡ None → r.verdict ≡ verdict_of (tests_before_code ++ tests_after_code) → r.answer ≡ None → IsDecision p r d
decided_early p tests_before_code ts tests_after_code d r x o e f all h n v a = let g : RefusesEarly tests_before_code d = subst (λ us. RefusesEarly us d) f e in g p r tests_after_code all (given_none (tests_pass tests_before_code) x o h n) v a
