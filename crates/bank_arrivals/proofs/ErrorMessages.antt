-- What is decided of an error message, by what it speaks of.
use Rattle.std.proofs.Common.{◌≡◌, true, false, Option, None, Result, IfOk, List, [], refl}
use Rattle.x_base.specs.declared.text.NoMemory.{NoMemory}
use Rattle.x_base.specs.declared.verdict.Verdict.{Verdict}
use Rattle.csm_grammar.specs.declared.arrival.Arrival.{Arrival}
use Rattle.party_state.specs.declared.edit.Edit.{Edit}
use Rattle.party_state.specs.declared.decision.Decision.{Decision}
use Rattle.party_state.specs.State.{Party}
use Rattle.party_state.specs.Verdicts.{verdict_of, is_accept}
use Rattle.party_state.specs.Rows.{Row, Reply}
use Rattle.role_base.specs.Deciding.{decision_of, refusal_of, accepting}
use Rattle.role_base.specs.Replies.{AreWritten}
use Rattle.role_base.proofs.ByRow.{by_answered, by_accept}
use Rattle.csm_grammar.specs.declared.message.Esm.{Esm}
use Rattle.bank_arrivals.specs.declared.error_message.ErrorSubject.{ErrorSubject}
use Rattle.bank_arrivals.specs.AskingAgain.{retry_of}
use Rattle.bank_arrivals.specs.Esm.{error_row, plain_tests, plain_esm}

-- the row of the message, by what it speaks of
abbrev row_of : Party → Arrival → Esm → ErrorSubject → Row
row_of p a m s = error_row p a m s (retry_of p s m.ctr)

pub plain_refuses : (p : Party) (a : Arrival) (m : Esm) (v : Verdict) → v ≡ verdict_of (plain_tests p a m) → is_accept v ≡ false → refusal_of v ≡ decision_of p (plain_esm p a m)
plain_refuses p a m v e f = by_answered p (plain_esm p a m) v e f

pub plain_accepts : (p : Party) (a : Arrival) (m : Esm) (v : Verdict) (es : List Edit) (made : Result Decision NoMemory) → v ≡ verdict_of (plain_tests p a m) → is_accept v ≡ true → es ≡ [] → IfOk made (λ d. (r : Option Reply) → AreWritten None r → d ≡ accepting p es r) → IfOk made (λ d. d ≡ decision_of p (plain_esm p a m))
plain_accepts p a m v es made e t j k = by_accept p (plain_esm p a m) v es made e t j refl k
