-- What a row decides, by its verdict.
use Rattle.std.proofs.Common.{◌≡◌, Bool, true, false, cond, Option, Some, None, Result, Ok, Err, IfOk, List, [], option_map, refl, sym, ap, ◌∙◌}
use Rattle.x_base.specs.declared.text.NoMemory.{NoMemory}
use Rattle.x_base.specs.declared.verdict.Verdict.{Verdict}
use Rattle.x_base.specs.declared.verdict.Verdict.TheVariants.{Accept}
use Rattle.party_state.specs.declared.edit.Edit.{Edit}
use Rattle.party_state.specs.declared.decision.Decision.{Decision}
use Rattle.party_state.specs.State.{Party}
use Rattle.party_state.specs.Verdicts.{is_accept}
use Rattle.party_state.specs.Rows.{Row, Reply, refused}
use Rattle.role_base.specs.Texts.{text_of}
use Rattle.role_base.specs.Differing.{differing}
use Rattle.role_base.specs.Deciding.{name_of, decision_of, refusal_of, accepting}
use Rattle.role_base.specs.declared.texts.Written.{Written}
use Rattle.role_base.specs.Replies.{IsWritten, AreWritten}
use Rattle.role_base.specs.Errors.{answering}
use Rattle.role_base.proofs.Filtering.{differing_none}
use Rattle.role_base.proofs.Failing.{accept_is}

-- refused without an answer, whatever the verdict
pub by_refused : (p : Party) (v : Verdict) → refusal_of v ≡ decision_of p (refused v)
by_refused p v = go (is_accept v)
  where
    go : (b : Bool) → refusal_of v ≡ record { change = cond b (differing p []) []; reply = option_map text_of (cond b None None); under = name_of (cond b None None); verdict = v }
    go true = rw (differing_none p) refl
    go false = refl

-- accepted
pub by_accepted : (p : Party) (r : Row) (v : Verdict) → v ≡ r.verdict → is_accept v ≡ true → accepting p r.edits r.reply ≡ decision_of p r
by_accepted p r v i h =
    let a : is_accept r.verdict ≡ true = rw (← i) h in
    let e : r.verdict ≡ Accept = accept_is r.verdict a in
    rw a (ap (λ (w : Verdict). record { change = differing p r.edits; reply = option_map text_of r.reply; under = name_of r.reply; verdict = w }) (sym e))

-- refused, with the row's answer
pub by_answered : (p : Party) (r : Row) (v : Verdict) → v ≡ r.verdict → is_accept v ≡ false → answering v r.answer ≡ decision_of p r
by_answered p r v i h = let a : is_accept r.verdict ≡ false = rw (← i) h in rw a (ap (λ (w : Verdict). answering w r.answer) i)

-- the call that makes an accepted decision answers the row's, or want of memory
pub by_accept : (p : Party) (r : Row) (v : Verdict) (es : List Edit) (made : Result Decision NoMemory) → v ≡ r.verdict → is_accept v ≡ true → es ≡ r.edits → r.reply ≡ None → IfOk made (λ d. (s : Option Reply) → AreWritten None s → d ≡ accepting p es s) → IfOk made (λ d. d ≡ decision_of p r)
by_accept p r v es (Ok d) i h e n k = k None tt ∙ ap (λ (fs : List Edit). accepting p fs None) e ∙ ap (λ (s : Option Reply). accepting p r.edits s) (sym n) ∙ by_accepted p r v i h
by_accept p r v es (Err f) i h e n k = tt

pub by_accept_with : (p : Party) (r : Row) (v : Verdict) (es : List Edit) (w : Written) (reply : Reply) (made : Result Decision NoMemory) → v ≡ r.verdict → is_accept v ≡ true → es ≡ r.edits → r.reply ≡ Some reply → IsWritten w reply → IfOk made (λ d. (s : Option Reply) → AreWritten (Some w) s → d ≡ accepting p es s) → IfOk made (λ d. d ≡ decision_of p r)
by_accept_with p r v es w reply (Ok d) i h e n written k = k (Some reply) written ∙ ap (λ (fs : List Edit). accepting p fs (Some reply)) e ∙ ap (λ (s : Option Reply). accepting p r.edits s) (sym n) ∙ by_accepted p r v i h
by_accept_with p r v es w reply (Err f) i h e n written k = tt
