use Rattle.std.proofs.Common.{◌≡◌, Bool, true, false, Option, IfOk, ap, sym, subst, ◌∙◌}
use Rattle.party_state.specs.Rows.{Row}
use Rattle.role_base.specs.Deciding.{decision_of}
use Rattle.role_base.specs.Texts.{is_plain}
use Rattle.bank_arrivals.specs.declared.error_message.ErrorSubject.{ErrorSubject}
use Rattle.bank_arrivals.specs.AskingAgain.{retry_in}
use Rattle.bank_arrivals.specs.Esm.{subject_with, plain_esm, error_of, error_with, error}
use Rattle.bank_arrivals.proofs.AskingShort.{is_heard}
use Rattle.bank_arrivals.proofs.ErrorsKept.{esm_kept}
use Rattle.bank_arrivals.proofs.error_message.esm.Goals as goal

pub returns-then-is_plain : goal.returns-then-is_plain
returns-then-is_plain c =
    let p = c.args.state.now in
    let a = c.args.arrival.now in
    let m = c.args.message.now in
    let plain : is_plain a.parsed.shut ≡ true = sym c.is_plain.ensures ∙ c.if-is_plain.true in
    let row : plain_esm p a m ≡ error p a m = ap (λ (b : Bool). error_with p a m b (retry_in p (subject_with p m.originator) m.ctr)) (sym plain) in
    esm_kept c.law_found.ensures.link c.law_found.ensures.key c.law_found_in_range.ensures.link c.law_found_in_range.ensures.exchange c.law_canon_short.ensures p a m c.plain_esm.result c.law_party.ensures (is_heard a m (c.law_arrived.ensures a) c.requires.message) c.named_count.ensures
    (subst (λ (r : Row). IfOk c.plain_esm.result (λ d. d ≡ decision_of p r)) row c.plain_esm.ensures)

pub returns : goal.returns
returns c =
    let p = c.args.state.now in
    let a = c.args.arrival.now in
    let m = c.args.message.now in
    let coded : is_plain a.parsed.shut ≡ false = sym c.is_plain.ensures ∙ c.if-is_plain.false in
    let row : error_of p a m c.subject_with-found.result (retry_in p c.subject_with-found.result m.ctr) ≡ error p a m =
    ap (λ (o : Option ErrorSubject). error_of p a m o (retry_in p o m.ctr)) c.subject_with-found.ensures ∙ ap (λ (b : Bool). error_with p a m b (retry_in p (subject_with p m.originator) m.ctr)) (sym coded) in
    esm_kept c.law_found.ensures.link c.law_found.ensures.key c.law_found_in_range.ensures.link c.law_found_in_range.ensures.exchange c.law_canon_short.ensures p a m c.esm_about.result c.law_party.ensures (is_heard a m (c.law_arrived.ensures a) c.requires.message) c.named_count.ensures
    (subst (λ (r : Row). IfOk c.esm_about.result (λ d. d ≡ decision_of p r)) row c.esm_about.ensures)
