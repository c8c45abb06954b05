-- What is decided of a key service message under a link.
use Rattle.std.proofs.Common.{◌≡◌, ◌&&◌, Bool, true, false, cond, Option, Some, None, Result, Ok, Err, IfOk, List, [], ◌∷◌, ◌++◌, refl, sym, ap, subst, ◌∙◌}
use Rattle.x_base.specs.declared.text.NoMemory.{NoMemory}
use Rattle.x_base.specs.declared.verdict.Verdict.{Verdict}
use Rattle.x_base.specs.declared.verdict.Verdict.TheVariants.{NotForMe, UnknownPeer, BadMac, KeysFull}
use Rattle.csm_grammar.specs.declared.arrival.Arrival.{Arrival}
use Rattle.csm_grammar.specs.declared.message.Ksm.{Ksm}
use Rattle.csm_grammar.specs.declared.message.KsmBody.{KsmBody}
use Rattle.party_tables.specs.declared.link.LinkRec.{LinkRec}
use Rattle.party_tables.specs.declared.key.KeyRec.{KeyRec}
use Rattle.party_state.specs.declared.edit.Edit.TheVariants.{PutLink, PutKey}
use Rattle.party_tables.specs.Keys.{record_key}
use Rattle.party_state.specs.declared.edit.Edit.{Edit}
use Rattle.party_state.specs.declared.decision.Decision.{Decision}
use Rattle.party_state.specs.declared.decision.Lead.{Lead}
use Rattle.party_state.specs.State.{Party, knows}
use Rattle.party_state.specs.Verdicts.{Test, verdict_of, tests_pass, is_accept}
use Rattle.party_state.specs.Rows.{Reply, Coded}
use Rattle.role_base.specs.declared.errors.ErrorCounts.{ErrorCounts}
use Rattle.role_base.specs.Deciding.{decision_of, accepting}
use Rattle.role_base.specs.Errors.{answering, coded_under, error_for}
use Rattle.role_base.specs.Replies.{AreWritten, IsWritten}
use Rattle.role_base.specs.declared.texts.Written.{Written}
use Rattle.role_base.proofs.ByRow.{by_answered, by_accept_with}
use Rattle.role_base.specs.Conditions.{is_for, body_issuer, count_tests}
use Rattle.role_base.proofs.Given.{given_is}
use Rattle.bank_keys.specs.Ksm.{response, body_count, body_next, body_counts, body_name, body_code, body_taken, body_record, body_second, have_room, link_tests, link_edits, second_edits, body_front, body_rest, body_edits, key_row, key_found, key_lead_with}

verdict_is : (p : Party) (a : Arrival) (m : Ksm) (b : KsmBody) (l : LinkRec) (x : Lead) (v : Verdict) → v ≡ verdict_of (body_front p m b (Some l) ++ (x.verified, BadMac) ∷ body_rest p m b l) → x ≡ key_found p a m b l → v ≡ (key_row p a m b (Some l)).verdict
verdict_is p a m b l x v e i = e ∙ ap (λ (y : Lead). verdict_of (body_front p m b (Some l) ++ (y.verified, BadMac) ∷ body_rest p m b l)) i

-- the tests before the code's hold where a lead is there
pub key_passed : (p : Party) (a : Arrival) (m : Ksm) (b : KsmBody) (l : LinkRec) (o : Option LinkRec) (x : Option Lead) (y : Lead) → o ≡ Some l → x ≡ key_lead_with p a m b o → x ≡ Some y → tests_pass (body_front p m b (Some l)) ≡ true
key_passed p a m b l o x y f h i = by_test (tests_pass (body_front p m b (Some l))) (key_found p a m b l) x (h ∙ ap (λ (k : Option LinkRec). key_lead_with p a m b k) f) i
  where
    by_test : (t : Bool) (z : Lead) (o : Option Lead) → o ≡ cond t (Some z) None → o ≡ Some y → t ≡ true
    by_test true z o e j = refl
    by_test false z o e j = absurd (cc)

-- where they hold, the others give the verdict
front_verdict : (p : Party) (m : Ksm) (b : KsmBody) (l : LinkRec) (ts : List Test) → tests_pass (body_front p m b (Some l)) ≡ true → verdict_of (body_front p m b (Some l) ++ ts) ≡ verdict_of ts
front_verdict p m b l ts h = go (is_for p m.receiver m.originator) (knows (body_issuer m.originator b) p) h
  where
    go : (x k : Bool) → (x && (k && true)) ≡ true → cond x (cond k (verdict_of ts) UnknownPeer) NotForMe ≡ verdict_of ts
    go true true e = refl
    go true false e = absurd (cc)
    go false k e = absurd (cc)

-- the verdict, with what was found of the keys that come
pub key_verdict : (p : Party) (m : Ksm) (b : KsmBody) (l : LinkRec) (taken : Option LinkRec) (first : KeyRec) (second : Option KeyRec) (room code : Bool) (v : Verdict) → taken ≡ body_taken m.originator l b → first ≡ body_record p m b l → second ≡ body_second p m b l → room ≡ have_room p (record_key first) second
    → tests_pass (body_front p m b (Some l)) ≡ true → v ≡ verdict_of ((code, BadMac) ∷ (count_tests l (body_count b) ++ (link_tests p taken ++ (room, KeysFull) ∷ []))) → v ≡ verdict_of (body_front p m b (Some l) ++ (code, BadMac) ∷ body_rest p m b l)
key_verdict p m b l taken first second room code v t f s r h e =
    e ∙ (ap (λ (o : Option LinkRec). verdict_of ((code, BadMac) ∷ (count_tests l (body_count b) ++ (link_tests p o ++ (room, KeysFull) ∷ [])))) t
    ∙ ap (λ (x : Bool). verdict_of ((code, BadMac) ∷ (count_tests l (body_count b) ++ (link_tests p (body_taken m.originator l b) ++ (x, KeysFull) ∷ []))))
    (r ∙ (ap (λ (k : KeyRec). have_room p (record_key k) second) f ∙ ap (λ (o : Option KeyRec). have_room p (record_key (body_record p m b l)) o) s))
    ∙ sym (front_verdict p m b l ((code, BadMac) ∷ body_rest p m b l) h))

-- the edits, with what was found of them
pub key_edits : (p : Party) (m : Ksm) (b : KsmBody) (l : LinkRec) (taken : Option LinkRec) (first : KeyRec) (second : Option KeyRec) (es : List Edit) → taken ≡ body_taken m.originator l b → first ≡ body_record p m b l → second ≡ body_second p m b l
    → es ≡ PutLink (record l { next = body_next b }) ∷ (link_edits taken ++ PutKey first ∷ second_edits second) → es ≡ body_edits p m b l
key_edits p m b l taken first second es t f s e =
    e ∙ (ap (λ (o : Option LinkRec). PutLink (record l { next = body_next b }) ∷ (link_edits o ++ PutKey first ∷ second_edits second)) t
    ∙ (ap (λ (k : KeyRec). PutLink (record l { next = body_next b }) ∷ (link_edits (body_taken m.originator l b) ++ PutKey k ∷ second_edits second)) f
    ∙ ap (λ (o : Option KeyRec). PutLink (record l { next = body_next b }) ∷ (link_edits (body_taken m.originator l b) ++ PutKey (body_record p m b l) ∷ second_edits o)) s))

-- the key under which its code is tested, where it was found under a link
pub key_led : (p : Party) (a : Arrival) (m : Ksm) (b : KsmBody) (l : LinkRec) (o : Option LinkRec) (x : Option Lead) (y : Lead) → o ≡ Some l → x ≡ key_lead_with p a m b o → x ≡ Some y → y ≡ key_found p a m b l
key_led p a m b l o x y f h i = given_is _ (key_found p a m b l) y x (h ∙ ap (λ (k : Option LinkRec). key_lead_with p a m b k) f) i

pub key_refuses : (p : Party) (a : Arrival) (m : Ksm) (b : KsmBody) (l : LinkRec) (x : Lead) (v : Verdict) (counts : ErrorCounts) (made : Result Decision NoMemory) → v ≡ verdict_of (body_front p m b (Some l) ++ (x.verified, BadMac) ∷ body_rest p m b l) → x ≡ key_found p a m b l → is_accept v ≡ false → counts ≡ body_counts b
    → IfOk made (λ d. d ≡ answering v (coded_under x.under x.value (error_for p m.originator counts v))) → IfOk made (λ d. d ≡ decision_of p (key_row p a m b (Some l)))
key_refuses p a m b l x v counts made e i f n k =
    let w : v ≡ (key_row p a m b (Some l)).verdict = verdict_is p a m b l x v e i in
    let r : answering v (coded_under x.under x.value (error_for p m.originator counts v)) ≡ decision_of p (key_row p a m b (Some l)) =
    ap (λ (y : Lead). answering v (coded_under y.under y.value (error_for p m.originator counts v))) i
    ∙ (ap (λ (c : ErrorCounts). answering v (coded_under (body_name p m.originator b l) (body_code l.pair m.originator p.own b) (error_for p m.originator c v))) n
    ∙ (ap (λ (u : Verdict). answering v (coded_under (body_name p m.originator b l) (body_code l.pair m.originator p.own b) (error_for p m.originator (body_counts b) u))) w
    ∙ by_answered p (key_row p a m b (Some l)) v w f)) in
    if_made made _ _ r k
  where
    if_made : (made : Result Decision NoMemory) (one other : Decision) → one ≡ other → IfOk made (λ d. d ≡ one) → IfOk made (λ d. d ≡ other)
    if_made (Ok d) one other r k = k ∙ r
    if_made (Err f) one other r k = tt

pub key_accepts : (p : Party) (a : Arrival) (m : Ksm) (b : KsmBody) (l : LinkRec) (x : Lead) (v : Verdict) (es : List Edit) (w : Written) (made : Result Decision NoMemory) → v ≡ verdict_of (body_front p m b (Some l) ++ (x.verified, BadMac) ∷ body_rest p m b l) → x ≡ key_found p a m b l → is_accept v ≡ true
    → es ≡ body_edits p m b l → IsWritten w (Coded (response p m.originator) x.under x.value) → IfOk made (λ d. (r : Option Reply) → AreWritten (Some w) r → d ≡ accepting p es r) → IfOk made (λ d. d ≡ decision_of p (key_row p a m b (Some l)))
key_accepts p a m b l x v es w made e i t j written k =
    let P : Lead → Type 0 = λ y. IsWritten w (Coded (response p m.originator) y.under y.value) in
    by_accept_with p (key_row p a m b (Some l)) v es w (Coded (response p m.originator) (body_name p m.originator b l) (body_code l.pair m.originator p.own b)) made (verdict_is p a m b l x v e i) t
    j
    refl (subst P i written) k
