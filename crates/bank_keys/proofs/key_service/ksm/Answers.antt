use Rattle.std.proofs.Common.{◌≡◌, ◌⊎◌, ℕ, inl, inr, Option, Some, None, IfSome, [], ◌∷◌, ◌++◌, sym, ap, subst, ◌∙◌, rules, tests}
use Rattle.x_base.specs.declared.verdict.Verdict.TheVariants.{BadMac, KeysFull}
use Rattle.party_tables.specs.declared.link.LinkRec.{LinkRec}
use Rattle.party_state.specs.Verdicts.{verdict_of}
use Rattle.role_base.specs.Conditions.{count_tests}
use Rattle.role_base.specs.Deciding.{Decides}
use Rattle.role_base.specs.Errors.{TellsCount}
use Rattle.role_base.specs.Standing.{LinkStands}
use Rattle.bank_keys.specs.Ksm.{IsCounted, body_link, body_count, link_tests, body_front, body_rest, key_row, key_found}
use Rattle.bank_keys.proofs.Counts.{key_tells_count}
use Rattle.bank_keys.proofs.KeysKept.{key_kept}
use Rattle.bank_keys.proofs.KeyService.{key_led, key_passed, key_verdict, key_edits, key_refuses, key_accepts}
use Rattle.bank_keys.proofs.Unanswered.{key_early}
use Rattle.bank_keys.proofs.key_service.ksm.Goals.{After-is_accept, in-None, in-Some, in_default-via-in-Some+in_default, in_default-via-in_default}
use Rattle.bank_keys.proofs.key_service.ksm.Goals as goal

-- the verdict that was found, in the words of the row
found_verdict : (c : After-is_accept) → c.match-keys.verdict ≡ verdict_of (body_front c.args.state.now c.args.message.now c.args.message.now.body (Some c.in-Some-Some.link) ++ (c.in-Some-Some.lead.verified, BadMac) ∷ body_rest c.args.state.now c.args.message.now c.args.message.now.body c.in-Some-Some.link)
found_verdict c =
    let p = c.args.state.now in
    let a = c.args.arrival.now in
    let m = c.args.message.now in
    let b = m.body in
    let l = c.in-Some-Some.link in
    let x = c.in-Some-Some.lead in
    let f : body_link p m.originator b ≡ Some l = sym c.body_link-found.ensures.link ∙ c.in-Some-Some.is-0 in
    let k : c.count_tests.result ≡ count_tests l (body_count b) = c.count_tests.ensures ∙ ap (λ (n : ℕ). count_tests l n) c.body_count.ensures.count in
    let e : c.match-keys.verdict ≡ verdict_of ((x.verified, BadMac) ∷ (count_tests l (body_count b) ++ (link_tests p c.keys_of-keys.result.taken ++ (c.have_room-room.result, KeysFull) ∷ []))) = elim c.match-keys.branch [
      | in-None w ↦ search (rules, tests)
      | in-Some w ↦ search (rules, tests)
    ] in
    key_verdict p m b l c.keys_of-keys.result.taken c.keys_of-keys.result.first c.keys_of-keys.result.second c.have_room-room.result x.verified c.match-keys.verdict
    c.keys_of-keys.ensures.taken c.keys_of-keys.ensures.first c.keys_of-keys.ensures.second c.have_room-room.ensures (key_passed p a m b l _ c.args.lead.now x f c.requires c.in-Some-Some.is-1) e

pub returns-in_default : goal.returns-in_default
returns-in_default c =
    let p = c.args.state.now in
    let a = c.args.arrival.now in
    let m = c.args.message.now in
    let b = m.body in
    let missing : (body_link p m.originator b ≡ None) ⊎ (c.args.lead.now ≡ None) = elim c.in_default.branch [
      | in_default-via-in-Some+in_default w ↦ inr (search (rules, tests))
      | in_default-via-in_default w ↦ inl (search (rules, tests))
    ] in
    key_early p a m b _ c.args.lead.now c.body_front.result c.early_refusal.result c.requires (c.body_front.ensures ∙ ap (λ (o : Option LinkRec). body_front p m b o) c.body_link-found.ensures.link) missing c.early_refusal.ensures

pub error_answer-requires : goal.error_answer-requires
error_answer-requires c =
    let p = c.args.state.now in
    let m = c.args.message.now in
    let b = m.body in
    let l = c.in-Some-Some.link in
    let x = c.in-Some-Some.lead in
    let st : LinkStands p l = subst (λ (o : Option LinkRec). IfSome o (LinkStands p)) c.in-Some-Some.is-0 c.body_link-found.ensures.stands in
    let v = found_verdict (goal.at.error_answer-requires c).After-is_accept in
    subst TellsCount (sym v) (key_tells_count p m b l x.verified st.range)

pub returns-then-not-is_accept : goal.returns-then-not-is_accept
returns-then-not-is_accept c =
    let p = c.args.state.now in
    let a = c.args.arrival.now in
    let m = c.args.message.now in
    let b = m.body in
    let l = c.in-Some-Some.link in
    let x = c.in-Some-Some.lead in
    let f : body_link p m.originator b ≡ Some l = sym c.body_link-found.ensures.link ∙ c.in-Some-Some.is-0 in
    let st : LinkStands p l = subst (λ (o : Option LinkRec). IfSome o (LinkStands p)) c.in-Some-Some.is-0 c.body_link-found.ensures.stands in
    let v = found_verdict (goal.at.returns-then-not-is_accept c).After-is_accept in
    let y : x ≡ key_found p a m b l = key_led p a m b l _ c.args.lead.now x f c.requires c.in-Some-Some.is-1 in
    let counted : IsCounted b = subst (λ (o : Option LinkRec). IfSome o (λ _. IsCounted b)) c.in-Some-Some.is-0 c.body_link-found.ensures.counted in
    subst (λ (o : Option LinkRec). Decides p (key_row p a m b o) c.error_answer.result) (sym f) (key_kept c.law_accept.ensures.tested p a m b l c.error_answer.result st c.keys_of-keys.ensures.range counted
    (key_refuses p a m b l x c.match-keys.verdict c.body_counts-counts.result c.error_answer.result v y (sym c.is_accept.ensures ∙ c.if-not-is_accept.true) c.body_counts-counts.ensures c.error_answer.ensures))

pub returns : goal.returns
returns c =
    let p = c.args.state.now in
    let a = c.args.arrival.now in
    let m = c.args.message.now in
    let b = m.body in
    let l = c.in-Some-Some.link in
    let x = c.in-Some-Some.lead in
    let f : body_link p m.originator b ≡ Some l = sym c.body_link-found.ensures.link ∙ c.in-Some-Some.is-0 in
    let st : LinkStands p l = subst (λ (o : Option LinkRec). IfSome o (LinkStands p)) c.in-Some-Some.is-0 c.body_link-found.ensures.stands in
    let v = found_verdict (goal.at.returns c).After-is_accept in
    let y : x ≡ key_found p a m b l = key_led p a m b l _ c.args.lead.now x f c.requires c.in-Some-Some.is-1 in
    let counted : IsCounted b = subst (λ (o : Option LinkRec). IfSome o (λ _. IsCounted b)) c.in-Some-Some.is-0 c.body_link-found.ensures.counted in
    subst (λ (o : Option LinkRec). Decides p (key_row p a m b o) c.accept.result) (sym f) (key_kept c.law_accept.ensures.tested p a m b l c.accept.result st c.keys_of-keys.ensures.range counted
    (key_accepts p a m b l x c.match-keys.verdict c.in_ok-edits.edits.items c.in_ok-written.written c.accept.result v y (sym c.is_accept.ensures ∙ c.if-not-is_accept.false)
    (key_edits p m b l c.keys_of-keys.result.taken c.keys_of-keys.result.first c.keys_of-keys.result.second c.in_ok-edits.edits.items c.keys_of-keys.ensures.taken c.keys_of-keys.ensures.first c.keys_of-keys.ensures.second c.in_ok-edits.ensures)
    c.in_ok-written.ensures c.accept.ensures))
