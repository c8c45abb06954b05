-- How a refused key service message is answered.
use Rattle.std.proofs.Common.{arith, ◌≡◌, ℕ, ◌+◌, ◌<◌, ◌≤◌, nat_lt, Bool, true, false, cond, Option, Some, None, List, refl, sym, ap, ◌∙◌, bytes_eq}
use Rattle.std.specs.Prelude.{bit_xor}
use Rattle.std.proofs.lemmas.Bool.{both_ways, ltb-true}
use Rattle.std.proofs.lemmas.Slice.Eq.{bytes_eq-Decides}
use Rattle.x_base.specs.declared.key_name.FullName.{FullName}
use Rattle.x_base.specs.declared.party.Side.TheVariants.{Takes}
use Rattle.x_base.specs.declared.verdict.Verdict.{Verdict}
use Rattle.x_base.specs.declared.verdict.Verdict.TheVariants as verdict
use Rattle.x_mac.specs.declared.pair.Pair.{Pair}
use Rattle.x_seal.specs.Wrapped.{unwrap_of}
use Rattle.csm_grammar.specs.declared.message.Message.{Message}
use Rattle.csm_grammar.specs.declared.message.KsmBody.{KsmBody}
use Rattle.csm_grammar.specs.declared.message.KsmBody.TheVariants as body
use Rattle.csm_grammar.specs.declared.message.Ksm.{Ksm}
use Rattle.csm_grammar.specs.declared.message.NewKk.{NewKk}
use Rattle.csm_grammar.specs.declared.message.NewKk.TheVariants as new_kk
use Rattle.csm_grammar.specs.declared.arrival.Arrival.{Arrival}
use Rattle.party_tables.specs.declared.link.LinkKey.{LinkKey}
use Rattle.party_tables.specs.declared.link.LinkRec.{LinkRec}
use Rattle.party_tables.specs.Keys.{takes}
use Rattle.party_state.specs.State.{Party, centre_label, link_with, knows}
use Rattle.party_state.specs.Rows.{Reply, Coded}
use Rattle.party_state.specs.Verdicts.{verdict_of}
use Rattle.role_base.specs.Texts.{direct_name}
use Rattle.role_base.specs.Conditions.{is_for, body_issuer}
use Rattle.role_base.specs.Errors.{coded_under}
use Rattle.role_base.proofs.Beginning.{first_peer}
use Rattle.role_base.proofs.PartyLaws.{LinksFound}
use Rattle.bank_keys.specs.Ksm.{link_in_use, body_link, body_code, body_name, body_message, body_error, body_tests, opened_kk, key_row}
use Rattle.bank_keys.specs.Refusing.{InUse, new_pair, from_partner, from_centre, told_by, AnswersRefusal, AnswersRefused, AnswersNoOther}

-- the link in use

abbrev IsUsed : Party → List ℕ → Option (List ℕ) → LinkRec → Type 0
IsUsed p originator idk2 l = InUse p originator idk2 l × (l.peer ≡ originator)

used : LinksFound → (p : Party) (originator : List ℕ) (idk2 : Option (List ℕ)) (l : LinkRec) → link_in_use p originator idk2 ≡ Some l → IsUsed p originator idk2 l
used found p originator None l h = (h, first_peer p originator Takes l h)
used found p originator (Some label) l h = go (bytes_eq label centre_label) refl h
  where
    go : (b : Bool) → bytes_eq label centre_label ≡ b → cond b None (link_with (takes originator label) p) ≡ Some l → IsUsed p originator (Some label) l
    go true e h = absurd (cc)
    go false e h = ((λ i. both_ways (bytes_eq label centre_label) e ((bytes_eq-Decides label centre_label).1 i), h), sym (ap (λ (k : LinkKey). k.peer) (found (takes originator label) l p h)))

-- two keys have none at the last count
used_below : (p : Party) (originator : List ℕ) (idk2 : Option (List ℕ)) (ctp : ℕ) (l : LinkRec) → cond (nat_lt ctp 99999999999999) (link_in_use p originator idk2) None ≡ Some l → (link_in_use p originator idk2 ≡ Some l) × (ctp + 1 ≤ 99999999999999)
used_below p originator idk2 ctp l f = go (nat_lt ctp 99999999999999) refl f
  where
    go : (b : Bool) → nat_lt ctp 99999999999999 ≡ b → cond b (link_in_use p originator idk2) None ≡ Some l → (link_in_use p originator idk2 ≡ Some l) × (ctp + 1 ≤ 99999999999999)
    go true e f = let below : ctp < 99999999999999 = ltb-true ctp 99999999999999 e in (f, omega arith)
    go false e f = absurd (cc)

-- the answer, by the verdict

error_is : (p : Party) (originator : List ℕ) (b : KsmBody) (v : Verdict) (e : List ℕ × Option ℕ) → told_by v ≡ Some e → body_error p originator b v ≡ Some (body_message p originator b e.0 e.1)
error_is p originator b v e h = go v h
  where
    told : (x : List ℕ × Option ℕ) → Some x ≡ Some e → Some (body_message p originator b x.0 x.1) ≡ Some (body_message p originator b e.0 e.1)
    told x h = let i : x ≡ e = cc in ap (λ (y : List ℕ × Option ℕ). Some (body_message p originator b y.0 y.1)) i

    go : (v : Verdict) → told_by v ≡ Some e → body_error p originator b v ≡ Some (body_message p originator b e.0 e.1)
    go (verdict.CountLow n) h = told _ h
    go verdict.CountSpent h = told _ h
    go verdict.LabelTaken h = told _ h
    go verdict.SameKey h = told _ h
    go verdict.LinksFull h = told _ h
    go verdict.KeysFull h = told _ h
    go verdict.Accept h = absurd (cc)
    go verdict.WeakDraws h = absurd (cc)
    go verdict.JournalFull h = absurd (cc)
    go verdict.NotEmpty h = absurd (cc)
    go verdict.NotForMe h = absurd (cc)
    go verdict.UnknownPeer h = absurd (cc)
    go verdict.WrongClass h = absurd (cc)
    go verdict.NoExchange h = absurd (cc)
    go verdict.Outstanding h = absurd (cc)
    go verdict.UnknownKk h = absurd (cc)
    go verdict.UnknownKey h = absurd (cc)
    go verdict.BadMac h = absurd (cc)
    go verdict.BadEdc h = absurd (cc)
    go verdict.Alias h = absurd (cc)
    go verdict.Blank h = absurd (cc)

no_error : (p : Party) (originator : List ℕ) (b : KsmBody) (v : Verdict) → told_by v ≡ None → body_error p originator b v ≡ None
no_error p originator b (verdict.CountLow n) h = absurd (cc)
no_error p originator b verdict.CountSpent h = absurd (cc)
no_error p originator b verdict.LabelTaken h = absurd (cc)
no_error p originator b verdict.SameKey h = absurd (cc)
no_error p originator b verdict.LinksFull h = absurd (cc)
no_error p originator b verdict.KeysFull h = absurd (cc)
no_error p originator b verdict.Accept h = refl
no_error p originator b verdict.WeakDraws h = refl
no_error p originator b verdict.JournalFull h = refl
no_error p originator b verdict.NotEmpty h = refl
no_error p originator b verdict.NotForMe h = refl
no_error p originator b verdict.UnknownPeer h = refl
no_error p originator b verdict.WrongClass h = refl
no_error p originator b verdict.NoExchange h = refl
no_error p originator b verdict.Outstanding h = refl
no_error p originator b verdict.UnknownKk h = refl
no_error p originator b verdict.UnknownKey h = refl
no_error p originator b verdict.BadMac h = refl
no_error p originator b verdict.BadEdc h = refl
no_error p originator b verdict.Alias h = refl
no_error p originator b verdict.Blank h = refl

-- where no link is in use, the refusal isn't answered
untold : (p : Party) (a : Arrival) (m : Ksm) (b : KsmBody) (e : List ℕ × Option ℕ) → told_by (key_row p a m b None).verdict ≡ Some e → ⊥
untold p a m b e h = go (is_for p m.receiver m.originator) (knows (body_issuer m.originator b) p) h
  where
    go : (x y : Bool) → told_by (cond x (cond y verdict.UnknownKk verdict.UnknownPeer) verdict.NotForMe) ≡ Some e → ⊥
    go true true h = cc
    go true false h = cc
    go false y h = cc

coded : (p : Party) (a : Arrival) (m : Ksm) (b : KsmBody) (l : LinkRec) (e : List ℕ × Option ℕ) → told_by (key_row p a m b (Some l)).verdict ≡ Some e
    → (key_row p a m b (Some l)).answer ≡ Some (Coded (body_message p m.originator b e.0 e.1) (body_name p m.originator b l) (body_code l.pair m.originator p.own b))
coded p a m b l e h = ap (λ (x : Option Message). coded_under (body_name p m.originator b l) (body_code l.pair m.originator p.own b) x) (error_is p m.originator b (verdict_of (body_tests p a m b l)) e h)

opened_is : (l : LinkRec) (ctp : ℕ) (k : NewKk) → opened_kk l.pair ctp k ≡ new_pair l.pair ctp k
opened_is l ctp (new_kk.Double left right) = refl
opened_is l ctp (new_kk.Single key) = refl

-- from a partner, whatever the key is
partner : (p : Party) (a : Arrival) (m : Ksm) (b : KsmBody) (l : LinkRec) (ctp value : ℕ) (e : List ℕ × Option ℕ) → told_by (key_row p a m b (Some l)).verdict ≡ Some e → l.peer ≡ m.originator → body_code l.pair m.originator p.own b ≡ value
    → body_name p m.originator b l ≡ record { name = direct_name l.peer l.label ctp; recipient = p.own }
    → (key_row p a m b (Some l)).answer ≡ Some (Coded (body_message p m.originator b e.0 e.1) (record { name = (from_partner m.originator l ctp value).name; recipient = p.own }) value)
partner p a m b l ctp value e h peer is named =
    let reply : FullName → ℕ → Option Reply = λ u v. Some (Coded (body_message p m.originator b e.0 e.1) u v) in
    coded p a m b l e h
    ∙ (ap (λ (u : FullName). reply u (body_code l.pair m.originator p.own b)) (named ∙ ap (λ (x : List ℕ). record { name = direct_name x l.label ctp; recipient = p.own }) peer)
    ∙ ap (λ (v : ℕ). reply (record { name = direct_name m.originator l.label ctp; recipient = p.own }) v) is)

answers : LinksFound → (p : Party) (a : Arrival) (m : Ksm) (b : KsmBody) (o : Option LinkRec) (e : List ℕ × Option ℕ) → body_link p m.originator b ≡ o → told_by (key_row p a m b o).verdict ≡ Some e → AnswersRefusal p m b (key_row p a m b o) e.0 e.1
answers found p a m b None e f h = absurd (untold p a m b e h)
answers found p a m (body.Direct idk2 None kd ctp) (Some l) e f h =
    let u : IsUsed p m.originator idk2 l = used found p m.originator idk2 l f in
    record {
      came = from_partner m.originator l ctp (unwrap_of l.pair ctp kd);
      carries = (l, (u.0, refl));
      answer = partner p a m (body.Direct idk2 None kd ctp) l ctp (unwrap_of l.pair ctp kd) e h u.1 refl refl;
    }
answers found p a m (body.Direct idk2 (Some new) kd ctp) (Some l) e f h =
    let u : IsUsed p m.originator idk2 l = used found p m.originator idk2 l f in
    let value : ℕ = unwrap_of (new_pair l.pair ctp new.1) 1 kd in
    record {
      came = from_partner m.originator l ctp value;
      carries = (l, (u.0, refl));
      answer = partner p a m (body.Direct idk2 (Some new) kd ctp) l ctp value e h u.1 (ap (λ (x : Pair). unwrap_of x 1 kd) (opened_is l ctp new.1)) refl;
    }
answers found p a m (body.Centre centre kdu ctb) (Some l) e f h = record {
  came = from_centre p m.originator centre l kdu ctb;
  carries = (l, (f, refl));
  answer = coded p a m (body.Centre centre kdu ctb) l e h;
}
answers found p a m (body.Twin idk2 first second ctp) (Some l) e f h =
    let c : (link_in_use p m.originator idk2 ≡ Some l) × (ctp + 1 ≤ 99999999999999) = used_below p m.originator idk2 ctp l f in
    let u : IsUsed p m.originator idk2 l = used found p m.originator idk2 l c.0 in
    let value : ℕ = bit_xor (unwrap_of l.pair ctp first) (unwrap_of l.pair (ctp + 1) second) in
    record {
      came = from_partner m.originator l ctp value;
      carries = (l, (u.0, (c.1, refl)));
      answer = partner p a m (body.Twin idk2 first second ctp) l ctp value e h u.1 refl refl;
    }

pub answers_refused : LinksFound → AnswersRefused
answers_refused found p a m e h = answers found p a m m.body (body_link p m.originator m.body) e refl h

silent : (p : Party) (a : Arrival) (m : Ksm) (b : KsmBody) (o : Option LinkRec) → told_by (key_row p a m b o).verdict ≡ None → (key_row p a m b o).answer ≡ None
silent p a m b None h = refl
silent p a m b (Some l) h = ap (λ (x : Option Message). coded_under (body_name p m.originator b l) (body_code l.pair m.originator p.own b) x) (no_error p m.originator b (verdict_of (body_tests p a m b l)) h)

pub answers_no_other : AnswersNoOther
answers_no_other p a m h = silent p a m m.body (body_link p m.originator m.body) h
