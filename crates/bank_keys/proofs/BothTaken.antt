-- Two data keys that came with an accepted message are held.
use Rattle.std.proofs.Common.{◌≡◌, ℕ, ◌+◌, nat_lt, Bool, true, false, cond, Option, Some, None, List, refl, ap}
use Rattle.std.proofs.lemmas.Bool.{both_ways, ltb-true}
use Rattle.x_base.specs.declared.verdict.Verdict.TheVariants.{Accept}
use Rattle.csm_grammar.specs.declared.message.Ksm.{Ksm}
use Rattle.csm_grammar.specs.declared.message.KsmBody.{KsmBody}
use Rattle.csm_grammar.specs.declared.message.KsmBody.TheVariants as body
use Rattle.csm_grammar.specs.declared.arrival.Arrival.{Arrival}
use Rattle.party_tables.specs.declared.link.LinkRec.{LinkRec}
use Rattle.party_tables.specs.declared.key.KeyRec.{KeyRec}
use Rattle.party_state.specs.declared.edit.Edit.TheVariants.{PutLink, PutKey}
use Rattle.party_tables.specs.Keys.{record_key}
use Rattle.party_state.specs.State.{Party, apply, apply_edit}
use Rattle.party_state.specs.Verdicts.{TestsHold}
use Rattle.role_base.proofs.PartyLaws.{HeldAtAccept, LinkLaws, KeyLaws, put_same, key_put_same}
use Rattle.role_base.proofs.TwinKeys.{behind_other, key_put_then}
use Rattle.bank_keys.specs.Ksm.{link_in_use, body_link, body_record, second_record, body_front, body_tests, key_row, key_arrives}
use Rattle.bank_keys.specs.Taking.{TakesTwo}

module _ (held : HeldAtAccept) (links : LinkLaws) (keys : KeyLaws) where
  under : (p : Party) (a : Arrival) (m : Ksm) (idk2 : Option (List ℕ)) (first second ctp : ℕ) (c : Bool) (o : Option LinkRec) → nat_lt ctp 99999999999999 ≡ c → link_in_use p m.originator idk2 ≡ o → (key_row p a m (body.Twin idk2 first second ctp) (cond c o None)).verdict ≡ Accept
      → TakesTwo p (apply (key_row p a m (body.Twin idk2 first second ctp) (cond c o None)).edits p) a m (key_row p a m (body.Twin idk2 first second ctp) (cond c o None)) idk2 first second ctp
  under p a m idk2 first second ctp false o n f v = let h : TestsHold (body_front p m (body.Twin idk2 first second ctp) None) = held (body_front p m (body.Twin idk2 first second ctp) None) refl v in absurd (both_ways false refl h.1.1.0)
  under p a m idk2 first second ctp true None n f v = let h : TestsHold (body_front p m (body.Twin idk2 first second ctp) None) = held (body_front p m (body.Twin idk2 first second ctp) None) refl v in absurd (both_ways false refl h.1.1.0)
  under p a m idk2 first second ctp true (Some l) n f v =
      let b : KsmBody = body.Twin idk2 first second ctp in
      let one : KeyRec = body_record p m b l in
      let other : KeyRec = second_record p m b l second in
      let used : Party = apply_edit (PutLink (record l { next = ctp + 2 })) p in
      let h : TestsHold (body_tests p a m b l) = held (body_tests p a m b l) refl v in
      record {
        link = l;
        in_use = f;
        counted = ltb-true ctp 99999999999999 n;
        code = h.1.1.1.0;
        first_held = key_put_then keys used one other (behind_other (record_key one) (record_key other) refl);
        second_held = key_put_same keys other (apply_edit (PutKey one) used);
        expected = put_same links (record l { next = ctp + 2 }) p;
        answered = refl;
      }

  pub takes_two : (p : Party) (a : Arrival) (m : Ksm) (idk2 : Option (List ℕ)) (first second ctp : ℕ) → m.body ≡ body.Twin idk2 first second ctp → (key_arrives p a m).verdict ≡ Accept → TakesTwo p (apply (key_arrives p a m).edits p) a m (key_arrives p a m) idk2 first second ctp
  takes_two p a m idk2 first second ctp is v =
      let r : key_arrives p a m ≡ key_row p a m (body.Twin idk2 first second ctp) (body_link p m.originator (body.Twin idk2 first second ctp)) = ap (λ (b : KsmBody). key_row p a m b (body_link p m.originator b)) is in
      rw r (under p a m idk2 first second ctp (nat_lt ctp 99999999999999) (link_in_use p m.originator idk2) refl refl (rw r at v))
