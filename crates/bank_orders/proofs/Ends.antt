-- A bank discontinues a key exactly where it can, and what goes out; and what a purge leaves.
use Rattle.std.proofs.Common.{◌≡◌, ◌≢◌, ℕ, ◌↔◌, true, false, Option, Some, None, List, bytes_eq, refl, sym, ap, subst, ◌∙◌}
use Rattle.std.proofs.lemmas.Bool.{both_ways, false_from_ne_true}
use Rattle.std.proofs.lemmas.Slice.Eq.{bytes_eq-Decides}
use Rattle.x_base.specs.declared.key_name.KeyName.{KeyName}
use Rattle.x_base.specs.declared.verdict.Verdict.TheVariants.{Accept}
use Rattle.csm_grammar.specs.declared.message.Dsm.{Dsm}
use Rattle.party_tables.specs.declared.key.KeyRec.{KeyRec}
use Rattle.party_tables.specs.declared.key.RecordKey.{RecordKey}
use Rattle.party_tables.specs.declared.key.KeyStatus.{KeyStatus}
use Rattle.party_tables.specs.declared.key.KeyStatus.TheVariants.{Pending, Live, Held, Closing, Ended}
use Rattle.party_tables.specs.declared.exchange.Exchange.{Exchange}
use Rattle.party_tables.specs.declared.exchange.Kind.TheVariants as kind
use Rattle.party_state.specs.declared.edit.Edit.TheVariants.{DropEnded}
use Rattle.party_tables.specs.Keys.{same_record, record_key}
use Rattle.party_state.specs.Ranges.{IsParty}
use Rattle.party_tables.specs.Statuses.{is_ended}
use Rattle.party_state.specs.State.{Party, apply, apply_edit, record_with, exchange_with}
use Rattle.party_state.specs.Rows.{Row}
use Rattle.party_state.specs.Verdicts.{TestsHold}
use Rattle.role_base.specs.Texts.{text_of}
use Rattle.role_base.specs.Exchanges.{record_of}
use Rattle.role_base.proofs.PartyLaws.{HeldAtAccept, AcceptedIfHeld, KeyLaws, ExchangeLaws, key_put_same, exchange_put, exchange_put_other}
use Rattle.role_base.proofs.Beginning.{none_stands}
use Rattle.role_base.proofs.Tested.{none_so}
use Rattle.bank_orders.specs.Resend.{resend_of, resend}
use Rattle.bank_orders.specs.Ending.{can_end, end_tests, end_reply, end_record, end, purge}
use Rattle.bank_orders.specs.Ends.{CanEnd, EndsKey, WritesAgain, Purges}

-- a key that can be ended is neither pending nor ended

not_pending : (s : KeyStatus) → can_end s ≡ true → s ≢ Pending
not_pending Pending h = absurd (cc)
not_pending Live h = λ e. cc
not_pending Held h = λ e. cc
not_pending Closing h = λ e. cc
not_pending Ended h = absurd (cc)

not_ended : (s : KeyStatus) → can_end s ≡ true → s ≢ Ended
not_ended Pending h = absurd (cc)
not_ended Live h = λ e. cc
not_ended Held h = λ e. cc
not_ended Closing h = λ e. cc
not_ended Ended h = absurd (cc)

can_be_ended : (s : KeyStatus) → s ≢ Pending → s ≢ Ended → can_end s ≡ true
can_be_ended Pending n m = absurd (n refl)
can_be_ended Live n m = refl
can_be_ended Held n m = refl
can_be_ended Closing n m = refl
can_be_ended Ended n m = absurd (m refl)

module _ (held : HeldAtAccept) (accepted : AcceptedIfHeld) where
  can_end_key : (p : Party) (peer : List ℕ) (name : KeyName) (o : Option KeyRec) → record_of p peer name ≡ o → (end_record p peer o).verdict ≡ Accept → CanEnd p peer name
  can_end_key p peer name None f e = let h : TestsHold (end_tests p peer false) = held (end_tests p peer false) refl e in absurd (both_ways false refl h.1.0)
  can_end_key p peer name (Some k) f e =
      let h : TestsHold (end_tests p peer (can_end k.status)) = held (end_tests p peer (can_end k.status)) refl e in
      record { free = none_stands (exchange_with peer p) h.0; key = k; stands = f; confirmed = not_pending k.status h.1.0; in_use = not_ended k.status h.1.0 }

  ended_key : (p : Party) (peer : List ℕ) (name : KeyName) → CanEnd p peer name → (end p peer name).verdict ≡ Accept
  ended_key p peer name c =
      ap (λ (o : Option KeyRec). (end_record p peer o).verdict) c.stands
      ∙ accepted (end_tests p peer (can_end c.key.status)) (none_so (exchange_with peer p) c.free, (can_be_ended c.key.status c.confirmed c.in_use, tt))

  pub ends_exactly : (p : Party) (peer : List ℕ) (name : KeyName) → ((end p peer name).verdict ≡ Accept) ↔ CanEnd p peer name
  ends_exactly p peer name = (can_end_key p peer name (record_of p peer name) refl, ended_key p peer name)

  module _ (keys : KeyLaws) (exchanges : ExchangeLaws) where
    ends_record : (p : Party) (k : KeyRec) → record_with (record_key k) p ≡ Some k → EndsKey p (apply (end_record p k.peer (Some k)).edits p) (end_record p k.peer (Some k)) k.peer k.name
    unfolding text_of
    ends_record p k f = record {
      key = k;
      stands = f;
      dsm = dsm;
      written = refl;
      receiver = refl;
      sender = refl;
      names = refl;
      alone = refl;
      discontinued = key_put_same keys closing p;
      keys = λ j n. keys.put j closing p ∙ rw (false_from_ne_true (same_record j (record_key closing)) (λ e. n ((keys.same j (record_key closing)).0 e))) refl;
      waits = exchange_put exchanges waits p;
      others = λ other n. exchange_put_other exchanges other waits p (false_from_ne_true (bytes_eq other waits.peer) (λ t. n ((bytes_eq-Decides other waits.peer).0 t)));
      rest = refl;
    }
      where
        dsm : Dsm
        dsm = record { receiver = k.peer; originator = p.own; idd = k.name; ida = None }

        closing : KeyRec
        closing = record k { status = Closing }

        waits : Exchange
        waits = record { peer = k.peer; kind = kind.Ending k.name; text = text_of (end_reply p k) }

    ends_found : (p : Party) (key : RecordKey) (k : KeyRec) → key ≡ record_key k → record_with key p ≡ Some k → EndsKey p (apply (end_record p key.peer (Some k)).edits p) (end_record p key.peer (Some k)) key.peer key.name
    ends_found p key k e f =
        let there : record_with (record_key k) p ≡ Some k = subst (λ (x : RecordKey). record_with x p ≡ Some k) e f in
        subst (λ (x : RecordKey). EndsKey p (apply (end_record p x.peer (Some k)).edits p) (end_record p x.peer (Some k)) x.peer x.name) (sym e) (ends_record p k there)

    pub ends : (p : Party) (peer : List ℕ) (name : KeyName) → (end p peer name).verdict ≡ Accept → EndsKey p (apply (end p peer name).edits p) (end p peer name) peer name
    ends p peer name e =
        let c : CanEnd p peer name = can_end_key p peer name (record_of p peer name) refl e in
        let key : RecordKey = record { peer = peer; name = name } in
        let row : end_record p peer (Some c.key) ≡ end p peer name = ap (λ (o : Option KeyRec). end_record p peer o) (sym c.stands) in
        subst (λ (r : Row). EndsKey p (apply r.edits p) r peer name) row (ends_found p (record { peer = peer; name = name }) c.key (keys.found (record { peer = peer; name = name }) c.key p c.stands) c.stands)

-- a text that is written again

resends_by : (p : Party) (peer : List ℕ) (o : Option Exchange) → exchange_with peer p ≡ o → (resend_of o).verdict ≡ Accept → (e : Exchange) × (exchange_with peer p ≡ Some e)
resends_by p peer None f h = absurd (cc)
resends_by p peer (Some e) f h = (e, f)

pub resends_exactly : (p : Party) (peer : List ℕ) → ((resend p peer).verdict ≡ Accept) ↔ ((e : Exchange) × (exchange_with peer p ≡ Some e))
resends_exactly p peer = (resends_by p peer (exchange_with peer p) refl, (λ s. ap (λ (o : Option Exchange). (resend_of o).verdict) s.1))

pub writes_again : (p : Party) (peer : List ℕ) → (resend p peer).verdict ≡ Accept → WritesAgain p (apply (resend p peer).edits p) (resend p peer) peer
writes_again p peer h =
    let s : (e : Exchange) × (exchange_with peer p ≡ Some e) = resends_by p peer (exchange_with peer p) refl h in
    subst (λ (r : Row). WritesAgain p (apply r.edits p) r peer) (ap (λ (o : Option Exchange). resend_of o) (sym s.1)) (record { exchange = s.0; stands = s.1; written = refl; unchanged = refl })

-- what a purge leaves

abbrev pub EndedDropped : Type 0
EndedDropped = (k : RecordKey) (r : KeyRec) (p : Party) → IsParty p → (record_with k (apply_edit DropEnded p) ≡ Some r) ↔ ((record_with k p ≡ Some r) × (is_ended r.status ≡ false))

stays_so : (s : KeyStatus) → s ≢ Ended → is_ended s ≡ false
stays_so Pending n = refl
stays_so Live n = refl
stays_so Held n = refl
stays_so Closing n = refl
stays_so Ended n = absurd (n refl)

stays : (s : KeyStatus) → is_ended s ≡ false → s ≢ Ended
stays Ended h = absurd (cc)
stays Pending h = λ e. cc
stays Live h = λ e. cc
stays Held h = λ e. cc
stays Closing h = λ e. cc

pub purges : EndedDropped → (p : Party) → IsParty p → Purges p (apply purge.edits p) purge
purges dropped p w = record {
  keys = λ k r. ((λ f. let h : (record_with k p ≡ Some r) × (is_ended r.status ≡ false) = (dropped k r p w).0 f in (h.0, stays r.status h.1)), (λ h. (dropped k r p w).1 (h.0, stays_so r.status h.1)));
  rest = refl;
  silent = refl;
}
