-- A response, an error message or a disconnection is accepted exactly where it can be.
use Rattle.std.proofs.Common.{◌≡◌, ◌↔◌, ◌⊎◌, inl, inr, ℕ, Bool, true, false, is_some, Option, Some, None, List, [], ◌∷◌, ◌++◌, option_map, refl, sym, ap, ◌∙◌}
use Rattle.std.proofs.lemmas.Bool.{and_parts, and_from}
use Rattle.x_base.specs.declared.key_name.KeyName.{KeyName}
use Rattle.x_base.specs.declared.verdict.Verdict.TheVariants.{Accept, BadMac}
use Rattle.csm_grammar.specs.declared.message.Rsm.{Rsm}
use Rattle.csm_grammar.specs.declared.message.Esm.{Esm}
use Rattle.csm_grammar.specs.declared.message.Dsm.{Dsm}
use Rattle.csm_grammar.specs.declared.arrival.Arrival.{Arrival}
use Rattle.party_tables.specs.declared.key.KeyRec.{KeyRec}
use Rattle.party_tables.specs.declared.key.RecordKey.{RecordKey}
use Rattle.party_tables.specs.declared.exchange.Via.{Via}
use Rattle.party_tables.specs.declared.exchange.Kind.{Kind}
use Rattle.party_tables.specs.declared.exchange.Kind.TheVariants as kind
use Rattle.party_tables.specs.declared.exchange.Exchange.{Exchange}
use Rattle.party_tables.specs.Keys.{same_name}
use Rattle.party_tables.specs.Names.{name_behind}
use Rattle.party_state.specs.State.{Party, exchange_with}
use Rattle.party_state.specs.Verdicts.{TestsHold}
use Rattle.role_base.specs.declared.exchanges.Sent.{Sent}
use Rattle.role_base.specs.declared.exchanges.Twins.{Twins}
use Rattle.role_base.specs.Conditions.{is_for}
use Rattle.role_base.specs.Texts.{is_plain, is_verified}
use Rattle.role_base.specs.Exchanges.{record_of, sent_by, sent_in, sent_to, both_of, twins_by, twins_in, twins_to, twins_value, ending_by, ending_in, ending_with, stands_by, stands_in, is_waiting}
use Rattle.role_base.proofs.Addressed.{mine}
use Rattle.role_base.proofs.PartyLaws.{HeldAtAccept, AcceptedIfHeld, LinkLaws, KeyLaws, ExchangeLaws, LinksDropped}
use Rattle.bank_arrivals.specs.declared.asking_again.Retry.{Retry}
use Rattle.bank_arrivals.specs.declared.disconnection.NamedKey.{NamedKey}
use Rattle.bank_arrivals.specs.declared.error_message.ErrorSubject.{ErrorSubject}
use Rattle.bank_arrivals.specs.declared.error_message.ErrorSubject.TheVariants.{SentKey, SentTwins, Translated}
use Rattle.bank_arrivals.specs.AskingAgain.{retry_in}
use Rattle.bank_arrivals.specs.Rsm.{rsm_front, twins_front, end_front, rsm_to, rsm_by, answer_to, rsm_with, rsm}
use Rattle.bank_arrivals.specs.Esm.{subject_by, subject_in, subject_with, subject_value, esm_front, error_of, error_with, plain_tests, error}
use Rattle.bank_arrivals.specs.Dsm.{paired, code_name, named_by, dsm_front, dsm_on, dsm}
use Rattle.bank_arrivals.specs.Heard.{IsAbout, HasKey, IsTo, HeardResponse, HeardResponseToTwo, HeardError, HeardErrorOfTwo, HeardCentre}
use Rattle.bank_arrivals.specs.Accepting.{Confirms, ConfirmsTwo, ConfirmsEnd, Complains, ComplainsOfTwo, ComplainsAsCentre, KeyStands, ComplainsPlainly, Closes, Disconnects}
use Rattle.bank_arrivals.proofs.About.{is_to}
use Rattle.bank_arrivals.proofs.Heard.{heard_response, heard_end, heard_disconnection}
use Rattle.bank_arrivals.proofs.HeardErrors.{heard_error}

-- what the look-ups give where the exchange is of this kind

addressed : (p : Party) (receiver originator : List ℕ) → IsTo p receiver originator → is_for p receiver originator ≡ true
addressed p receiver originator t = mine p receiver originator t.receiver t.originator

sent_from : (p : Party) (peer : List ℕ) (name : KeyName) (via : Via) (k : KeyRec) → IsAbout p peer (kind.KeySent name via) → HasKey p peer name k → sent_to p peer ≡ Some (record { key = k; via = via })
sent_from p peer name via k a s = go (exchange_with peer p) a
  where
    by_name : sent_by p peer (kind.KeySent name via) ≡ Some (record { key = k; via = via })
    by_name = ap (λ (o : Option KeyRec). option_map (λ (r : KeyRec). let t : Sent = record { key = r; via = via } in t) o) s

    go : (o : Option Exchange) → option_map (λ (e : Exchange). e.kind) o ≡ Some (kind.KeySent name via) → sent_in p peer o ≡ Some (record { key = k; via = via })
    go None h = absurd (cc)
    go (Some e) h = let i : e.kind ≡ kind.KeySent name via = cc in ap (λ (x : Kind). sent_by p peer x) i ∙ by_name

twins_about : (p : Party) (peer : List ℕ) (k : Kind) → IsAbout p peer k → twins_to p peer ≡ twins_by p peer k
twins_about p peer k a = go (exchange_with peer p) a
  where
    go : (o : Option Exchange) → option_map (λ (e : Exchange). e.kind) o ≡ Some k → twins_in p peer o ≡ twins_by p peer k
    go None h = absurd (cc)
    go (Some e) h = let i : e.kind ≡ k = cc in ap (λ (x : Kind). twins_by p peer x) i

both_from : (p : Party) (peer : List ℕ) (name : KeyName) (j k : KeyRec) → HasKey p peer name j → HasKey p peer (name_behind name) k → twins_by p peer (kind.PairSent name) ≡ Some (record { first = j; second = k })
both_from p peer name j k f g = ap (λ (o : Option KeyRec). both_of o (record_of p peer (name_behind name))) f ∙ ap (λ (o : Option KeyRec). both_of (Some j) o) g

ending_from : (p : Party) (peer : List ℕ) (name : KeyName) (k : KeyRec) → IsAbout p peer (kind.Ending name) → HasKey p peer name k → ending_with p peer ≡ Some k
ending_from p peer name k a s = go (exchange_with peer p) a
  where
    go : (o : Option Exchange) → option_map (λ (e : Exchange). e.kind) o ≡ Some (kind.Ending name) → ending_in p peer o ≡ Some k
    go None h = absurd (cc)
    go (Some e) h = let i : e.kind ≡ kind.Ending name = cc in ap (λ (x : Kind). ending_by p peer x) i ∙ s

subject_from : (p : Party) (peer : List ℕ) (k : Kind) (s : ErrorSubject) → IsAbout p peer k → subject_by p peer k ≡ Some s → subject_with p peer ≡ Some s
subject_from p peer k s a h = go (exchange_with peer p) a
  where
    go : (o : Option Exchange) → option_map (λ (e : Exchange). e.kind) o ≡ Some k → subject_in p peer o ≡ Some s
    go None i = absurd (cc)
    go (Some e) i = let j : e.kind ≡ k = cc in ap (λ (x : Kind). subject_by p peer x) j ∙ h

-- an exchange that stands, with the record that it names

there : (p : Party) (peer : List ℕ) (name : KeyName) (o : Option KeyRec) → record_of p peer name ≡ o → is_some o ≡ true → (k : KeyRec) × HasKey p peer name k
there p peer name None f h = absurd (cc)
there p peer name (Some k) f h = (k, f)

key_stands : (p : Party) (peer : List ℕ) (k : Kind) → stands_by p peer k ≡ true → KeyStands p peer k
key_stands p peer (kind.KeySent name via) h = there p peer name (record_of p peer name) refl h
key_stands p peer (kind.Ending name) h = there p peer name (record_of p peer name) refl h
key_stands p peer (kind.Asked ultimate) h = tt
key_stands p peer (kind.Translating ultimate value cta) h = tt
key_stands p peer (kind.PairSent name) h =
    let both : (is_some (record_of p peer name) ≡ true) × (is_some (record_of p peer (name_behind name)) ≡ true) = and_parts (is_some (record_of p peer name)) (is_some (record_of p peer (name_behind name))) h in
    (there p peer name (record_of p peer name) refl both.0, there p peer (name_behind name) (record_of p peer (name_behind name)) refl both.1)

stands_so : (p : Party) (peer : List ℕ) (k : Kind) → KeyStands p peer k → stands_by p peer k ≡ true
stands_so p peer (kind.KeySent name via) s = ap (λ (o : Option KeyRec). is_some o) s.1
stands_so p peer (kind.Ending name) s = ap (λ (o : Option KeyRec). is_some o) s.1
stands_so p peer (kind.Asked ultimate) s = refl
stands_so p peer (kind.Translating ultimate value cta) s = refl
stands_so p peer (kind.PairSent name) s =
    and_from (is_some (record_of p peer name)) (is_some (record_of p peer (name_behind name))) (ap (λ (o : Option KeyRec). is_some o) s.0.1) (ap (λ (o : Option KeyRec). is_some o) s.1.1)

waits_for : (p : Party) (peer : List ℕ) → is_waiting p peer ≡ true → (k : Kind) × (IsAbout p peer k × KeyStands p peer k)
waits_for p peer h = go (exchange_with peer p) refl h
  where
    go : (o : Option Exchange) → exchange_with peer p ≡ o → stands_in p peer o ≡ true → (k : Kind) × (IsAbout p peer k × KeyStands p peer k)
    go None f h = absurd (cc)
    go (Some e) f h = (e.kind, (ap (λ (o : Option Exchange). option_map (λ (x : Exchange). x.kind) o) f, key_stands p peer e.kind h))

waiting_from : (p : Party) (peer : List ℕ) (k : Kind) → IsAbout p peer k → KeyStands p peer k → is_waiting p peer ≡ true
waiting_from p peer k a s = go (exchange_with peer p) a
  where
    go : (o : Option Exchange) → option_map (λ (e : Exchange). e.kind) o ≡ Some k → stands_in p peer o ≡ true
    go None h = absurd (cc)
    go (Some e) h = let i : e.kind ≡ k = cc in ap (λ (x : Kind). stands_by p peer x) i ∙ stands_so p peer k s

-- the key whose code closes a disconnection

closes : (p : Party) (peer : List ℕ) (idd : KeyName) (ida : Option KeyName) (k : KeyRec) → HasKey p peer (code_name idd ida) k → Closes p peer idd ida k
closes p peer idd None k h = h
closes p peer idd (Some ida) k h = h

closed : (p : Party) (peer : List ℕ) (idd : KeyName) (ida : Option KeyName) (k : KeyRec) → Closes p peer idd ida k → record_of p peer (code_name idd ida) ≡ Some k
closed p peer idd None k h = h
closed p peer idd (Some ida) k h = h

pub both_named : (p : Party) (m : Dsm) (key by : KeyRec) → HasKey p m.originator m.idd key → Closes p m.originator m.idd m.ida by → named_by p m ≡ Some (record { key = key; by = by })
both_named p m key by s c =
    ap (λ (o : Option KeyRec). paired o (record_of p m.originator (code_name m.idd m.ida))) s
    ∙ ap (λ (o : Option KeyRec). paired (Some key) o) (closed p m.originator m.idd m.ida by c)

module _ (held : HeldAtAccept) (accepted : AcceptedIfHeld) (of_links : LinkLaws) (of_keys : KeyLaws) (of_exchanges : ExchangeLaws) (links_dropped : LinksDropped) where
  pub confirms_exactly : (p : Party) (a : Arrival) (m : Rsm) → m.idd ≡ None → ((rsm p a m).verdict ≡ Accept) ↔ (Confirms p a m ⊎ ConfirmsTwo p a m)
  confirms_exactly p a m i = (λ e. told (heard_response held of_links of_keys of_exchanges p a m i e), so)
    where
      told : {q : Party} → HeardResponse p q a m ⊎ HeardResponseToTwo p q a m → Confirms p a m ⊎ ConfirmsTwo p a m
      told (inl h) = inl (record { to = h.to; name = h.name; via = h.via; key = h.key; sent = h.sent; stands = h.stands; code = h.code })
      told (inr h) = inr (record { to = h.to; name = h.name; first = h.first; second = h.second; together = h.together })

      -- what becomes of it where the exchange is of this kind
      row : (k : Kind) → IsAbout p m.originator k → (rsm p a m).verdict ≡ (rsm_by p a m (twins_by p m.originator k)).verdict
      row k about = ap (λ (o : Option KeyName). (rsm_with p a m o).verdict) i ∙ ap (λ (o : Option Twins). (rsm_by p a m o).verdict) (twins_about p m.originator k about)

      so : Confirms p a m ⊎ ConfirmsTwo p a m → (rsm p a m).verdict ≡ Accept
      so (inl c) =
          let s : Sent = record { key = c.key; via = c.via } in
          row (kind.KeySent c.name c.via) c.sent
          ∙ (ap (λ (o : Option Sent). (rsm_to p a m o).verdict) (sent_from p m.originator c.name c.via c.key c.sent c.stands)
          ∙ accepted (rsm_front p m (Some s) ++ (is_verified a c.key.value, BadMac) ∷ []) (addressed p m.receiver m.originator c.to, (refl, (c.code, tt))))
      so (inr c) =
          let t : Twins = record { first = c.first; second = c.second } in
          row (kind.PairSent c.name) c.together.sent
          ∙ (ap (λ (o : Option Twins). (rsm_by p a m o).verdict) (both_from p m.originator c.name c.first c.second c.together.first_stands c.together.second_stands)
          ∙ accepted (twins_front p m ++ (is_verified a (twins_value t), BadMac) ∷ []) (addressed p m.receiver m.originator c.to, (refl, (c.together.code, tt))))

  pub confirms_end_exactly : (p : Party) (a : Arrival) (m : Rsm) (idd : KeyName) → m.idd ≡ Some idd → ((rsm p a m).verdict ≡ Accept) ↔ ConfirmsEnd p a m idd
  confirms_end_exactly p a m idd i = (there_is, so)
    where
      there_is : (rsm p a m).verdict ≡ Accept → ConfirmsEnd p a m idd
      there_is e = let h = heard_end held of_links of_keys of_exchanges p a m idd i e in record { to = h.to; key = h.key; ending = h.ending; stands = h.stands; code = h.code }

      so : ConfirmsEnd p a m idd → (rsm p a m).verdict ≡ Accept
      so c =
          let key : RecordKey = record { peer = m.originator; name = idd } in
          let is : idd ≡ c.key.name = ap (λ (x : RecordKey). x.name) (of_keys.found key c.key p c.stands) in
          let one : RecordKey = record { peer = []; name = idd } in
          let other : RecordKey = record { peer = []; name = c.key.name } in
          let named : same_name idd c.key.name ≡ true = (of_keys.same one other).1 (ap (λ (n : KeyName). let x : RecordKey = record { peer = []; name = n } in x) is) in
          ap (λ (o : Option KeyName). (rsm_with p a m o).verdict) i
          ∙ (ap (λ (o : Option KeyRec). (answer_to p a m idd o).verdict) (ending_from p m.originator idd c.key c.ending c.stands)
          ∙ accepted (end_front p m idd (Some c.key) ++ (is_verified a c.key.value, BadMac) ∷ []) (addressed p m.receiver m.originator c.to, (named, (c.code, tt))))

  pub complains_exactly : (p : Party) (a : Arrival) (m : Esm) → is_plain a.parsed.shut ≡ false → ((error p a m).verdict ≡ Accept) ↔ (Complains p a m ⊎ (ComplainsOfTwo p a m ⊎ ComplainsAsCentre p a m))
  complains_exactly p a m coded = (λ e. told (heard_error held of_links of_keys of_exchanges links_dropped p a m coded e), so)
    where
      again : Option Retry
      again = retry_in p (subject_with p m.originator) m.ctr

      told : {q : Party} → HeardError p q a m (error p a m) ⊎ (HeardErrorOfTwo p q a m (error p a m) ⊎ HeardCentre p q a m (error p a m)) → Complains p a m ⊎ (ComplainsOfTwo p a m ⊎ ComplainsAsCentre p a m)
      told (inl h) = inl (record { to = h.to; name = h.name; via = h.via; key = h.key; sent = h.sent; stands = h.stands; code = h.code })
      told (inr (inl h)) = inr (inl (record { to = h.to; name = h.name; first = h.first; second = h.second; together = h.together }))
      told (inr (inr h)) = inr (inr (record { to = h.to; ultimate = h.ultimate; value = h.value; cta = h.cta; waiting = h.waiting; code = h.code }))

      by_subject : (s : ErrorSubject) → IsTo p m.receiver m.originator → subject_with p m.originator ≡ Some s → is_verified a (subject_value s) ≡ true → (error p a m).verdict ≡ Accept
      by_subject s t f v =
          ap (λ (b : Bool). (error_with p a m b (retry_in p (subject_with p m.originator) m.ctr)).verdict) coded
          ∙ (ap (λ (o : Option ErrorSubject). (error_of p a m o (retry_in p (subject_with p m.originator) m.ctr)).verdict) f
          ∙ accepted (esm_front p m (Some s) ++ (is_verified a (subject_value s), BadMac) ∷ []) (addressed p m.receiver m.originator t, (refl, (v, tt))))

      so : Complains p a m ⊎ (ComplainsOfTwo p a m ⊎ ComplainsAsCentre p a m) → (error p a m).verdict ≡ Accept
      so (inl c) =
          let s : Sent = record { key = c.key; via = c.via } in
          let by_name : sent_by p m.originator (kind.KeySent c.name c.via) ≡ Some s = ap (λ (o : Option KeyRec). option_map (λ (r : KeyRec). let t : Sent = record { key = r; via = c.via } in t) o) c.stands in
          by_subject (SentKey s) c.to (subject_from p m.originator (kind.KeySent c.name c.via) (SentKey s) c.sent (ap (λ (o : Option Sent). option_map SentKey o) by_name)) c.code
      so (inr (inl c)) =
          let t : Twins = record { first = c.first; second = c.second } in
          let both : twins_by p m.originator (kind.PairSent c.name) ≡ Some t = both_from p m.originator c.name c.first c.second c.together.first_stands c.together.second_stands in
          by_subject (SentTwins t) c.to (subject_from p m.originator (kind.PairSent c.name) (SentTwins t) c.together.sent (ap (λ (o : Option Twins). option_map SentTwins o) both)) c.together.code
      so (inr (inr c)) = by_subject (Translated c.value c.cta) c.to (subject_from p m.originator (kind.Translating c.ultimate c.value c.cta) (Translated c.value c.cta) c.waiting refl) c.code

  pub complains_plainly : (p : Party) (a : Arrival) (m : Esm) → is_plain a.parsed.shut ≡ true → ((error p a m).verdict ≡ Accept) ↔ ComplainsPlainly p a m
  complains_plainly p a m plain = (there_is, so)
    where
      row : (error p a m).verdict ≡ (error_with p a m true (retry_in p (subject_with p m.originator) m.ctr)).verdict
      row = ap (λ (b : Bool). (error_with p a m b (retry_in p (subject_with p m.originator) m.ctr)).verdict) plain

      there_is : (error p a m).verdict ≡ Accept → ComplainsPlainly p a m
      there_is e =
          let h : TestsHold (plain_tests p a m) = held (plain_tests p a m) refl (sym row ∙ e) in
          let w = waits_for p m.originator h.1.0 in
          record { to = is_to p m.receiver m.originator h.0; about = w.0; waits = w.1.0; stands = w.1.1; code = h.1.1.0 }

      so : ComplainsPlainly p a m → (error p a m).verdict ≡ Accept
      so c = row ∙ accepted (plain_tests p a m) (addressed p m.receiver m.originator c.to, (waiting_from p m.originator c.about c.waits c.stands, (c.code, tt)))

  pub disconnects_exactly : (p : Party) (a : Arrival) (m : Dsm) → ((dsm p a m).verdict ≡ Accept) ↔ Disconnects p a m
  disconnects_exactly p a m = (there_is, so)
    where
      there_is : (dsm p a m).verdict ≡ Accept → Disconnects p a m
      there_is e = let h = heard_disconnection held of_links of_keys of_exchanges p a m e in record { to = h.to; key = h.key; stands = h.stands; by = h.by; closing = closes p m.originator m.idd m.ida h.by h.closing; code = h.code }

      so : Disconnects p a m → (dsm p a m).verdict ≡ Accept
      so c =
          ap (λ (o : Option NamedKey). (dsm_on p a m o).verdict) (both_named p m c.key c.by c.stands c.closing)
          ∙ accepted (dsm_front p m true ++ (is_verified a c.by.value, BadMac) ∷ []) (addressed p m.receiver m.originator c.to, (refl, (c.code, tt)))
