-- What an accepted error message says.
use Rattle.std.proofs.Common.{◌≡◌, ◌≢◌, ◌⊎◌, inl, inr, ℕ, max, Bool, true, false, cond, Option, Some, None, IfSome, List, [], ◌∷◌, ◌++◌, option_map, refl, sym, ap, subst, ◌∙◌}
use Rattle.std.specs.Prelude.{bytes_eq, is_none}
use Rattle.std.proofs.lemmas.Bool.{both_ways, false_from_ne_true}
use Rattle.std.proofs.lemmas.Slice.Eq.{bytes_eq-Decides}
use Rattle.x_base.specs.declared.verdict.Verdict.TheVariants.{Accept, BadMac}
use Rattle.csm_grammar.specs.declared.message.Esm.{Esm}
use Rattle.csm_grammar.specs.declared.arrival.Arrival.{Arrival}
use Rattle.csm_write.specs.declared.closing.Closing.TheVariants as closing
use Rattle.csm_write.specs.Canon.{canon}
use Rattle.party_tables.specs.declared.link.LinkKey.{LinkKey}
use Rattle.party_tables.specs.declared.link.LinkRec.{LinkRec}
use Rattle.party_tables.specs.declared.key.KeyRec.{KeyRec}
use Rattle.party_tables.specs.declared.key.KeyStatus.TheVariants.{Ended}
use Rattle.party_tables.specs.declared.exchange.Via.{Via}
use Rattle.party_tables.specs.declared.exchange.Via.TheVariants as vias
use Rattle.party_tables.specs.declared.exchange.Kind.{Kind}
use Rattle.party_tables.specs.declared.exchange.Kind.TheVariants as kind
use Rattle.party_tables.specs.declared.exchange.Exchange.{Exchange}
use Rattle.party_state.specs.declared.edit.Edit.{Edit}
use Rattle.party_state.specs.declared.edit.Edit.TheVariants.{PutLink, PutKey, DropExchange}
use Rattle.party_tables.specs.Tables.{find_row, put_row}
use Rattle.party_tables.specs.Keys.{record_key, same_record, link_key, same_link, exchange_key, sends}
use Rattle.party_state.specs.State.{Party, centre_label, exchange_with, link_with, record_with, apply_edit, apply}
use Rattle.party_state.specs.Verdicts.{TestsHold}
use Rattle.x_base.specs.declared.key_name.KeyName.{KeyName}
use Rattle.party_tables.specs.declared.key.RecordKey.{RecordKey}
use Rattle.party_tables.specs.Names.{name_behind}
use Rattle.role_base.proofs.TwinKeys.{records_apart}
use Rattle.role_base.specs.declared.exchanges.Sent.{Sent}
use Rattle.role_base.specs.declared.exchanges.Twins.{Twins}
use Rattle.role_base.specs.Texts.{text_of, is_plain, is_verified}
use Rattle.role_base.specs.Exchanges.{new_link_at, new_link, dropped, twins_value}
use Rattle.role_base.proofs.PartyLaws.{HeldAtAccept, LinkLaws, KeyLaws, ExchangeLaws, LinksDropped, put_other, exchange_put, exchange_put_other, drop_other, exchange_dropped}
use Rattle.bank_arrivals.specs.declared.asking_again.Retry.{Retry}
use Rattle.bank_arrivals.specs.declared.error_message.ErrorSubject.{ErrorSubject}
use Rattle.bank_arrivals.specs.declared.error_message.ErrorSubject.TheVariants.{SentKey, SentTwins, Translated}
use Rattle.bank_arrivals.specs.AskingAgain.{retry_by, retry_in, ers_message, ers_reply, asked_again, again_reply}
use Rattle.bank_arrivals.specs.Esm.{subject_with, is_renewed, via_link, raised, esm_front, error_row, error_of, error_with, error}
use Rattle.bank_arrivals.specs.Heard.{IsAbout, HasKey, HasLink, MayAskAgain, AsksAgain, HeardError, HeardErrorOfTwo, HeardCentre}
use Rattle.bank_arrivals.proofs.About.{put_found, put_beside, put_link_found, is_to, FoundSent, FoundTwins, found_subject}

-- what is asked again, and when

retry_is : (p : Party) (m : Esm) (via : Via) (t : MayAskAgain p m via) → retry_by p via m.ctr ≡ Some (record { centre = t.centre; cta = t.cta; ctr = t.ctr })
retry_is p m via t = rw t.given (rw t.told (rw t.free refl))

retry_none : (p : Party) (m : Esm) (via : Via) (c : Option ℕ) → m.ctr ≡ c → (MayAskAgain p m via → ⊥) → retry_by p via c ≡ None
retry_none p m (vias.Distribution centre cta) (Some ctr) i n = go (exchange_with centre p) refl
  where
    t : Retry
    t = record { centre = centre; cta = cta; ctr = ctr }

    go : (o : Option Exchange) → exchange_with centre p ≡ o → cond (is_none o) (Some t) None ≡ None
    go None f = absurd (n (record { centre = centre; cta = cta; ctr = ctr; given = refl; told = i; free = f }))
    go (Some e) f = refl
retry_none p m (vias.Distribution centre cta) None i n = refl
retry_none p m (vias.Direct label new) c i n = refl
retry_none p m (vias.Translation centre) c i n = refl

-- no exchange with the centre stands
abbrev pub IsFree : Party → Retry → Type 0
IsFree p t = exchange_with t.centre p ≡ None

pub retry_free : (p : Party) (via : Via) (c : Option ℕ) → IfSome (retry_by p via c) (IsFree p)
retry_free p (vias.Distribution centre cta) (Some ctr) = go (exchange_with centre p) refl
  where
    t : Retry
    t = record { centre = centre; cta = cta; ctr = ctr }

    go : (o : Option Exchange) → exchange_with centre p ≡ o → IfSome (cond (is_none o) (Some t) None) (IsFree p)
    go None f = f
    go (Some e) f = tt
retry_free p (vias.Distribution centre cta) None = tt
retry_free p (vias.Direct label new) c = tt
retry_free p (vias.Translation centre) c = tt

-- one that is closed by an error detection code
pub heard_plain : (p : Party) (a : Arrival) (m : Esm) → is_plain a.parsed.shut ≡ true → ((error p a m).edits ≡ []) × ((error p a m).reply ≡ None)
heard_plain p a m plain =
    let again : Option Retry = retry_in p (subject_with p m.originator) m.ctr in
    (ap (λ (b : Bool). (error_with p a m b again).edits) plain, ap (λ (b : Bool). (error_with p a m b again).reply) plain)

-- a link under another label, where one stands
abbrev IsUnder : List ℕ → List ℕ → LinkRec → Type 0
IsUnder peer label y = link_key y ≡ sends peer label

-- the links where a count is named and a link goes
abbrev linked : Party → Option LinkRec → Option ℕ → Option LinkRec → List LinkRec
linked p l c new = (apply (raised l c ++ dropped new) p).links

module _ (held : HeldAtAccept) (of_links : LinkLaws) (of_keys : KeyLaws) (of_exchanges : ExchangeLaws) (links_dropped : LinksDropped) where
  -- the exchanges afterwards

  asked : (p : Party) (m : Esm) (value : ℕ) (t : Retry) → exchange_with t.centre (apply (asked_again p m value (Some t)) (apply_edit (DropExchange m.originator) p)) ≡ Some (record { peer = t.centre; kind = kind.Asked m.originator; text = canon (ers_message p m t) (closing.Mac value) })
  unfolding text_of
  asked p m value t =
      let e : Exchange = record { peer = t.centre; kind = kind.Asked m.originator; text = text_of (ers_reply p m value t) } in
      exchange_put of_exchanges e (apply_edit (DropExchange m.originator) p)

  -- an exchange with the originator stands, and none with the centre
  other_centre : (p : Party) (peer : List ℕ) (k : Kind) (t : Retry) → IsAbout p peer k → IsFree p t → bytes_eq peer t.centre ≡ false
  other_centre p peer k t a f = false_from_ne_true (bytes_eq peer t.centre) (λ s. (let i : peer ≡ t.centre = (bytes_eq-Decides peer t.centre).0 s in
      let n : exchange_with peer p ≡ None = ap (λ (x : List ℕ). exchange_with x p) i ∙ f in
      let z : Some k ≡ None = sym a ∙ ap (λ (o : Option Exchange). option_map (λ (x : Exchange). x.kind) o) n in cc))

  over_with : (p : Party) (m : Esm) (value : ℕ) (k : Kind) (again : Option Retry) → IsAbout p m.originator k → IfSome again (IsFree p) → exchange_with m.originator (apply (asked_again p m value again) (apply_edit (DropExchange m.originator) p)) ≡ None
  over_with p m value k None a f = exchange_dropped of_exchanges m.originator p
  over_with p m value k (Some t) a f =
      let e : Exchange = record { peer = t.centre; kind = kind.Asked m.originator; text = text_of (ers_reply p m value t) } in
      exchange_put_other of_exchanges m.originator e (apply_edit (DropExchange m.originator) p) (other_centre p m.originator k t a f) ∙ exchange_dropped of_exchanges m.originator p

  -- the links afterwards

  under : (p : Party) (peer label : List ℕ) → IfSome (link_with (sends peer label) p) (IsUnder peer label)
  under p peer label = go (link_with (sends peer label) p) refl
    where
      go : (o : Option LinkRec) → link_with (sends peer label) p ≡ o → IfSome o (IsUnder peer label)
      go None f = tt
      go (Some y) f = sym (of_links.found (sends peer label) y p f)

  labels_apart : (peer label other : List ℕ) (y : LinkRec) → label ≢ other → IsUnder peer other y → same_link (sends peer label) (link_key y) ≡ false
  labels_apart peer label other y ne u = false_from_ne_true (same_link (sends peer label) (link_key y)) (λ s. ne (ap (λ (k : LinkKey). k.label) ((of_links.same (sends peer label) (link_key y)).0 s ∙ u)))

  counted_with : (p : Party) (peer label : List ℕ) (l : LinkRec) (ctr : ℕ) (new : Option (List ℕ)) → new ≢ Some label → HasLink p peer label l → find_row link_key same_link (sends peer label) (linked p (Some l) (Some ctr) (new_link_at p peer new)) ≡ Some (record l { next = max l.next ctr })
  counted_with p peer label l ctr None ne f = put_link_found of_links p peer label l (record l { next = max l.next ctr }) f refl
  counted_with p peer label l ctr (Some n) ne f = go (link_with (sends peer n) p) (under p peer n)
    where
      x : LinkRec
      x = record l { next = max l.next ctr }

      go : (g : Option LinkRec) → IfSome g (IsUnder peer n) → find_row link_key same_link (sends peer label) (apply (raised (Some l) (Some ctr) ++ dropped g) p).links ≡ Some x
      go None u = put_link_found of_links p peer label l x f refl
      go (Some y) u = drop_other links_dropped (sends peer label) (link_key y) (apply_edit (PutLink x) p) (labels_apart peer label n y (λ e. ne (ap (λ (z : List ℕ). Some z) (sym e))) u) ∙ put_link_found of_links p peer label l x f refl

  -- a new key-encrypting key goes, whatever count is named of another link
  given_up_with : (p : Party) (peer new : List ℕ) (o : Option LinkRec) (c : Option ℕ) → IfSome o (λ y. same_link (sends peer new) (link_key y) ≡ false) → find_row link_key same_link (sends peer new) (linked p o c (link_with (sends peer new) p)) ≡ None
  given_up_with p peer new o c a = go (link_with (sends peer new) p) refl o c a
    where
      dropping : (y : LinkRec) (rows : List LinkRec) → link_with (sends peer new) p ≡ Some y → find_row link_key same_link (sends peer new) (apply (dropped (Some y)) (record p { links = rows })).links ≡ None
      dropping y rows f =
          let s : same_link (sends peer new) (link_key y) ≡ true = (of_links.same (sends peer new) (link_key y)).1 (of_links.found (sends peer new) y p f) in
          links_dropped (sends peer new) (link_key y) (record p { links = rows }) ∙ rw s refl

      go : (g : Option LinkRec) → link_with (sends peer new) p ≡ g → (o : Option LinkRec) (c : Option ℕ) → IfSome o (λ y. same_link (sends peer new) (link_key y) ≡ false) → find_row link_key same_link (sends peer new) (apply (raised o c ++ dropped g) p).links ≡ None
      go None f None c a = f
      go None f (Some y) None a = f
      go None f (Some y) (Some n) a = put_other of_links (sends peer new) (record y { next = max y.next n }) p a ∙ f
      go (Some z) f None c a = dropping z p.links f
      go (Some z) f (Some y) None a = dropping z p.links f
      go (Some z) f (Some y) (Some n) a = dropping z (put_row link_key same_link (record y { next = max y.next n }) p.links) f

  -- no count is named, and no new key-encrypting key went

  nothing_linked : (p : Party) (l : Option LinkRec) → linked p l None None ≡ p.links
  nothing_linked p None = refl
  nothing_linked p (Some l) = refl

  none_new : (p : Party) (peer : List ℕ) (via : Via) → ((label n : List ℕ) → via ≡ vias.Direct label (Some n) → ⊥) → new_link p peer via ≡ None
  none_new p peer (vias.Direct label None) apart = refl
  none_new p peer (vias.Direct label (Some n)) apart = absurd (apart label n refl)
  none_new p peer (vias.Distribution centre cta) apart = refl
  none_new p peer (vias.Translation centre) apart = refl

  not_renewed : (label : List ℕ) (new : Option (List ℕ)) → new ≢ Some label → is_renewed label new ≡ false
  not_renewed label None ne = refl
  not_renewed label (Some n) ne = false_from_ne_true (bytes_eq n label) (λ s. ne (ap (λ (z : List ℕ). Some z) ((bytes_eq-Decides n label).0 s)))

  -- the link whose count is named isn't that of the new key-encrypting key
  unlike_new : (p : Party) (peer label new : List ℕ) → IfSome (via_link p peer (vias.Direct label (Some new))) (λ y. same_link (sends peer new) (link_key y) ≡ false)
  unlike_new p peer label new = go (bytes_eq new label) refl
    where
      go : (b : Bool) → bytes_eq new label ≡ b → IfSome (cond b None (link_with (sends peer label) p)) (λ y. same_link (sends peer new) (link_key y) ≡ false)
      go true e = tt
      go false e = by_link (link_with (sends peer label) p) (under p peer label)
        where
          by_link : (o : Option LinkRec) → IfSome o (IsUnder peer label) → IfSome o (λ y. same_link (sends peer new) (link_key y) ≡ false)
          by_link None u = tt
          by_link (Some y) u = labels_apart peer new label y (λ i. both_ways (bytes_eq new label) e ((bytes_eq-Decides new label).1 i)) u

  -- about a key with a translation centre

  heard_translated : (p : Party) (a : Arrival) (m : Esm) (value cta : ℕ) → subject_with p m.originator ≡ Some (Translated value cta) → (error_row p a m (Translated value cta) None).verdict ≡ Accept → HeardCentre p (apply (error_row p a m (Translated value cta) None).edits p) a m (error_row p a m (Translated value cta) None)
  heard_translated p a m value cta f e =
      let h : TestsHold (esm_front p m (Some (Translated value cta)) ++ (is_verified a value, BadMac) ∷ []) = held (esm_front p m (Some (Translated value cta)) ++ (is_verified a value, BadMac) ∷ []) refl e in
      let d = found_subject p m.originator (Translated value cta) f in
      record {
        to = is_to p m.receiver m.originator h.0;
        ultimate = d.0;
        value = value;
        cta = cta;
        waiting = d.1;
        code = h.1.1.0;
        over = over (link_with (sends m.originator centre_label) p) m.ctr;
        counted = counted;
        uncounted = λ i. ap (λ (c : Option ℕ). (apply (raised (link_with (sends m.originator centre_label) p) c ++ ([] ++ DropExchange m.originator ∷ [])) p).links) i ∙ uncounted (link_with (sends m.originator centre_label) p);
        silent = refl;
      }
    where
      over : (l : Option LinkRec) (c : Option ℕ) → exchange_with m.originator (apply (raised l c ++ ([] ++ DropExchange m.originator ∷ [])) p) ≡ None
      over None c = exchange_dropped of_exchanges m.originator p
      over (Some l) None = exchange_dropped of_exchanges m.originator p
      over (Some l) (Some n) = exchange_dropped of_exchanges m.originator p

      counted : (l : LinkRec) (ctr : ℕ) → HasLink p m.originator centre_label l → m.ctr ≡ Some ctr → HasLink (apply (raised (link_with (sends m.originator centre_label) p) m.ctr ++ ([] ++ DropExchange m.originator ∷ [])) p) m.originator centre_label (record l { next = max l.next ctr })
      counted l ctr f i = rw f (rw i (put_link_found of_links p m.originator centre_label l (record l { next = max l.next ctr }) f refl))

      uncounted : (l : Option LinkRec) → (apply (raised l None ++ ([] ++ DropExchange m.originator ∷ [])) p).links ≡ p.links
      uncounted None = refl
      uncounted (Some l) = refl

  -- about a key that was sent

  heard_sent : (p : Party) (a : Arrival) (m : Esm) (s : Sent) → subject_with p m.originator ≡ Some (SentKey s) → (error_row p a m (SentKey s) (retry_by p s.via m.ctr)).verdict ≡ Accept → HeardError p (apply (error_row p a m (SentKey s) (retry_by p s.via m.ctr)).edits p) a m (error_row p a m (SentKey s) (retry_by p s.via m.ctr))
  heard_sent p a m s f e =
      let h : TestsHold (esm_front p m (Some (SentKey s)) ++ (is_verified a s.key.value, BadMac) ∷ []) = held (esm_front p m (Some (SentKey s)) ++ (is_verified a s.key.value, BadMac) ∷ []) refl e in
      let d : FoundSent p m.originator s = found_subject p m.originator (SentKey s) f in
      record {
        to = is_to p m.receiver m.originator h.0;
        name = d.name;
        via = s.via;
        key = s.key;
        sent = d.sent;
        stands = d.stands;
        code = h.1.1.0;
        ended = ap (λ (ks : List KeyRec). find_row record_key same_record (record { peer = m.originator; name = d.name }) ks) parts.0 ∙ put_found of_keys p m.originator d.name s.key ends d.stands refl;
        over = exchanges m.originator ∙ over_with p m s.key.value (kind.KeySent d.name s.via) again d.sent (retry_free p s.via m.ctr);
        counted = counted;
        given_up = given_up;
        uncounted = uncounted;
        keys = λ k ne. ap (λ (ks : List KeyRec). find_row record_key same_record k ks) parts.0 ∙ others d.name d.stands k ne;
        again = asks;
        silent = λ n. ap (λ (t : Option Retry). again_reply p m s.key.value t) (retry_none p m s.via m.ctr refl n);
      }
    where
      ends : KeyRec
      ends = record s.key { status = Ended }

      raises : Option LinkRec
      raises = via_link p m.originator s.via

      new : Option LinkRec
      new = new_link p m.originator s.via

      again : Option Retry
      again = retry_by p s.via m.ctr

      edits : Option LinkRec → Option ℕ → Option LinkRec → Option Retry → List Edit
      edits l c n t = raised l c ++ ((dropped n ++ PutKey ends ∷ []) ++ DropExchange m.originator ∷ asked_again p m s.key.value t)

      -- the keys, the links and the exchanges
      parts_of : (l : Option LinkRec) (c : Option ℕ) (n : Option LinkRec) (t : Option Retry) → ((apply (edits l c n t) p).keys ≡ (apply_edit (PutKey ends) p).keys) × ((apply (edits l c n t) p).links ≡ linked p l c n) × ((apply (edits l c n t) p).exchanges ≡ (apply (asked_again p m s.key.value t) (apply_edit (DropExchange m.originator) p)).exchanges)
      parts_of None c None None = (refl, refl, refl)
      parts_of None c None (Some t) = (refl, refl, refl)
      parts_of None c (Some n) None = (refl, refl, refl)
      parts_of None c (Some n) (Some t) = (refl, refl, refl)
      parts_of (Some l) None None None = (refl, refl, refl)
      parts_of (Some l) None None (Some t) = (refl, refl, refl)
      parts_of (Some l) None (Some n) None = (refl, refl, refl)
      parts_of (Some l) None (Some n) (Some t) = (refl, refl, refl)
      parts_of (Some l) (Some c) None None = (refl, refl, refl)
      parts_of (Some l) (Some c) None (Some t) = (refl, refl, refl)
      parts_of (Some l) (Some c) (Some n) None = (refl, refl, refl)
      parts_of (Some l) (Some c) (Some n) (Some t) = (refl, refl, refl)

      after : Party
      after = apply (edits raises m.ctr new again) p

      parts : (after.keys ≡ (apply_edit (PutKey ends) p).keys) × (after.links ≡ linked p raises m.ctr new) × (after.exchanges ≡ (apply (asked_again p m s.key.value again) (apply_edit (DropExchange m.originator) p)).exchanges)
      parts = parts_of raises m.ctr new again

      exchanges : (peer : List ℕ) → exchange_with peer after ≡ exchange_with peer (apply (asked_again p m s.key.value again) (apply_edit (DropExchange m.originator) p))
      exchanges peer = ap (λ (es : List Exchange). find_row exchange_key bytes_eq peer es) parts.2

      links : (label : List ℕ) → link_with (sends m.originator label) after ≡ find_row link_key same_link (sends m.originator label) (linked p raises m.ctr new)
      links label = ap (λ (ls : List LinkRec). find_row link_key same_link (sends m.originator label) ls) parts.1

      counted : (label : List ℕ) (n : Option (List ℕ)) (l : LinkRec) (ctr : ℕ) → s.via ≡ vias.Direct label n → n ≢ Some label → HasLink p m.originator label l → m.ctr ≡ Some ctr → HasLink after m.originator label (record l { next = max l.next ctr })
      counted label n l ctr w ne f i =
          let stands : raises ≡ Some l = ap (λ (y : Via). via_link p m.originator y) w ∙ ap (λ (b : Bool). cond b None (link_with (sends m.originator label) p)) (not_renewed label n ne) ∙ f in
          let goes : new ≡ new_link_at p m.originator n = ap (λ (y : Via). new_link p m.originator y) w in
          links label
          ∙ ap (λ (o : Option LinkRec). find_row link_key same_link (sends m.originator label) (linked p o m.ctr new)) stands
          ∙ ap (λ (c : Option ℕ). find_row link_key same_link (sends m.originator label) (linked p (Some l) c new)) i
          ∙ ap (λ (o : Option LinkRec). find_row link_key same_link (sends m.originator label) (linked p (Some l) (Some ctr) o)) goes
          ∙ counted_with p m.originator label l ctr n ne f

      given_up : (label n : List ℕ) → s.via ≡ vias.Direct label (Some n) → link_with (sends m.originator n) after ≡ None
      given_up label n w =
          links n
          ∙ ap (λ (y : Via). find_row link_key same_link (sends m.originator n) (linked p (via_link p m.originator y) m.ctr (new_link p m.originator y))) w
          ∙ given_up_with p m.originator n (via_link p m.originator (vias.Direct label (Some n))) m.ctr (unlike_new p m.originator label n)

      uncounted : m.ctr ≡ None → ((label n : List ℕ) → s.via ≡ vias.Direct label (Some n) → ⊥) → after.links ≡ p.links
      uncounted i n =
          parts.1
          ∙ (ap (λ (c : Option ℕ). linked p raises c new) i ∙ (ap (λ (o : Option LinkRec). linked p raises None o) (none_new p m.originator s.via n) ∙ nothing_linked p raises))

      others : (name : KeyName) → HasKey p m.originator name s.key → (k : RecordKey) → k ≢ record { peer = m.originator; name = name } → record_with k (apply_edit (PutKey ends) p) ≡ record_with k p
      others name stands k ne =
          let is : record { peer = m.originator; name = name } ≡ record_key ends = of_keys.found (record { peer = m.originator; name = name }) s.key p stands in
          let other : same_record k (record_key ends) ≡ false = false_from_ne_true (same_record k (record_key ends)) (λ e. ne ((of_keys.same k (record_key ends)).0 e ∙ sym is)) in
          of_keys.put k ends p ∙ rw other refl

      asks : (t : MayAskAgain p m s.via) → AsksAgain p after m s.key (error_row p a m (SentKey s) again) t.centre t.cta t.ctr
      asks t =
          let u : Retry = record { centre = t.centre; cta = t.cta; ctr = t.ctr } in
          let is : again ≡ Some u = retry_is p m s.via t in
          record {
            written = ap (λ (o : Option Retry). again_reply p m s.key.value o) is;
            waits = exchanges t.centre ∙ (ap (λ (o : Option Retry). exchange_with t.centre (apply (asked_again p m s.key.value o) (apply_edit (DropExchange m.originator) p))) is ∙ asked p m s.key.value u);
          }

  -- about two keys that were sent in one message

  heard_two : (p : Party) (a : Arrival) (m : Esm) (t : Twins) → subject_with p m.originator ≡ Some (SentTwins t) → (error_row p a m (SentTwins t) None).verdict ≡ Accept → HeardErrorOfTwo p (apply (error_row p a m (SentTwins t) None).edits p) a m (error_row p a m (SentTwins t) None)
  heard_two p a m t f e =
      let h : TestsHold (esm_front p m (Some (SentTwins t)) ++ (is_verified a (twins_value t), BadMac) ∷ []) = held (esm_front p m (Some (SentTwins t)) ++ (is_verified a (twins_value t), BadMac) ∷ []) refl e in
      let d : FoundTwins p m.originator t = found_subject p m.originator (SentTwins t) f in
      let ne : record_key t.second ≢ record_key t.first = records_apart of_keys.found p m.originator d.name t.first t.second d.first d.second in
      let key : record { peer = m.originator; name = d.name } ≡ record_key t.first = of_keys.found (record { peer = m.originator; name = d.name }) t.first p d.first in
      record {
        to = is_to p m.receiver m.originator h.0;
        name = d.name;
        first = t.first;
        second = t.second;
        together = record { sent = d.sent; first_stands = d.first; second_stands = d.second; code = h.1.1.0 };
        first_ended = looked d.name first ∙ put_beside of_keys (apply_edit (PutKey first) p) m.originator d.name first second (put_found of_keys p m.originator d.name t.first first d.first refl) ne;
        second_ended = looked (name_behind d.name) second ∙ put_found of_keys (apply_edit (PutKey first) p) m.originator (name_behind d.name) t.second second (put_beside of_keys p m.originator (name_behind d.name) t.second first d.second (λ i. ne (sym i))) refl;
        over = over raises m.ctr;
        counted = λ l ctr g i. subst (λ (x : List ℕ). HasLink p m.originator x l → HasLink (apply (edits raises m.ctr) p) m.originator x (record l { next = max l.next ctr })) (ap (λ (k : RecordKey). k.name.label) (sym key)) (λ g. counted l ctr g i) g;
        uncounted = λ i. ap (λ (c : Option ℕ). (apply (edits raises c) p).links) i ∙ uncounted raises;
        silent = refl;
      }
    where
      first : KeyRec
      first = record t.first { status = Ended }

      second : KeyRec
      second = record t.second { status = Ended }

      raises : Option LinkRec
      raises = link_with (sends m.originator t.first.name.label) p

      edits : Option LinkRec → Option ℕ → List Edit
      edits l c = raised l c ++ ((PutKey first ∷ PutKey second ∷ []) ++ DropExchange m.originator ∷ [])

      keys : (l : Option LinkRec) (c : Option ℕ) → (apply (edits l c) p).keys ≡ (apply_edit (PutKey second) (apply_edit (PutKey first) p)).keys
      keys None c = refl
      keys (Some l) None = refl
      keys (Some l) (Some c) = refl

      looked : (name : KeyName) (x : KeyRec) → record_with (record { peer = m.originator; name = name }) (apply (edits raises m.ctr) p) ≡ record_with (record { peer = m.originator; name = name }) (apply_edit (PutKey second) (apply_edit (PutKey first) p))
      looked name x = ap (λ (ks : List KeyRec). find_row record_key same_record (record { peer = m.originator; name = name }) ks) (keys raises m.ctr)

      over : (l : Option LinkRec) (c : Option ℕ) → exchange_with m.originator (apply (edits l c) p) ≡ None
      over None c = exchange_dropped of_exchanges m.originator p
      over (Some l) None = exchange_dropped of_exchanges m.originator p
      over (Some l) (Some n) = exchange_dropped of_exchanges m.originator p

      counted : (l : LinkRec) (ctr : ℕ) → HasLink p m.originator t.first.name.label l → m.ctr ≡ Some ctr → HasLink (apply (edits raises m.ctr) p) m.originator t.first.name.label (record l { next = max l.next ctr })
      counted l ctr f i = rw f (rw i (put_link_found of_links p m.originator t.first.name.label l (record l { next = max l.next ctr }) f refl))

      uncounted : (l : Option LinkRec) → (apply (edits l None) p).links ≡ p.links
      uncounted None = refl
      uncounted (Some l) = refl

  heard_subject : (p : Party) (a : Arrival) (m : Esm) (o : Option ErrorSubject) → subject_with p m.originator ≡ o → (error_of p a m o (retry_in p o m.ctr)).verdict ≡ Accept
      → HeardError p (apply (error_of p a m o (retry_in p o m.ctr)).edits p) a m (error_of p a m o (retry_in p o m.ctr)) ⊎ (HeardErrorOfTwo p (apply (error_of p a m o (retry_in p o m.ctr)).edits p) a m (error_of p a m o (retry_in p o m.ctr)) ⊎ HeardCentre p (apply (error_of p a m o (retry_in p o m.ctr)).edits p) a m (error_of p a m o (retry_in p o m.ctr)))
  heard_subject p a m None f e = let h : TestsHold (esm_front p m None) = held (esm_front p m None) refl e in absurd (both_ways false refl h.1.0)
  heard_subject p a m (Some (Translated value cta)) f e = inr (inr (heard_translated p a m value cta f e))
  heard_subject p a m (Some (SentTwins t)) f e = inr (inl (heard_two p a m t f e))
  heard_subject p a m (Some (SentKey s)) f e = inl (heard_sent p a m s f e)

  pub heard_error : (p : Party) (a : Arrival) (m : Esm) → is_plain a.parsed.shut ≡ false → (error p a m).verdict ≡ Accept → HeardError p (apply (error p a m).edits p) a m (error p a m) ⊎ (HeardErrorOfTwo p (apply (error p a m).edits p) a m (error p a m) ⊎ HeardCentre p (apply (error p a m).edits p) a m (error p a m))
  heard_error p a m coded e =
      let again : Option Retry = retry_in p (subject_with p m.originator) m.ctr in
      let r : error p a m ≡ error_of p a m (subject_with p m.originator) again = ap (λ (b : Bool). error_with p a m b again) coded in
      rw r (heard_subject p a m (subject_with p m.originator) refl (rw r at e))
