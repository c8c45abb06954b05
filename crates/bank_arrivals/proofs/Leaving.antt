-- What becomes of the exchange with the originator of a disconnection.
use Rattle.std.proofs.Common.{◌≡◌, ◌≢◌, inl, inr, ℕ, Bool, true, false, cond, Option, Some, None, List, [], ◌∷◌, ◌++◌, option_map, refl, sym, ap, subst, ◌∙◌}
use Rattle.std.proofs.lemmas.Bool.{both_ways}
use Rattle.x_base.specs.declared.key_name.KeyName.{KeyName}
use Rattle.csm_grammar.specs.declared.message.Dsm.{Dsm}
use Rattle.csm_grammar.specs.declared.arrival.Arrival.{Arrival}
use Rattle.party_tables.specs.declared.link.LinkRec.{LinkRec}
use Rattle.party_tables.specs.declared.key.KeyRec.{KeyRec}
use Rattle.party_tables.specs.declared.key.RecordKey.{RecordKey}
use Rattle.party_tables.specs.declared.key.KeyStatus.TheVariants.{Ended}
use Rattle.party_tables.specs.declared.exchange.Via.{Via}
use Rattle.party_tables.specs.declared.exchange.Via.TheVariants as vias
use Rattle.party_tables.specs.declared.exchange.Kind.{Kind}
use Rattle.party_tables.specs.declared.exchange.Kind.TheVariants as kind
use Rattle.party_tables.specs.declared.exchange.Exchange.{Exchange}
use Rattle.party_state.specs.declared.edit.Edit.{Edit}
use Rattle.party_state.specs.declared.edit.Edit.TheVariants.{PutKey, DropExchange}
use Rattle.party_tables.specs.Keys.{link_key, same_link, same_name, sends}
use Rattle.party_tables.specs.Names.{name_behind}
use Rattle.party_state.specs.State.{Party, exchange_with, link_with, apply}
use Rattle.role_base.specs.Exchanges.{record_of, new_link, dropped, ended}
use Rattle.role_base.proofs.PartyLaws.{LinkLaws, KeyLaws, ExchangeLaws, LinksDropped, exchange_dropped}
use Rattle.bank_arrivals.specs.declared.disconnection.NamedKey.{NamedKey}
use Rattle.bank_arrivals.specs.Dsm.{left_by, left_in, disconnected, dsm_on, dsm}
use Rattle.bank_arrivals.specs.Heard.{IsAbout, HasKey}
use Rattle.bank_arrivals.specs.Accepting.{Disconnects}
use Rattle.bank_arrivals.specs.Leaving.{WereTwo, NamesKey, WentWith, EndsOther, LeavesExchange}
use Rattle.bank_arrivals.proofs.Accepted.{both_named}
use Rattle.bank_arrivals.proofs.BothEnd.{not_ended, second_ends, first_ends}

-- an exchange is of one kind
one_kind : (p : Party) (peer : List ℕ) (x y : Kind) → IsAbout p peer x → IsAbout p peer y → x ≡ y
one_kind p peer x y a b = let h : Some x ≡ Some y = sym a ∙ b in cc

no_kind : (p : Party) (peer : List ℕ) (x : Kind) → exchange_with peer p ≡ None → IsAbout p peer x → ⊥
no_kind p peer x f a = let h : None ≡ Some x = ap (λ (o : Option Exchange). option_map (λ (e : Exchange). e.kind) o) (sym f) ∙ a in cc

-- an exchange of another kind doesn't name two keys
no_two : (p : Party) (peer : List ℕ) (name other : KeyName) (x : Kind) → ((n : KeyName) → x ≢ kind.PairSent n) → IsAbout p peer x → WereTwo p peer name other → ⊥
no_two p peer name other x ne a (inl w) = ne name (one_kind p peer x (kind.PairSent name) a w.0)
no_two p peer name other x ne a (inr w) = ne other (one_kind p peer x (kind.PairSent other) a w.0)

module _ (of_links : LinkLaws) (of_keys : KeyLaws) (of_exchanges : ExchangeLaws) (links_dropped : LinksDropped) where
  named_alike : (a b : KeyName) → same_name a b ≡ true → a ≡ b
  named_alike a b h =
      let one : RecordKey = record { peer = []; name = a } in
      let other : RecordKey = record { peer = []; name = b } in
      ap (λ (x : RecordKey). x.name) ((of_keys.same one other).0 h)

  alike : (a b : KeyName) → a ≡ b → same_name a b ≡ true
  alike a b e =
      let one : RecordKey = record { peer = []; name = a } in
      let other : RecordKey = record { peer = []; name = b } in
      (of_keys.same one other).1 (ap (λ (n : KeyName). let x : RecordKey = record { peer = []; name = n } in x) e)

  -- the edits where the key hadn't ended, by what goes before it and behind it
  abbrev edits_with : KeyRec → List Edit × List Edit → List Edit
  edits_with k gone = gone.0 ++ (PutKey (record k { status = Ended }) ∷ gone.1)

  abbrev Leaves : Party → Dsm → KeyRec → List Edit × List Edit → Type 0
  Leaves p m k gone = EndsOther p (apply (edits_with k gone) p) m.originator m.idd → LeavesExchange p (apply (edits_with k gone) p) m

  -- an exchange that doesn't name the key
  keeps : (p : Party) (m : Dsm) (k : KeyRec) → (NamesKey p m.originator m.idd → ⊥) → Leaves p m k ([], [])
  keeps p m k n o = record {
    gone = λ h. absurd (n h);
    stays = λ h. refl;
    given_up = λ new w. absurd (n (inl (vias.Direct w.0 (Some new), w.1)));
    links_stay = λ h. refl;
    other_ends = o;
  }

  -- one that names it, without a new key-encrypting key
  goes_alone : (p : Party) (m : Dsm) (k : KeyRec) → NamesKey p m.originator m.idd → ((new : List ℕ) → WentWith p m.originator m.idd new → ⊥) → Leaves p m k ([], DropExchange m.originator ∷ [])
  goes_alone p m k n w o = record {
    gone = λ h. exchange_dropped of_exchanges m.originator p;
    stays = λ h. absurd (h n);
    given_up = λ new u. absurd (w new u);
    links_stay = λ h. refl;
    other_ends = o;
  }

  -- one that names two keys, with the other of the two
  goes_both : (p : Party) (m : Dsm) (k : KeyRec) (before behind : Option KeyRec) → NamesKey p m.originator m.idd → ((new : List ℕ) → WentWith p m.originator m.idd new → ⊥) → Leaves p m k (ended before, ended behind ++ DropExchange m.originator ∷ [])
  goes_both p m k before behind n w o = record {
    gone = λ h. over before behind;
    stays = λ h. absurd (h n);
    given_up = λ new u. absurd (w new u);
    links_stay = λ h. links before behind;
    other_ends = o;
  }
    where
      after : Option KeyRec → Option KeyRec → Party
      after i j = apply (edits_with k (ended i, ended j ++ DropExchange m.originator ∷ [])) p

      over : (i j : Option KeyRec) → exchange_with m.originator (after i j) ≡ None
      over None None = exchange_dropped of_exchanges m.originator p
      over None (Some y) = exchange_dropped of_exchanges m.originator p
      over (Some x) None = exchange_dropped of_exchanges m.originator p
      over (Some x) (Some y) = exchange_dropped of_exchanges m.originator p

      links : (i j : Option KeyRec) → (after i j).links ≡ p.links
      links None None = refl
      links None (Some y) = refl
      links (Some x) None = refl
      links (Some x) (Some y) = refl

  -- and with one
  goes_with : (p : Party) (m : Dsm) (k : KeyRec) (label new : List ℕ) (l : Option LinkRec) → IsAbout p m.originator (kind.KeySent m.idd (vias.Direct label (Some new))) → link_with (sends m.originator new) p ≡ l → Leaves p m k (dropped l, DropExchange m.originator ∷ [])
  goes_with p m k label new l a f o = record { gone = λ h. over l; stays = λ h. absurd (h (inl (vias.Direct label (Some new), a))); given_up = given_up; links_stay = λ h. absurd (h new (label, a)); other_ends = o }
    where
      ends : KeyRec
      ends = record k { status = Ended }

      over : (o : Option LinkRec) → exchange_with m.originator (apply (dropped o ++ (PutKey ends ∷ DropExchange m.originator ∷ [])) p) ≡ None
      over None = exchange_dropped of_exchanges m.originator p
      over (Some x) = exchange_dropped of_exchanges m.originator p

      freed : (o : Option LinkRec) → link_with (sends m.originator new) p ≡ o → link_with (sends m.originator new) (apply (dropped o ++ (PutKey ends ∷ DropExchange m.originator ∷ [])) p) ≡ None
      freed None g = g
      freed (Some x) g =
          let s : same_link (sends m.originator new) (link_key x) ≡ true = (of_links.same (sends m.originator new) (link_key x)).1 (of_links.found (sends m.originator new) x p g) in
          links_dropped (sends m.originator new) (link_key x) p ∙ rw s refl

      given_up : (other : List ℕ) → WentWith p m.originator m.idd other → link_with (sends m.originator other) (apply (dropped l ++ (PutKey ends ∷ DropExchange m.originator ∷ [])) p) ≡ None
      given_up other w =
          let e : kind.KeySent m.idd (vias.Direct label (Some new)) ≡ kind.KeySent m.idd (vias.Direct w.0 (Some other)) = one_kind p m.originator _ _ a w.1 in
          let same : new ≡ other = cc in
          subst (λ (x : List ℕ). link_with (sends m.originator x) (apply (dropped l ++ (PutKey ends ∷ DropExchange m.originator ∷ [])) p) ≡ None) same (freed l f)

  -- the key was sent this way
  sent_goes : (p : Party) (m : Dsm) (k : KeyRec) (via : Via) → IsAbout p m.originator (kind.KeySent m.idd via) → Leaves p m k (dropped (new_link p m.originator via), DropExchange m.originator ∷ [])
  sent_goes p m k (vias.Direct label (Some new)) a = goes_with p m k label new (link_with (sends m.originator new) p) a refl
  sent_goes p m k (vias.Direct label None) a = goes_alone p m k (inl (vias.Direct label None, a)) (λ new w. (let e : kind.KeySent m.idd (vias.Direct label None) ≡ kind.KeySent m.idd (vias.Direct w.0 (Some new)) = one_kind p m.originator _ _ a w.1 in cc))
  sent_goes p m k (vias.Distribution centre cta) a = goes_alone p m k (inl (vias.Distribution centre cta, a)) (λ new w. (let e : kind.KeySent m.idd (vias.Distribution centre cta) ≡ kind.KeySent m.idd (vias.Direct w.0 (Some new)) = one_kind p m.originator _ _ a w.1 in cc))
  sent_goes p m k (vias.Translation centre) a = goes_alone p m k (inl (vias.Translation centre, a)) (λ new w. (let e : kind.KeySent m.idd (vias.Translation centre) ≡ kind.KeySent m.idd (vias.Direct w.0 (Some new)) = one_kind p m.originator _ _ a w.1 in cc))

  leaves_kind : (p : Party) (m : Dsm) (k : KeyRec) (x : Kind) → m.idd ≡ k.name → IsAbout p m.originator x → Leaves p m k (left_by p m.originator k.name x)
  leaves_kind p m k (kind.KeySent sent via) named a = go (same_name k.name sent) refl
    where
      other : same_name k.name sent ≡ false → NamesKey p m.originator m.idd → ⊥
      other e (inl w) =
          let i : kind.KeySent sent via ≡ kind.KeySent m.idd w.0 = one_kind p m.originator _ _ a w.1 in
          let j : sent ≡ m.idd = cc in
          both_ways (same_name k.name sent) e (alike k.name sent (sym named ∙ sym j))
      other e (inr (inl w)) = let i : kind.KeySent sent via ≡ kind.Ending m.idd = one_kind p m.originator _ _ a w in cc
      other e (inr (inr w)) = no_two p m.originator m.idd w.0 _ (λ n i. cc) a w.1

      go : (b : Bool) → same_name k.name sent ≡ b → Leaves p m k (cond b (dropped (new_link p m.originator via), DropExchange m.originator ∷ []) ([], []))
      go true e =
          let i : sent ≡ m.idd = sym (named ∙ named_alike k.name sent e) in
          sent_goes p m k via (subst (λ (n : KeyName). IsAbout p m.originator (kind.KeySent n via)) i a)
      go false e = keeps p m k (other e)
  leaves_kind p m k (kind.Ending ending) named a = go (same_name k.name ending) refl
    where
      other : same_name k.name ending ≡ false → NamesKey p m.originator m.idd → ⊥
      other e (inl w) = let i : kind.Ending ending ≡ kind.KeySent m.idd w.0 = one_kind p m.originator _ _ a w.1 in cc
      other e (inr (inr w)) = no_two p m.originator m.idd w.0 _ (λ n i. cc) a w.1
      other e (inr (inl w)) =
          let i : kind.Ending ending ≡ kind.Ending m.idd = one_kind p m.originator _ _ a w in
          let j : ending ≡ m.idd = cc in
          both_ways (same_name k.name ending) e (alike k.name ending (sym named ∙ sym j))

      go : (b : Bool) → same_name k.name ending ≡ b → Leaves p m k (cond b ([], DropExchange m.originator ∷ []) ([], []))
      go true e =
          let i : ending ≡ m.idd = sym (named ∙ named_alike k.name ending e) in
          goes_alone p m k (inr (inl (subst (λ (n : KeyName). IsAbout p m.originator (kind.Ending n)) i a))) (λ new w. (let j : kind.Ending ending ≡ kind.KeySent m.idd (vias.Direct w.0 (Some new)) = one_kind p m.originator _ _ a w.1 in cc))
      go false e = keeps p m k (other e)
  leaves_kind p m k (kind.Asked ultimate) named a = keeps p m k other
    where
      other : NamesKey p m.originator m.idd → ⊥
      other (inl w) = let i : kind.Asked ultimate ≡ kind.KeySent m.idd w.0 = one_kind p m.originator _ _ a w.1 in cc
      other (inr (inl w)) = let i : kind.Asked ultimate ≡ kind.Ending m.idd = one_kind p m.originator _ _ a w in cc
      other (inr (inr w)) = no_two p m.originator m.idd w.0 _ (λ n i. cc) a w.1
  leaves_kind p m k (kind.Translating ultimate value cta) named a = keeps p m k other
    where
      other : NamesKey p m.originator m.idd → ⊥
      other (inl w) = let i : kind.Translating ultimate value cta ≡ kind.KeySent m.idd w.0 = one_kind p m.originator _ _ a w.1 in cc
      other (inr (inl w)) = let i : kind.Translating ultimate value cta ≡ kind.Ending m.idd = one_kind p m.originator _ _ a w in cc
      other (inr (inr w)) = no_two p m.originator m.idd w.0 _ (λ n i. cc) a w.1
  leaves_kind p m k (kind.PairSent sent) named a = by_first (same_name k.name sent) refl
    where
      bare : (new : List ℕ) → WentWith p m.originator m.idd new → ⊥
      bare new w = let i : kind.PairSent sent ≡ kind.KeySent m.idd (vias.Direct w.0 (Some new)) = one_kind p m.originator _ _ a w.1 in cc

      other : same_name k.name sent ≡ false → same_name k.name (name_behind sent) ≡ false → NamesKey p m.originator m.idd → ⊥
      other e f (inl w) = let i : kind.PairSent sent ≡ kind.KeySent m.idd w.0 = one_kind p m.originator _ _ a w.1 in cc
      other e f (inr (inl w)) = let i : kind.PairSent sent ≡ kind.Ending m.idd = one_kind p m.originator _ _ a w in cc
      other e f (inr (inr (n, inl w))) =
          let i : kind.PairSent sent ≡ kind.PairSent m.idd = one_kind p m.originator _ _ a w.0 in
          let j : sent ≡ m.idd = cc in
          both_ways (same_name k.name sent) e (alike k.name sent (sym named ∙ sym j))
      other e f (inr (inr (n, inr w))) =
          let i : kind.PairSent sent ≡ kind.PairSent n = one_kind p m.originator _ _ a w.0 in
          let j : n ≡ sent = cc in
          both_ways (same_name k.name (name_behind sent)) f (alike k.name (name_behind sent) (sym named ∙ (w.1 ∙ ap name_behind j)))

      by_second : (c : Bool) → same_name k.name sent ≡ false → same_name k.name (name_behind sent) ≡ c → Leaves p m k (cond c (ended (record_of p m.originator sent), DropExchange m.originator ∷ []) ([], []))
      by_second true e f = goes_both p m k (record_of p m.originator sent) None (inr (inr (sent, inr (a, named ∙ named_alike k.name (name_behind sent) f)))) bare
      by_second false e f = keeps p m k (other e f)

      by_first : (b : Bool) → same_name k.name sent ≡ b
          → Leaves p m k (cond b ([], ended (record_of p m.originator (name_behind sent)) ++ DropExchange m.originator ∷ []) (cond (same_name k.name (name_behind sent)) (ended (record_of p m.originator sent), DropExchange m.originator ∷ []) ([], [])))
      by_first true e =
          let i : sent ≡ m.idd = sym (named ∙ named_alike k.name sent e) in
          goes_both p m k None (record_of p m.originator (name_behind sent)) (inr (inr (name_behind m.idd, inl (subst (λ (n : KeyName). IsAbout p m.originator (kind.PairSent n)) i a, refl)))) bare
      by_first false e = by_second (same_name k.name (name_behind sent)) e refl

  -- the other of two keys
  other_ended : (p : Party) (m : Dsm) (k : KeyRec) → HasKey p m.originator m.idd k → k.status ≢ Ended → EndsOther p (apply (disconnected p m.originator k) p) m.originator m.idd
  other_ended p m k s n other x (inl w) f =
      subst (λ (y : KeyName). HasKey p m.originator y x → HasKey (apply (disconnected p m.originator k) p) m.originator y (record x { status = Ended })) (sym w.1) (λ g. (second_ends of_keys of_exchanges p m.originator m.idd k x s n w.0 g).ended) f
  other_ended p m k s n other x (inr w) f = (first_ends of_keys of_exchanges p m.originator m.idd other k x s n w.1 w.0 f).ended

  leaves : (p : Party) (m : Dsm) (k : KeyRec) → HasKey p m.originator m.idd k → k.status ≢ Ended → LeavesExchange p (apply (disconnected p m.originator k) p) m
  leaves p m k s n = so (other_ended p m k s n)
    where
      named : m.idd ≡ k.name
      named = let key : RecordKey = record { peer = m.originator; name = m.idd } in ap (λ (x : RecordKey). x.name) (of_keys.found key k p s)

      absent : exchange_with m.originator p ≡ None → NamesKey p m.originator m.idd → ⊥
      absent f (inl w) = no_kind p m.originator _ f w.1
      absent f (inr (inl w)) = no_kind p m.originator _ f w
      absent f (inr (inr (n, inl w))) = no_kind p m.originator _ f w.0
      absent f (inr (inr (n, inr w))) = no_kind p m.originator _ f w.0

      go : (o : Option Exchange) → exchange_with m.originator p ≡ o → Leaves p m k (left_in p m.originator k.name o)
      go None f = keeps p m k (absent f)
      go (Some e) f = leaves_kind p m k e.kind named (ap (λ (o : Option Exchange). option_map (λ (x : Exchange). x.kind) o) f)

      so : EndsOther p (apply (disconnected p m.originator k) p) m.originator m.idd → LeavesExchange p (apply (disconnected p m.originator k) p) m
      so = rw (not_ended k n) (go (exchange_with m.originator p) refl)

  pub leaves_exchange : (p : Party) (a : Arrival) (m : Dsm) (k : KeyRec) → Disconnects p a m → HasKey p m.originator m.idd k → k.status ≢ Ended → LeavesExchange p (apply (dsm p a m).edits p) m
  leaves_exchange p a m k c s n =
      let edits : (dsm p a m).edits ≡ disconnected p m.originator k = ap (λ (o : Option NamedKey). (dsm_on p a m o).edits) (both_named p m k c.by s c.closing) in
      subst (λ (es : List Edit). LeavesExchange p (apply es p) m) (sym edits) (leaves p m k s n)
