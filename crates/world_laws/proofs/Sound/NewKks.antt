-- A new key-encrypting key is sent: what the laws that need no honesty ask.
use Rattle.std.proofs.Common.{arith, ◌≡◌, ◌≢◌, ℕ, ◌+◌, inl, inr, Bool, true, false, cond, Option, Some, None, List, [], ◌∷◌, ◌++◌, refl, sym, ◌∙◌, ap, subst, bytes_eq}
use Rattle.x_base.specs.declared.party.Side.TheVariants.{Sends, Takes}
use Rattle.party_tables.specs.declared.link.LinkKey.{LinkKey}
use Rattle.party_tables.specs.declared.link.LinkRec.{LinkRec}
use Rattle.party_tables.specs.declared.key.KeyRec.{KeyRec}
use Rattle.party_tables.specs.declared.key.KeyStatus.TheVariants.{Pending}
use Rattle.party_tables.specs.declared.exchange.Exchange.{Exchange}
use Rattle.party_state.specs.declared.edit.Edit.TheVariants.{PutLink, PutKey, PutExchange, SetGen}
use Rattle.party_tables.specs.Tables.{find_row, put_row}
use Rattle.party_tables.specs.Keys.{same_link, link_key, exchange_key, sends}
use Rattle.party_state.specs.State.{Party, centre_label, link_with, exchange_with, apply_edit, apply}
use Rattle.party_state.specs.Verdicts.{TestsHold, is_accept}
use Rattle.party_state.specs.Rows.{Row, Made}
use Rattle.party_tables.proofs.Keys.{test_idents, test_links}
use Rattle.party_tables.proofs.Tables.{find_put, find_put_same, absent_put, found_put}
use Rattle.party_state.proofs.Verdicts.{held}
use Rattle.role_base.specs.Sending.{next_name}
use Rattle.world_laws.proofs.Links.Growth.{next_up}
use Rattle.world_laws.proofs.Links.Found.{SendingAt}
use Rattle.world_laws.proofs.Links.Waiting.{new_of, WaitsFor, Waits, change_waits}
use Rattle.world_laws.proofs.Counting.Sound.{IsSound}
use Rattle.bank_orders.specs.declared.draws.KkDrawn.{KkDrawn}
use Rattle.bank_orders.specs.Draws.{kk_drawn}
use Rattle.bank_orders.specs.StartKk.{kk_tests, kk_edits, fresh_link, kk_sending, start_kk_under}
use Rattle.bank_orders.specs.Start.{start_tests}
use Rattle.party_state.specs.Verdicts.{verdict_of}
use Rattle.world_laws.proofs.Links.Putting.{put_at, none_is, some_none, free_parts}
use Rattle.world_laws.proofs.Counting.Sound.{SoundRow}
use Rattle.world_laws.proofs.Counting.Quiet.{refused_sound, pairs_two}

-- a new link of a peer, and an exchange with it that waits for this link
pub fresh_waits : (s : Party) (m : LinkRec) (x : Exchange) → m.peer ≡ x.peer → m.side ≡ Sends → m.ready ≡ false → new_of x.kind ≡ Some m.label → Waits s → (k : KeyRec) → Waits (apply (PutLink m ∷ PutKey k ∷ PutExchange x ∷ []) s)
fresh_waits s m x peer_is side unready label_is w k peer e h = go (bytes_eq peer x.peer) refl (sym (find_put exchange_key bytes_eq test_idents peer x s.exchanges) ∙ h)
  where
    at_put : (label : List ℕ) (n : LinkRec) → link_with (sends peer label) (apply (PutLink m ∷ PutKey k ∷ PutExchange x ∷ []) s) ≡ Some n → (b : Bool) → same_link (sends peer label) (link_key m) ≡ b → cond b (Some m) (link_with (sends peer label) s) ≡ Some n
    at_put label n g b i = rw (← i) (sym (find_put link_key same_link test_links (sends peer label) m s.links) ∙ g)

    here : peer ≡ x.peer → WaitsFor (apply (PutLink m ∷ PutKey k ∷ PutExchange x ∷ []) s) peer (Some m.label)
    here p n g =
        let key : sends peer m.label ≡ link_key m = (λ j. record { peer = (p ∙ sym peer_is) j; label = m.label; side = (sym side) j }) in
        let same : same_link (sends peer m.label) (link_key m) ≡ true = (test_links.decides (sends peer m.label) (link_key m)).1 key in
        let put : Some m ≡ Some n = at_put m.label n g true same in
        let is : m ≡ n = cc in ap (λ (z : LinkRec). z.ready) (sym is) ∙ unready

    other : peer ≢ x.peer → (o : Option (List ℕ)) → WaitsFor s peer o → WaitsFor (apply (PutLink m ∷ PutKey k ∷ PutExchange x ∷ []) s) peer o
    other ne None v = tt
    other ne (Some label) v = λ n g. by (same_link (sends peer label) (link_key m)) refl n g
      where
        by : (b : Bool) → same_link (sends peer label) (link_key m) ≡ b → (n : LinkRec) → link_with (sends peer label) (apply (PutLink m ∷ PutKey k ∷ PutExchange x ∷ []) s) ≡ Some n → n.ready ≡ false
        by true i n g = absurd (ne (ap (λ (z : LinkKey). z.peer) ((test_links.decides (sends peer label) (link_key m)).0 i) ∙ peer_is))
        by false i n g = v n (at_put label n g false i)

    go : (b : Bool) → bytes_eq peer x.peer ≡ b → cond b (Some x) (exchange_with peer s) ≡ Some e → WaitsFor (apply (PutLink m ∷ PutKey k ∷ PutExchange x ∷ []) s) peer (new_of e.kind)
    go true i h = (let is : x ≡ e = cc in let label : new_of e.kind ≡ Some m.label = ap (λ (z : Exchange). new_of z.kind) (sym is) ∙ label_is in subst (WaitsFor (apply (PutLink m ∷ PutKey k ∷ PutExchange x ∷ []) s) peer) (sym label) (here ((test_idents.decides peer x.peer).0 i)))
    go false i h = other (λ j. (let t : bytes_eq peer x.peer ≡ true = (test_idents.decides peer x.peer).1 j in cc)) (new_of e.kind) (w peer e h)

-- a link that takes is put
pub takes_waits : (s : Party) (m : LinkRec) → m.side ≡ Takes → Waits s → Waits (apply_edit (PutLink m) s)
takes_waits s m side w peer e h = on (new_of e.kind) (w peer e h)
  where
    on : (o : Option (List ℕ)) → WaitsFor s peer o → WaitsFor (apply_edit (PutLink m) s) peer o
    on None v = tt
    on (Some label) v = λ n g. by (same_link (sends peer label) (link_key m)) refl n (sym (find_put link_key same_link test_links (sends peer label) m s.links) ∙ g)
      where
        by : (b : Bool) → same_link (sends peer label) (link_key m) ≡ b → (n : LinkRec) → cond b (Some m) (link_with (sends peer label) s) ≡ Some n → n.ready ≡ false
        by true i n g = (let other : Sends ≡ m.side = ap (λ (z : LinkKey). z.side) ((test_links.decides (sends peer label) (link_key m)).0 i) in absurd (cc))
        by false i n g = v n g

module _ (p : Party) (text : List ℕ) (peer new : List ℕ) (single : Bool) (l : LinkRec) (d : KkDrawn) (at : SendingAt p peer l) (h : is_accept (kk_sending p (start_tests p peer (Some l)) l new single (Some d)).verdict ≡ true) where
  abbrev row : Row
  row = kk_sending p (start_tests p peer (Some l)) l new single (Some d)

  pub kk_held : TestsHold (start_tests p peer (Some l) ++ kk_tests p l new (Some d))
  kk_held = held (start_tests p peer (Some l) ++ kk_tests p l new (Some d)) refl h

  abbrev up : LinkRec
  up = record l { next = l.next + 1 }

  pub kk_key : link_key l ≡ sends l.peer l.label
  kk_key j = record { peer = l.peer; label = l.label; side = (ap (λ (k : LinkKey). k.side) at.at.key) j }

  pub kk_at_key : link_with (link_key l) p ≡ Some l
  kk_at_key = rw at.at.key at.at.found

  pub kk_at : link_with (sends l.peer l.label) p ≡ Some l
  kk_at = subst (λ (k : LinkKey). link_with k p ≡ Some l) kk_key kk_at_key

  pub kk_free : (new ≢ centre_label) × (link_with (sends l.peer new) p ≡ None)
  kk_free = free_parts new centre_label (link_with (sends l.peer new) p) kk_held.1.1.1.1.0

  still : find_row link_key same_link (sends l.peer new) (put_row link_key same_link (record l { next = l.next + 1 }) p.links) ≡ None
  still = absent_put link_key same_link test_links (sends l.peer new) (record l { next = l.next + 1 }) l p.links kk_free.1 kk_at_key

  at_up : find_row link_key same_link (sends l.peer l.label) (put_row link_key same_link (record l { next = l.next + 1 }) p.links) ≡ Some (record l { next = l.next + 1 })
  at_up = put_at (sends l.peer l.label) (record l { next = l.next + 1 }) p.links kk_key

  -- both links afterwards

  pub kk_up : link_with (sends l.peer l.label) (apply (kk_edits p l new single d) p) ≡ Some (record l { next = l.next + 1 })
  kk_up = found_put link_key same_link test_links (sends l.peer l.label) (fresh_link l new d.pair) (record l { next = l.next + 1 }) (put_row link_key same_link (record l { next = l.next + 1 }) p.links) at_up still

  pub kk_fresh : link_with (sends l.peer new) (apply (kk_edits p l new single d) p) ≡ Some (fresh_link l new d.pair)
  kk_fresh = find_put_same link_key same_link test_links (fresh_link l new d.pair) (put_row link_key same_link (record l { next = l.next + 1 }) p.links)

  labels_apart : l.label ≢ new
  labels_apart i = some_none kk_at (rw i kk_free.1)

  peer_is : l.peer ≡ peer
  peer_is = ap (λ (k : LinkKey). k.peer) at.at.key

  pub kk_alone : exchange_with l.peer p ≡ None
  kk_alone = subst (λ (q : List ℕ). exchange_with q p ≡ None) (sym peer_is) (none_is (exchange_with peer p) kk_held.1.0)

  pub kk_sound : IsSound (Some (sends l.peer new)) p text (kk_sending p (start_tests p peer (Some l)) l new single (Some d))
  kk_sound = record {
    made = λ k e side. ap (λ (o : Option LinkKey). made_of o) e;
    free = λ k e side. (let is : sends l.peer new ≡ k = some_key e in (subst (λ (z : LinkKey). z.label ≢ centre_label) is kk_free.0, subst (λ (z : LinkKey). exchange_with z.peer p ≡ None) is kk_alone));
    edits = (tt, (inl (l, kk_at_key, next_up l (l.next + 1) (omega arith)), (inr (refl, still), (tt, (tt, tt)))));
    waits = λ w. fresh_waits (apply (SetGen d.v ∷ PutLink (record l { next = l.next + 1 }) ∷ []) p) (fresh_link l new d.pair) _ refl refl refl refl (change_waits (SetGen d.v ∷ PutLink (record l { next = l.next + 1 }) ∷ []) p (tt, ((l, kk_at_key, refl), tt)) w) (record { peer = l.peer; name = next_name p l; value = d.key; status = Pending });
    uses = (record { before = inl (l, kk_at, omega arith); after = (record l { next = l.next + 1 }, kk_up, omega arith) }, (record { before = inr refl; after = (fresh_link l new d.pair, kk_fresh, omega arith) }, tt));
    apart = pairs_two _ _ (λ h. labels_apart h.1);
    accepts = tt;
  }
    where
      made_of : Option LinkKey → Option Made
      made_of None = None
      made_of (Some z) = Some (record { recipient = z.peer; label = z.label })

      some_key : {k : LinkKey} → Some (sends l.peer new) ≡ Some k → sends l.peer new ≡ k
      some_key {k} e = cc

pub start_kk_sound : (p : Party) (text : List ℕ) (peer new : List ℕ) (single : Bool) (o : Option LinkRec) (moment : ℕ) → ((l : LinkRec) → o ≡ Some l → SendingAt p peer l) → is_accept (start_kk_under p peer new single o moment).verdict ≡ true → SoundRow p text (start_kk_under p peer new single o moment)
start_kk_sound p text peer new single None moment f h = record { new = None; sound = refused_sound p text (verdict_of (start_tests p peer None)) }
start_kk_sound p text peer new single (Some l) moment f h = by_draw (kk_drawn p.generator moment single) h
  where
    by_draw : (d : Option KkDrawn) → is_accept (kk_sending p (start_tests p peer (Some l)) l new single d).verdict ≡ true → SoundRow p text (kk_sending p (start_tests p peer (Some l)) l new single d)
    by_draw None h = record { new = None; sound = refused_sound p text (verdict_of (start_tests p peer (Some l) ++ kk_tests p l new None)) }
    by_draw (Some d) h = record { new = Some (sends l.peer new); sound = kk_sound p text peer new single l d (f l refl) h }
