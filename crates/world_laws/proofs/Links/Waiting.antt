-- The link that an exchange waits for isn't ready.
use Rattle.std.proofs.Common.{◌≡◌, ◌≢◌, ℕ, Bool, true, false, cond, Option, Some, None, List, [], ◌∷◌, refl, sym, ◌∙◌, ap, subst, bytes_eq}
use Rattle.x_base.specs.declared.key_name.KeyName.{KeyName}
use Rattle.x_base.specs.declared.party.Side.TheVariants.{Sends}
use Rattle.party_tables.specs.declared.link.LinkKey.{LinkKey}
use Rattle.party_tables.specs.declared.link.LinkRec.{LinkRec}
use Rattle.party_tables.specs.declared.key.KeyRec.{KeyRec}
use Rattle.party_tables.specs.declared.exchange.Via.{Via}
use Rattle.party_tables.specs.declared.exchange.Kind.{Kind}
use Rattle.party_tables.specs.declared.exchange.Kind.TheVariants as kind
use Rattle.party_tables.specs.declared.exchange.Exchange.{Exchange}
use Rattle.party_state.specs.declared.edit.Edit.{Edit}
use Rattle.party_state.specs.declared.edit.Edit.TheVariants.{Begin, PutLink, DropLink, PutKey, DropEnded, PutExchange, DropExchange, PutAnswer, SetGen}
use Rattle.party_tables.specs.Keys.{same_link, link_key, exchange_key, sends}
use Rattle.party_state.specs.State.{Party, link_with, exchange_with, apply_edit, apply}
use Rattle.party_tables.proofs.Keys.{test_idents, test_links}
use Rattle.party_tables.proofs.Tables.{one_found, find_key, find_put, find_drop}
use Rattle.role_base.specs.Exchanges.{new_label, new_link_at, new_link}

abbrev pub new_of : Kind → Option (List ℕ)
new_of (kind.KeySent name via) = new_label via
new_of (kind.Asked ultimate) = None
new_of (kind.Translating ultimate value cta) = None
new_of (kind.Ending name) = None
new_of (kind.PairSent name) = None

abbrev pub WaitsFor : Party → List ℕ → Option (List ℕ) → Type 0
WaitsFor p peer None = Unit {0}
WaitsFor p peer (Some label) = (l : LinkRec) → link_with (sends peer label) p ≡ Some l → l.ready ≡ false

abbrev pub Waits : Party → Type 0
Waits p = (peer : List ℕ) (e : Exchange) → exchange_with peer p ≡ Some e → WaitsFor p peer (new_of e.kind)

-- a link that was there, and isn't ready where it wasn't
abbrev WasUnready : Party → LinkKey → LinkRec → Type 0
WasUnready s k n = (l : LinkRec) × (link_with k s ≡ Some l) × (l.ready ≡ false → n.ready ≡ false)

waits_for_on : (s t : Party) (peer : List ℕ) (o : Option (List ℕ)) → ((label : List ℕ) (n : LinkRec) → link_with (sends peer label) t ≡ Some n → WasUnready s (sends peer label) n) → WaitsFor s peer o → WaitsFor t peer o
waits_for_on s t peer None f w = tt
waits_for_on s t peer (Some label) f w = λ n h. (let u = f label n h in u.2 (w u.0 u.1))

put_unready : (s : Party) (m old : LinkRec) → link_with (link_key m) s ≡ Some old → m.ready ≡ old.ready → (k : LinkKey) (n : LinkRec) → link_with k (apply_edit (PutLink m) s) ≡ Some n → WasUnready s k n
put_unready s m old found ready k n h = go (same_link k (link_key m)) refl (sym (find_put link_key same_link test_links k m s.links) ∙ h)
  where
    go : (b : Bool) → same_link k (link_key m) ≡ b → cond b (Some m) (link_with k s) ≡ Some n → WasUnready s k n
    go true i h = (let key : k ≡ link_key m = (test_links.decides k (link_key m)).0 i in let is : m ≡ n = cc in (old, rw key found, λ u. ap (λ (z : LinkRec). z.ready) (sym is) ∙ (ready ∙ u)))
    go false i h = (n, h, λ u. u)

drop_unready : (s : Party) (j : LinkKey) (k : LinkKey) (n : LinkRec) → link_with k (apply_edit (DropLink j.peer j.label j.side) s) ≡ Some n → WasUnready s k n
drop_unready s j k n h = go (same_link k j) (sym (find_drop link_key same_link test_links k j s.links) ∙ h)
  where
    go : (b : Bool) → cond b None (link_with k s) ≡ Some n → WasUnready s k n
    go true h = absurd (cc)
    go false h = (n, h, λ u. u)

waits_links : (s t : Party) → t.exchanges ≡ s.exchanges → ((k : LinkKey) (n : LinkRec) → link_with k t ≡ Some n → WasUnready s k n) → Waits s → Waits t
waits_links s t ex f w peer e h = waits_for_on s t peer (new_of e.kind) (λ label n g. f (sends peer label) n g) (w peer e (rw (← ex) h))

waits_put : (s : Party) (x : Exchange) → new_of x.kind ≡ None → Waits s → Waits (apply_edit (PutExchange x) s)
waits_put s x none w peer e h = go (bytes_eq peer x.peer) (sym (find_put exchange_key bytes_eq test_idents peer x s.exchanges) ∙ h)
  where
    go : (b : Bool) → cond b (Some x) (exchange_with peer s) ≡ Some e → WaitsFor (apply_edit (PutExchange x) s) peer (new_of e.kind)
    go true h = (let is : x ≡ e = cc in let n : new_of e.kind ≡ None = ap (λ (y : Exchange). new_of y.kind) (sym is) ∙ none in subst (WaitsFor (apply_edit (PutExchange x) s) peer) (sym n) tt)
    go false h = waits_for_on s (apply_edit (PutExchange x) s) peer (new_of e.kind) (λ label n g. (n, g, λ u. u)) (w peer e h)

-- an exchange that is left after one was dropped
left_exchange : (s : Party) (j peer : List ℕ) (e : Exchange) → exchange_with peer (apply_edit (DropExchange j) s) ≡ Some e → (exchange_with peer s ≡ Some e) × (peer ≢ j)
left_exchange s j peer e h = go (bytes_eq peer j) refl (sym (find_drop exchange_key bytes_eq test_idents peer j s.exchanges) ∙ h)
  where
    go : (b : Bool) → bytes_eq peer j ≡ b → cond b None (exchange_with peer s) ≡ Some e → (exchange_with peer s ≡ Some e) × (peer ≢ j)
    go true i h = absurd (cc)
    go false i h = (h, λ k. (let t : bytes_eq peer j ≡ true = (test_idents.decides peer j).1 k in cc))

waits_drop : (s : Party) (j : List ℕ) → Waits s → Waits (apply_edit (DropExchange j) s)
waits_drop s j w peer e h = waits_for_on s (apply_edit (DropExchange j) s) peer (new_of e.kind) (λ label n g. (n, g, λ u. u)) (w peer e (left_exchange s j peer e h).0)

-- edits that make no link ready, and put no exchange that waits for one
abbrev pub Calm : Party → Edit → Type 0
Calm s (Begin own role generator) = ⊥
Calm s (PutLink m) = (l : LinkRec) × (link_with (link_key m) s ≡ Some l) × (m.ready ≡ l.ready)
Calm s (DropLink peer label side) = Unit {0}
Calm s (PutKey k) = Unit {0}
Calm s DropEnded = Unit {0}
Calm s (PutExchange e) = new_of e.kind ≡ None
Calm s (DropExchange peer) = Unit {0}
Calm s (PutAnswer a) = Unit {0}
Calm s (SetGen v) = Unit {0}

abbrev pub AllCalm : Party → List Edit → Type 0
AllCalm s [] = Unit {0}
AllCalm s (e ∷ es) = Calm s e × AllCalm (apply_edit e s) es

edit_waits : (s : Party) (e : Edit) → Calm s e → Waits s → Waits (apply_edit e s)
edit_waits s (Begin own role generator) c w = absurd c
edit_waits s (PutLink m) c w = waits_links s (apply_edit (PutLink m) s) refl (put_unready s m c.0 c.1 c.2) w
edit_waits s (DropLink peer label side) c w = waits_links s (apply_edit (DropLink peer label side) s) refl (drop_unready s (record { peer = peer; label = label; side = side })) w
edit_waits s (PutKey k) c w = waits_links s (apply_edit (PutKey k) s) refl (λ k n h. (n, h, λ u. u)) w
edit_waits s DropEnded c w = waits_links s (apply_edit DropEnded s) refl (λ k n h. (n, h, λ u. u)) w
edit_waits s (PutExchange e) c w = waits_put s e c w
edit_waits s (DropExchange peer) c w = waits_drop s peer w
edit_waits s (PutAnswer a) c w = waits_links s (apply_edit (PutAnswer a) s) refl (λ k n h. (n, h, λ u. u)) w
edit_waits s (SetGen v) c w = waits_links s (apply_edit (SetGen v) s) refl (λ k n h. (n, h, λ u. u)) w

pub change_waits : (es : List Edit) (s : Party) → AllCalm s es → Waits s → Waits (apply es s)
change_waits [] s c w = w
change_waits (e ∷ es) s c w = change_waits es (apply_edit e s) c.1 (edit_waits s e c.0 w)

-- a link with a peer is put, a record too, and the exchange with the peer goes
pub readied_waits : (s : Party) (j : List ℕ) (m : LinkRec) (k : KeyRec) → m.peer ≡ j → Waits s → Waits (apply (PutLink m ∷ PutKey k ∷ DropExchange j ∷ []) s)
readied_waits s j m k peer_is w peer e h =
    let left = left_exchange (apply (PutLink m ∷ PutKey k ∷ []) s) j peer e h in
    waits_for_on s (apply (PutLink m ∷ PutKey k ∷ DropExchange j ∷ []) s) peer (new_of e.kind) (other left.1) (w peer e left.0)
  where
    other : peer ≢ j → (label : List ℕ) (n : LinkRec) → link_with (sends peer label) (apply (PutLink m ∷ PutKey k ∷ DropExchange j ∷ []) s) ≡ Some n → WasUnready s (sends peer label) n
    other ne label n g = go (same_link (sends peer label) (link_key m)) refl (sym (find_put link_key same_link test_links (sends peer label) m s.links) ∙ g)
      where
        go : (b : Bool) → same_link (sends peer label) (link_key m) ≡ b → cond b (Some m) (link_with (sends peer label) s) ≡ Some n → WasUnready s (sends peer label) n
        go true i g = absurd (ne (ap (λ (z : LinkKey). z.peer) ((test_links.decides (sends peer label) (link_key m)).0 i) ∙ peer_is))
        go false i g = (n, g, λ u. u)

-- a link that may go: it sends, and isn't ready
pub record MayGo (p : Party) (l : LinkRec) : Type 0 where
  pub side : l.side ≡ Sends
  pub peer : List ℕ
  pub peer_is : l.peer ≡ peer
  pub link : LinkRec
  pub found : link_with (link_key l) p ≡ Some link
  pub unready : link.ready ≡ false

-- the link that an exchange waits for may
pub new_may_go : (p : Party) (peer : List ℕ) (e : Exchange) (name : KeyName) (via : Via) → Waits p → exchange_with peer p ≡ Some e → e.kind ≡ kind.KeySent name via → (l : LinkRec) → new_link p peer via ≡ Some l → (link_with (link_key l) p ≡ Some l) × MayGo p l
new_may_go p peer e name via w at is l h = by_label (new_label via) (subst (λ (k : Kind). WaitsFor p peer (new_of k)) is (w peer e at)) h
  where
    by_label : (o : Option (List ℕ)) → WaitsFor p peer o → new_link_at p peer o ≡ Some l → (link_with (link_key l) p ≡ Some l) × MayGo p l
    by_label None w h = absurd (cc)
    by_label (Some label) w h =
        let key : sends peer label ≡ link_key l = find_key link_key same_link test_links (sends peer label) l p.links h in
        let found : link_with (link_key l) p ≡ Some l = rw (← key) h in
        (found, record { side = ap (λ (k : LinkKey). k.side) (sym key); peer = peer; peer_is = ap (λ (k : LinkKey). k.peer) (sym key); link = l; found = found; unready = w l h })

-- also after a link was put that is as ready as it was
pub may_go_on : (p : Party) (m old l : LinkRec) → link_with (link_key m) p ≡ Some old → m.ready ≡ old.ready → MayGo p l → MayGo (apply_edit (PutLink m) p) l
may_go_on p m old l found ready g = go (same_link (link_key l) (link_key m)) refl
  where
    at_put : (b : Bool) → same_link (link_key l) (link_key m) ≡ b → link_with (link_key l) (apply_edit (PutLink m) p) ≡ cond b (Some m) (link_with (link_key l) p)
    at_put b i = rw (← i) (find_put link_key same_link test_links (link_key l) m p.links)

    go : (b : Bool) → same_link (link_key l) (link_key m) ≡ b → MayGo (apply_edit (PutLink m) p) l
    go true i =
        let key : link_key l ≡ link_key m = (test_links.decides (link_key l) (link_key m)).0 i in
        let is : g.link ≡ old = one_found g.link old (rw (← key) g.found) found in
        record { side = g.side; peer = g.peer; peer_is = g.peer_is; link = m; found = at_put true i; unready = ready ∙ (ap (λ (z : LinkRec). z.ready) (sym is) ∙ g.unready) }
    go false i = record { side = g.side; peer = g.peer; peer_is = g.peer_is; link = g.link; found = at_put false i ∙ g.found; unready = g.unready }
